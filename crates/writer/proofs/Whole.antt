-- What stands in accepted bytes can be written: with `Encode` and `Decode`, accepted bytes are exactly what the writer writes. Assumes nothing.
use mathlib.Core.Path.{◌≡◌, sym, ap, ◌∙◌}
use Prim.Native.Nat.{ℕ, zero, suc, ◌+◌, ◌*◌, ◌<◌}
use native.Mathlib.Omega.{arith}
use mathlib.Core.List.{List}
use mathlib.Core.Bool.{true, ◌||◌}
use lib.ListN.{get_or}
use lib.Dec.{ltb, eqb, eqb-suc-zero}
use borrow.Author.Tests.{ltb-true}
use Rattle.words.proofs.Refusals.{first-left}
use Rattle.records.specs.Num.{Bytes}
use Rattle.records.specs.Layout.{body_at, words_at, head_size, word_size, job_len, job_size}
use Rattle.records.specs.Record.{heading_of}
use Rattle.bundle.specs.Bundle.{num_of, job_fault, prev_num, file_fault_at, file_fault, bundle_fault}
use Rattle.bundle.specs.Contents.{job_from, jobs_from, file_from, bundle_from}
use Rattle.records.specs.declared.Heading.{Heading}
use Rattle.records.proofs.Num.{le_at-lt}
use Rattle.bundle.proofs.Headings.{job-ok}
use Rattle.bundle.proofs.Files.{file-ok}
use Rattle.bundle.proofs.Contents.{words_count, words-at, jobs-count}
use Rattle.writer.specs.Bytes.{file_bytes, bundle_bytes}
use Rattle.writer.specs.Write.{numbers_in}
use Rattle.writer.specs.Fits.{JobFits, AllFit, no_job, a_job, FileFits}
use Rattle.writer.proofs.Encode.{file-written, bundle_written}

-- ---- the numbers of jobs that stand in bytes

pub nums_at : (h : Heading) (bs : List ℕ) (n at p : ℕ) → p < n → get_or (numbers_in (jobs_from h bs n at)) p 0 ≡ num_of bs (at + p * job_size h)
unfolding jobs_from job_from
nums_at h bs zero at p l = absurd (omega arith)
nums_at h bs (suc n) at zero l = ap (num_of bs) (let z : at ≡ at + 0 * job_size h = omega arith in z)
nums_at h bs (suc n) at (suc p) l =
    nums_at h bs n (at + job_size h) p (omega arith)
    ∙ ap (num_of bs) (let z : at + job_size h + p * job_size h ≡ at + suc p * job_size h = omega arith in z)

module _ (bs : List ℕ) (b : Bytes bs) where
  job-fits : (h : Heading) (at : ℕ) → JobFits h (job_from h bs at)
  unfolding job_from num_of
  job-fits h at =
      let w = word_size h in
      let d = h.params.d in
      record {
        num_fits = le_at-lt 8 bs (body_at at) b;
        words_count = words_count w bs d (words_at at);
        words_fit = λ i l. rw (words-at w bs d (words_at at) i l) (le_at-lt w bs (words_at at + w * i) b);
      }

  jobs-fit : (h : Heading) (n at : ℕ) → AllFit h (jobs_from h bs n at)
  unfolding jobs_from
  jobs-fit h zero at = no_job
  jobs-fit h (suc n) at = a_job (job-fits h at) (jobs-fit h n (at + job_size h))

  rises-prop : (p prev x : ℕ) → (eqb (suc p) 0 || ltb prev x) ≡ true → prev < x
  rises-prop p prev x e = ltb-true prev x (rw (eqb-suc-zero p) at e)

  pub file-fits : (base prev at : ℕ) → file_fault_at bs base prev at ≡ 0 → FileFits (file_from bs at)
  unfolding file_from heading_of job_fault prev_num
  file-fits base prev at e =
      let k = file-ok bs base prev at e in
      let h = heading_of bs at in
      let n = h.jobs in
      let s = head_size h in
      let m = job_len h in
      let c = jobs-count h bs n (at + s) in
      record {
        ranges = k.heading.ranges;
        low = omega (arith, k.heading.rises);
        high = k.heading.within;
        archive_fits = le_at-lt 8 bs (body_at at + 5) b;
        count = c;
        fit = jobs-fit h n (at + s);
        rising = λ p l.
            (let l' : suc p < n = omega arith in
            let j = job-ok bs m (base + s + suc p * job_size h) (num_of bs (at + s + p * job_size h)) (suc p) (at + s + suc p * job_size h)
            (k.jobs (suc p) l') in
            rw (nums_at h bs n (at + s) p (omega arith), nums_at h bs n (at + s) (suc p) l')
            (rises-prop p (num_of bs (at + s + p * job_size h)) (num_of bs (at + s + suc p * job_size h)) j.rises));
      }

  pub file-accepted : file_fault bs ≡ 0 → FileFits (file_from bs 0)
  unfolding file_fault
  file-accepted e = file-fits 0 0 0 (first-left (file_fault_at bs 0 0 0) _ e)

-- two accepted files, or bundles, with the same contents are the same bytes
pub file-one : (xs bs : List ℕ) → Bytes xs → Bytes bs → file_fault xs ≡ 0 → file_fault bs ≡ 0 → file_from xs 0 ≡ file_from bs 0 → xs ≡ bs
file-one xs bs a b e f s = sym (file-written xs a e) ∙ ap file_bytes s ∙ file-written bs b f

pub bundle-one : (xs bs : List ℕ) → Bytes xs → Bytes bs → bundle_fault xs ≡ 0 → bundle_fault bs ≡ 0 → bundle_from xs ≡ bundle_from bs → xs ≡ bs
bundle-one xs bs a b e f s = sym (bundle_written xs a e) ∙ ap bundle_bytes s ∙ bundle_written bs b f
