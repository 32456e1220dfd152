-- What accepted files and bundles are: each file at its place, with no fault, and the last at the end. Assumes nothing.
use mathlib.Core.Path.{◌≡◌, sym, subst, ◌∙◌}
use Prim.Native.Nat.{ℕ, zero, suc, ◌+◌, ◌-◌, ◌*◌, ◌^◌, ◌≤◌, ◌<◌}
use native.Mathlib.Nat.{mul-le-mul_right, pow-le-pow_right}
use native.Mathlib.Omega.{arith}
use native.Mathlib.Decide.{dec_le}
use mathlib.Core.List.{List}
use lib.ListN.{length}
use lib.Dec.{ltb, lit<}
use borrow.Author.Tests.{lt-ltb, ltb-true}
use Rattle.words.specs.Refusal.{unless, first_of}
use Rattle.words.proofs.Refusals.{first-left, first-right, unless-held, first_of-each}
use Rattle.records.specs.Layout.{record_size, head_size, job_len, job_size, file_size, order_kind, order_len, order_size}
use Rattle.records.specs.Record.{framed, heading_of}
use Rattle.bundle.specs.Bundle.{num_of, prev_num, job_fault, file_fault_at, place_at, prev_holder, files_in, fault_of_file, files_fault, bundle_fault}
use Rattle.bundle.specs.Bundle.{bundle_heading, files_of, file_at, job_at}
use Rattle.bundle.specs.Acceptance.{Same, FileOk, FilesOk}
pub use Rattle.bundle.specs.Acceptance.{BundleOk}
use Rattle.records.specs.declared.Heading.{Heading}
use Rattle.records.proofs.Lengths.{head-low, file-low}
use Rattle.records.proofs.Record.{framed-frame}
use Rattle.bundle.proofs.Headings.{Ranges, ok-ranges, same_head, same-job, JobOk, job-ok}
use Rattle.bundle.proofs.Files.{file-ok, FilesAt, files-start, files-here, files-next, files-count, place-low, place-next, size_low}

module _ (bs : List ℕ) (start : ℕ) where
  some-file : start < length bs → place_at bs start (files_in bs start) ≡ length bs → 1 ≤ files_in bs start
  unfolding place_at
  some-file h e =
      elim (dec_le 1 (files_in bs start)) [
        | yes l ↦ l
        | no l ↦ (let z : files_in bs start ≡ 0 = omega arith in
            let q : start + 0 * file_size (heading_of bs start) ≡ length bs = rw z at e in omega arith)
      ]

  -- from a file where none before it has a fault, the files go on to the end
  reach : (z : first_of (fault_of_file bs start) (length bs) ≡ 0) (k f at prev : ℕ) → length bs ≤ at + k → FilesAt bs start f at prev →
      (n : ℕ) × (p : ℕ) × FilesAt bs start n (length bs) p
  reach z zero f at prev h j =
      let e : at ≡ length bs = omega (arith, j.within) in
      (f, prev, rw e at j)
  reach z (suc k) f at prev h j =
      elim (dec_le (suc at) (length bs)) [
        | yes l ↦ (let e : file_fault_at bs start prev at ≡ 0 =
            sym (files-here bs start f at prev j l)
            ∙ first_of-each (fault_of_file bs start) (length bs) f z (omega (arith, place-low bs start f, j.at-is)) in
            let x = heading_of bs at in
            reach z k (f + 1) (at + file_size x) x.holder
            (omega (arith, head-low x, file-low x)) (files-next bs start f at prev j l e))
        | no l ↦ (let e : at ≡ length bs = omega (arith, j.within) in (f, prev, rw e at j))
      ]

  pub files-ok : files_fault bs start ≡ 0 → FilesOk bs start
  unfolding files_fault fault_of_file
  files-ok r =
      let l = ltb-true start (length bs) (unless-held _ 7 (lit< tt) (first-left (unless (ltb start (length bs)) 7) _ r)) in
      let z = first-right (unless (ltb start (length bs)) 7) _ r in
      let t = reach z (length bs) 0 start 0 (omega arith) (files-start bs start (omega arith)) in
      let c : files_in bs start ≡ t.0 = files-count bs start t.0 (length bs) t.1 t.2 (omega arith) in
      let ends : place_at bs start (files_in bs start) ≡ length bs = rw c (sym t.2.at-is) in
      record {
        some = some-file l ends;
        ends = ends;
        none = λ f h.
            (let m : place_at bs start f < length bs = omega (arith, place-next bs start f (files_in bs start) h, size_low bs start) in
            rw (lt-ltb (place_at bs start f) (length bs) m) at (first_of-each (fault_of_file bs start) t.0 f t.2.none (rw c at h)));
      }

pub bundle-ok : (bs : List ℕ) → bundle_fault bs ≡ 0 → BundleOk bs
unfolding bundle_fault
bundle-ok bs e =
    record {
      order = framed-frame bs order_kind order_len 0 (unless-held _ 7 (lit< tt) (first-left (unless (framed bs order_kind order_len 0) 7) _ e));
      files = files-ok bs order_size (first-right (unless (framed bs order_kind order_len 0) 7) _ e);
    }

-- ---- by file

module _ (bs : List ℕ) (start : ℕ) (a : FilesOk bs start) where
  pub file-at : (f : ℕ) → f < files_in bs start → FileOk bs start (prev_holder bs start f) (place_at bs start f)
  file-at f h = file-ok bs start (prev_holder bs start f) (place_at bs start f) (a.none f h)

  -- every heading is the first's but for the holder
  pub same_at : (f : ℕ) → f < files_in bs start → Same (heading_of bs start) (heading_of bs (place_at bs start f))
  same_at f h = (file-at f h).heading.same

  pub first-file : FileOk bs start 0 start
  unfolding place_at prev_holder
  first-file =
      let z : start + 0 * file_size (heading_of bs start) ≡ start = omega arith in
      rw z at (file-at 0 (omega (arith, a.some)))

  -- each file is within the bytes
  pub file-within : (f : ℕ) → f < files_in bs start → place_at bs start f + file_size (heading_of bs start) ≤ length bs
  file-within f h = omega (arith, a.ends, place-next bs start f (files_in bs start) h)

  -- holders rise, so there are n files at most
  pub holders_rise : (f g : ℕ) → f < g → g < files_in bs start → (heading_of bs (place_at bs start f)).holder < (heading_of bs (place_at bs start g)).holder
  unfolding prev_holder
  holders_rise f zero l h = absurd (omega arith)
  holders_rise f (suc g) l h =
      let r = (file-at (suc g) h).heading.rises in
      elim (dec_le (suc f) g) [
        | yes m ↦ omega (arith, holders_rise f g m (omega arith))
        | no m ↦ (let z : f ≡ g = omega arith in rw z r)
      ]

  pub holder-low : (f : ℕ) → f < files_in bs start → f < (heading_of bs (place_at bs start f)).holder
  holder-low zero h = omega (arith, (file-at zero h).heading.rises)
  holder-low (suc f) h = omega (arith, holder-low f (omega arith), holders_rise f (suc f) (omega arith) h)

  pub files-few : files_in bs start ≤ (heading_of bs start).params.n
  files-few =
      let f = files_in bs start - 1 in
      let h : f < files_in bs start = omega (arith, a.some) in
      let u : (heading_of bs (place_at bs start f)).holder ≤ (heading_of bs (place_at bs start f)).params.n = (file-at f h).heading.within in
      let w : (heading_of bs (place_at bs start f)).holder ≤ (heading_of bs start).params.n = rw (same_at f h).params_is u in
      omega (arith, holder-low f h)

-- ---- a bundle by file and place

module _ (bs : List ℕ) (a : BundleOk bs) where
  -- the first heading's ranges, and that the bytes hold it
  pub bundle-ranges : Ranges (bundle_heading bs)
  bundle-ranges = ok-ranges (bundle_heading bs) (first-file bs order_size a.files).heading.ranges

  pub ranges-of : (h : Heading) → h ≡ bundle_heading bs → Ranges h
  ranges-of h e = subst Ranges (sym e) bundle-ranges

  pub bundle-within : order_size + head_size (bundle_heading bs) ≤ length bs
  bundle-within = (first-file bs order_size a.files).heading.frame.within

  -- the byte of the error bound is there
  pub order-within : order_size ≤ length bs
  order-within = omega (arith, bundle-within)

  -- each job is within the bytes
  pub job-within : (f p : ℕ) → f < files_of bs → p < (bundle_heading bs).jobs → job_at bs f p + job_size (bundle_heading bs) ≤ length bs
  unfolding job_at file_size
  job-within f p h l = omega (arith, file-within bs order_size a.files f h, mul-le-mul_right (job_size (bundle_heading bs)) l)

  -- each file's heading is within the bytes
  pub heading-within : (f : ℕ) → f < files_of bs → file_at bs f + head_size (heading_of bs (file_at bs f)) ≤ length bs
  heading-within f h = (file-at bs order_size a.files f h).heading.frame.within

  job-fine : (f p : ℕ) → f < files_of bs → p < (bundle_heading bs).jobs → let s = record_size (job_len (bundle_heading bs)) in
      JobOk bs (job_len (bundle_heading bs)) (order_size + head_size (bundle_heading bs) + p * s)
      (prev_num bs (job_len (bundle_heading bs)) (file_at bs f + head_size (bundle_heading bs)) p) p (file_at bs f + head_size (bundle_heading bs) + p * s)
  unfolding job_fault
  job-fine f p h l =
      let k = file-at bs order_size a.files f h in
      let s = k.heading.same in
      let n = head_size (bundle_heading bs) in
      let m = job_len (bundle_heading bs) in
      job-ok bs m (order_size + n + p * record_size m) (prev_num bs m (file_at bs f + n) p) p (file_at bs f + n + p * record_size m)
      (rw (same_head (bundle_heading bs) (heading_of bs (file_at bs f)) s, same-job (bundle_heading bs) (heading_of bs (file_at bs f)) s)
      (k.jobs p (omega (arith, s.jobs_is))))

  -- the job of each place has the first file's number
  pub number_at : (f p : ℕ) → f < files_of bs → p < (bundle_heading bs).jobs → num_of bs (job_at bs 0 p) ≡ num_of bs (job_at bs f p)
  unfolding job_at place_at
  number_at f p h l =
      let z : order_size + 0 * file_size (bundle_heading bs) ≡ order_size = omega arith in
      rw z (job-fine f p h l).same

  -- where files and jobs stand, by the first heading, and bounds for a machine's numbers
  pub file-place : (h : Heading) (f : ℕ) → h ≡ bundle_heading bs → file_at bs f ≡ order_size + f * file_size h
  unfolding place_at
  file-place h f e = rw e

  pub job-place : (h : Heading) (f p : ℕ) → h ≡ bundle_heading bs → job_at bs f p ≡ order_size + f * file_size h + head_size h + p * job_size h
  unfolding job_at place_at
  job-place h f p e = rw e

  pub files-most : files_of bs ≤ 63
  files-most =
      let b = bundle-ranges.book in
      let q : 2 ^ (bundle_heading bs).params.d ≤ 2 ^ 6 = pow-le-pow_right {n = 2} (lit< tt) b.d-high in
      omega (arith, files-few bs order_size a.files, b.n-high)

  pub file-few : (f : ℕ) → f < files_of bs → f ≤ 63
  file-few f l = omega (arith, files-most)
