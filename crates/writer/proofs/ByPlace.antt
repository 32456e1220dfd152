-- What the calls read of an accepted bundle, by file and place, is what stands in it (`accepted-reads`); of a bundle that was written, what was
-- written (`written-reads`, `bundled-reads`). A file cut out of an accepted bundle is an accepted file with the same contents (`file-cut`).
-- Assumes nothing.
use mathlib.Core.Path.{◌≡◌, refl, sym, ap, ap₂, subst, ◌∙◌}
use Prim.Native.Nat.{ℕ, zero, suc, ◌+◌, ◌*◌, ◌<◌}
use native.Mathlib.Nat.{div-eq_of_eq-mul_left}
use native.Mathlib.Omega.{arith}
use mathlib.Core.List.{List, [], ◌∷◌}
use lib.ListN.{length, get_or, length-append}
use lib.Dec.{lit<}
use Rattle.words.specs.declared.Params.{Params}
use Rattle.records.specs.Num.{Bytes, part}
use Rattle.records.specs.Layout.{words_at, head_size, word_size, job_kind, job_len, job_size, file_size, record_size, order_kind, order_size}
use Rattle.records.specs.Record.{Frame, heading_of}
use Rattle.records.specs.declared.Heading.{Heading}
use Rattle.bundle.specs.Bundle.{num_of, prev_num, job_fault, file_fault, place_at, files_in, prev_holder, bundle_fault, bundle_heading, files_of}
use Rattle.bundle.specs.Bundle.{file_at, job_at, allowance_of}
use Rattle.bundle.specs.Acceptance.{Same, BundleOk}
use Rattle.bundle.specs.Contents.{Job, File, Bundle, words_from, job_from, jobs_from, file_from, files_from, bundle_from, words_of}
use Rattle.records.proofs.Lengths.{head-low, file-low}
use Rattle.bundle.proofs.Headings.{job-ok, same_self, same_head, same_word, same-job, same-file}
use Rattle.bundle.proofs.Files.{file-ok}
use Rattle.bundle.proofs.Bundles.{bundle-ok, same_at}
use Rattle.bundle.proofs.Contents.{jobs-count}
use Rattle.writer.specs.Bytes.{job_body, file_bytes, files_bytes, order_bytes, bundle_bytes}
use Rattle.writer.specs.Fits.{FileFits, BundleFits}
use Rattle.writer.specs.ByPlace.{file_no, job_no, ReadsAs}
use Rattle.writer.proofs.Holds.{Holds, holds-all, left, right, head, move, rec-body}
use Rattle.writer.proofs.Fits.{file-length, order-length}
use Rattle.writer.proofs.Encode.{job-part, file-part}
use Rattle.writer.proofs.Decode.{file-heading, file-is, file-read, bundle-read}
use Rattle.writer.proofs.Whole.{file-fits}

-- ---- by file and by place

files-count : (bs : List ℕ) (size n at : ℕ) → length (files_from bs size n at) ≡ n
unfolding files_from
files-count bs size zero at = refl
files-count bs size (suc n) at = ap suc (files-count bs size n (at + size))

file-no : (bs : List ℕ) (size n at f : ℕ) (z : File) → f < n → get_or (files_from bs size n at) f z ≡ file_from bs (at + f * size)
unfolding files_from
file-no bs size zero at f z l = absurd (omega arith)
file-no bs size (suc n) at zero z l = ap (file_from bs) (let e : at ≡ at + 0 * size = omega arith in e)
file-no bs size (suc n) at (suc f) z l =
    file-no bs size n (at + size) f z (omega arith) ∙ ap (file_from bs) (let e : at + size + f * size ≡ at + suc f * size = omega arith in e)

job-no : (h : Heading) (bs : List ℕ) (n at p : ℕ) (z : Job) → p < n → get_or (jobs_from h bs n at) p z ≡ job_from h bs (at + p * job_size h)
unfolding jobs_from
job-no h bs zero at p z l = absurd (omega arith)
job-no h bs (suc n) at zero z l = ap (job_from h bs) (let e : at ≡ at + 0 * job_size h = omega arith in e)
job-no h bs (suc n) at (suc p) z l =
    job-no h bs n (at + job_size h) p z (omega arith)
    ∙ ap (job_from h bs) (let e : at + job_size h + p * job_size h ≡ at + suc p * job_size h = omega arith in e)

-- a job reads the same by headings that belong together
job-same : (a b : Heading) (s : Same a b) (bs : List ℕ) (at : ℕ) → job_from b bs at ≡ job_from a bs at
unfolding job_from
job-same a b s bs at =
    let w : words_from (word_size b) bs b.params.d (words_at at) ≡ words_from (word_size a) bs a.params.d (words_at at) =
    ap₂ (λ (x y : ℕ). words_from x bs y (words_at at)) (sym (same_word a b s)) (ap (λ (p : Params). p.d) (sym s.params_is)) in
    λ i. record { num = num_of bs at; words = w i }

module _ (bs : List ℕ) (e : bundle_fault bs ≡ 0) where
  ok : BundleOk bs
  ok = bundle-ok bs e

  module _ (f : ℕ) (l : f < files_of bs) where
    pub file-stands : file_no (bundle_from bs) f ≡ file_from bs (file_at bs f)
    unfolding bundle_from place_at
    file-stands = file-no bs (file_size (bundle_heading bs)) (files_of bs) order_size f _ l

    belongs : Same (bundle_heading bs) (heading_of bs (file_at bs f))
    belongs = same_at bs order_size ok.files f l

    pub job-stands : (p : ℕ) → p < (bundle_heading bs).jobs → job_no (file_no (bundle_from bs) f) p ≡ job_from (bundle_heading bs) bs (job_at bs f p)
    unfolding file_from job_at
    job-stands p m =
        let a = bundle_heading bs in
        let h = heading_of bs (file_at bs f) in
        let at = file_at bs f in
        ap (λ (g : File). job_no g p) file-stands
        ∙ job-no h bs h.jobs (at + head_size h) p _ (omega (arith, belongs.jobs_is))
        ∙ ap₂ (λ (x y : ℕ). job_from h bs (at + x + p * y)) (sym (same_head a h belongs)) (ap record_size (sym (same-job a h belongs)))
        ∙ job-same a h belongs bs (at + head_size a + p * job_size a)

    job-framed : (p : ℕ) → p < (bundle_heading bs).jobs → Frame bs job_kind (job_len (bundle_heading bs)) (job_at bs f p)
    unfolding job_at job_fault
    job-framed p m =
        let a = bundle_heading bs in
        let at = file_at bs f in
        let h = heading_of bs at in
        let k = file-ok bs order_size (prev_holder bs order_size f) at (ok.files.none f l) in
        rw (same_head a h belongs, same-job a h belongs)
        (job-ok bs (job_len h) (order_size + head_size h + p * job_size h) (prev_num bs (job_len h) (at + head_size h) p) p (at + head_size h + p * job_size h)
        (k.jobs p (omega (arith, belongs.jobs_is)))).frame

  pub accepted-reads : ReadsAs bs (bundle_from bs)
  unfolding bundle_from file_from job_from words_of
  accepted-reads =
      record {
        no_fault = e;
        allowance = refl;
        files = sym (files-count bs (file_size (bundle_heading bs)) (files_of bs) order_size);
        params = λ f l. (belongs f l).params_is ∙ ap (λ (g : File). g.heading.params) (sym (file-stands f l));
        jobs = λ f l.
            (belongs f l).jobs_is
            ∙ sym (jobs-count (heading_of bs (file_at bs f)) bs _ _)
            ∙ ap (λ (g : File). length g.jobs) (sym (file-stands f l));
        holder = λ f l. ap (λ (g : File). g.heading.holder) (sym (file-stands f l));
        number = λ f p l m. ap (λ (j : Job). j.num) (sym (job-stands f l p m));
        words = λ f p l m. ap (λ (j : Job). j.words) (sym (job-stands f l p m));
        body = λ b f p l m.
            sym (ap (job_body (bundle_heading bs)) (job-stands f l p m) ∙ job-part bs b (bundle_heading bs) (job_at bs f p) (job-framed f l p m));
      }

  -- a file cut out of it, as its bytes stand there
  pub file-cut : Bytes bs → (f : ℕ) → f < files_of bs →
      let cut = part (file_at bs f) (file_size (bundle_heading bs)) bs in (file_fault cut ≡ 0) × (file_from cut 0 ≡ file_no (bundle_from bs) f)
  file-cut b f l =
      let at = file_at bs f in
      let g = file_from bs at in
      let z = ok.files.none f l in
      let w : file_bytes g ≡ part at (file_size (bundle_heading bs)) bs =
      file-part bs b order_size (prev_holder bs order_size f) at z
      ∙ ap (λ (n : ℕ). part at n bs) (sym (same-file (bundle_heading bs) (heading_of bs at) (belongs f l))) in
      let r = file-read g (file-fits bs b order_size (prev_holder bs order_size f) at z) in
      (ap file_fault (sym w) ∙ r.0, ap (λ (x : List ℕ). file_from x 0) (sym w) ∙ r.1 ∙ sym (file-stands f l))

-- ---- a bundle that was written

pub written-reads : (b : Bundle) → BundleFits b.files → ReadsAs (bundle_bytes b) b
written-reads b w =
    let r = bundle-read b w in
    subst (ReadsAs (bundle_bytes b)) r.1 (accepted-reads (bundle_bytes b) r.0)

-- files that can be written and belong with a heading, in any order of their holders
pub data Alike (h : Heading) : List File → Type 0 where
  no-file : Alike h []
  a-file : {f : File} {fs : List File} → FileFits f → Same h f.heading → Alike h fs → Alike h (f ∷ fs)

module _ (h : Heading) where
  one-length : (f : File) → FileFits f → Same h f.heading → length (file_bytes f) ≡ file_size h
  one-length f w s = file-length f w ∙ sym (same-file h f.heading s)

  alike-length : (fs : List File) → Alike h fs → length (files_bytes fs) ≡ length fs * file_size h
  unfolding files_bytes
  alike-length [] a = omega arith
  alike-length (f ∷ fs) (a-file w s a) =
      length-append (file_bytes f) (files_bytes fs) ∙ ap₂ ◌+◌ (one-length f w s) (alike-length fs a) ∙ omega arith

  alike_read : (bs : List ℕ) (at : ℕ) (fs : List File) → Alike h fs → Holds bs at (files_bytes fs) → files_from bs (file_size h) (length fs) at ≡ fs
  unfolding files_bytes files_from
  alike_read bs at [] a q = refl
  alike_read bs at (f ∷ fs) (a-file w s a) q =
      ap₂ ◌∷◌ (file-is f w bs at (left (file_bytes f) (files_bytes fs) q))
      (alike_read bs (at + file_size h) fs a
      (move _ (at + file_size h) (ap (λ (n : ℕ). at + n) (one-length f w s)) (right (file_bytes f) (files_bytes fs) q)))

module _ (e : ℕ) (f : File) (fs : List File) (w : FileFits f) (a : Alike f.heading fs) where
  abbrev b : Bundle
  b = record { allowance = e; files = f ∷ fs }

  every : Alike f.heading (f ∷ fs)
  every = a-file w (same_self f.heading) a

  order : Holds (bundle_bytes b) 0 (order_bytes e)
  unfolding bundle_bytes
  order = left (order_bytes e) (files_bytes (f ∷ fs)) (holds-all (bundle_bytes b))

  after : Holds (bundle_bytes b) order_size (files_bytes (f ∷ fs))
  unfolding bundle_bytes
  after = move _ order_size (omega (arith, order-length e)) (right (order_bytes e) (files_bytes (f ∷ fs)) (holds-all (bundle_bytes b)))

  first-heading : bundle_heading (bundle_bytes b) ≡ f.heading
  unfolding files_bytes
  first-heading = file-heading f w (bundle_bytes b) order_size (left (file_bytes f) (files_bytes fs) after)

  whole_length : length (bundle_bytes b) ≡ order_size + length (f ∷ fs) * file_size f.heading
  unfolding bundle_bytes
  whole_length =
      length-append (order_bytes e) (files_bytes (f ∷ fs)) ∙ ap₂ ◌+◌ (order-length e) (alike-length f.heading (f ∷ fs) every)

  file-count : files_of (bundle_bytes b) ≡ length (f ∷ fs)
  unfolding files_in
  file-count =
      let s = ap file_size first-heading in
      let m = ap (λ (n : ℕ). length (f ∷ fs) * n) s in
      div-eq_of_eq-mul_left (omega (arith, s, head-low f.heading, file-low f.heading)) (omega (arith, m, whole_length))

  bundle-again : bundle_from (bundle_bytes b) ≡ b
  unfolding bundle_from order_bytes
  bundle-again =
      let x : allowance_of (bundle_bytes b) ≡ e = head (rec-body (bundle_bytes b) 0 order_kind (e ∷ []) (lit< tt) (lit< tt) order) in
      let y : files_from (bundle_bytes b) (file_size (bundle_heading (bundle_bytes b))) (files_of (bundle_bytes b)) order_size ≡ f ∷ fs =
      ap₂ (λ (m n : ℕ). files_from (bundle_bytes b) m n order_size) (ap file_size first-heading) file-count
      ∙ alike_read f.heading (bundle_bytes b) order_size (f ∷ fs) every after in
      λ i. record { allowance = x i; files = y i }

  -- the bytes of such files behind an order read as what was written wherever they are accepted
  pub bundled-reads : bundle_fault (bundle_bytes b) ≡ 0 → ReadsAs (bundle_bytes b) b
  bundled-reads z = subst (ReadsAs (bundle_bytes b)) bundle-again (accepted-reads (bundle_bytes b) z)
