-- The body that a fetch gives, by holder and place, is the body of the job that stands there (`fetched-body`); of a bundle that was written, of the
-- job that was written (`written-body`). Assumes nothing.
use mathlib.Core.Path.{◌≡◌, refl, sym, ap, ◌∙◌}
use Prim.Native.Nat.{ℕ, ◌<◌}
use native.Mathlib.Omega.{arith}
use mathlib.Core.List.{List}
use lib.ListN.{length}
use Rattle.words.proofs.Refusals.{first-none}
use Rattle.records.specs.Num.{Bytes, part}
use Rattle.records.specs.Layout.{body_at, body_size, job_len, word_size}
use Rattle.bundle.specs.Bundle.{bundle_fault, bundle_heading, files_of, job_at}
use Rattle.bundle.specs.Contents.{Job, Bundle}
use Rattle.fetch.specs.Fetch.{file_of, holder_fault, body_fault, body_of}
use Rattle.fetch.proofs.Fetch.{holder-file, holder-none, place_none, body-part}
use Rattle.records.specs.declared.Heading.{Heading}
use Rattle.writer.specs.Bytes.{job_body, bundle_bytes}
use Rattle.writer.specs.ByPlace.{file_no, job_no, ReadsAs}
use Rattle.writer.specs.Fits.{BundleFits}
use Rattle.writer.proofs.AreBytes.{bundle-bytes}
use Rattle.writer.proofs.ByPlace.{written-reads}

-- a body is the same by any two headings
same_body : (a b : Heading) (j : Job) → job_body a j ≡ job_body b j
unfolding job_body word_size
same_body a b j = refl

module _ (bs : List ℕ) (b : Bundle) (r : ReadsAs bs b) (bytes : Bytes bs) (f p : ℕ) (l : f < length b.files) (m : p < length (file_no b f).jobs)
  where
    abbrev holder : ℕ
    holder = (file_no b f).heading.holder

    file-in : f < files_of bs
    file-in = omega (arith, r.files)

    place_in : p < (bundle_heading bs).jobs
    place_in = omega (arith, r.jobs f file-in)

    file-found : file_of bs holder ≡ f
    file-found = ap (file_of bs) (sym (r.holder f file-in)) ∙ holder-file bs r.no_fault f file-in

    none : body_fault bs holder p ≡ 0
    unfolding body_fault
    none =
        let found : file_of bs holder < files_of bs = rw file-found file-in in
        first-none (bundle_fault bs) _ r.no_fault
        ∙ first-none (holder_fault bs holder) _ (holder-none bs holder found)
        ∙ place_none (bundle_heading bs) p place_in

    pub fetched-body : (body_fault bs (file_no b f).heading.holder p ≡ 0) ×
        (body_of bs (file_no b f).heading.holder p ≡ job_body (file_no b f).heading (job_no (file_no b f) p))
    fetched-body = (
      none,
      body-part bs holder p none
          ∙ ap (λ (x : ℕ). part (body_at (job_at bs x p)) (body_size (job_len (bundle_heading bs))) bs) file-found
          ∙ r.body bytes f p file-in place_in
          ∙ same_body (bundle_heading bs) (file_no b f).heading (job_no (file_no b f) p),
    )

pub written-body : (b : Bundle) → BundleFits b.files → b.allowance < 256 → (f p : ℕ) → f < length b.files → p < length (file_no b f).jobs →
    (body_fault (bundle_bytes b) (file_no b f).heading.holder p ≡ 0) ×
    (body_of (bundle_bytes b) (file_no b f).heading.holder p ≡ job_body (file_no b f).heading (job_no (file_no b f) p))
written-body b w l f p = fetched-body (bundle_bytes b) b (written-reads b w) (bundle-bytes b w l) f p
