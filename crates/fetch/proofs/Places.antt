-- Where the files and jobs of an accepted bundle stand, by its first heading: what the functions that compute it ask, and that each is within the
-- bytes. Assumes nothing.
use mathlib.Core.Path.{◌≡◌, sym, ap, ◌∙◌}
use Prim.Native.Nat.{ℕ, ◌+◌, ◌*◌, ◌≤◌, ◌<◌}
use native.Mathlib.Omega.{arith}
use mathlib.Core.List.{List}
use lib.ListN.{length}
use Rattle.records.specs.Layout.{record_size, head_size, job_len, job_size, file_size, order_size}
use Rattle.records.specs.declared.Heading.{Heading}
use Rattle.records.proofs.Lengths.{job-length-low}
use Rattle.bundle.specs.Bundle.{bundle_fault, bundle_heading, files_of, job_at}
use Rattle.bundle.proofs.Bundles.{bundle-ok, ranges-of, file-few, job-within, job-place}

module _ (bs : List ℕ) (z : bundle_fault bs ≡ 0) (h : Heading) (e : h ≡ bundle_heading bs) (f : ℕ) (l : f < files_of bs) where
  pub file-asks : (h.params.d ≤ 6) × (h.jobs ≤ 1000) × (f ≤ 63)
  file-asks =
      let r = ranges-of bs (bundle-ok bs z) h e in
      (r.book.d-high, r.jobs_high, file-few bs (bundle-ok bs z) f l)

  -- a place that may be the end of the jobs
  pub job-asks : (p : ℕ) → p ≤ h.jobs → (h.params.d ≤ 6) × (h.jobs ≤ 1000) × (f ≤ 63) × (p ≤ 1000)
  job-asks p m = let t = file-asks in (t.0, t.1, t.2, omega (arith, t.1))

  module _ (p n : ℕ) (m : p < h.jobs) (q : n ≡ order_size + f * file_size h + head_size h + p * job_size h) where
    pub job-spot : n ≡ job_at bs f p
    job-spot = q ∙ sym (job-place bs (bundle-ok bs z) h f p e)

    -- the whole record is within the bytes, and has its number
    pub job-fits : (n + (4 + job_len h) ≤ length bs) × (10 ≤ job_len h)
    unfolding record_size
    job-fits = (
      rw (job-spot, e) (job-within bs (bundle-ok bs z) f p l (omega (arith, ap (λ (x : Heading). x.jobs) e))),
      job-length-low h,
    )
