-- `fetch_part`: the part's two words, where nothing declines. Assumes nothing.
use mathlib.Core.Path.{ap, ◌∙◌}
use Prim.Native.Nat.{ℕ, ◌<◌}
use native.Mathlib.Omega.{arith}
use lib.ListN.{length}
use Rattle.records.specs.Layout.{body_size, job_len}
use Rattle.records.specs.declared.Heading.{Heading}
use Rattle.bundle.specs.Bundle.{files_of, job_at}
use Rattle.bundle.proofs.Bundles.{bundle-ok, ranges-of}
use Rattle.fetch.proofs.Fetch.{part-none, part-written}
use Rattle.fetch.proofs.Places.{job-asks, job-spot, job-fits}
use Rattle.fetch.proofs.fetch_part.Goals as goal
use Rattle.fetch.proofs.fetch_part.Goals.{In_ok-check_place}

found : (c : In_ok-check_place) → c.in_ok-f.f < files_of c.in_ok-bundle.bundle.bytes.now
found c = omega (arith, c.in_ok-f.ensures.file.1, c.in_ok-bundle.bundle.counted)

pub job_at-requires : goal.job_at-requires
job_at-requires c =
    let b = c.in_ok-bundle.bundle in
    job-asks b.bytes.now b.sound b.heading b.headed c.in_ok-f.f (found (goal.at.job_at-requires c).In_ok-check_place) c.args.place
    (omega (arith, c.in_ok-check_place.ensures.ok))

pub overflow_add-part : goal.overflow_add-part
overflow_add-part c =
    let b = c.in_ok-bundle.bundle in
    omega (
      arith,
      job-fits b.bytes.now b.sound b.heading b.headed c.in_ok-f.f (found (goal.at.overflow_add-part c).In_ok-check_place) c.args.place c.job_at.result
          c.in_ok-check_place.ensures.ok c.job_at.ensures,
      ap length c.in_ok-bundle.ensures.bundle,
      c.well_formed,
    )

pub body_size-requires : goal.body_size-requires
body_size-requires c = let b = c.in_ok-bundle.bundle in (ranges-of b.bytes.now (bundle-ok b.bytes.now b.sound) b.heading b.headed).book.d-high

pub returns : goal.returns
returns c =
    let b = c.in_ok-bundle.bundle in
    let a = c.args in
    let old = a.part.now in
    let z = part-none b.bytes.now a.holder a.place b.sound b.heading b.headed (length old) c.in_ok-f.ensures.fault c.in_ok-check_length.ensures.fault
    c.in_ok-check_place.ensures.fault in
    let spot = job-spot b.bytes.now b.sound b.heading b.headed c.in_ok-f.f (found (goal.at.returns c).In_ok-check_place) a.place c.job_at.result
    c.in_ok-check_place.ensures.ok c.job_at.ensures in
    rw c.in_ok-bundle.ensures.bundle at
    (part-written b.bytes.now a.holder a.place old c.job_at.result c.body_size.result z
    (spot ∙ ap (λ (f : ℕ). job_at b.bytes.now f a.place) c.in_ok-f.ensures.file.0)
    (c.body_size.ensures ∙ ap (λ (h : Heading). body_size (job_len h)) b.headed))
