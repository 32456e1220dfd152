-- `job_number`: the record is within the bytes of the bundle. Assumes nothing.
use mathlib.Core.Path.{ap, ◌∙◌}
use Prim.Native.Nat.{ℕ, ◌+◌, ◌≤◌, ◌<◌}
use native.Mathlib.Omega.{arith}
use lib.ListN.{length}
use Rattle.records.specs.Num.{le_at}
use Rattle.records.specs.Layout.{body_at}
use Rattle.bundle.specs.Bundle.{num_of, files_of}
use Rattle.bundle.proofs.Bundles.{bundle-ok}
use Rattle.fetch.proofs.Places.{job-asks, job-spot, job-fits}
use Rattle.fetch.proofs.job_number.Goals as goal
use Rattle.fetch.proofs.job_number.Goals.{After-job_at, Start}

some : (c : Start) → 0 < files_of c.args.bundle.now.bytes.now
some c = let b = c.args.bundle.now in omega (arith, (bundle-ok b.bytes.now b.sound).files.some)

pub job_at-requires : goal.job_at-requires
job_at-requires c =
    let b = c.args.bundle.now in
    job-asks b.bytes.now b.sound b.heading b.headed 0 (some (goal.at.job_at-requires c).Start) c.args.p (omega (arith, c.requires))

fits : (c : After-job_at) → body_at c.job_at.result + 8 ≤ length c.args.bundle.now.bytes.now
fits c =
    let b = c.args.bundle.now in
    omega (arith, job-fits b.bytes.now b.sound b.heading b.headed 0 (some (goal.at.After-job_at c).Start) c.args.p _ c.requires c.job_at.ensures)

pub overflow_add-job_at : goal.overflow_add-job_at
overflow_add-job_at c = omega (arith, fits c, c.well_formed)

pub word_at-requires : goal.word_at-requires
word_at-requires c = omega (arith, fits c)

pub returns : goal.returns
unfolding num_of
returns c =
    let b = c.args.bundle.now in
    c.word_at.ensures
    ∙ ap (λ (at : ℕ). le_at 8 b.bytes.now (body_at at))
    (job-spot b.bytes.now b.sound b.heading b.headed 0 (some (goal.at.returns c).Start) c.args.p c.job_at.result c.requires c.job_at.ensures)
