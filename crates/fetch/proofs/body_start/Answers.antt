-- `body_start`: the place of the job of a file and a place that are there. Assumes nothing.
use mathlib.Core.Path.{ap, ◌∙◌}
use Prim.Native.Nat.{ℕ, ◌<◌}
use native.Mathlib.Omega.{arith}
use Rattle.records.specs.Layout.{body_at}
use Rattle.bundle.specs.Bundle.{files_of, job_at}
use Rattle.fetch.proofs.Places.{job-asks, job-spot, job-fits}
use Rattle.fetch.proofs.body_start.Goals as goal
use Rattle.fetch.proofs.body_start.Goals.{In_ok-check_place}

found : (c : In_ok-check_place) → c.in_ok-f.f < files_of c.args.bundle.now.bytes.now
found c = omega (arith, c.in_ok-f.ensures.file.1, c.args.bundle.now.counted)

pub job_at-requires : goal.job_at-requires
job_at-requires c =
    let b = c.args.bundle.now in
    job-asks b.bytes.now b.sound b.heading b.headed c.in_ok-f.f (found (goal.at.job_at-requires c).In_ok-check_place) c.args.place
    (omega (arith, c.in_ok-check_place.ensures.ok))

pub overflow_add-result : goal.overflow_add-result
overflow_add-result c =
    let b = c.args.bundle.now in
    omega (
      arith,
      job-fits b.bytes.now b.sound b.heading b.headed c.in_ok-f.f (found (goal.at.overflow_add-result c).In_ok-check_place) c.args.place c.job_at.result
          c.in_ok-check_place.ensures.ok c.job_at.ensures,
      c.well_formed,
    )

pub returns-clause-start : goal.returns-clause-start
returns-clause-start c =
    let b = c.args.bundle.now in
    ap body_at
    (job-spot b.bytes.now b.sound b.heading b.headed c.in_ok-f.f (found (goal.at.returns-clause-start c).In_ok-check_place) c.args.place c.job_at.result
    c.in_ok-check_place.ensures.ok c.job_at.ensures
    ∙ ap (λ (f : ℕ). job_at b.bytes.now f c.args.place) c.in_ok-f.ensures.file.0)
