-- The loop of `check_jobs`: the places passed have no fault. Assumes nothing.
use mathlib.Core.Path.{sym, ◌∙◌}
use Prim.Native.Nat.{◌+◌, ◌≤◌}
use lib.ListN.{length}
use native.Mathlib.Omega.{arith}
use Rattle.words.proofs.Refusals.{number-some, handed_out}
use Rattle.records.specs.Layout.{record_size}
use Rattle.bundle.proofs.Headings.{job-ok}
use Rattle.bundle.proofs.Files.{jobs-start, jobs-stop, jobs-next}
use Rattle.bundle.proofs.check_jobs.Goals as goal
use Rattle.bundle.proofs.check_jobs.Goals.{In_ok-prev}

pub loop-p-init : goal.loop-p-init
loop-p-init c = let a = c.args in jobs-start a.bytes.now a.len a.base a.at (omega arith)

pub check_job-requires : goal.check_job-requires
check_job-requires c =
    let j = c.loop-p.invariant in
    (c.requires.0, omega (arith, j.first-is, j.at-is, c.requires), j.within)

pub returns-in_err-prev : goal.returns-in_err-prev
returns-in_err-prev c =
    let a = c.args in
    let l = c.loop-p in
    let e = c.in_err-prev.ensures.fault in
    handed_out c.from_residual.result c.in_err-prev.field-0.0 c.from_residual.ensures.1
    ∙ e
    ∙ jobs-stop a.bytes.now a.len a.base a.at l.p l.first l.here l.prev l.invariant a.count
    (λ z. number-some c.in_err-prev.field-0.0 (e ∙ z)) c.loop-p-test.true

fits : (c : In_ok-prev) → c.loop-p.here + (4 + c.args.len) ≤ length c.args.bytes.now
unfolding record_size
fits c =
    let l = c.loop-p in
    (job-ok c.args.bytes.now c.args.len l.first l.prev l.p l.here (sym c.in_ok-prev.ensures.fault)).frame.within

pub overflow_add-first : goal.overflow_add-first
overflow_add-first c = omega (arith, fits c, c.well_formed)

pub overflow_add-first-in-loop-p : goal.overflow_add-first-in-loop-p
overflow_add-first-in-loop-p c =
    let j = c.loop-p.invariant in
    omega (arith, fits c, j.first-is, j.at-is, c.requires, c.well_formed)

pub overflow_add-here : goal.overflow_add-here
overflow_add-here c = omega (arith, fits c, c.well_formed)

pub overflow_add-here-in-loop-p : goal.overflow_add-here-in-loop-p
overflow_add-here-in-loop-p c = omega (arith, fits c, c.well_formed)

pub loop-p-preserved : goal.loop-p-preserved
unfolding record_size
loop-p-preserved c =
    let a = c.args in
    let l = c.loop-p in
    rw c.in_ok-prev.ensures.number
    (jobs-next a.bytes.now a.len a.base a.at l.p l.first l.here l.prev l.invariant (sym c.in_ok-prev.ensures.fault))
