-- `level::locate` meets its contract: after each turn the pairs are those of the shares passed. Assumes nothing.
use native.Mathlib.Omega.{arith}
use mathlib.Core.Path.{◌∙◌, ap}
use Rattle.sliced.specs.Lane.{support_of}
use Rattle.level.specs.KeyEquation.{Pairs}
use Rattle.level.proofs.Turns.{run-start, run-turn, run_end}
use Rattle.level.proofs.locate.Goals as goal
use Rattle.level.proofs.locate.Goals.{After-spread-b1, At-loop-i}

pub loop-i-init : goal.loop-i-init
loop-i-init c =
    let a = c.args in
    run-start a.d a.xs a.t a.m _ (omega arith) (omega arith)

pub step-g-requires : goal.step-g-requires
step-g-requires c =
    let r = c.loop-i.invariant in
    ((omega arith, omega arith), omega (arith, r.0), omega (arith, r.1), omega (arith, r.2))

pub loop-i-preserved : goal.loop-i-preserved
loop-i-preserved c =
    let a = c.args in
    run-turn a.d a.xs a.t a.m _ c.loop-i.i (omega arith) c.loop-i.invariant c.step-g.ensures

pub returns : goal.returns
returns c =
    let l = (goal.at.returns c).At-loop-i in
    let o = (goal.at.At-loop-i l).After-spread-b1 in
    let a = o.args in
    c.support.ensures
    ∙ ap (λ (p : Pairs). support_of a.d p.b1)
    (run_end a.d a.xs a.t a.m a.ys l.loop-i.i o.spread-v0.ensures o.spread-b1.ensures (omega arith) l.loop-i.invariant)
