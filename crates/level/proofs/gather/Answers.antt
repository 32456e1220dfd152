-- `level::gather` meets its contract: after each turn the shares passed are looked at. Assumes nothing.
use native.Mathlib.Omega.{arith}
use mathlib.Core.Path.{ap}
use Rattle.level.specs.Interpolation.{Newton}
use Rattle.level.proofs.Turns.{gather-start, gather-turn, gather-end}
use Rattle.level.proofs.gather.Goals as goal
use Rattle.level.proofs.gather.Goals.{At-loop-i}

pub loop-i-init : goal.loop-i-init
loop-i-init c =
    let a = c.args in
    gather-start a.d a.xs a.t a.trusted a.m _

pub trust-n-requires : goal.trust-n-requires
trust-n-requires c =
    let l = (goal.at.trust-n-requires c).At-loop-i in
    ((omega arith, omega arith), omega arith, omega arith)

pub loop-i-preserved : goal.loop-i-preserved
loop-i-preserved c =
    let a = c.args in
    gather-turn a.d a.xs a.t a.trusted a.m _ c.loop-i.i (omega arith) (omega arith) c.loop-i.invariant c.trust-n.ensures

pub returns : goal.returns
returns c =
    let l = (goal.at.returns c).At-loop-i in
    let a = l.args in
    let e = gather-end a.d a.xs a.t a.trusted a.m a.gap.now l.loop-i.i l.spread-nodal.ensures (omega arith) l.loop-i.invariant in
    (ap (λ (s : Newton). s.n) e, ap (λ (s : Newton). s.gap) e)
