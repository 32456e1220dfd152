-- `level::holder_set` meets its contract: after each turn it is the set of the places passed. Assumes nothing.
use native.Mathlib.Omega.{arith}
use borrow.Author.Tests.{ne_eqb}
use mathlib.Core.Path.{◌≡◌, ◌∙◌}
use Prim.Native.Nat.{◌-◌}
use Rattle.level.specs.Shares.{holder_set}
use Rattle.level.proofs.Turns.{set-start, set-in, set_out}
use Rattle.level.proofs.holder_set.Goals as goal

pub loop-i-init : goal.loop-i-init
loop-i-init c = set-start c.args.lanes c.args.m c.args.hs.now

pub overflow_sub-w : goal.overflow_sub-w
overflow_sub-w c = (c.requires.1 (c.loop-i.i - 1) (omega arith)).0

pub overflow_shl-w : goal.overflow_shl-w
overflow_shl-w c = omega (arith, (c.requires.1 (c.loop-i.i - 1) (omega arith)).1)

pub loop-i-preserved-then-lanes-i-eq1 : goal.loop-i-preserved-then-lanes-i-eq1
loop-i-preserved-then-lanes-i-eq1 c =
    let a = c.args in
    set-in a.lanes a.m a.hs.now c.loop-i.i (omega arith) (omega arith) c.loop-i.w c.loop-i.invariant c.if-lanes-i-eq1.true
    (c.requires.1 (c.loop-i.i - 1) (omega arith)).1

pub loop-i-preserved : goal.loop-i-preserved
loop-i-preserved c =
    let a = c.args in
    set_out a.lanes a.m a.hs.now c.loop-i.i (omega arith) (omega arith) c.loop-i.w c.loop-i.invariant (ne_eqb _ 1 c.if-lanes-i-eq1.false)

pub returns : goal.returns
returns c =
    let a = c.args in
    let e : c.loop-i.i ≡ 0 = omega arith in
    let f : a.m - c.loop-i.i ≡ a.m = omega arith in
    c.loop-i.invariant ∙ (λ j. holder_set a.lanes a.hs.now (e j) (f j))
