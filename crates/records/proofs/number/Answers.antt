-- The loop of `number`: x is the number in the bytes from i on. Assumes nothing.
use mathlib.Core.Path.{◌≡◌, sym}
use Prim.Native.Nat.{◌+◌, ◌-◌, ◌<◌, ◌^◌}
use native.Mathlib.Omega.{arith}
use Rattle.records.specs.Num.{le_at}
use Rattle.records.proofs.Num.{number_step, number-none, number_small}
use Rattle.records.proofs.number.Goals as goal
use Rattle.records.proofs.number.Goals.{After-from}

small : (c : After-from) → c.loop-i.x < 256 ^ 7
small c =
    let a = c.args in
    rw c.loop-i.invariant
    (number_small a.bytes.now a.at a.w c.loop-i.i (λ j. (c.type_inv.bytes j).fits) (omega arith) (omega arith))

pub loop-i-init : goal.loop-i-init
loop-i-init c = let a = c.args in sym (number-none a.bytes.now a.at a.w)

pub overflow_mul-x : goal.overflow_mul-x
overflow_mul-x c = omega (arith, small c)

pub overflow_add-x : goal.overflow_add-x
overflow_add-x c = omega (arith, small c, c.type_inv.bytes (c.args.at + (c.loop-i.i - 1)))

pub loop-i-preserved : goal.loop-i-preserved
loop-i-preserved c = let a = c.args in (cc (number_step a.bytes.now a.at a.w c.loop-i.i (omega arith) (omega arith) (omega arith)))

pub returns : goal.returns
unfolding le_at
returns c = let z : c.loop-i.i ≡ 0 = omega arith in rw z at c.loop-i.invariant
