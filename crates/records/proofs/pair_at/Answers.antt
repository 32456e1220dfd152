-- `pair_at`: the sum over two bytes is the number. Assumes nothing.
use Prim.Native.Nat.{◌+◌}
use native.Mathlib.Omega.{arith}
use Rattle.records.proofs.Num.{le_at-two}
use Rattle.records.proofs.pair_at.Goals as goal

pub overflow_mul-result : goal.overflow_mul-result
overflow_mul-result c = omega (arith, c.shared_slice_known-3-1.given (c.args.at + 1))

pub overflow_add-result : goal.overflow_add-result
overflow_add-result c =
    let a = c.args.at in
    omega (arith, c.shared_slice_known-3-1.given a, c.shared_slice_known-3-1.given (a + 1))

pub returns : goal.returns
returns c = omega (arith, c.from-2.ensures, c.from.ensures, le_at-two c.args.bytes.now c.args.at c.requires)
