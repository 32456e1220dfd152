-- `half_at`: the sum over four bytes is the number. Assumes nothing.
use Prim.Native.Nat.{ℕ, ◌+◌, ◌<◌}
use native.Mathlib.Omega.{arith}
use lib.ListN.{get_or}
use Rattle.records.proofs.Num.{le_at-four}
use Rattle.records.proofs.half_at.Goals as goal
use Rattle.records.proofs.half_at.Goals.{After-from-2}

-- the lowest byte, and byte i after it
low : (c : After-from-2) → get_or c.args.bytes.now c.args.at 0 < 256
low c = (c.shared_slice_known-3-1.given c.args.at).fits

byte : (c : After-from-2) (i : ℕ) → get_or c.args.bytes.now (c.args.at + i) 0 < 256
byte c i = (c.shared_slice_known-3-1.given (c.args.at + i)).fits

pub overflow_mul-result : goal.overflow_mul-result
overflow_mul-result c = omega (arith, byte c 1)

pub overflow_add-result : goal.overflow_add-result
overflow_add-result c = omega (arith, low c, byte c 1)

pub overflow_mul-result-2 : goal.overflow_mul-result-2
overflow_mul-result-2 c = omega (arith, byte (goal.at.overflow_mul-result-2 c).After-from-2 2)

pub overflow_add-result-2 : goal.overflow_add-result-2
overflow_add-result-2 c = let e = (goal.at.overflow_add-result-2 c).After-from-2 in omega (arith, low e, byte e 1, byte e 2)

pub overflow_mul-result-3 : goal.overflow_mul-result-3
overflow_mul-result-3 c = omega (arith, byte (goal.at.overflow_mul-result-3 c).After-from-2 3)

pub overflow_add-result-3 : goal.overflow_add-result-3
overflow_add-result-3 c =
    let e = (goal.at.overflow_add-result-3 c).After-from-2 in
    omega (arith, low e, byte e 1, byte e 2, byte e 3)

pub returns : goal.returns
returns c =
    omega (
      arith,
      c.from-4.ensures,
      c.from-3.ensures,
      c.from-2.ensures,
      c.from.ensures,
      le_at-four c.args.bytes.now c.args.at c.requires,
    )
