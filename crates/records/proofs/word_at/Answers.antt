-- `word_at`: a word is its low half and 2³² times its high half. Assumes nothing.
use mathlib.Core.Path.{sym}
use Prim.Native.Nat.{ℕ, ◌+◌, ◌<◌, ◌^◌}
use native.Mathlib.Omega.{arith}
use Rattle.records.specs.Num.{le_at}
use Rattle.records.proofs.Num.{le_at-split, le_at-lt}
use Rattle.records.proofs.word_at.Goals as goal
use Rattle.records.proofs.word_at.Goals.{After-half_at-2}

-- the number in four bytes
half : (c : After-half_at-2) (at : ℕ) → le_at 4 c.args.bytes.now at < 256 ^ 4
half c at = le_at-lt 4 c.args.bytes.now at (λ i. (c.shared_slice_known-1.given i).fits)

pub overflow_mul-result : goal.overflow_mul-result
overflow_mul-result c = omega (arith, c.half_at-2.ensures, half c (c.args.at + 4))

pub overflow_add-result : goal.overflow_add-result
overflow_add-result c =
    let a = c.args.at in
    omega (arith, c.half_at.ensures, c.half_at-2.ensures, half c a, half c (a + 4))

pub returns : goal.returns
returns c = rw (c.half_at.ensures, c.half_at-2.ensures) (sym (le_at-split c.args.bytes.now c.args.at 4 4 (omega (arith, c.requires))))
