-- Internal: which of the key equation's two pairs of polynomials is multiplied when a share is taken in. Assumes nothing.
use Rattle.std.specs.Prelude.{Bool, true, false}

-- By whether the pairs' gaps at the share are zero, and whether the first pair's degree is at most the second's: the pair of the lower degree
-- whose gap is not zero, so that leading terms never meet.
pub data Pivot : Type 0 where
  none first second : Pivot

abbrev pub pivot : Bool → Bool → Bool → Pivot
pivot true true le = none
pivot true false le = second
pivot false true le = first
pivot false false true = first
pivot false false false = second
