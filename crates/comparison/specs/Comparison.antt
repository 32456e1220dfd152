-- A share's words compared with a value's, paper 02, K4. Assumes nothing.
use Rattle.std.specs.Prelude.{ℕ, zero, suc, ◌/◌, ◌%◌, ◌^◌, ◌≡◌, Bool, true, false, ◌≢◌, [], ◌∷◌, get_or, Option}
use Rattle.std.specs.Int.Bits.{bit_or, bit_xor}
use Rattle.std.specs.Int.Count.{count_trailing_zeros}
use Rattle.galois.specs.Element.{Element}
use Rattle.std.specs.declared.option.Option.TheVariants.{Some, None}

-- the bits at which any word differs from the word in the same place, "at its full 64 bits": words as they stand. Where only one of the two has
-- a word, which does not occur, they differ.
unfoldable pub gap : Element → Element → ℕ
gap [] [] = 0
gap [] (y ∷ v) = 1
gap (x ∷ a) [] = 1
gap (x ∷ a) (y ∷ v) = bit_or (bit_xor x y) (gap a v)

-- "Comparing a share with a value [..] now tells the lowest bit position at which any of its words differs, or that none does."
abbrev pub lowest_in : ℕ → Option ℕ
lowest_in zero = None
lowest_in (suc g) = Some (count_trailing_zeros 64 (suc g))

unfoldable pub compared : Element → Element → Option ℕ
unfolding gap
compared a v = lowest_in (gap a v)

-- "any of its words differs"
abbrev pub unequal : Option ℕ → Bool
unequal (Some v) = true
unequal None = false

-- whether words are other words than these
abbrev pub apart : Element → Element → Bool
apart a v = unequal (compared a v)

-- the number of each in an output of bytes
abbrev pub position_of : Option ℕ → ℕ
position_of (Some v) = v
position_of None = 255

-- "the lowest bit position at which any of its words differs": bit v of the word in some place of a is not that of the word in the same place of b,
-- and below bit v all their words agree
pub record LowestBit (a b : Element) (v : ℕ) : Type 0 where
  pub place : ℕ
  pub differing : get_or a place 0 / 2 ^ v % 2 ≢ get_or b place 0 / 2 ^ v % 2
  pub agreeing : (j : ℕ) → get_or a j 0 % 2 ^ v ≡ get_or b j 0 % 2 ^ v
