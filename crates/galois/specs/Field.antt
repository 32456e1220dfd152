-- The test that each row of the table of moduli gives a field modulo two, paper 01, "Ring, points, shares": "Modulo 2 each gives the field of
-- 2^d elements". Assumes nothing.
use Rattle.std.specs.Prelude.{ℕ, zero, suc, ◌-◌, Bool, true, ◌&&◌, ◌||◌, List, [], ◌∷◌}
use Rattle.galois.specs.Element.{Element, lower, product, zero_e, one_e, same}
use Rattle.galois.specs.Inversion.{fermat}

-- a test passes at the c numbers from i on
unfoldable pub passes : (ℕ → Bool) → ℕ → ℕ → Bool
passes f i zero = true
passes f i (suc c) = f i && passes f (suc i) c

-- all in a list pass
module _ {A : Type 0} (t : A → Bool) where
  unfoldable pub every : List A → Bool
  every [] = true
  every (x ∷ xs) = t x && every xs

-- a is zero, or a^(2^d - 2) is its inverse modulo two
unfoldable pub field_at : ℕ → Element → Bool
unfolding fermat same
field_at d a = same a (zero_e d) || same (product 1 (lower d) a (fermat d a (d - 2))) (one_e d)
