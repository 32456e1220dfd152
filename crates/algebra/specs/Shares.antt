-- Shares, and when one differs from a polynomial. Assumes nothing.
use Rattle.std.specs.Prelude.{Bool, cond, not, List, [], ◌∷◌, ℕ, ◌+◌}
use Rattle.algebra.specs.Ring.{CommRing, DiscreteRing, IsUnit}
use Rattle.algebra.specs.Poly.{eval}

abbrev pub bit : Bool → ℕ
bit b = cond b 1 0

module _ {S : Type 0} where
  -- how many pass a test
  abbrev pub count : (S → Bool) → List S → ℕ
  count t [] = 0
  count t (s ∷ ss) = bit (t s) + count t ss

  -- each has a property
  abbrev pub All : (S → Type 0) → List S → Type 0
  All P [] = Unit {0}
  All P (s ∷ ss) = P s × All P ss

module _ (R : CommRing) where
  infixl 65 ◌⊕◌
  open R use {E, add as ◌⊕◌, neg as ⊖}

  -- a holder's point, and the value that it holds
  pub record Share : Type 0 where
    pub at : E
    pub val : E

  -- "The difference of two points, or of a point and 0, has an inverse": of any two of the points in the list, of which 0 may be one.
  abbrev pub Apart : List Share → Type 0
  Apart [] = Unit {0}
  Apart (s ∷ ss) = All (λ r. IsUnit R (r.at ⊕ ⊖ s.at)) ss × Apart ss

-- "A share differs from a polynomial if any of its words differs from the word in the same place of the polynomial's value at its holder's
-- point": if it is another element than that value.
abbrev pub misses : (D : DiscreteRing) → List D.ring.E → Share D.ring → Bool
misses D f s = not (D.eqb (eval D.ring f s.at) s.val)
