-- Internal: polynomials over a commutative ring. "A polynomial of degree at most t is t + 1 coefficients, free term first, each an element, zero or
-- not": a list. Assumes nothing.
use Rattle.std.specs.Prelude.{List, [], ◌∷◌, ℕ, get_or}
use Rattle.algebra.specs.Ring.{CommRing}

module _ (R : CommRing) where
  infixl 65 ◌⊕◌
  infixl 70 ◌⊗◌
  open R use {E, add as ◌⊕◌, mul as ◌⊗◌, 𝟘}

  -- "Its value at a point is the sum, in the ring, of the free term, the second coefficient times the point, the third times the point's
  -- square, and so on."
  abbrev pub eval : List E → E → E
  eval [] z = 𝟘
  eval (c ∷ p) z = c ⊕ z ⊗ eval p z

  -- the coefficient of `Z^j`, zero beyond the end
  abbrev pub coef : List E → ℕ → E
  coef p j = get_or p j 𝟘
