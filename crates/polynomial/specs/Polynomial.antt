-- Polynomials over the ring of a book, paper 01, "Ring, points, shares". Assumes nothing.
use Rattle.std.specs.Prelude.{ℕ, suc, List, [], ◌∷◌}
use Rattle.galois.specs.Element.{Element, zip, sum, lower, product, zero_e}
use Rattle.galois.specs.Modulus.{power}

-- "A polynomial of degree at most t is t + 1 coefficients, free term first, each an element"
abbrev pub Polynomial : Type 0
Polynomial = List Element

-- "Its value at a point is the sum, in the ring, of the free term, the second coefficient times the point, the third times the point's
-- square, and so on."
unfoldable pub value : ℕ → ℕ → Polynomial → Element → Element
unfolding zip product lower
value k d [] x = zero_e d
value k d (c ∷ p) x = sum k c (product k (lower d) x (value k d p x))

-- the sum with its powers written out, from the coefficient of x^i on: the first of p times x^i, the second times x^(i + 1), and so on
unfoldable pub terms : ℕ → ℕ → ℕ → Polynomial → Element → Element
unfolding zip product lower power
terms k d i [] x = zero_e d
terms k d i (c ∷ p) x = sum k (product k (lower d) c (power k d x i)) (terms k d (suc i) p x)
