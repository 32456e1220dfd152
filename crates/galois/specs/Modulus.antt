-- What "reduced modulo 2^k and one fixed modulus" means, paper 01, "Ring, points, shares", and the powers of an element: what the theorems on
-- the definitions of Element speak of. Assumes nothing.
use Rattle.std.specs.Prelude.{ℕ, zero, suc, ◌-◌, ◌≡◌, true, List, [], ◌∷◌, ◌++◌, map, length, take, replicate}
use Rattle.words.specs.Word.{add_w, mul_w, all_in_width}
use Rattle.galois.specs.Element.{Element, lower, product, one_e}

-- polynomials in X with words modulo 2^k, constant first, of any length: their sum, and their product before it is reduced
unfoldable pub plus : ℕ → List ℕ → List ℕ → List ℕ
plus k [] q = q
plus k (a ∷ p) [] = a ∷ p
plus k (a ∷ p) (b ∷ q) = add_w k a b ∷ plus k p q

unfoldable pub times : ℕ → List ℕ → List ℕ → List ℕ
unfolding plus
times k [] q = []
times k (a ∷ p) q = plus k (map (mul_w k a) q) (0 ∷ times k p q)

-- the modulus of the table's row d: its lower coefficients, and then 1 for X^d
abbrev pub modulus : ℕ → List ℕ
modulus d = lower d ++ (1 ∷ [])

-- p reduced modulo 2^k and the modulus is r: an element, and p is a multiple of the modulus and r
pub record Reduced (k d : ℕ) (p : List ℕ) (r : Element) : Type 0 where
  pub words : length r ≡ d
  pub width : all_in_width k r ≡ true
  pub quotient : List ℕ
  pub divided : p ≡ plus k (times k quotient (modulus d)) r

-- X, as an element, and an element's powers
abbrev pub element_x : ℕ → Element
element_x d = take d (0 ∷ 1 ∷ replicate (d - 2) 0)

unfoldable pub power : ℕ → ℕ → Element → ℕ → Element
unfolding product lower
power k d x zero = one_e d
power k d x (suc i) = product k (lower d) (power k d x i) x
