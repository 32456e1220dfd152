-- Sums and multiples of polynomials, and the shares dealt of one: what the theorems of totals and multiples speak of. Assumes nothing.
use Rattle.std.specs.Prelude.{ℕ, [], ◌∷◌, map}
use Rattle.galois.specs.Element.{Element, sum, product, lower, point}
use Rattle.codewords.specs.Codeword.{Share, Polynomial, value}

-- the sum of two polynomials of one length, and a polynomial times an element, coefficient by coefficient
unfoldable pub sums : ℕ → Polynomial → Polynomial → Polynomial
sums k [] q = []
sums k (a ∷ p) [] = []
sums k (a ∷ p) (b ∷ q) = sum k a b ∷ sums k p q

abbrev pub multiple : ℕ → ℕ → Element → Polynomial → Polynomial
multiple k d c = map (product k (lower d) c)

-- the share of a holder, dealt from p
abbrev pub dealt : ℕ → ℕ → Polynomial → ℕ → Share
dealt k d p h = record { holder = h; words = value k d p (point d h) }
