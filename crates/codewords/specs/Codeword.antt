-- Polynomials, shares and which of them differ, and at which bit, paper 01, "Ring, points, shares", and paper 02, K4; the codeword within an error
-- bound, if there is one, without any algorithm. Assumes nothing.
use Rattle.std.specs.Prelude.{ℕ, zero, suc, ◌+◌, ◌-◌, ◌^◌, Bool, cond, not, List, [], ◌∷◌, leb, eqb, Option}
use Rattle.std.proofs.Math.Option.{Option as Perhaps}
use Rattle.std.specs.declared.option.Option.TheVariants.{None}
use Rattle.words.specs.Word.{all_in_width}
use Rattle.galois.specs.Element.{Element, point, elements, tuples, find}
pub use Rattle.polynomial.specs.Polynomial.{Polynomial}
unfoldable pub use Rattle.polynomial.specs.Polynomial.{value}
use Rattle.comparison.specs.Comparison.{compared, unequal, position_of}

-- A share as it stands under a holder. Its words are plain numbers: one of 2^k or more differs from every value.
pub record Share : Type 0 where
  pub holder : ℕ
  pub words : Element

-- a share compared with a polynomial's value at its holder's point
unfoldable pub comparison : ℕ → ℕ → Polynomial → Share → Option ℕ
unfolding value point compared
comparison k d p s = compared s.words (value k d p (point d s.holder))

-- "A share differs from a polynomial if any of its words differs from the word in the same place of the polynomial's value at its holder's point."
unfoldable pub differs : ℕ → ℕ → Polynomial → Share → Bool
unfolding comparison
differs k d p s = unequal (comparison k d p s)

abbrev pub when : Bool → ℕ → ℕ
when b n = cond b n 0

-- how many of the shares differ
unfoldable pub errors : ℕ → ℕ → Polynomial → List Share → ℕ
unfolding differs
errors k d p [] = 0
errors k d p (s ∷ ss) = when (differs k d p s) 1 + errors k d p ss

-- "The wrong holders are a set held as a 64-bit number, bit i − 1 for holder i"
unfoldable pub error_set : ℕ → ℕ → Polynomial → List Share → ℕ
unfolding differs
error_set k d p [] = 0
error_set k d p (s ∷ ss) = when (differs k d p s) (2 ^ (s.holder - 1)) + error_set k d p ss

-- holder i's share compared: none where it has no share, "A missing holder neither differs nor agrees."
unfoldable pub comparison_of : ℕ → ℕ → Polynomial → List Share → ℕ → Option ℕ
unfolding comparison
comparison_of k d p [] i = None
comparison_of k d p (s ∷ ss) i = cond (eqb s.holder i) (comparison k d p s) (comparison_of k d p ss i)

-- the positions of n holders from i on
unfoldable pub positions_from : ℕ → ℕ → Polynomial → List Share → ℕ → ℕ → List ℕ
unfolding comparison_of
positions_from k d p ss i zero = []
positions_from k d p ss i (suc n) = position_of (comparison_of k d p ss i) ∷ positions_from k d p ss (suc i) n

-- "Openings keep this for each wrong holder" (paper 02, K4): 64 numbers, entry i − 1 for holder i
unfoldable pub positions : ℕ → ℕ → Polynomial → List Share → List ℕ
unfolding positions_from
positions k d p ss = positions_from k d p ss 1 64

-- "a share with a word of 2^k or more" (paper 02, K1): it "counts as present and as differing from every polynomial", by the words as they stand
unfoldable pub wide : ℕ → Share → Bool
unfolding all_in_width
wide k s = not (all_in_width k s.words)

-- the set of the holders of such shares
unfoldable pub wide_set : ℕ → List Share → ℕ
unfolding wide
wide_set k [] = 0
wide_set k (s ∷ ss) = when (wide k s) (2 ^ (s.holder - 1)) + wide_set k ss

-- all polynomials of degree at most t
unfoldable pub polynomials : ℕ → ℕ → ℕ → List Polynomial
unfolding elements tuples
polynomials k d t = tuples (elements k d) (suc t)

-- the polynomial of degree at most t that differs from e shares or fewer
unfoldable pub codeword : ℕ → ℕ → ℕ → ℕ → List Share → Perhaps Polynomial
unfolding polynomials find errors
codeword k d t e ss = find (λ p. leb (errors k d p ss) e) (polynomials k d t)
