-- Internal: what the search looks at: the polynomial through t + 1 shares, and the bits of shares. Assumes nothing.
use Rattle.std.specs.Prelude.{◌≡◌, List, [], ◌∷◌, ℕ, suc}
use Rattle.std.specs.Int.Bits.{bit_or}
use Rattle.galois.specs.Element.{Element}
use Rattle.polynomial.specs.Rows.{Rows, coefs}
use Rattle.codewords.specs.Codeword.{Share, errors}
use Rattle.codewords.specs.WellFormed.{IsPoly}

-- the array r holds a polynomial of degree at most t, and no share of ss differs from it
abbrev pub Through : ℕ → ℕ → ℕ → List Share → Rows → Type 0
Through k d t ss r = IsPoly k d t (coefs d (suc t) r) × (errors k d (coefs d (suc t) r) ss ≡ 0)

-- the bits that any word of an element has
unfoldable pub bits_of : Element → ℕ
bits_of [] = 0
bits_of (w ∷ a) = bit_or w (bits_of a)

-- the bits that any word of any share has
unfoldable pub bits_of_all : List Share → ℕ
unfolding bits_of
bits_of_all [] = 0
bits_of_all (s ∷ ss) = bit_or (bits_of_all ss) (bits_of s.words)
