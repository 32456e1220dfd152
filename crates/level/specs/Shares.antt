-- Internal: shares as they are lent to the decoder: holders in one array, words in another, of which the first m count. Assumes nothing.
use Rattle.std.specs.Prelude.{◌≡◌, cond, List, [], ◌∷◌, ◌++◌, map, ℕ, zero, suc, ◌-◌, ◌/◌, ◌%◌, ◌^◌, ◌≤◌, ◌<◌, eqb, length, take, drop, get_or}
use Rattle.std.specs.Int.Bits.{bit_or}
use Rattle.algebra.specs.Shares.{All}
use Rattle.galois.specs.Element.{Element, held}
use Rattle.polynomial.specs.Rows.{Rows}
use Rattle.codewords.specs.Codeword.{Share, Polynomial}
use Rattle.codewords.specs.Residue.{residue}

abbrev pub share : ℕ → Element → Share
share x y = record { holder = x; words = y }

abbrev pub share_at : ℕ → List ℕ → Rows → ℕ → Share
share_at d hs ys i = share (get_or hs i 0) (take d (get_or ys i []))

-- n shares from index i on
unfoldable pub shares_from : ℕ → List ℕ → Rows → ℕ → ℕ → List Share
shares_from d hs ys i zero = []
shares_from d hs ys i (suc n) = share_at d hs ys i ∷ shares_from d hs ys (suc i) n

-- the first m
abbrev pub shares_of : ℕ → ℕ → List ℕ → Rows → List Share
shares_of d m hs ys = shares_from d hs ys 0 m

-- shares of d words
abbrev pub Sized : ℕ → List Share → Type 0
Sized d = All (λ (s : Share). length s.words ≡ d)

-- what a polynomial leaves of shares, in rows of an array: of all after the first n, each in its row, and the other rows of r as they are
abbrev pub residue_row : ℕ → ℕ → Polynomial → Share → List ℕ
residue_row k d p s = held d (residue k d p s)

abbrev pub residue_rows : ℕ → ℕ → Polynomial → ℕ → List Share → Rows → Rows
residue_rows k d p n ss r = take n r ++ map (residue_row k d p) (drop n ss) ++ drop (length ss) r

-- the first m holders are numbers that a set of 64 bits has room for
abbrev pub Numbered : ℕ → List ℕ → Type 0
Numbered m hs = (i : ℕ) → i < m → (1 ≤ get_or hs i 0) × (get_or hs i 0 ≤ 63)

-- the set of the holders, of n from index i on, whose places are in the set w
unfoldable pub holder_set : ℕ → List ℕ → ℕ → ℕ → ℕ
holder_set w hs i zero = 0
holder_set w hs i (suc n) =
    let rest = holder_set w hs (suc i) n in
    cond (eqb (w / 2 ^ i % 2) 1) (bit_or rest (2 ^ (get_or hs i 0 - 1))) rest
