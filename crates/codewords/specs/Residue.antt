-- Internal: what a polynomial leaves of shares, bit by bit, paper 01: "at each of k levels a decoder over the field treats the lowest bits
-- of what remains". Assumes nothing.
use Rattle.std.specs.Prelude.{ℕ, ◌-◌, ◌/◌, ◌%◌, ◌^◌, ◌≡◌, cond, List, [], ◌∷◌, eqb}
use Rattle.algebra.specs.Shares.{All}
use Rattle.galois.specs.Element.{Element, difference, point}
use Rattle.codewords.specs.Codeword.{Share, Polynomial, value}

-- what remains of a share's words once p's value there is taken off
abbrev pub residue : ℕ → ℕ → Polynomial → Share → Element
residue k d p s = difference k s.words (value k d p (point d s.holder))

-- bit v of each word
unfoldable pub bit_of : ℕ → Element → Element
bit_of v [] = []
bit_of v (w ∷ a) = w / 2 ^ v % 2 ∷ bit_of v a

-- what remains of a share, as a share
abbrev pub left : ℕ → ℕ → Polynomial → Share → Share
left k d p s = record { holder = s.holder; words = residue k d p s }

-- bit v of a share's words, as a share of one bit
abbrev pub bit_share : ℕ → Share → Share
bit_share v s = record { holder = s.holder; words = bit_of v s.words }

-- bit v of what remains of a share
abbrev pub at_bit : ℕ → ℕ → Polynomial → ℕ → Share → Share
at_bit k d p v s = bit_share v (left k d p s)

-- no share differs from p below bit v
abbrev pub AgreeBelow : ℕ → ℕ → Polynomial → ℕ → List Share → Type 0
AgreeBelow k d p v = All (λ (s : Share). All (λ w. w % 2 ^ v ≡ 0) (residue k d p s))

-- "Shares found wrong at one level are dropped at the next": those whose holders are not in the set w stay
unfoldable pub without : ℕ → List Share → List Share
without w [] = []
without w (s ∷ ss) = cond (eqb (w / 2 ^ (s.holder - 1) % 2) 0) (s ∷ without w ss) (without w ss)
