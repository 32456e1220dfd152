-- What the theorems ask of elements, polynomials and shares, in paper 01's words, "Ring, points, shares". Assumes nothing.
use Rattle.std.specs.Prelude.{ℕ, suc, ◌^◌, ◌≤◌, ◌<◌, ◌≡◌, true, ◌≢◌, List, [], ◌∷◌, length}
use Rattle.words.specs.Word.{all_in_width}
use Rattle.algebra.specs.Shares.{All}
use Rattle.galois.specs.Element.{Element}
use Rattle.codewords.specs.Codeword.{Share, Polynomial}

-- "An element is d words, each 0 to 2^k − 1"
abbrev pub IsElement : ℕ → ℕ → Element → Type 0
IsElement k d a = (length a ≡ d) × (all_in_width k a ≡ true)

-- "A polynomial of degree at most t is t + 1 coefficients, free term first, each an element"
abbrev pub IsPoly : ℕ → ℕ → ℕ → Polynomial → Type 0
IsPoly k d t p = (length p ≡ suc t) × All (IsElement k d) p

-- shares whose words are in width
abbrev pub InWidth : ℕ → ℕ → List Share → Type 0
InWidth k d = All (λ (s : Share). IsElement k d s.words)

-- any two of the holders, the one that comes first first
abbrev pub Pairwise : (ℕ → ℕ → Type 0) → List Share → Type 0
Pairwise R [] = Unit {0}
Pairwise R (s ∷ ss) = All (λ (r : Share). R s.holder r.holder) ss × Pairwise R ss

-- no two shares under one holder; holders in rising order
abbrev pub Different : List Share → Type 0
Different = Pairwise ◌≢◌

abbrev pub Rising : List Share → Type 0
Rising = Pairwise ◌<◌

-- "1 to 2^d − 1", and no two the same
abbrev pub Holders : ℕ → List Share → Type 0
Holders d ss = All (λ (s : Share). (1 ≤ s.holder) × (s.holder < 2 ^ d)) ss × Different ss
