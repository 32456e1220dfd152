-- What shares open to, paper 01, "Ring, points, shares" and "When a call declines": a refusal's number or a polynomial. The job's words, the
-- wrong holders and their positions are functions of it and the shares. Assumes nothing.
use Rattle.std.specs.Prelude.{ℕ, zero, suc, ◌+◌, ◌*◌, ◌≡◌, cond, ◌⊎◌, List, [], ◌∷◌, leb, length, get_or}
use Rattle.std.proofs.Math.Option.{Option, none, some}
use Rattle.words.specs.Refusal.{TOO_FEW_SHARES, NO_CODEWORD}
use Rattle.words.specs.declared.Params.{Params}
use Rattle.polynomial.specs.Rows.{Rows, coefs}
use Rattle.codewords.specs.Codeword.{Share, Polynomial, error_set, positions, codeword}

-- An opening declines with a refusal's number, or gives the polynomial of degree at most t within the error bound.
pub data Opening : Type 0 where
  declines : ℕ → Opening
  opens : Polynomial → Opening

-- "A declining call gives only the number": the number, 0 for none
abbrev pub fault_of : Opening → ℕ
fault_of (declines c) = c
fault_of (opens q) = 0

-- "Outputs keep their old contents", or take the job: "a polynomial whose free term is the job"
abbrev pub secret_into : List ℕ → Opening → List ℕ
secret_into old (declines c) = old
secret_into old (opens q) = get_or q 0 []

-- the wrong holders, those whose shares differ from the polynomial: none where it declines
abbrev pub wrong_of : ℕ → ℕ → List Share → Opening → ℕ
wrong_of k d ss (declines c) = 0
wrong_of k d ss (opens q) = error_set k d q ss

-- an output of one word for them: "Outputs keep their old contents", or take the set
abbrev pub wrong_into : ℕ → ℕ → List Share → List ℕ → Opening → List ℕ
wrong_into k d ss old (declines c) = old
wrong_into k d ss old (opens q) = error_set k d q ss ∷ []

-- an output for their positions, one byte for each of 64 holders
abbrev pub lowest_into : ℕ → ℕ → List Share → List ℕ → Opening → List ℕ
lowest_into k d ss old (declines c) = old
lowest_into k d ss old (opens q) = positions k d q ss

-- how long it is
abbrev pub lowest_room : ℕ
lowest_room = 64

-- a fault ahead of an opening
abbrev pub unless_fault : ℕ → Opening → Opening
unless_fault zero o = o
unless_fault (suc c) o = declines (suc c)

-- 6 is "no polynomial of degree at most t differs from e shares or fewer"
abbrev pub from_codeword : Option Polynomial → Opening
from_codeword none = declines NO_CODEWORD
from_codeword (some q) = opens q

-- the shares present, m of them: 5 is "m is below t + 1 + 2e"
unfoldable pub answer_to : Params → ℕ → List Share → Opening
unfolding codeword
answer_to p e ss =
    cond (leb (p.t + 1 + 2 * e) (length ss)) (from_codeword (codeword p.k p.d p.t e ss)) (declines TOO_FEW_SHARES)

-- "Opening one job no longer gives 3" (paper 02, K1): what is left is a polynomial, 5 or 6
abbrev pub JobState : Opening → Type 0
JobState o = ((q : Polynomial) × (o ≡ opens q)) ⊎ ((o ≡ declines TOO_FEW_SHARES) ⊎ (o ≡ declines NO_CODEWORD))

-- the opening that a number and the rows of a polynomial of degree at most t stand for, as the code has them
abbrev pub opening_in : ℕ → ℕ → ℕ → Rows → Opening
opening_in d t fault rows = unless_fault fault (opens (coefs d (suc t) rows))
