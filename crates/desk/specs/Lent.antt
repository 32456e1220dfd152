-- The desk as a record of two lent words, allowance and count, as the exported calls have it. Assumes nothing.
use Rattle.std.specs.Prelude.{ℕ, ◌+◌, List, [], ◌∷◌, length, get_or}
use Rattle.words.specs.Faults.{length_fault}
use Rattle.words.specs.Refusal.{first}
use Rattle.codewords.specs.Opening.{Opening, declines, opens, unless_fault}
use Rattle.desk.specs.Desk.{allowance_fault, desk_opening}
use Rattle.desk.specs.declared.Desk.{Desk}

-- the words of a desk
abbrev pub record_of : Desk → List ℕ
record_of d = d.allowance ∷ d.count ∷ []

-- opening the job at a place: a record of any other length is 2, ahead of all else
unfoldable pub lent_opening : List ℕ → List ℕ → ℕ → ℕ → ℕ → ℕ → Opening
unfolding desk_opening
lent_opening r bs p n w l = unless_fault (length_fault 2 (length r)) (desk_opening (get_or r 0 0) (get_or r 1 0) bs p n w l)

-- the record after it
abbrev pub record_into : List ℕ → Opening → List ℕ
record_into r (declines f) = r
record_into r (opens q) = get_or r 0 0 ∷ (get_or r 1 0 + 1) ∷ []

-- a start
unfoldable pub lent_start_fault : List ℕ → ℕ → ℕ
unfolding allowance_fault
lent_start_fault r q = first (length_fault 2 (length r)) (allowance_fault q)
