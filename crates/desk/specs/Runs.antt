-- Calls at one desk, one after another, "each lent the record as the call before left it" (paper 02, K5), by the contracts of the calls over two lent
-- words. Assumes nothing.
use Rattle.std.specs.Prelude.{ℕ, zero, suc, ◌+◌, ◌≤◌, ◌≡◌, List, [], ◌∷◌}
use Rattle.words.specs.Refusal.{kept}
use Rattle.codewords.specs.Opening.{fault_of}
use Rattle.desk.specs.Desk.{largest_allowance}
use Rattle.desk.specs.Lent.{lent_opening, record_into, lent_start_fault}

-- a start with q, or the opening of a place of a bundle with outputs of n and of w words and of l bytes
pub data Call : Type 0 where
  starting : (q : ℕ) → Call
  opening : (bs : List ℕ) (p n w l : ℕ) → Call

-- what it returns when it is lent the record r, and the record after it
unfoldable pub number_of : List ℕ → Call → ℕ
unfolding lent_start_fault lent_opening
number_of r (starting q) = lent_start_fault r q
number_of r (opening bs p n w l) = fault_of (lent_opening r bs p n w l)

unfoldable pub after : List ℕ → Call → List ℕ
unfolding lent_start_fault lent_opening
after r (starting q) = kept (lent_start_fault r q) r (q ∷ 0 ∷ [])
after r (opening bs p n w l) = record_into r (lent_opening r bs p n w l)

-- the record after some calls, and each of them with the number that it returned
unfoldable pub record_after : List ℕ → List Call → List ℕ
unfolding after
record_after r [] = r
record_after r (c ∷ cs) = record_after (after r c) cs

unfoldable pub returned : List ℕ → List Call → List (Call × ℕ)
unfolding number_of after
returned r [] = []
returned r (c ∷ cs) = (c, number_of r c) ∷ returned (after r c) cs

-- by what they returned: "the number of openings that gave words since the last start", m before the first of these calls
unfoldable pub given : ℕ → List (Call × ℕ) → ℕ
given m [] = m
given m ((starting q, zero) ∷ l) = given 0 l
given m ((starting q, suc f) ∷ l) = given m l
given m ((opening bs p n w o, zero) ∷ l) = given (m + 1) l
given m ((opening bs p n w o, suc f) ∷ l) = given m l

-- and the Q of the last start, a before the first of these calls: "which is fixed between starts"
unfoldable pub allowed : ℕ → List (Call × ℕ) → ℕ
allowed a [] = a
allowed a ((starting q, zero) ∷ l) = allowed q l
allowed a ((starting q, suc f) ∷ l) = allowed a l
allowed a ((opening bs p n w o, f) ∷ l) = allowed a l

-- "Over any calls after a start [..] the count is the number of openings that gave words since the last start, and never exceeds Q": of the calls cs
-- after a start with q
pub record Counts (r : List ℕ) (q : ℕ) (cs : List Call) : Type 0 where
  pub words : record_after r (starting q ∷ cs) ≡ allowed q (returned (q ∷ 0 ∷ []) cs) ∷ given 0 (returned (q ∷ 0 ∷ []) cs) ∷ []
  pub within : given 0 (returned (q ∷ 0 ∷ []) cs) ≤ allowed q (returned (q ∷ 0 ∷ []) cs)
  pub most : allowed q (returned (q ∷ 0 ∷ []) cs) ≤ largest_allowance
