-- What the theorems on openings through a desk speak of, by what the call returned. Assumes nothing.
use Rattle.std.specs.Prelude.{ℕ, ◌+◌, ◌≤◌, ◌<◌, ◌≡◌, List, [], ◌∷◌, ◌↔◌, length, get_or}
use Rattle.words.specs.Refusal.{DESK_CLOSED}
use Rattle.codewords.specs.Demand.{Outputs, Returned, Tells}
use Rattle.bundle.specs.Bundle.{params_of, allowance_of}
use Rattle.archive.specs.Archive.{shares_at}
use Rattle.archive.specs.Clear.{PlaceClear}
use Rattle.desk.specs.Desk.{largest_allowance}
use Rattle.desk.specs.Lent.{lent_opening, record_into}

-- a record of two words with a Q of at most 1,000
pub record InRange (r : List ℕ) : Type 0 where
  pub two : length r ≡ 2
  pub allowance : get_or r 0 0 ≤ largest_allowance

-- it lets openings through: "A closed desk opens nothing"
pub record Open (r : List ℕ) : Type 0 where
  pub range : InRange r
  pub below : get_or r 1 0 < get_or r 0 0

-- none of the refusals ahead of 5 applies
pub record DeskClear (r bs : List ℕ) (p n w l : ℕ) : Type 0 where
  pub desk : Open r
  pub place : PlaceClear bs p n w l

-- the contract of `open_lent`: lent the record r, on the bundle bs and the place p, with the outputs old, it returned the number x and left the
-- outputs new and the record after
pub record DeskReturned (r bs : List ℕ) (p : ℕ) (old : Outputs) (x : ℕ) (new : Outputs) (after : List ℕ) : Type 0 where
  pub opening : Returned (params_of bs) (shares_at bs p) (lent_opening r bs p (length old.job) (length old.wrong) (length old.lowest)) old x new
  pub left : after ≡ record_into r (lent_opening r bs p (length old.job) (length old.wrong) (length old.lowest))

-- demand 3 of it: "exact opening speaks of the openings it lets through, and holds for them unchanged"
abbrev pub DeskTells : List ℕ → List ℕ → ℕ → Outputs → ℕ → Outputs → Type 0
DeskTells r bs p old =
    Tells (params_of bs) (allowance_of bs) (shares_at bs p) (DeskClear r bs p (length old.job) (length old.wrong) (length old.lowest)) old

-- what it tells of the desk: 10 "when the count is Q or more, after 9 and before 5"; "Only an opening that gives words adds one."
pub record TellsDesk (r bs : List ℕ) (p n w l x : ℕ) (after : List ℕ) : Type 0 where
  pub closed : (x ≡ DESK_CLOSED) ↔ (InRange r × PlaceClear bs p n w l × (get_or r 0 0 ≤ get_or r 1 0))
  pub counted : x ≡ 0 → after ≡ get_or r 0 0 ∷ (get_or r 1 0 + 1) ∷ []
  pub kept : (x ≡ 0 → ⊥) → after ≡ r
