-- The desk, paper 02, K5: what it refuses and in which order, and the record after an opening and after a start. Assumes nothing.
use Rattle.std.specs.Prelude.{ℕ, ◌+◌, List, leb, ltb}
use Rattle.words.specs.Refusal.{first, unless, kept, PARAMETERS, DESK_CLOSED}
use Rattle.codewords.specs.Opening.{Opening, declines, opens, unless_fault}
use Rattle.bundle.specs.Bundle.{bundle_heading}
use Rattle.fetch.specs.Fetch.{place_fault}
use Rattle.archive.specs.Archive.{opening_fault, place_opening}
use Rattle.desk.specs.declared.Desk.{Desk}

-- "an allowance Q, 0 to 1,000"
abbrev pub largest_allowance : ℕ
largest_allowance = 1000

-- "a Q above 1,000 gives 1"
unfoldable pub allowance_fault : ℕ → ℕ
allowance_fault q = unless (leb q largest_allowance) PARAMETERS

-- "10 desk closed, when the count is Q or more"
unfoldable pub closed_fault : ℕ → ℕ → ℕ
closed_fault q c = unless (ltb c q) DESK_CLOSED

-- the refusals ahead of 5, in their order: 1 "before the bundle is read", those of an opening without a desk, and 10 "after 9 and before 5"
unfoldable pub desk_fault : ℕ → ℕ → ℕ → ℕ
unfolding allowance_fault closed_fault
desk_fault q c ahead = first (allowance_fault q) (first ahead (closed_fault q c))

-- opening the job at a place through a desk of allowance q and count c
unfoldable pub desk_opening : ℕ → ℕ → List ℕ → ℕ → ℕ → ℕ → ℕ → Opening
unfolding desk_fault place_opening opening_fault
desk_opening q c bs p n w l = unless_fault (desk_fault q c (opening_fault bs n w l (place_fault (bundle_heading bs) p))) (place_opening bs p)

-- "Only an opening that gives words adds one."
abbrev pub count_after : ℕ → Opening → ℕ
count_after c (declines f) = c
count_after c (opens q) = c + 1

-- "The caller lends the desk record, and an opening changes it in place."
abbrev pub desk_after : Desk → Opening → Desk
desk_after d o = record { allowance = d.allowance; count = count_after d.count o }

-- "The start of a month is given Q, stores it and sets the count to zero; a Q above 1,000 gives 1 there too and starts nothing."
abbrev pub start_after : Desk → ℕ → Desk
start_after d q = record { allowance = kept (allowance_fault q) d.allowance q; count = kept (allowance_fault q) d.count 0 }
