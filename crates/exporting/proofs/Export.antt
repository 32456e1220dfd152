-- What is printed for an input: its pieces joined are the whole text (`export-whole`), after any number of them stands a beginning of it
-- (`export-begin`); an input that is refused prints as in `open` (`too-long-exports`, `refused-exports`), one of a book with another d prints
-- `refused 1` (`other-exports`), and any other one the texts of its places (`accepted-exports`). Assumes nothing.
use mathlib.Core.Path.{◌≡◌, refl, sym, ap, ap₂, ◌∙◌}
use mathlib.Core.List.{List, ◌++◌, append-nil}
use Prim.Native.Nat.{ℕ, zero, suc, ◌-◌, ◌≤◌, ◌<◌}
use native.Mathlib.Omega.{arith}
use borrow.Author.Tests.{eq-eqb, ne_eqb}
use lib.Dec.{eqb}
use lib.ListN.{length}
use Rattle.words.specs.Refusal.{kept, unless}
use Rattle.words.proofs.Refusals.{first-none, first_some, unless-yes, unless-no, kept-none}
use Rattle.bundle.specs.Bundle.{bundle_fault, bundle_heading, params_of}
use Rattle.text.specs.Text.{refused_line}
use Rattle.text.proofs.Runs.{run-rest}
use Rattle.listing.specs.Listing.{most_input, input_fault, unless_refused}
use Rattle.listing.proofs.Whole.{too_long, within}
use Rattle.exporting.specs.Export.{export_at, exports_from, export_fault, export_of, piece_by, export_piece, export_pieces, pieces_from}

-- ---- the pieces, by the fault of the input

pub piece-accepted : (bs : List ℕ) (i : ℕ) → export_fault bs ≡ 0 → export_piece bs i ≡ export_at bs i
unfolding export_piece
piece-accepted bs i z = ap (λ (c : ℕ). piece_by c bs i) z

pub piece-refused : (bs : List ℕ) (i c : ℕ) → export_fault bs ≡ c → (c ≡ 0 → ⊥) → export_piece bs i ≡ refused_line c
unfolding export_piece
piece-refused bs i zero e n = absurd (n refl)
piece-refused bs i (suc c) e n = ap (λ (x : ℕ). piece_by x bs i) e

-- as many as there are places
pub pieces-accepted : (bs : List ℕ) → export_fault bs ≡ 0 → export_pieces bs ≡ (bundle_heading bs).jobs
unfolding export_pieces
pieces-accepted bs z = kept-none (export_fault bs) 1 (bundle_heading bs).jobs z

-- ---- the pieces joined

pieces_are : (bs : List ℕ) (p n : ℕ) → export_fault bs ≡ 0 → pieces_from bs p n ≡ exports_from bs p n
unfolding pieces_from exports_from
pieces_are bs p zero z = refl
pieces_are bs p (suc n) z = ap₂ ◌++◌ (piece-accepted bs p z) (pieces_are bs (suc p) n z)

pub export-whole : (bs : List ℕ) → pieces_from bs 0 (export_pieces bs) ≡ export_of bs
unfolding pieces_from export_piece export_pieces export_of
export-whole bs = go (export_fault bs) refl
  where
    go : (c : ℕ) → export_fault bs ≡ c
        → pieces_from bs 0 (kept c 1 (bundle_heading bs).jobs) ≡ unless_refused c (exports_from bs 0 (bundle_heading bs).jobs)
    go zero e = pieces_are bs 0 (bundle_heading bs).jobs e
    go (suc c) e = append-nil (export_piece bs 0) ∙ ap (λ (c : ℕ). piece_by c bs 0) e

pub export-begin : (bs : List ℕ) (i : ℕ) → i ≤ export_pieces bs → pieces_from bs 0 i ++ pieces_from bs i (export_pieces bs - i) ≡ export_of bs
unfolding pieces_from
export-begin bs i h =
    run-rest (pieces_from bs) (export_piece bs) (λ j. refl) (λ j n. refl) i (export_pieces bs) h ∙ export-whole bs

-- ---- the whole text

by-fault : (bs : List ℕ) (c : ℕ) → export_fault bs ≡ c → export_of bs ≡ unless_refused c (exports_from bs 0 (bundle_heading bs).jobs)
unfolding export_of
by-fault bs c e = ap (λ (n : ℕ). unless_refused n (exports_from bs 0 (bundle_heading bs).jobs)) e

input-faults : (bs : List ℕ) (c : ℕ) → input_fault bs ≡ suc c → export_fault bs ≡ suc c
unfolding export_fault
input-faults bs c e = first_some (input_fault bs) _ (λ (z : input_fault bs ≡ 0). (let q : suc c ≡ 0 = sym e ∙ z in omega arith)) ∙ e

pub too-long-exports : (bs : List ℕ) → most_input < length bs → export_of bs ≡ refused_line 2
too-long-exports bs h = by-fault bs 2 (input-faults bs 1 (too_long bs h))

pub refused-exports : (bs : List ℕ) (n : ℕ) → length bs ≤ most_input → bundle_fault bs ≡ n → (n ≡ 0 → ⊥) → export_of bs ≡ refused_line n
refused-exports bs zero h e z = absurd (z refl)
refused-exports bs (suc c) h e z = by-fault bs (suc c) (input-faults bs c (within bs h ∙ e))

-- an accepted bundle, by its book
by-book : (bs : List ℕ) → length bs ≤ most_input → bundle_fault bs ≡ 0 → export_fault bs ≡ unless (eqb (params_of bs).d 4) 1
unfolding export_fault
by-book bs h e = first-none (input_fault bs) _ (within bs h ∙ e)

pub other-exports : (bs : List ℕ) → length bs ≤ most_input → bundle_fault bs ≡ 0 → ((params_of bs).d ≡ 4 → ⊥) → export_of bs ≡ refused_line 1
other-exports bs h e n =
    by-fault bs 1 (by-book bs h e ∙ unless-no (eqb (params_of bs).d 4) 1 (ne_eqb (params_of bs).d 4 n))

pub accepted-exports : (bs : List ℕ) → length bs ≤ most_input → bundle_fault bs ≡ 0 → (params_of bs).d ≡ 4
    → export_of bs ≡ exports_from bs 0 (bundle_heading bs).jobs
accepted-exports bs h e f = by-fault bs 0 (by-book bs h e ∙ unless-yes (eqb (params_of bs).d 4) 1 (eq-eqb (params_of bs).d 4 f))
