-- The report of an input: its pieces joined are the whole text (`report-whole`), after any number of them stands a beginning of it (`report-begin`);
-- each fits into the room for one (`piece-fits`); an input that is refused prints as in `open` (`too-long-reports`, `refused-reports`), one that is
-- accepted has the lines of its places (`accepted-reports`), and one in which nobody is wrong and every job opens prints nothing (`nothing-reports`).
-- And the output that goes with the pieces (`output-start`, `output-next`, `output-done`). Assumes nothing.
use mathlib.Core.Path.{◌≡◌, refl, sym, ap, ap₂, ◌∙◌}
use Prim.Native.Nat.{ℕ, zero, suc, ◌-◌, ◌≤◌, ◌<◌}
use native.Mathlib.Omega.{arith}
use mathlib.Core.List.{List, [], ◌++◌, append-nil}
use lib.ListN.{length}
use Rattle.words.specs.Refusal.{kept}
use Rattle.words.proofs.Refusals.{kept-none, kept-some}
use Rattle.records.specs.Num.{Bytes}
use Rattle.codewords.specs.Opening.{fault_of}
use Rattle.bundle.specs.Bundle.{num_of, job_at, bundle_fault, bundle_heading}
use Rattle.archive.specs.Archive.{place_opening}
use Rattle.text.specs.Text.{holders_from, holders, refused_line, report_room, changed_lines}
use Rattle.text.proofs.Lines.{refused-length}
use Rattle.text.proofs.Runs.{run-rest, run-empty}
use Rattle.listing.specs.Listing.{most_input, input_fault, unless_refused}
use Rattle.listing.proofs.Whole.{too_long, within}
use Rattle.listing.proofs.Input.{fault-none}
use Rattle.listing.proofs.Fits.{input-le}
use Rattle.mending.specs.Mended.{wrong_at, mended}
use Rattle.mending.specs.Progress.{mended_to, output_at}
use Rattle.mending.specs.Report.{changes_at, changes_from, report_of, piece_by, report_piece, report_pieces, pieces_from}
use Rattle.mending.proofs.Mended.{mended-start, mended-done}
use Rattle.mending.proofs.Changes.{changes-opened, changes-fit}

-- ---- the pieces, by the fault of the input

pub piece-accepted : (bs : List ℕ) (i : ℕ) → input_fault bs ≡ 0 → report_piece bs i ≡ changes_at bs i
unfolding report_piece
piece-accepted bs i z = ap (λ (c : ℕ). piece_by c bs i) z

pub piece-refused : (bs : List ℕ) (i : ℕ) → (input_fault bs ≡ 0 → ⊥) → report_piece bs i ≡ refused_line (input_fault bs)
unfolding report_piece
piece-refused bs i n = go (input_fault bs) n
  where
    go : (c : ℕ) → (c ≡ 0 → ⊥) → piece_by c bs i ≡ refused_line c
    go zero n = absurd (n refl)
    go (suc c) n = refl

-- as many as there are places
pub pieces-accepted : (bs : List ℕ) → input_fault bs ≡ 0 → report_pieces bs ≡ (bundle_heading bs).jobs
unfolding report_pieces
pieces-accepted bs z = kept-none (input_fault bs) 1 (bundle_heading bs).jobs z

pub piece-fits : (bs : List ℕ) → Bytes bs → (i : ℕ) → length (report_piece bs i) ≤ report_room
unfolding report_piece
piece-fits bs b i = go (input_fault bs) (input-le bs)
  where
    go : (c : ℕ) → c ≤ 9 → length (piece_by c bs i) ≤ report_room
    go zero l = changes-fit bs i b
    go (suc c) l = omega (arith, refused-length (suc c) (omega arith))

-- ---- the pieces joined

-- of an input that is accepted they are the lines of its places
pieces_are : (bs : List ℕ) (p n : ℕ) → input_fault bs ≡ 0 → pieces_from bs p n ≡ changes_from bs p n
unfolding pieces_from changes_from
pieces_are bs p zero z = refl
pieces_are bs p (suc n) z = ap₂ ◌++◌ (piece-accepted bs p z) (pieces_are bs (suc p) n z)

pub report-whole : (bs : List ℕ) → pieces_from bs 0 (report_pieces bs) ≡ report_of bs
unfolding pieces_from report_piece report_pieces report_of
report-whole bs = go (input_fault bs) refl
  where
    go : (c : ℕ) → input_fault bs ≡ c
        → pieces_from bs 0 (kept c 1 (bundle_heading bs).jobs) ≡ unless_refused c (changes_from bs 0 (bundle_heading bs).jobs)
    go zero e = pieces_are bs 0 (bundle_heading bs).jobs e
    go (suc c) e = append-nil (report_piece bs 0) ∙ ap (λ (c : ℕ). piece_by c bs 0) e

pub report-begin : (bs : List ℕ) (i : ℕ) → i ≤ report_pieces bs → pieces_from bs 0 i ++ pieces_from bs i (report_pieces bs - i) ≡ report_of bs
unfolding pieces_from
report-begin bs i h =
    run-rest (pieces_from bs) (report_piece bs) (λ j. refl) (λ j n. refl) i (report_pieces bs) h ∙ report-whole bs

-- ---- the whole text

by-fault : (bs : List ℕ) (c : ℕ) → input_fault bs ≡ c → report_of bs ≡ unless_refused c (changes_from bs 0 (bundle_heading bs).jobs)
unfolding report_of
by-fault bs c e = ap (λ (n : ℕ). unless_refused n (changes_from bs 0 (bundle_heading bs).jobs)) e

pub too-long-reports : (bs : List ℕ) → most_input < length bs → report_of bs ≡ refused_line 2
too-long-reports bs h = by-fault bs 2 (too_long bs h)

pub refused-reports : (bs : List ℕ) (n : ℕ) → length bs ≤ most_input → bundle_fault bs ≡ n → (n ≡ 0 → ⊥) → report_of bs ≡ refused_line n
refused-reports bs zero h e z = absurd (z refl)
refused-reports bs (suc c) h e z = by-fault bs (suc c) (within bs h ∙ e)

pub accepted-reports : (bs : List ℕ) → length bs ≤ most_input → bundle_fault bs ≡ 0 → report_of bs ≡ changes_from bs 0 (bundle_heading bs).jobs
accepted-reports bs h e = by-fault bs 0 (within bs h ∙ e)

pub nothing-reports : (bs : List ℕ) → input_fault bs ≡ 0 →
    ((p : ℕ) → p < (bundle_heading bs).jobs → (fault_of (place_opening bs p) ≡ 0) × (wrong_at bs p ≡ 0)) → report_of bs ≡ []
unfolding changes_from changed_lines holders holders_from
nothing-reports bs z h =
    by-fault bs 0 z ∙ run-empty (changes_from bs) (changes_at bs) (λ i. refl) (λ i n. refl) 0 (bundle_heading bs).jobs (λ p l m. none p (omega arith))
  where
    none : (p : ℕ) → p < (bundle_heading bs).jobs → changes_at bs p ≡ []
    none p l =
        let r = h p l in
        changes-opened bs p (num_of bs (job_at bs 0 p)) 0 refl (sym r.0) (bundle_heading bs) 0 refl (sym r.1) refl

-- ---- the output

pub output-next : (bs : List ℕ) (i : ℕ) → input_fault bs ≡ 0 → output_at bs i ≡ mended_to bs i 0
unfolding output_at
output-next bs i z = kept-none (input_fault bs) bs (mended_to bs i 0) z

pub output-refused : (bs : List ℕ) (i : ℕ) → (input_fault bs ≡ 0 → ⊥) → output_at bs i ≡ bs
unfolding output_at
output-refused bs i n = kept-some (input_fault bs) bs (mended_to bs i 0) n

pub output-start : (bs : List ℕ) → Bytes bs → output_at bs 0 ≡ bs
unfolding output_at
output-start bs b = go (input_fault bs) refl
  where
    go : (c : ℕ) → input_fault bs ≡ c → kept c bs (mended_to bs 0 0) ≡ bs
    go zero e = mended-start bs (fault-none bs e) b
    go (suc c) e = refl

pub output-done : (bs : List ℕ) → Bytes bs → input_fault bs ≡ 0 → output_at bs (report_pieces bs) ≡ mended bs
output-done bs b z =
    output-next bs (report_pieces bs) z
    ∙ ap (λ (n : ℕ). mended_to bs n 0) (pieces-accepted bs z)
    ∙ mended-done bs (fault-none bs z) b
