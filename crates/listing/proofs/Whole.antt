-- What is printed for an input (listing_of), by its parts: a refused input has one line; an accepted one has the head line and then the lines of its
-- places. Assumes nothing.
use mathlib.Core.Path.{◌≡◌, refl, ap, ◌∙◌}
use mathlib.Core.List.{List, ◌++◌}
use Prim.Native.Nat.{ℕ, zero, suc, ◌≤◌, ◌<◌}
use borrow.Author.Tests.{le-leb, lt-leb}
use lib.ListN.{length}
use Rattle.words.specs.Refusal.{first, unless}
use Rattle.bundle.specs.Bundle.{bundle_heading, bundle_fault}
use Rattle.text.specs.Text.{head_line, refused_line}
use Rattle.listing.specs.Listing.{lines_from, most_input, input_fault, unless_refused, listing_of}

-- the whole text, by the fault of the input
by-fault : (bs : List ℕ) (f : ℕ) → input_fault bs ≡ f → listing_of bs ≡ unless_refused f (head_line ++ lines_from bs 0 (bundle_heading bs).jobs)
unfolding listing_of
by-fault bs f e = ap (λ (n : ℕ). unless_refused n (head_line ++ lines_from bs 0 (bundle_heading bs).jobs)) e

-- "Input that is too long gives 2 before any record is looked at."
pub too_long : (bs : List ℕ) → most_input < length bs → input_fault bs ≡ 2
unfolding input_fault first unless
too_long bs h = rw (lt-leb (length bs) most_input h)

pub too-long-lists : (bs : List ℕ) → most_input < length bs → listing_of bs ≡ refused_line 2
too-long-lists bs h = by-fault bs 2 (too_long bs h)

-- an input that is not too long has the bundle's fault
pub within : (bs : List ℕ) → length bs ≤ most_input → input_fault bs ≡ bundle_fault bs
unfolding input_fault first unless
within bs h = rw (le-leb (length bs) most_input h)

-- "A declined bundle prints only `refused N`, N being the number."
pub refused-lists : (bs : List ℕ) (n : ℕ) → length bs ≤ most_input → bundle_fault bs ≡ n → (n ≡ 0 → ⊥) → listing_of bs ≡ refused_line n
refused-lists bs zero h e z = absurd (z refl)
refused-lists bs (suc c) h e z = by-fault bs (suc c) (within bs h ∙ e)

-- "The first is `job state wrong words`. Each job has a line"
pub accepted-lists : (bs : List ℕ) → length bs ≤ most_input → bundle_fault bs ≡ 0 → listing_of bs ≡ head_line ++ lines_from bs 0 (bundle_heading bs).jobs
accepted-lists bs h e = by-fault bs 0 (within bs h ∙ e)
