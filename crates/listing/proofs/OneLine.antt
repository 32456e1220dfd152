-- One line by itself: a bundle that is refused, a refusal of the outputs or the place, and what no refusal tells. v is the bundle's fault, and h the
-- heading of one with none. Assumes nothing.
use mathlib.Core.Path.{◌≡◌, sym, ap, ◌∙◌}
use mathlib.Core.List.{List}
use Prim.Native.Nat.{ℕ, ◌≤◌, ◌<◌}
use lib.Dec.{leb, lit<}
use borrow.Author.Tests.{leb-true}
use Rattle.words.specs.Faults.{length_fault}
use Rattle.words.specs.Refusal.{first, unless, LENGTH}
use Rattle.words.proofs.Faults.{length-clear}
use Rattle.words.proofs.Refusals.{first-left, first-right, first-none, first_some, unless-held}
use Rattle.records.specs.declared.Heading.{Heading}
use Rattle.bundle.specs.Bundle.{bundle_fault, bundle_heading}
use Rattle.fetch.specs.Fetch.{place_fault}
use Rattle.fetch.proofs.Fetch.{place_in}
use Rattle.text.specs.Text.{line_room}
use Rattle.listing.specs.Listing.{line_fault}

module _ (bs : List ℕ) (v : ℕ) (e : v ≡ bundle_fault bs) (p n w : ℕ) where
  pub line_refused : (v ≡ 0 → ⊥) → line_fault bs p n w ≡ v
  unfolding line_fault
  line_refused f = first_some (bundle_fault bs) _ (λ x. f (e ∙ x)) ∙ sym e

  module _ (z : v ≡ 0) (h : Heading) (g : h ≡ bundle_heading bs) (f : ℕ)
      (q : f ≡ first (length_fault 1 w) (first (unless (leb line_room n) LENGTH) (place_fault h p))) where
    pub line-told : line_fault bs p n w ≡ f
    unfolding line_fault
    line-told =
        first-none (bundle_fault bs) _ (sym e ∙ z)
        ∙ sym (q ∙ ap (λ (h : Heading). first (length_fault 1 w) (first (unless (leb line_room n) LENGTH) (place_fault h p))) g)

    -- what no fault tells
    module _ (y : f ≡ 0) where
      past : first (unless (leb line_room n) LENGTH) (place_fault h p) ≡ 0
      past = first-right (length_fault 1 w) _ (sym q ∙ y)

      pub line-size : w ≡ 1
      line-size = length-clear 1 w (first-left (length_fault 1 w) _ (sym q ∙ y))

      pub line-fits : line_room ≤ n
      line-fits = leb-true line_room n (unless-held _ LENGTH (lit< tt) (first-left (unless (leb line_room n) LENGTH) _ past))

      pub line-place : p < h.jobs
      line-place = place_in h p (first-right (unless (leb line_room n) LENGTH) _ past)
