-- What accepting an input for its job text tells: as for the listing, and that the book has d 4. Assumes nothing.
use mathlib.Core.Path.{◌≡◌, ap, ◌∙◌}
use mathlib.Core.List.{List}
use Prim.Native.Nat.{ℕ}
use borrow.Author.Tests.{eqb-true}
use lib.Dec.{eqb, lit<}
use Rattle.std.proofs.Common.{Result, Ok}
use Rattle.words.proofs.Refusals.{first-left, first-right, unless-held}
use Rattle.words.specs.declared.Refusal.{Refusal}
use Rattle.records.specs.declared.Heading.{Heading}
use Rattle.bundle.specs.Bundle.{params_of}
use Rattle.bundle.specs.declared.Bundle.{Bundle}
use Rattle.listing.specs.Listing.{input_fault}
use Rattle.listing.specs.Pieces.{Accepts}
use Rattle.listing.proofs.Input.{fault-accepted, heading-accepted}
use Rattle.exporting.specs.Export.{export_fault}

pub input-clear : (bs : List ℕ) → export_fault bs ≡ 0 → input_fault bs ≡ 0
unfolding export_fault
input-clear bs z = first-left (input_fault bs) _ z

pub lens-book : (bs : List ℕ) → export_fault bs ≡ 0 → (params_of bs).d ≡ 4
unfolding export_fault
lens-book bs z = eqb-true (params_of bs).d 4 (unless-held (eqb (params_of bs).d 4) 1 (lit< tt) (first-right (input_fault bs) _ z))

pub export-four : (bs : List ℕ) (r : Result Bundle Refusal) → Accepts r (export_fault bs) bs → (b : Bundle) → r ≡ Ok b → b.heading.params.d ≡ 4
export-four bs r a b x =
    ap (λ (h : Heading). h.params.d) (heading-accepted (export_fault bs) bs r a b x)
    ∙ lens-book bs (fault-accepted (export_fault bs) bs r a b x)
