-- The calls that open: a refusal ahead of the opening declines, and its outputs keep their contents; past it they hold what the opening gives.
-- Which number is ahead of it: a bundle's fault, and then that of the outputs and of the place or the run (`told-refused`, `told`).
-- Assumes nothing.
use mathlib.Core.Path.{◌≡◌, refl, sym, ap, ◌∙◌}
use mathlib.Core.List.{List}
use Prim.Native.Nat.{ℕ}
use Rattle.words.specs.Refusal.{first, number_of}
use Rattle.words.specs.declared.Refusal.{Refusal}
use Rattle.words.proofs.Refusals.{first-none, first_some, number-some}
use Rattle.codewords.specs.Codeword.{Share}
use Rattle.codewords.specs.Opening.{Opening, declines, fault_of, secret_into, wrong_into, lowest_into, unless_fault}
use Rattle.codewords.proofs.Opening.{unless-none, unless-some}
use Rattle.records.specs.declared.Heading.{Heading}
use Rattle.bundle.specs.Bundle.{bundle_fault, bundle_heading}
use Rattle.fetch.specs.Fetch.{place_fault}
use Rattle.archive.specs.Archive.{outputs_fault, opening_fault, place_opening, open_place}

module _ (e : Refusal) (f : ℕ) (o : Opening) (h : number_of e ≡ f) where
  declined : unless_fault f o ≡ declines f
  declined = unless-some f o (λ z. number-some e (h ∙ z))

  pub fault_refused : number_of e ≡ fault_of (unless_fault f o)
  fault_refused = rw declined h

  pub secret_refused : (old : List ℕ) → old ≡ secret_into old (unless_fault f o)
  secret_refused old = rw declined refl

  module _ (k d : ℕ) (ss : List Share) (old : List ℕ) where
    pub wrong_refused : old ≡ wrong_into k d ss old (unless_fault f o)
    wrong_refused = rw declined refl

    pub lowest_refused : old ≡ lowest_into k d ss old (unless_fault f o)
    lowest_refused = rw declined refl

-- none applies
pub opens_on : (f : ℕ) (o : Opening) → 0 ≡ f → unless_fault f o ≡ o
opens_on f o h = unless-none f o (sym h)

module _ (f : ℕ) (o : Opening) (h : 0 ≡ f) where
  pub fault_passed : (v : ℕ) → v ≡ fault_of o → v ≡ fault_of (unless_fault f o)
  fault_passed v q = rw (opens_on f o h) q

  module _ (old new : List ℕ) where
    pub secret_passed : new ≡ secret_into old o → new ≡ secret_into old (unless_fault f o)
    secret_passed q = rw (opens_on f o h) q

    module _ (k d : ℕ) (ss : List Share) where
      pub wrong_passed : new ≡ wrong_into k d ss old o → new ≡ wrong_into k d ss old (unless_fault f o)
      wrong_passed q = rw (opens_on f o h) q

      pub lowest_passed : new ≡ lowest_into k d ss old o → new ≡ lowest_into k d ss old (unless_fault f o)
      lowest_passed q = rw (opens_on f o h) q

-- what such a call owes
pub ruleset opened = (fault_refused, secret_refused, wrong_refused, lowest_refused, fault_passed, secret_passed, wrong_passed, lowest_passed)

-- ---- the number ahead of an opening: v is the bundle's, h the heading of one with none, and c the fault of the place or the run by that heading

module _ (bs : List ℕ) (v : ℕ) (e : v ≡ bundle_fault bs) (n w l : ℕ) (c : Heading → ℕ) where
  pub told-refused : (v ≡ 0 → ⊥) → opening_fault bs n w l (c (bundle_heading bs)) ≡ v
  unfolding opening_fault
  told-refused f = first_some (bundle_fault bs) _ (λ x. f (e ∙ x)) ∙ sym e

  module _ (z : v ≡ 0) (h : Heading) (g : h ≡ bundle_heading bs) (f : ℕ) (q : f ≡ first (outputs_fault h.params.d n w l) (c h)) where
    pub told : opening_fault bs n w l (c (bundle_heading bs)) ≡ f
    unfolding opening_fault
    told =
        first-none (bundle_fault bs) _ (sym e ∙ z)
        ∙ sym (q ∙ ap (λ (h : Heading). first (outputs_fault h.params.d n w l) (c h)) g)

-- the job at a place, by the number ahead of it
module _ (bs : List ℕ) (p n w l f : ℕ) (e : f ≡ opening_fault bs n w l (place_fault (bundle_heading bs) p)) where
  pub place-declines : (f ≡ 0 → ⊥) → open_place bs p n w l ≡ declines f
  unfolding open_place
  place-declines y = unless-some _ (place_opening bs p) (λ x. y (e ∙ x)) ∙ ap declines (sym e)

  pub place-opens : f ≡ 0 → open_place bs p n w l ≡ place_opening bs p
  unfolding open_place
  place-opens z = unless-none _ (place_opening bs p) (sym e ∙ z)
