-- The text of a place, by what the code has of its opening: why it does not open (`export-kept`), or the text of its words (`export-opened`).
-- Assumes nothing.
use mathlib.Core.Path.{◌≡◌, refl, sym, ap, ap₂, ◌∙◌}
use mathlib.Core.List.{List, []}
use Prim.Native.Nat.{ℕ, zero, suc}
use lib.ListN.{take, get_or}
use Rattle.polynomial.specs.Rows.{Rows, Shaped}
use Rattle.codewords.specs.Opening.{opening_in, wrong_of}
use Rattle.records.specs.declared.Heading.{Heading}
use Rattle.bundle.specs.Bundle.{num_of, job_at, bundle_heading}
use Rattle.archive.specs.Archive.{shares_at, place_opening}
use Rattle.text.specs.Text.{kept_line}
use Rattle.labelled.specs.JobText.{text_of}
use Rattle.listing.proofs.Lines.{opened, first-row}
use Rattle.exporting.specs.Export.{export_by, export_at}

module _ (bs : List ℕ) (p : ℕ) (h : Heading) (e : h ≡ bundle_heading bs) (number : ℕ) (n : number ≡ num_of bs (job_at bs 0 p)) (c w : ℕ) (rows : Rows)
    (i : opening_in h.params.d h.params.t c rows ≡ place_opening bs p)
    (u : w ≡ wrong_of h.params.k h.params.d (shares_at bs p) (place_opening bs p)) where
  export-by : export_at bs p ≡ export_by h.params number (place_opening bs p)
  unfolding export_at
  export-by = ap₂ (λ (x : Heading) (m : ℕ). export_by x.params m (place_opening bs p)) (sym e) (sym n)

  pub export-kept : (c ≡ 0 → ⊥) → export_at bs p ≡ kept_line number c
  export-kept z = export-by ∙ ap (export_by h.params number) (sym i) ∙ go c z
    where
      go : (c : ℕ) → (c ≡ 0 → ⊥) → export_by h.params number (opening_in h.params.d h.params.t c rows) ≡ kept_line number c
      go zero z = absurd (z refl)
      go (suc c) z = refl

  pub export-opened : c ≡ 0 → Shaped rows → export_at bs p ≡ text_of h.params.k number (take h.params.d (get_or rows 0 []))
  export-opened z s =
      export-by
      ∙ ap (export_by h.params number) (opened bs p h e number n c w rows i u z s)
      ∙ ap (text_of h.params.k number) (sym (first-row bs p h e number n c w rows i u z s))
