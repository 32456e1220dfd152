-- The line of a place from what the code has of its opening, a number, rows and a set: the words of an opened job are in width, and the line says
-- what the place opens to. Assumes nothing.
use mathlib.Core.Path.{◌≡◌, refl, sym, ap, ap₂, ◌∙◌}
use mathlib.Core.Bool.{true}
use mathlib.Core.List.{List, [], map}
use Prim.Native.Nat.{ℕ, zero, suc, ◌≤◌}
use native.Mathlib.Omega.{arith}
use lib.ListN.{length, take, get_or}
use Rattle.words.specs.Signed.{signed_of}
use Rattle.words.specs.Word.{all_in_width}
use Rattle.polynomial.specs.Rows.{Rows, Shaped, coefs}
use Rattle.codewords.specs.Codeword.{Polynomial, error_set, positions}
use Rattle.codewords.specs.Opening.{opens, wrong_of, opening_in}
use Rattle.codewords.specs.WellFormed.{IsPoly}
use Rattle.codewords.proofs.Opening.{handed, answer-poly}
use Rattle.codewords.proofs.Value.{free-element}
use Rattle.records.specs.declared.Heading.{Heading}
use Rattle.bundle.specs.Bundle.{num_of, job_at, params_of, allowance_of, bundle_heading}
use Rattle.archive.specs.Archive.{shares_at, place_opening}
use Rattle.text.specs.Text.{open_line, declined_line, readings}
use Rattle.listing.specs.Listing.{line_by, line_of}

-- the job of an opened place is an element: d words, in width
pub place-poly : (bs : List ℕ) (p : ℕ) (q : Polynomial) → place_opening bs p ≡ opens q → IsPoly (params_of bs).k (params_of bs).d (params_of bs).t q
unfolding place_opening
place-poly bs p q = answer-poly (params_of bs) (allowance_of bs) (shares_at bs p) q

-- ---- the line of a place of an accepted bundle, by its first heading, the job's number and the opening's parts

module _ (bs : List ℕ) (p : ℕ) (h : Heading) (e : h ≡ bundle_heading bs) (number : ℕ) (n : number ≡ num_of bs (job_at bs 0 p)) (c w : ℕ) (rows : Rows)
    (i : opening_in h.params.d h.params.t c rows ≡ place_opening bs p)
    (u : w ≡ wrong_of h.params.k h.params.d (shares_at bs p) (place_opening bs p)) where
  line-by : line_of bs p ≡ line_by h.params (shares_at bs p) number (place_opening bs p)
  unfolding line_of
  line-by = ap₂ (λ (x : Heading) (m : ℕ). line_by x.params (shares_at bs p) m (place_opening bs p)) (sym e) (sym n)

  -- a place that does not open
  pub declined-line : (c ≡ 0 → ⊥) → line_of bs p ≡ declined_line number c
  declined-line z = line-by ∙ ap (line_by h.params (shares_at bs p) number) (sym i) ∙ go c z
    where
      go : (c : ℕ) → (c ≡ 0 → ⊥) → line_by h.params (shares_at bs p) number (opening_in h.params.d h.params.t c rows) ≡ declined_line number c
      go zero z = absurd (z refl)
      go (suc c) z = refl

  -- one that does: its words are in the first row
  module _ (z : c ≡ 0) (s : Shaped rows) where
    abbrev pub q : Polynomial
    q = coefs h.params.d (suc h.params.t) rows

    pub opened : place_opening bs p ≡ opens q
    opened = sym i ∙ ap (λ (x : ℕ). opening_in h.params.d h.params.t x rows) z

    pub first-row : take h.params.d (get_or rows 0 []) ≡ get_or q 0 []
    first-row =
        (handed h.params.k h.params.d h.params.t (shares_at bs p) 0 rows w (opens q) s refl
        (u ∙ ap (wrong_of h.params.k h.params.d (shares_at bs p)) opened)
        ).secret []

    -- what writing an open line asks for
    pub narrow : all_in_width h.params.k (take h.params.d (get_or rows 0 [])) ≡ true
    narrow =
        ap (all_in_width h.params.k) first-row
        ∙ ap (λ (x : Heading). all_in_width x.params.k (get_or q 0 [])) e
        ∙ (free-element (params_of bs).k (params_of bs).d (params_of bs).t q (place-poly bs p q opened)).1

    -- what finding the positions asks for
    pub set_is : w ≡ error_set h.params.k h.params.d q (shares_at bs p)
    set_is = u ∙ ap (wrong_of h.params.k h.params.d (shares_at bs p)) opened

    pub open-line : (lowest : List ℕ) → lowest ≡ positions h.params.k h.params.d q (shares_at bs p) →
        line_of bs p ≡ open_line number w lowest (readings h.params.k h.params.d (get_or rows 0 []))
    open-line lowest x =
        line-by
        ∙ ap (line_by h.params (shares_at bs p) number) opened
        ∙ ap₂ (λ (y : ℕ) (ws : List ℕ). open_line number y (positions h.params.k h.params.d q (shares_at bs p)) (map (signed_of h.params.k) ws))
        (sym set_is) (sym first-row)
        ∙ ap (λ (l : List ℕ). open_line number w l (readings h.params.k h.params.d (get_or rows 0 []))) (sym x)
