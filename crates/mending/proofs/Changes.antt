-- The lines of a place in the report, by the number, the fault and the set that the code has of it (`changes-kept`, `changes-opened`); and they fit
-- into the room for them (`changes-fit`). Assumes nothing.
use mathlib.Core.Path.{◌≡◌, refl, sym, ap, ap₂, ◌∙◌}
use Prim.Native.Nat.{ℕ, ◌≤◌}
use native.Mathlib.Omega.{arith}
use mathlib.Core.List.{List}
use mathlib.Core.Logic.{inl, inr}
use lib.ListN.{length}
use Rattle.records.specs.Num.{Bytes}
use Rattle.records.specs.declared.Heading.{Heading}
use Rattle.codewords.specs.Codeword.{error_set}
use Rattle.codewords.specs.Opening.{Opening, declines, opens, fault_of, wrong_of, JobState}
use Rattle.bundle.specs.Bundle.{num_of, job_at, params_of, bundle_heading}
use Rattle.archive.specs.Archive.{shares_at, place_opening}
use Rattle.archive.proofs.Opens.{place-states}
use Rattle.text.specs.Text.{holders, report_room, changed_lines, kept_line}
use Rattle.text.proofs.Lines.{changes-length, kept-length}
use Rattle.listing.proofs.Fits.{place-le, num-lt}
use Rattle.mending.specs.Report.{changes_by, changes_at}

module _ (bs : List ℕ) (p : ℕ) where
  abbrev number_at : ℕ
  number_at = num_of bs (job_at bs 0 p)

  module _ (n c : ℕ) (number : n ≡ number_at) (fault : c ≡ fault_of (place_opening bs p)) where
    pub changes-kept : (c ≡ 0 → ⊥) → changes_at bs p ≡ kept_line n c
    unfolding changes_at
    changes-kept z = go (place_opening bs p) (λ e. z (fault ∙ e)) ∙ sym (ap₂ kept_line number fault)
      where
        go : (o : Opening) → (fault_of o ≡ 0 → ⊥) → changes_by (params_of bs) (shares_at bs p) number_at o ≡ kept_line number_at (fault_of o)
        go (declines c) z = refl
        go (opens q) z = absurd (z refl)

    -- no place is declined with 0
    pub changes-opened : (h : Heading) (w : ℕ) → h ≡ bundle_heading bs
        → w ≡ wrong_of h.params.k h.params.d (shares_at bs p) (place_opening bs p) → c ≡ 0 → changes_at bs p ≡ changed_lines n (holders w)
    unfolding changes_at
    changes-opened h w e wrong z =
        let a = ap (λ (h : Heading). wrong_of h.params.k h.params.d (shares_at bs p) (place_opening bs p)) e in
        go (place_opening bs p) (place-states bs p) (sym fault ∙ z) ∙ sym (ap₂ (λ (n w : ℕ). changed_lines n (holders w)) number (wrong ∙ a))
      where
        go : (o : Opening) → JobState o → fault_of o ≡ 0 →
            changes_by (params_of bs) (shares_at bs p) number_at o
            ≡ changed_lines number_at (holders (wrong_of (params_of bs).k (params_of bs).d (shares_at bs p) o))
        go o (inl (q, e)) z = rw e
        go o (inr (inl e)) z = absurd (let f : 5 ≡ 0 = sym (ap fault_of e) ∙ z in omega arith)
        go o (inr (inr e)) z = absurd (let f : 6 ≡ 0 = sym (ap fault_of e) ∙ z in omega arith)

  pub changes-fit : Bytes bs → length (changes_at bs p) ≤ report_room
  unfolding changes_at
  changes-fit b = go (place_opening bs p) (place-le bs p)
    where
      go : (o : Opening) → fault_of o ≤ 9 → length (changes_by (params_of bs) (shares_at bs p) number_at o) ≤ report_room
      go (declines c) l = kept-length number_at c (num-lt bs (job_at bs 0 p) b) (omega arith)
      go (opens q) l =
          changes-length number_at (error_set (params_of bs).k (params_of bs).d q (shares_at bs p)) (num-lt bs (job_at bs 0 p) b)
