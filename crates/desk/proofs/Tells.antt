-- Openings through a desk, by what the call returned: one that it lets through is an opening without it (`desk-place`), so that demand 3 holds of it
-- (`desk-tells`); 10 exactly where the desk is closed, and what is counted (`tells-desk`). Assumes nothing.
use mathlib.Core.Path.{◌≡◌, refl, sym, ap, ◌∙◌, subst}
use mathlib.Core.Bool.{true}
use mathlib.Core.Logic.{inl, inr}
use mathlib.Core.List.{List}
use Prim.Native.Nat.{ℕ, zero, suc, ◌≤◌}
use native.Mathlib.Omega.{arith}
use native.Mathlib.Decide.{dec_le}
use lib.ListN.{length, get_or}
use Rattle.words.specs.Faults.{length_fault}
use Rattle.words.specs.Refusal.{first, LENGTH, OUT_OF_RANGE, DESK_CLOSED}
use Rattle.words.proofs.Faults.{clear-length, length-clear}
use Rattle.words.proofs.Refusals.{first-left, first-right, first-none, first_holds, unless_holds, kept-none, kept-some}
use Rattle.codewords.specs.Demand.{Outputs, Returned}
use Rattle.codewords.specs.Opening.{fault_of, unless_fault, JobState}
use Rattle.codewords.proofs.Tells.{other, Ahead, tells}
use Rattle.bundle.specs.Bundle.{bundle_heading, params_of, allowance_of}
use Rattle.fetch.specs.Fetch.{place_fault}
use Rattle.archive.specs.Archive.{shares_at, opening_fault, place_opening, open_place}
use Rattle.archive.specs.Clear.{PlaceClear, PlaceReturned}
use Rattle.archive.proofs.Ahead.{opening-holds}
use Rattle.archive.proofs.Opens.{place-ahead, place-states}
use Rattle.desk.specs.Desk.{allowance_fault, closed_fault, desk_fault, desk_opening}
use Rattle.desk.specs.Lent.{lent_opening}
use Rattle.desk.specs.Clear.{InRange, Open, DeskClear, DeskReturned, DeskTells, TellsDesk}
use Rattle.desk.proofs.Laws.{allowance-fits, fits-allowance, closed-below, below-closed, closed-full, desk-fits, desk-open, desk-passes}
use Rattle.desk.proofs.Laws.{lent-opens, lent-proper, record-kept}

module _ (r bs : List ℕ) (p n w l : ℕ) where
  -- all that is refused ahead of 5
  abbrev fault : ℕ
  fault = first (length_fault 2 (length r)) (desk_fault (get_or r 0 0) (get_or r 1 0) (opening_fault bs n w l (place_fault (bundle_heading bs) p)))

  lent_is : lent_opening r bs p n w l ≡ unless_fault fault (place_opening bs p)
  unfolding lent_opening desk_opening first
  lent_is = go (length_fault 2 (length r)) _
    where
      go : (a b : ℕ) → unless_fault a (unless_fault b (place_opening bs p)) ≡ unless_fault (first a b) (place_opening bs p)
      go zero b = refl
      go (suc a) b = refl

  fault-clear : fault ≡ 0 → DeskClear r bs p n w l
  unfolding desk_fault
  fault-clear e =
      let d = first-right (length_fault 2 (length r)) _ e in
      let a = first-right (allowance_fault (get_or r 0 0)) _ d in
      record {
        desk = record {
          range = record {
            two = length-clear 2 (length r) (first-left (length_fault 2 (length r)) _ e);
            allowance = fits-allowance (get_or r 0 0) (first-left (allowance_fault (get_or r 0 0)) _ d);
          };
          below = below-closed (get_or r 0 0) (get_or r 1 0) (first-right (opening_fault bs n w l (place_fault (bundle_heading bs) p)) _ a);
        };
        place = (place-ahead bs p n w l).clear (first-left (opening_fault bs n w l (place_fault (bundle_heading bs) p)) _ a);
      }

  clear-fault : DeskClear r bs p n w l → fault ≡ 0
  clear-fault c =
      first-none (length_fault 2 (length r)) _ (clear-length 2 (length r) c.desk.range.two)
      ∙ desk-open (get_or r 0 0) (get_or r 1 0) _ c.desk.range.allowance c.desk.below
      ∙ (place-ahead bs p n w l).none c.place

  -- neither 5 nor 6
  desk-ahead : Ahead (params_of bs) (shares_at bs p) (DeskClear r bs p n w l) fault
  unfolding desk_fault allowance_fault closed_fault length_fault
  desk-ahead =
      record {
        clear = fault-clear;
        none = clear-fault;
        apart =
            let P : ℕ → Type 0 = λ x. other x ≡ true in
            first_holds P _ _ (unless_holds P refl _ 2 refl)
            (first_holds P _ _ (unless_holds P refl _ 1 refl)
            (first_holds P _ _ (place-ahead bs p n w l).apart (unless_holds P refl _ 10 refl)));
        params = λ c. (place-ahead bs p n w l).params c.place;
        holders = λ c. (place-ahead bs p n w l).holders c.place;
      }

  -- an opening that gives words was let through
  pub lent-open : fault_of (lent_opening r bs p n w l) ≡ 0 → Open r
  lent-open e = (fault-clear (go fault (ap fault_of (sym lent_is) ∙ e))).desk
    where
      go : (f : ℕ) → fault_of (unless_fault f (place_opening bs p)) ≡ 0 → f ≡ 0
      go zero e = refl
      go (suc f) e = e

  -- one that is let through is an opening without a desk, whatever that gives
  pub desk-place : Open r → lent_opening r bs p n w l ≡ open_place bs p n w l
  desk-place o =
      lent-opens r bs p n w l o.range.two ∙ desk-passes (get_or r 0 0) (get_or r 1 0) bs p n w l o.range.allowance o.below

  -- 10: no other refusal has this number
  abbrev NotClosed : ℕ → Type 0
  NotClosed x = x ≡ DESK_CLOSED → ⊥

  past : (a b : ℕ) → NotClosed a → first a b ≡ DESK_CLOSED → (a ≡ 0) × (b ≡ DESK_CLOSED)
  unfolding first
  past zero b y e = (refl, e)
  past (suc a) b y e = absurd (y e)

  ahead-other : NotClosed (opening_fault bs n w l (place_fault (bundle_heading bs) p))
  unfolding place_fault
  ahead-other =
      let P : ℕ → Type 0 = NotClosed in
      opening-holds P (λ e. omega (arith, e)) (λ e. omega (arith, e)) (λ e. omega (arith, e)) (λ e. omega (arith, e)) (λ e. omega (arith, e))
      (λ e. omega (arith, e)) bs n w l _ (unless_holds P (λ e. omega (arith, e)) _ OUT_OF_RANGE (λ e. omega (arith, e)))

  number-closed : fault_of (lent_opening r bs p n w l) ≡ DESK_CLOSED → fault ≡ DESK_CLOSED
  number-closed e = go fault (place-states bs p) (ap fault_of (sym lent_is) ∙ e)
    where
      go : (f : ℕ) → JobState (place_opening bs p) → fault_of (unless_fault f (place_opening bs p)) ≡ DESK_CLOSED → f ≡ DESK_CLOSED
      go (suc f) s e = e
      go zero (inl x) e = absurd (let z : 0 ≡ DESK_CLOSED = sym (ap fault_of x.1) ∙ e in omega (arith, z))
      go zero (inr (inl x)) e = absurd (let z : 5 ≡ DESK_CLOSED = sym (ap fault_of x) ∙ e in omega (arith, z))
      go zero (inr (inr x)) e = absurd (let z : 6 ≡ DESK_CLOSED = sym (ap fault_of x) ∙ e in omega (arith, z))

  closed-when : fault ≡ DESK_CLOSED → InRange r × PlaceClear bs p n w l × (get_or r 0 0 ≤ get_or r 1 0)
  unfolding desk_fault length_fault allowance_fault
  closed-when e =
      let P : ℕ → Type 0 = NotClosed in
      let a = past (length_fault 2 (length r)) _ (unless_holds P (λ e. omega (arith, e)) _ LENGTH (λ e. omega (arith, e))) e in
      let b = past (allowance_fault (get_or r 0 0)) _ (unless_holds P (λ e. omega (arith, e)) _ 1 (λ e. omega (arith, e))) a.1 in
      let c = past (opening_fault bs n w l (place_fault (bundle_heading bs) p)) _ ahead-other b.1 in (
        record { two = length-clear 2 (length r) a.0; allowance = fits-allowance (get_or r 0 0) b.0 },
        (place-ahead bs p n w l).clear c.0,
        full (dec_le (get_or r 0 0) (get_or r 1 0)) c.1,
      )
    where
      full : Dec (get_or r 0 0 ≤ get_or r 1 0) → closed_fault (get_or r 0 0) (get_or r 1 0) ≡ DESK_CLOSED → get_or r 0 0 ≤ get_or r 1 0
      full (yes h) e = h
      full (no h) e = absurd (let z : 0 ≡ DESK_CLOSED = sym (closed-below (get_or r 0 0) (get_or r 1 0) (omega arith)) ∙ e in omega (arith, z))

  when-closed : InRange r × PlaceClear bs p n w l × (get_or r 0 0 ≤ get_or r 1 0) → fault_of (lent_opening r bs p n w l) ≡ DESK_CLOSED
  when-closed x =
      ap fault_of (lent_is ∙ ap (λ f. unless_fault f (place_opening bs p))
      (first-none (length_fault 2 (length r)) _ (clear-length 2 (length r) x.0.two)
      ∙ desk-fits (get_or r 0 0) (get_or r 1 0) _ (allowance-fits (get_or r 0 0) x.0.allowance)
      ∙ first-none _ _ ((place-ahead bs p n w l).none x.1)
      ∙ closed-full (get_or r 0 0) (get_or r 1 0) x.2))

module _ (r bs : List ℕ) (p : ℕ) (old : Outputs) (x : ℕ) (new : Outputs) (after : List ℕ) (g : DeskReturned r bs p old x new after) where
  -- what a desk that is open lets through has the contract of `open_place`, and so every theorem on it
  pub desk-let : Open r → PlaceReturned bs p old x new
  desk-let o =
      subst (λ y. Returned (params_of bs) (shares_at bs p) y old x new)
      (desk-place r bs p (length old.job) (length old.wrong) (length old.lowest) o) g.opening

  pub desk-tells : DeskTells r bs p old x new
  unfolding place_opening
  desk-tells =
      tells (params_of bs) (allowance_of bs) (shares_at bs p) (desk-ahead r bs p (length old.job) (length old.wrong) (length old.lowest)) old x new
      (subst (λ y. Returned (params_of bs) (shares_at bs p) y old x new)
      (lent_is r bs p (length old.job) (length old.wrong) (length old.lowest)) g.opening)

  pub tells-desk : TellsDesk r bs p (length old.job) (length old.wrong) (length old.lowest) x after
  tells-desk =
      let f = g.opening.fault in
      let o = lent_opening r bs p (length old.job) (length old.wrong) (length old.lowest) in
      let k = record-kept r o (lent-proper r bs p (length old.job) (length old.wrong) (length old.lowest)) in
      record {
        closed = (λ e. closed-when r bs p _ _ _ (number-closed r bs p _ _ _ (sym f ∙ e)), λ y. f ∙ when-closed r bs p _ _ _ y);
        counted = λ e. g.left ∙ k ∙ kept-none (fault_of o) r _ (sym f ∙ e);
        kept = λ y. g.left ∙ k ∙ kept-some (fault_of o) r _ (λ e. y (f ∙ e));
      }
