-- The refusals of a desk one by one, and the record after an opening: by the number of the call, for every opening that has one (`Proper`). Assumes
-- nothing.
use mathlib.Core.Path.{◌≡◌, refl, sym, ap, ◌∙◌}
use mathlib.Core.Logic.{inl, inr}
use mathlib.Core.List.{List, [], ◌∷◌}
use Prim.Native.Nat.{ℕ, zero, suc, ◌+◌, ◌≤◌, ◌<◌}
use native.Mathlib.Omega.{arith}
use lib.Dec.{leb, ltb, eqb}
use lib.ListN.{length, get_or, set}
use borrow.Author.Tests.{lt-ltb, le-ltb, le-leb, lt-leb, ne_eqb, leb-true, ltb-true}
use Rattle.words.specs.Faults.{length_fault}
use Rattle.words.specs.Refusal.{number_of, first, kept, PARAMETERS, LENGTH, DESK_CLOSED}
use Rattle.words.specs.declared.Refusal.{Refusal}
use Rattle.words.proofs.Faults.{clear-length}
use Rattle.words.proofs.Refusals.{first-right, first-none, first_some, kept-none, kept-some, unless-held, unless-yes, unless-no, stop, number-some}
use Rattle.codewords.specs.Opening.{Opening, declines, opens, fault_of, unless_fault, JobState}
use Rattle.codewords.proofs.Opening.{unless-none, unless-some}
use Rattle.bundle.specs.Bundle.{bundle_heading}
use Rattle.fetch.specs.Fetch.{place_fault}
use Rattle.totals.proofs.AddTotals.{first-last}
use Rattle.archive.specs.Archive.{opening_fault, place_opening, open_place}
use Rattle.archive.proofs.Opens.{place-states}
use Rattle.desk.specs.Desk.{largest_allowance, allowance_fault, closed_fault, desk_fault, desk_opening, count_after, desk_after, start_after}
use Rattle.desk.specs.Lent.{record_of, lent_opening, record_into, lent_start_fault}
use Rattle.desk.specs.declared.Desk.{Desk}

-- ---- an allowance, and a count

pub allowance-high : (q : ℕ) → largest_allowance < q → allowance_fault q ≡ PARAMETERS
unfolding allowance_fault
allowance-high q h = unless-no (leb q largest_allowance) PARAMETERS (lt-leb q largest_allowance h)

pub allowance-fits : (q : ℕ) → q ≤ largest_allowance → allowance_fault q ≡ 0
unfolding allowance_fault
allowance-fits q h = unless-yes (leb q largest_allowance) PARAMETERS (le-leb q largest_allowance h)

pub fits-allowance : (q : ℕ) → allowance_fault q ≡ 0 → q ≤ largest_allowance
unfolding allowance_fault
fits-allowance q e = leb-true q largest_allowance (unless-held (leb q largest_allowance) PARAMETERS (omega arith) e)

pub closed-full : (q c : ℕ) → q ≤ c → closed_fault q c ≡ DESK_CLOSED
unfolding closed_fault
closed-full q c h = unless-no (ltb c q) DESK_CLOSED (le-ltb c q h)

pub closed-below : (q c : ℕ) → c < q → closed_fault q c ≡ 0
unfolding closed_fault
closed-below q c h = unless-yes (ltb c q) DESK_CLOSED (lt-ltb c q h)

pub below-closed : (q c : ℕ) → closed_fault q c ≡ 0 → c < q
unfolding closed_fault
below-closed q c e = ltb-true c q (unless-held (ltb c q) DESK_CLOSED (omega arith) e)

-- ---- one step

pub step-shut : (q c f g : ℕ) → g ≡ first f (closed_fault q c) → (g ≡ 0 → ⊥) → c ≡ kept (first f (closed_fault q c)) c (c + 1)
step-shut q c f g e y = sym (kept-some (first f (closed_fault q c)) c (c + 1) (λ x. y (e ∙ x)))

pub step_through : (q c f g : ℕ) → g ≡ first f (closed_fault q c) → g ≡ 0 →
    (c < q) × (0 ≡ first f (closed_fault q c)) × (c + 1 ≡ kept (first f (closed_fault q c)) c (c + 1))
step_through q c f g e z =
    let x = sym e ∙ z in
    (below-closed q c (first-right f (closed_fault q c) x), sym x, sym (kept-none (first f (closed_fault q c)) c (c + 1) x))

-- ---- an opening

-- 1 ahead of all others
pub desk-high : (q c a f : ℕ) → f ≡ allowance_fault q → (f ≡ 0 → ⊥) → desk_fault q c a ≡ f
unfolding desk_fault
desk-high q c a f e y = first_some (allowance_fault q) _ (λ x. y (e ∙ x)) ∙ sym e

pub desk-fits : (q c a : ℕ) → allowance_fault q ≡ 0 → desk_fault q c a ≡ first a (closed_fault q c)
unfolding desk_fault
desk-fits q c a e = first-none (allowance_fault q) _ e

-- a desk that is open refuses nothing of its own
pub desk-open : (q c a : ℕ) → q ≤ largest_allowance → c < q → desk_fault q c a ≡ a
desk-open q c a h l = desk-fits q c a (allowance-fits q h) ∙ ap (first a) (closed-below q c l) ∙ first-last a

module _ (q c : ℕ) (bs : List ℕ) (p n w l : ℕ) where
  -- the refusals of an opening without a desk
  abbrev pub ahead : ℕ
  ahead = opening_fault bs n w l (place_fault (bundle_heading bs) p)

  pub desk-declines : (f : ℕ) → desk_fault q c ahead ≡ f → (f ≡ 0 → ⊥) → desk_opening q c bs p n w l ≡ declines f
  unfolding desk_opening
  desk-declines f e y = unless-some (desk_fault q c ahead) (place_opening bs p) (λ x. y (sym e ∙ x)) ∙ ap declines e

  pub desk-opens : desk_fault q c ahead ≡ 0 → desk_opening q c bs p n w l ≡ place_opening bs p
  unfolding desk_opening
  desk-opens e = unless-none (desk_fault q c ahead) (place_opening bs p) e

  -- what a desk that is open lets through
  pub desk-passes : q ≤ largest_allowance → c < q → desk_opening q c bs p n w l ≡ open_place bs p n w l
  unfolding desk_opening open_place
  desk-passes h b = ap (λ f. unless_fault f (place_opening bs p)) (desk-open q c ahead h b)

-- ---- the record, by the number

-- an opening that declines has a number
abbrev pub Proper : Opening → Type 0
Proper (declines f) = f ≡ 0 → ⊥
Proper (opens q) = Unit {0}

unless-proper : (f : ℕ) (o : Opening) → Proper o → Proper (unless_fault f o)
unless-proper zero o h = h
unless-proper (suc f) o h = λ e. omega (arith, e)

state-proper : (o : Opening) → JobState o → Proper o
state-proper o (inl x) = rw x.1 tt
state-proper o (inr (inl x)) = rw x (λ e. omega (arith, e))
state-proper o (inr (inr x)) = rw x (λ e. omega (arith, e))

pub place-proper : (bs : List ℕ) (p : ℕ) → Proper (place_opening bs p)
place-proper bs p = state-proper (place_opening bs p) (place-states bs p)

pub lent-proper : (r bs : List ℕ) (p n w l : ℕ) → Proper (lent_opening r bs p n w l)
unfolding lent_opening desk_opening
lent-proper r bs p n w l =
    unless-proper (length_fault 2 (length r)) (desk_opening (get_or r 0 0) (get_or r 1 0) bs p n w l)
    (unless-proper (desk_fault (get_or r 0 0) (get_or r 1 0) (opening_fault bs n w l (place_fault (bundle_heading bs) p))) (place_opening bs p)
    (place-proper bs p))

pub count-declined : (c f : ℕ) (o : Opening) → f ≡ fault_of o → (f ≡ 0 → ⊥) → c ≡ count_after c o
count-declined c f (declines g) e y = refl
count-declined c f (opens q) e y = absurd (y e)

pub count-opened : (c f : ℕ) (o : Opening) → Proper o → f ≡ fault_of o → f ≡ 0 → c + 1 ≡ count_after c o
count-opened c f (declines g) h e z = absurd (h (sym e ∙ z))
count-opened c f (opens q) h e z = refl

-- a refusal leaves the count and the record, and words given add one
pub count_refused : (e : Refusal) (c : ℕ) (o : Opening) → number_of e ≡ fault_of o → c ≡ count_after c o
count_refused e c o h = count-declined c (number_of e) o h (number-some e)

pub count_passed : (c : ℕ) (bs : List ℕ) (p : ℕ) → 0 ≡ fault_of (place_opening bs p) → c + 1 ≡ count_after c (place_opening bs p)
count_passed c bs p h = count-opened c 0 (place_opening bs p) (place-proper bs p) h refl

pub record-kept : (r : List ℕ) (o : Opening) → Proper o → record_into r o ≡ kept (fault_of o) r (get_or r 0 0 ∷ (get_or r 1 0 + 1) ∷ [])
record-kept r (declines zero) h = absurd (h refl)
record-kept r (declines (suc f)) h = refl
record-kept r (opens q) h = refl

-- ---- over two lent words

pub lent-opens : (r bs : List ℕ) (p n w l : ℕ) → length r ≡ 2 → lent_opening r bs p n w l ≡ desk_opening (get_or r 0 0) (get_or r 1 0) bs p n w l
unfolding lent_opening
lent-opens r bs p n w l e = unless-none (length_fault 2 (length r)) _ (clear-length 2 (length r) e)

pub lent-declines : (r bs : List ℕ) (p n w l : ℕ) → (length r ≡ 2 → ⊥) → lent_opening r bs p n w l ≡ declines LENGTH
unfolding lent_opening length_fault
lent-declines r bs p n w l y =
    ap (λ f. unless_fault f (desk_opening (get_or r 0 0) (get_or r 1 0) bs p n w l)) (unless-no (eqb (length r) 2) LENGTH (ne_eqb (length r) 2 y))

pub start-length : (r : List ℕ) (q : ℕ) → (length r ≡ 2 → ⊥) → lent_start_fault r q ≡ LENGTH
unfolding lent_start_fault length_fault
start-length r q y = stop (eqb (length r) 2) LENGTH (allowance_fault q) (omega arith) (ne_eqb (length r) 2 y)

pub start-judged : (r : List ℕ) (q : ℕ) → length r ≡ 2 → lent_start_fault r q ≡ allowance_fault q
unfolding lent_start_fault
start-judged r q e = first-none (length_fault 2 (length r)) (allowance_fault q) (clear-length 2 (length r) e)

pub record-set : (r : List ℕ) (o : Opening) → length r ≡ 2 → set r 1 (count_after (get_or r 1 0) o) ≡ record_into r o
record-set (a ∷ c ∷ []) (declines f) h = refl
record-set (a ∷ c ∷ []) (opens q) h = refl
record-set [] o h = absurd (omega (arith, h))
record-set (a ∷ []) o h = absurd (omega (arith, h))
record-set (a ∷ c ∷ x ∷ l) o h = absurd (omega (arith, h))

pub start_set : (r : List ℕ) (q a c : ℕ) → length r ≡ 2 → a ≡ q → c ≡ 0 → set (set r 0 a) 1 c ≡ q ∷ 0 ∷ []
start_set (x ∷ y ∷ []) q a c h e f = rw (e, f) refl
start_set [] q a c h e f = absurd (omega (arith, h))
start_set (x ∷ []) q a c h e f = absurd (omega (arith, h))
start_set (x ∷ y ∷ z ∷ l) q a c h e f = absurd (omega (arith, h))

-- ---- the calls over a lent desk are those over its words

module _ (d : Desk) where
  pub words_open : (bs : List ℕ) (p n w l : ℕ) → lent_opening (record_of d) bs p n w l ≡ desk_opening d.allowance d.count bs p n w l
  words_open bs p n w l = lent-opens (record_of d) bs p n w l refl

  pub words-after : (o : Opening) → record_into (record_of d) o ≡ record_of (desk_after d o)
  words-after (declines f) = refl
  words-after (opens q) = refl

  pub words-start : (q : ℕ) →
      (lent_start_fault (record_of d) q ≡ allowance_fault q)
      × (kept (lent_start_fault (record_of d) q) (record_of d) (q ∷ 0 ∷ []) ≡ record_of (start_after d q))
  words-start q =
      let e = start-judged (record_of d) q refl in
      (e, ap (λ f. kept f (record_of d) (q ∷ 0 ∷ [])) e ∙ go (allowance_fault q))
    where
      go : (f : ℕ) → kept f (record_of d) (q ∷ 0 ∷ []) ≡ kept f d.allowance q ∷ kept f d.count 0 ∷ []
      go zero = refl
      go (suc f) = refl

pub ruleset counted = (count_refused, count_passed)
