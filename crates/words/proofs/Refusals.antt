-- Laws of first faults. Assumes nothing.
use Rattle.std.proofs.Common.{◌≡◌, ℕ, zero, suc, ◌<◌, ◌≤◌, Bool, true, false, sym, refl, ap, ◌∙◌, not-suc-le-zero, arith}
use native.Mathlib.Decide.{dec_le}
use Rattle.std.proofs.Common.{Result}
use Rattle.std.specs.Result.{IsErrAnd}
use Rattle.std.proofs.lemmas.Result.{err_from_is_err_and}
use Rattle.words.specs.declared.Refusal.{Refusal}
use Rattle.words.specs.declared.Refusal.TheVariants.{Parameters, Length, WideWord, Holder, TooFewShares, NoCodeword, Malformed, Mismatched, OutOfRange, DeskClosed, Text}
use Rattle.words.specs.Refusal.{number_of, fault_in, first, unless, first_of, kept}

-- no fault is the first of two only where neither is
pub first-left : (a b : ℕ) → first a b ≡ 0 → a ≡ 0
unfolding first
first-left zero b e = refl
first-left (suc a) b e = e

pub first-right : (a b : ℕ) → first a b ≡ 0 → b ≡ 0
unfolding first
first-right zero b e = e
first-right (suc a) b e = absurd (omega arith)

pub first-none : (a b : ℕ) → a ≡ 0 → first a b ≡ b
unfolding first
first-none a b e = simp e

pub first_some : (a b : ℕ) → (a ≡ 0 → ⊥) → first a b ≡ a
unfolding first
first_some zero b n = absurd (n refl)
first_some (suc a) b n = refl

-- in groups
pub first-assoc : (a b c : ℕ) → first (first a b) c ≡ first a (first b c)
unfolding first
first-assoc zero b c = refl
first-assoc (suc a) b c = refl

pub first_three : (a b c d : ℕ) → first (first a (first b c)) d ≡ first a (first b (first c d))
first_three a b c d = first-assoc a (first b c) d ∙ ap (first a) (first-assoc b c d)

-- the same fault twice
pub first-twice : (x y : ℕ) → first x (first x y) ≡ first x y
unfolding first
first-twice zero y = refl
first-twice (suc x) y = refl

pub first-same : (x : ℕ) → first x x ≡ x
unfolding first
first-same zero = refl
first-same (suc x) = refl

-- a test with a fault c that is no 0
pub unless-held : (b : Bool) (c : ℕ) → 0 < c → unless b c ≡ 0 → b ≡ true
unfolding unless
unless-held true c h e = refl
unless-held false c h e = absurd (omega arith)

pub unless-yes : (b : Bool) (c : ℕ) → b ≡ true → unless b c ≡ 0
unfolding unless
unless-yes b c e = simp e

pub unless-no : (b : Bool) (c : ℕ) → b ≡ false → unless b c ≡ c
unfolding unless
unless-no b c e = simp e

-- a test that holds is passed over, and one that fails gives its fault
pub pass : (b : Bool) (c r : ℕ) → b ≡ true → first (unless b c) r ≡ r
pass b c r e = first-none (unless b c) r (unless-yes b c e)

pub stop : (b : Bool) (c r : ℕ) → 0 < c → b ≡ false → first (unless b c) r ≡ c
unfolding unless first
stop b zero r h e = absurd (not-suc-le-zero h)
stop b (suc c) r h e = simp e

-- what holds of each of some faults holds of the first of them
module _ (P : ℕ → Type 0) where
  pub first_holds : (a b : ℕ) → P a → P b → P (first a b)
  unfolding first
  first_holds zero b g h = h
  first_holds (suc a) b g h = g

  module _ (none : P 0) where
    pub unless_holds : (b : Bool) (c : ℕ) → P c → P (unless b c)
    unfolding unless
    unless_holds true c h = none
    unless_holds false c h = h

    pub first_of-holds : (f : ℕ → ℕ) (n : ℕ) → ((i : ℕ) → P (f i)) → P (first_of f n)
    unfolding first_of
    first_of-holds f zero h = none
    first_of-holds f (suc n) h = first_holds (first_of f n) (f n) (first_of-holds f n h) (h n)

-- the first of the faults of a range
pub first_of-more : (f : ℕ → ℕ) (n : ℕ) → first_of f n ≡ 0 → first_of f (suc n) ≡ f n
unfolding first_of
first_of-more f n e = first-none (first_of f n) (f n) e

pub first_of-past : (f : ℕ → ℕ) (n k : ℕ) → (first_of f n ≡ 0 → ⊥) → n ≤ k → first_of f k ≡ first_of f n
unfolding first_of
first_of-past f n zero h l = ap (first_of f) (let z : 0 ≡ n = omega arith in z)
first_of-past f n (suc k) h l =
    elim (dec_le n k) [
      | yes m ↦ (let ih : first_of f k ≡ first_of f n = first_of-past f n k h m in
          first_some (first_of f k) (f k) (λ e. h (sym ih ∙ e)) ∙ ih)
      | no m ↦ ap (first_of f) (let z : suc k ≡ n = omega arith in z)
    ]

-- a range whose first fault is at place n
pub first_of-stop : (f : ℕ → ℕ) (n k : ℕ) → first_of f n ≡ 0 → (f n ≡ 0 → ⊥) → n < k → first_of f k ≡ f n
first_of-stop f n k e h l =
    let m : first_of f (suc n) ≡ f n = first_of-more f n e in
    first_of-past f (suc n) k (λ z. h (sym m ∙ z)) l ∙ m

-- a range with no fault, place by place
pub first_of-each : (f : ℕ → ℕ) (n i : ℕ) → first_of f n ≡ 0 → i < n → f i ≡ 0
unfolding first_of
first_of-each f zero i e h = absurd (not-suc-le-zero h)
first_of-each f (suc n) i e h =
    elim (dec_le (suc i) n) [
      | yes m ↦ first_of-each f n i (first-left (first_of f n) (f n) e) m
      | no m ↦ (let z : i ≡ n = omega arith in ap f z ∙ first-right (first_of f n) (f n) e)
    ]

pub first_of-zero : (f : ℕ → ℕ) (n : ℕ) → ((i : ℕ) → i < n → f i ≡ 0) → first_of f n ≡ 0
unfolding first_of
first_of-zero f zero h = refl
first_of-zero f (suc n) h =
    first-none (first_of f n) (f n) (first_of-zero f n (λ i l. h i (omega arith))) ∙ h n (omega arith)

-- what an output holds
pub kept-none : {A : Type 0} (c : ℕ) (old new : A) → c ≡ 0 → kept c old new ≡ new
kept-none c old new e = rw e

pub kept-some : {A : Type 0} (c : ℕ) (old new : A) → (c ≡ 0 → ⊥) → kept c old new ≡ old
kept-some zero old new n = absurd (n refl)
kept-some (suc c) old new n = refl

-- a refusal's number is none of no fault's
pub number-some : (e : Refusal) → number_of e ≡ 0 → ⊥
number-some Parameters h = absurd (omega arith)
number-some Length h = absurd (omega arith)
number-some WideWord h = absurd (omega arith)
number-some Holder h = absurd (omega arith)
number-some TooFewShares h = absurd (omega arith)
number-some NoCodeword h = absurd (omega arith)
number-some Malformed h = absurd (omega arith)
number-some Mismatched h = absurd (omega arith)
number-some OutOfRange h = absurd (omega arith)
number-some DeskClosed h = absurd (omega arith)
number-some Text h = absurd (omega arith)

-- what the exit of a `?` hands out is the refusal that the call gave
pub handed_out : {A : Type 0} (r : Result A Refusal) (e : Refusal) → IsErrAnd r (λ y. y ≡ e) → fault_in r ≡ number_of e
handed_out r e h = let p = err_from_is_err_and r h in rw (p.1, p.2) refl

-- a refusal ends a chain, and a test that holds is passed over
pub first_refused : (e : Refusal) (a b : ℕ) → number_of e ≡ a → number_of e ≡ first a b
first_refused e a b h = h ∙ sym (first_some a b (λ z. number-some e (h ∙ z)))

pub first_passed : (a b : ℕ) → 0 ≡ a → b ≡ first a b
first_passed a b h = sym (first-none a b (sym h))

pub kept_refused : {A : Type 0} (e : Refusal) (f : ℕ) (old new : A) → number_of e ≡ f → old ≡ kept f old new
kept_refused e f old new h = sym (kept-some f old new (λ z. number-some e (h ∙ z)))

pub declines : {A B : Type 0} (r : Result A Refusal) (e : Refusal) (f : ℕ) (old new : B) → IsErrAnd r (λ y. y ≡ e) → number_of e ≡ f → (fault_in r ≡ f) × (old ≡ kept f old new)
declines r e f old new h n = (handed_out r e h ∙ n, kept_refused e f old new n)

pub kept_passed : {A : Type 0} (f : ℕ) (old new : A) → 0 ≡ f → new ≡ kept f old new
kept_passed f old new h = sym (kept-none f old new (sym h))

-- what a chain of tests owes, where each is handed out by `?`
pub ruleset refusals = (handed_out, first_refused, first_passed, kept_refused, kept_passed)
