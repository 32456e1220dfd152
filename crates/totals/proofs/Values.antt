-- Lists of the values of a function, and tests that hold at the first n places. Assumes nothing.
use mathlib.Core.Path.{◌≡◌, refl, sym, ap, ap₂, ◌∙◌}
use mathlib.Core.Bool.{Bool, true, ◌&&◌}
use mathlib.Core.List.{List, ◌∷◌, ◌++◌}
use Prim.Native.Nat.{ℕ, zero, suc, ◌+◌, ◌≤◌, ◌<◌}
use native.Mathlib.Nat.{not-suc-le-zero, zero-add}
use native.Mathlib.Numerals.{add-one}
use native.Mathlib.Decide.{dec_le}
use native.Mathlib.Omega.{arith}
use lib.ListN.{length, get_or, set, drop}
use lib.Seq.{paste, paste-zero}
use Rattle.words.proofs.Fill.{fill-next, fill-within}
use Rattle.words.proofs.Tests.{and_left, and_right, and_both}
use Rattle.totals.specs.Values.{values_from, every}

module _ {A : Type 0} where
  pub values-count : (f : ℕ → A) (i n : ℕ) → length (values_from f i n) ≡ n
  unfolding values_from
  values-count f i zero = refl
  values-count f i (suc n) = ap suc (values-count f (suc i) n)

  pub values-at : (f : ℕ → A) (i n j : ℕ) (z : A) → j < n → get_or (values_from f i n) j z ≡ f (i + j)
  unfolding values_from
  values-at f i zero j z h = absurd (not-suc-le-zero h)
  values-at f i (suc n) zero z h = ap f (let e : i ≡ i + 0 = omega arith in e)
  values-at f i (suc n) (suc j) z h =
      values-at f (suc i) n j z (omega arith) ∙ ap f (let e : suc i + j ≡ i + suc j = omega arith in e)

  -- from place 0
  pub value-at : (f : ℕ → A) (n j : ℕ) (z : A) → j < n → get_or (values_from f 0 n) j z ≡ f j
  value-at f n j z h = values-at f 0 n j z h ∙ ap f (let e : 0 + j ≡ j = omega arith in e)

  pub values_same : (f g : ℕ → A) (i n : ℕ) → ((j : ℕ) → i ≤ j → j < i + n → f j ≡ g j) → values_from f i n ≡ values_from g i n
  unfolding values_from
  values_same f g i zero h = refl
  values_same f g i (suc n) h =
      ap₂ ◌∷◌ (h i (omega arith) (omega arith)) (values_same f g (suc i) n (λ j l u. h j (omega arith) (omega arith)))

module _ (t : ℕ → Bool) where
  pub every-each : (n i : ℕ) → every t n ≡ true → i < n → t i ≡ true
  unfolding every
  every-each zero i e h = absurd (not-suc-le-zero h)
  every-each (suc n) i e h =
      elim (dec_le (suc i) n) [
        | yes m ↦ every-each n i (and_left (every t n) (t n) e) m
        | no m ↦ (let z : i ≡ n = omega arith in ap t z ∙ and_right (every t n) (t n) e)
      ]

  pub every-all : (n : ℕ) → ((i : ℕ) → i < n → t i ≡ true) → every t n ≡ true
  unfolding every
  every-all zero h = refl
  every-all (suc n) h = and_both (every t n) (t n) (every-all n (λ i l. h i (omega arith))) (h n (omega arith))

  pub every-none : every t 0 ≡ true
  unfolding every
  every-none = refl

  pub every_more : (n : ℕ) → every t (n + 1) ≡ (every t n && t n)
  unfolding every
  every_more n = rw add-one

-- tests that agree
pub every-same : (t u : ℕ → Bool) (n : ℕ) → ((i : ℕ) → i < n → t i ≡ u i) → every t n ≡ every u n
unfolding every
every-same t u zero h = refl
every-same t u (suc n) h = ap₂ ◌&&◌ (every-same t u n (λ i l. h i (omega arith))) (h n (omega arith))

-- a loop that fills an array, at place i: the first i of the n values stand in it
module _ {A : Type 0} (f : ℕ → A) (n : ℕ) (old : List A) where
  abbrev pub filled : ℕ → List A
  filled i = paste old 0 (values_from f 0 n) i

  pub values-start : old ≡ filled 0
  values-start = sym (paste-zero old 0 (values_from f 0 n))

  pub values-next : (x : List A) (i : ℕ) (v : A) → x ≡ filled i → i < n → n ≤ length old → v ≡ f i → set x i v ≡ filled (i + 1)
  values-next x i v e h l q =
      fill-next old (values_from f 0 n) x i v v e (omega arith) (rw (values-count f 0 n) h) (q ∙ sym (value-at f n i v h))

  pub values-done : (x : List A) (i : ℕ) → x ≡ filled i → i ≡ n → x ≡ values_from f 0 n ++ drop n old
  values-done x i e q = fill-within old (values_from f 0 n) x 0 n (e ∙ rw q) (values-count f 0 n) ∙ rw zero-add
