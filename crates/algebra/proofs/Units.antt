-- Multiples, powers and units of a commutative ring; Newton's step and the geometric series; maps of rings. Assumes nothing.
use mathlib.Core.Path.{◌≡◌, refl, sym, ◌∙◌, ap}
use Prim.Native.Nat.{ℕ, zero, suc, ◌+◌, ◌*◌, ◌^◌}
use native.Mathlib.Nat as L
use Rattle.algebra.specs.Ring.{CommRing, Hom, IsUnit}
use Rattle.algebra.proofs.Ring.{ring, differences, differ, cross, add_assoc, add-zero, mul-one, mul-add, add-mul, zero-add, one-mul, mul_comm, zero-of-double, add-sub-left, fn-neg, fn-sub}

module _ (R : CommRing) where
  infixl 65 ◌⊕◌
  infixl 70 ◌⊗◌
  open R use {E, add as ◌⊕◌, mul as ◌⊗◌, neg as ⊖, 𝟘, 𝟙}

  -- a added n times
  unfoldable pub times : ℕ → E → E
  times zero a = 𝟘
  times (suc n) a = times n a ⊕ a

  pub times_zero : (a : E) → times 0 a ≡ 𝟘
  unfolding times
  times_zero a = refl

  pub times-suc : (n : ℕ) (a : E) → times (suc n) a ≡ times n a ⊕ a
  unfolding times
  times-suc n a = refl

  pub times-one : (a : E) → times 1 a ≡ a
  unfolding times
  times-one a = zero-add R a

  -- (no `simp ring` where a clause calls itself: it sorts by terms that read otherwise once the clauses are compiled)
  pub times-mul : (n : ℕ) (a b : E) → times n a ⊗ b ≡ times n (a ⊗ b)
  times-mul zero a b = simp (times_zero, ring)
  times-mul (suc n) a b = simp (times-suc, ← times-mul n a b, add-mul R)

  pub mul-times : (n : ℕ) (a b : E) → a ⊗ times n b ≡ times n (a ⊗ b)
  mul-times zero a b = simp (times_zero, ring)
  mul-times (suc n) a b = simp (times-suc, ← mul-times n a b, mul-add R)

  pub times-add : (n k : ℕ) (a : E) → times (n + k) a ≡ times n a ⊕ times k a
  times-add n zero a = simp (L.add-zero, times_zero, ring)
  times-add n (suc k) a = simp (L.add-suc, times-suc, times-add n k a, add_assoc R)

  pub times-times : (n k : ℕ) (a : E) → times (n * k) a ≡ times n (times k a)
  times-times zero k a = simp (L.zero-mul, times_zero)
  times-times (suc n) k a = simp (L.suc-mul, times-add, times-suc, times-times n k a)

  -- where n is zero, every multiple by n is
  pub times-kills : (n : ℕ) → times n 𝟙 ≡ 𝟘 → (a : E) → times n a ≡ 𝟘
  times-kills n h a = ap (times n) (sym (mul-one R a)) ∙ sym (mul-times n a 𝟙) ∙ rw h (simp ring)

  unfoldable pub pow : E → ℕ → E
  pow a zero = 𝟙
  pow a (suc n) = pow a n ⊗ a

  pub pow-zero : (a : E) → pow a 0 ≡ 𝟙
  unfolding pow
  pow-zero a = refl

  pub pow-suc : (a : E) (n : ℕ) → pow a (suc n) ≡ pow a n ⊗ a
  unfolding pow
  pow-suc a n = refl

  -- a factor n comes out of the powers
  pub pow-times : (n : ℕ) (a : E) (k : ℕ) → pow (times n a) k ≡ times (n ^ k) (pow a k)
  pow-times n a zero = simp (L.pow-zero, pow-zero, times-one)
  pow-times n a (suc k) = simp (pow-suc, pow-times n a k, L.pow-suc, times-times, times-mul, mul-times)

  -- Newton's step: where a x is 1 - e, a (x (1 + e)) is 1 - e², and 1 + e is 2 - a x
  pub newton : (a x e : E) → a ⊗ x ⊕ e ≡ 𝟙 → a ⊗ (x ⊗ (𝟙 ⊕ e)) ⊕ e ⊗ e ≡ 𝟙
  newton a x e h =
      let p : a ⊗ (x ⊗ (𝟙 ⊕ e)) ⊕ e ⊗ e ≡ a ⊗ x ⊕ (a ⊗ x ⊕ e) ⊗ e = simp ring in
      p ∙ rw (h, one-mul R) h

  pub newton-two : (a x e : E) → a ⊗ x ⊕ e ≡ 𝟙 → 𝟙 ⊕ 𝟙 ⊕ ⊖ (a ⊗ x) ≡ 𝟙 ⊕ e
  newton-two a x e h =
      let p : 𝟙 ⊕ (a ⊗ x ⊕ e) ⊕ ⊖ (a ⊗ x) ≡ 𝟙 ⊕ e = differ R _ _ (simp differences (cross R (simp ring))) in
      rw h at p

  -- an inverse modulo n gives one modulo n²
  pub newton-times : (n : ℕ) (a x y : E) → a ⊗ x ⊕ times n y ≡ 𝟙
      → a ⊗ (x ⊗ (𝟙 ⊕ 𝟙 ⊕ ⊖ (a ⊗ x))) ⊕ times (n * n) (y ⊗ y) ≡ 𝟙
  newton-times n a x y h =
      rw (times-times, ← mul-times, ← times-mul, newton-two a x (times n y) h) (newton a x (times n y) h)

  series-step : (a x e y f : E) → a ⊗ x ⊕ e ≡ 𝟙 → a ⊗ y ⊕ f ≡ 𝟙 → a ⊗ (y ⊕ f ⊗ x) ⊕ f ⊗ e ≡ 𝟙
  series-step a x e y f h g =
      let p : a ⊗ (y ⊕ f ⊗ x) ⊕ f ⊗ e ≡ a ⊗ y ⊕ f ⊗ (a ⊗ x ⊕ e) = simp ring in
      p ∙ rw (h, mul-one R) g

  -- the geometric series: where a x is 1 - e, some a y is 1 - e^n
  pub series : (a x e : E) → a ⊗ x ⊕ e ≡ 𝟙 → (n : ℕ) → (y : E) × (a ⊗ y ⊕ pow e n ≡ 𝟙)
  series a x e h zero = (𝟘, simp (pow-zero, ring))
  series a x e h (suc n) =
      let r = series a x e h n in
      (r.0 ⊕ pow e n ⊗ x, rw pow-suc (series-step a x e r.0 (pow e n) h r.1))

  -- where n^k is zero, what is a unit but for a multiple of n is one
  pub unit-lift : (n k : ℕ) → times (n ^ k) 𝟙 ≡ 𝟘 → (a x y : E) → a ⊗ x ⊕ times n y ≡ 𝟙 → IsUnit R a
  unit-lift n k z a x y h =
      let r = series a x (times n y) h k in
      (r.0, mul_comm R r.0 a ∙ rw (pow-times, times-kills (n ^ k) z (pow y k), add-zero R) at r.1)

module _ {R S : CommRing} (f : Hom R S) where
  pub fn-diff : (a b : R.E) → f.fn (R.add a (R.neg b)) ≡ S.add (f.fn a) (S.neg (f.fn b))
  fn-diff a b = f.fn-add a (R.neg b) ∙ rw fn-neg

  -- a map onto S whose kernel is the multiples of n, where n^k is zero: what is sent to a unit is one
  pub unit-of-image : (n k : ℕ) → times R (n ^ k) R.𝟙 ≡ R.𝟘 → ((b : S.E) → (x : R.E) × (f.fn x ≡ b))
      → ((u : R.E) → f.fn u ≡ S.𝟘 → (y : R.E) × (times R n y ≡ u)) → (a : R.E) → IsUnit S (f.fn a) → IsUnit R a
  unit-of-image n k z onto kernel a (b, g) = unit-lift R n k z a x.0 y.0 (rw y.1 (add-sub-left R R.𝟙 (R.mul a x.0)))
    where
      x : (x : R.E) × (f.fn x ≡ b)
      x = onto b

      e : R.E
      e = R.add R.𝟙 (R.neg (R.mul a x.0))

      y : (y : R.E) × (times R n y ≡ e)
      y =
          kernel e
          (fn-sub f R.𝟙 (R.mul a x.0)
          (f.fn-one ∙ sym g ∙ S.mul_comm b (f.fn a) ∙ ap (S.mul (f.fn a)) (sym x.1) ∙ sym (f.fn-mul a x.0)))

-- a map of R-modules from S back to R, where R acts on S by f
pub record Back {R S : CommRing} (f : Hom R S) : Type 0 where
  pub back : S.E → R.E
  pub back-add : (a b : S.E) → back (S.add a b) ≡ R.add (back a) (back b)
  pub back-mul : (c : R.E) (a : S.E) → back (S.mul (f.fn c) a) ≡ R.mul c (back a)

pub back-zero : {R S : CommRing} {f : Hom R S} (g : Back f) → g.back S.𝟘 ≡ R.𝟘
back-zero {R} {S} g = zero-of-double R (g.back S.𝟘) (sym (g.back-add S.𝟘 S.𝟘) ∙ ap g.back (S.add-zero S.𝟘))
