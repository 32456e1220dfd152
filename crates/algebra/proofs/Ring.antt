-- What follows from the laws of a commutative ring; the rules by which `simp ring` proves identities between sums of products; units.
-- Assumes nothing.
use mathlib.Core.Path.{◌≡◌, sym, ◌∙◌, ap}
use mathlib.Core.Bool.{true, false, true≢false}
use mathlib.Core.Logic.{◌≢◌}
use Rattle.algebra.specs.Ring.{CommRing, DiscreteRing, IsUnit, Hom}

module _ (R : CommRing) where
  infixl 65 ◌⊕◌
  infixl 70 ◌⊗◌
  open R use {E, add as ◌⊕◌, mul as ◌⊗◌, neg as ⊖, 𝟘, 𝟙}

  pub add_assoc : (a b c : E) → a ⊕ b ⊕ c ≡ a ⊕ (b ⊕ c)
  add_assoc = R.add_assoc

  pub add_comm : (a b : E) → a ⊕ b ≡ b ⊕ a
  add_comm = R.add_comm

  pub add_left_comm : (a b c : E) → a ⊕ (b ⊕ c) ≡ b ⊕ (a ⊕ c)
  add_left_comm a b c = sym (add_assoc a b c) ∙ ap (λ x. x ⊕ c) (add_comm a b) ∙ add_assoc b a c

  pub add-zero : (a : E) → a ⊕ 𝟘 ≡ a
  add-zero = R.add-zero

  pub zero-add : (a : E) → 𝟘 ⊕ a ≡ a
  zero-add a = add_comm 𝟘 a ∙ add-zero a

  pub add-neg : (a : E) → a ⊕ ⊖ a ≡ 𝟘
  add-neg = R.add-neg

  pub mul_assoc : (a b c : E) → a ⊗ b ⊗ c ≡ a ⊗ (b ⊗ c)
  mul_assoc = R.mul_assoc

  pub mul_comm : (a b : E) → a ⊗ b ≡ b ⊗ a
  mul_comm = R.mul_comm

  pub mul_left_comm : (a b c : E) → a ⊗ (b ⊗ c) ≡ b ⊗ (a ⊗ c)
  mul_left_comm a b c = sym (mul_assoc a b c) ∙ ap (λ x. x ⊗ c) (mul_comm a b) ∙ mul_assoc b a c

  pub mul-one : (a : E) → a ⊗ 𝟙 ≡ a
  mul-one = R.mul-one

  pub one-mul : (a : E) → 𝟙 ⊗ a ≡ a
  one-mul a = mul_comm 𝟙 a ∙ mul-one a

  pub mul-add : (a b c : E) → a ⊗ (b ⊕ c) ≡ a ⊗ b ⊕ a ⊗ c
  mul-add = R.mul-add

  pub add-mul : (a b c : E) → (a ⊕ b) ⊗ c ≡ a ⊗ c ⊕ b ⊗ c
  add-mul a b c = rw (mul_comm (a ⊕ b) c, mul-add, mul_comm c a, mul_comm c b)

  pub ruleset sums = (add_assoc, add_comm, add_left_comm, add-zero, zero-add)

  -- `b` is what is left of `a ⊕ b` once `a` is taken off
  pub cancel : (a b c : E) → a ⊕ b ≡ a ⊕ c → b ≡ c
  cancel a b c h = sym (off b) ∙ ap (λ x. ⊖ a ⊕ x) h ∙ off c
    where
      off : (x : E) → ⊖ a ⊕ (a ⊕ x) ≡ x
      off x = rw (← add_assoc, add_comm (⊖ a) a, add-neg, zero-add)

  pub mul-zero : (a : E) → a ⊗ 𝟘 ≡ 𝟘
  mul-zero a = cancel (a ⊗ 𝟘) (a ⊗ 𝟘) 𝟘 (sym (mul-add a 𝟘 𝟘) ∙ simp (add-zero))

  pub zero-mul : (a : E) → 𝟘 ⊗ a ≡ 𝟘
  zero-mul a = mul_comm 𝟘 a ∙ mul-zero a

  pub ruleset ring = (sums, mul-add, add-mul, mul_assoc, mul_comm, mul_left_comm, mul-one, one-mul, mul-zero, zero-mul)

  -- an identity with `⊖` follows from the one without: what stands under `⊖` goes to the other side
  pub neg-mul : (a b : E) → ⊖ a ⊗ b ≡ ⊖ (a ⊗ b)
  neg-mul a b = cancel (a ⊗ b) (⊖ a ⊗ b) (⊖ (a ⊗ b)) (sym (add-mul a (⊖ a) b) ∙ simp (add-neg, zero-mul))

  pub mul-neg : (a b : E) → a ⊗ ⊖ b ≡ ⊖ (a ⊗ b)
  mul-neg a b = mul_comm a (⊖ b) ∙ neg-mul b a ∙ ap ⊖ (mul_comm b a)

  pub neg_sum : (a b : E) → ⊖ (a ⊕ b) ≡ ⊖ a ⊕ ⊖ b
  neg_sum a b = cancel (a ⊕ b) (⊖ (a ⊕ b)) (⊖ a ⊕ ⊖ b) (add-neg (a ⊕ b) ∙ sym (four ∙ rw (add-neg a, add-neg b, add-zero)))
    where
      four : a ⊕ b ⊕ (⊖ a ⊕ ⊖ b) ≡ a ⊕ ⊖ a ⊕ (b ⊕ ⊖ b)
      four = simp sums

  pub neg-zero : ⊖ 𝟘 ≡ 𝟘
  neg-zero = sym (zero-add (⊖ 𝟘)) ∙ add-neg 𝟘

  pub neg-neg : (a : E) → ⊖ (⊖ a) ≡ a
  neg-neg a = cancel (⊖ a) (⊖ (⊖ a)) a (add-neg (⊖ a) ∙ sym (add_comm (⊖ a) a ∙ add-neg a))

  -- with `⊖`: products and sums are multiplied out, and nothing is cancelled
  pub ruleset signed = (ring, neg-mul, mul-neg, neg_sum, neg-neg, neg-zero)

  -- An identity with `⊖`, `a ≡ b`, by two calls: `differ _ _ (simp differences (cross (simp ring)))`. The first makes one difference of
  -- each side, and the second proves that the sums across are equal, with no `⊖` left.
  pub dif : E → E → E
  dif p n = p ⊕ ⊖ n

  pub differ : (a b : E) → dif a 𝟘 ≡ dif b 𝟘 → a ≡ b
  unfolding dif
  differ a b h = simp (dif, neg-zero, add-zero) at h

  pub cross : {p n q m : E} → p ⊕ m ≡ q ⊕ n → dif p n ≡ dif q m
  unfolding dif
  cross {p} {n} {q} {m} h = cancel (m ⊕ n) (p ⊕ ⊖ n) (q ⊕ ⊖ m) (left p n m ∙ h ∙ sym (left q m n) ∙ ap (λ x. x ⊕ (q ⊕ ⊖ m)) (add_comm n m))
    where
      left : (p n m : E) → m ⊕ n ⊕ (p ⊕ ⊖ n) ≡ p ⊕ m
      left p n m = e ∙ rw (add-neg, add-zero)
        where
          e : m ⊕ n ⊕ (p ⊕ ⊖ n) ≡ p ⊕ m ⊕ (n ⊕ ⊖ n)
          e = simp sums

  pub dif_neg : (a : E) → ⊖ a ≡ dif 𝟘 a
  unfolding dif
  dif_neg a = simp signed

  pub neg-dif : (p n : E) → ⊖ (dif p n) ≡ dif n p
  unfolding dif
  neg-dif p n = simp (dif, signed)

  pub dif-dif : (p n m : E) → dif (dif p n) m ≡ dif p (n ⊕ m)
  unfolding dif
  dif-dif p n m = simp (dif, signed)

  pub dif-sub : (p n m : E) → dif p (dif n m) ≡ dif (p ⊕ m) n
  unfolding dif
  dif-sub p n m = simp (dif, signed)

  pub add-dif : (a p n : E) → a ⊕ dif p n ≡ dif (a ⊕ p) n
  unfolding dif
  add-dif a p n = simp (dif, signed)

  pub dif-add : (a p n : E) → dif p n ⊕ a ≡ dif (p ⊕ a) n
  unfolding dif
  dif-add a p n = simp (dif, signed)

  pub mul-dif : (a p n : E) → a ⊗ dif p n ≡ dif (a ⊗ p) (a ⊗ n)
  unfolding dif
  mul-dif a p n = simp (dif, signed)

  pub dif-mul : (a p n : E) → dif p n ⊗ a ≡ dif (p ⊗ a) (n ⊗ a)
  unfolding dif
  dif-mul a p n = simp (dif, signed)

  pub ruleset differences = (dif_neg, neg-dif, dif-dif, dif-sub, add-dif, dif-add, mul-dif, dif-mul)

  example : (x y z : E) → (x ⊕ ⊖ y) ⊗ (y ⊕ ⊖ z) ⊗ (z ⊕ ⊖ x) ≡
      x ⊗ x ⊗ z ⊕ y ⊗ y ⊗ x ⊕ z ⊗ z ⊗ y ⊕ ⊖ (x ⊗ (z ⊗ z) ⊕ y ⊗ (x ⊗ x) ⊕ z ⊗ (y ⊗ y))
  example x y z = differ _ _ (simp differences (cross (simp ring)))

  pub sub-zero : (a b : E) → a ⊕ ⊖ b ≡ 𝟘 → a ≡ b
  sub-zero a b h = cancel (⊖ b) a b (simp (add_comm, add-neg) h)

  -- the difference, as the polynomials form it
  pub diff-zero : (a b : E) → 𝟙 ⊗ a ⊕ ⊖ 𝟙 ⊗ b ≡ 𝟘 → a ≡ b
  diff-zero a b h = sub-zero a b (simp (neg-mul, one-mul) at h)

  pub zero-diff : (a b : E) → a ≡ b → 𝟙 ⊗ a ⊕ ⊖ 𝟙 ⊗ b ≡ 𝟘
  zero-diff a b h = simp (neg-mul, one-mul, h, add-neg)

  pub add-sub : (a b : E) → a ⊕ ⊖ b ⊕ b ≡ a
  add-sub a b = rw (add_assoc, add_comm (⊖ b) b, add-neg, add-zero)

  pub add-sub-left : (a b : E) → b ⊕ (a ⊕ ⊖ b) ≡ a
  add-sub-left a b = add_comm b (a ⊕ ⊖ b) ∙ add-sub a b

  pub neg_unique : (a b : E) → a ⊕ b ≡ 𝟘 → b ≡ ⊖ a
  neg_unique a b h = cancel a b (⊖ a) (h ∙ sym (add-neg a))

  pub zero-of-double : (a : E) → a ⊕ a ≡ a → a ≡ 𝟘
  zero-of-double a h = cancel a a 𝟘 (h ∙ sym (add-zero a))

  -- units
  pub unit-one : IsUnit R 𝟙
  unit-one = (𝟙, mul-one 𝟙)

  pub unit-mul : (u v : E) → IsUnit R u → IsUnit R v → IsUnit R (u ⊗ v)
  unit-mul u v (x, h) (y, k) = (x ⊗ y, e ∙ simp (h, k, mul-one))
    where
      e : x ⊗ y ⊗ (u ⊗ v) ≡ (x ⊗ u) ⊗ (y ⊗ v)
      e = simp (mul_assoc, mul_comm, mul_left_comm)

  pub unit-swap : (a b : E) → IsUnit R (a ⊕ ⊖ b) → IsUnit R (b ⊕ ⊖ a)
  unit-swap a b (i, h) = (⊖ i, e ∙ h)
    where
      e : ⊖ i ⊗ (b ⊕ ⊖ a) ≡ i ⊗ (a ⊕ ⊖ b)
      e = simp signed

  pub unit-inj : (u a b : E) → IsUnit R u → u ⊗ a ≡ u ⊗ b → a ≡ b
  unit-inj u a b (i, h) k = sym (back a) ∙ ap (λ x. i ⊗ x) k ∙ back b
    where
      back : (x : E) → i ⊗ (u ⊗ x) ≡ x
      back x = rw (← mul_assoc, h, one-mul)

  pub unit-cancel : (u a : E) → IsUnit R u → u ⊗ a ≡ 𝟘 → a ≡ 𝟘
  unit-cancel u a h k = unit-inj u a 𝟘 h (k ∙ sym (mul-zero u))

  -- an inverse is the only one
  pub inverse-only : (u v w : E) → v ⊗ u ≡ 𝟙 → w ⊗ u ≡ 𝟙 → v ≡ w
  inverse-only u v w h k = unit-inj u v w (w, k) (mul_comm u v ∙ h ∙ sym k ∙ mul_comm w u)

module _ (D : DiscreteRing) where
  -- the test of equality holds of what is equal
  pub eqb-true : {a b : D.ring.E} → a ≡ b → D.eqb a b ≡ true
  eqb-true {a} e = sym (ap (D.eqb a) e) ∙ D.eqb_refl a

  -- and fails where the two differ
  pub eqb-false : (a b : D.ring.E) → D.eqb a b ≡ false → a ≢ b
  eqb-false a b h e = let z : true ≡ false = cc (D.eqb_refl a, ap (D.eqb a) e) in absurd (true≢false z)

  -- `inv` is right at each unit
  pub inv_right : (u : D.ring.E) → IsUnit D.ring u → D.ring.mul (D.inv u) u ≡ D.ring.𝟙
  inv_right u (v, h) = D.inv-unit u v h

-- maps of rings
module _ {R S : CommRing} (f : Hom R S) where
  pub fn-zero : f.fn R.𝟘 ≡ S.𝟘
  fn-zero = zero-of-double S (f.fn R.𝟘) (sym (f.fn-add R.𝟘 R.𝟘) ∙ ap f.fn (add-zero R R.𝟘))

  pub fn-neg : (a : R.E) → f.fn (R.neg a) ≡ S.neg (f.fn a)
  fn-neg a = neg_unique S (f.fn a) (f.fn (R.neg a)) (sym (f.fn-add a (R.neg a)) ∙ ap f.fn (add-neg R a) ∙ fn-zero)

  -- what has one image has a difference that goes to zero
  pub fn-sub : (a b : R.E) → f.fn a ≡ f.fn b → f.fn (R.add a (R.neg b)) ≡ S.𝟘
  fn-sub a b h = f.fn-add a (R.neg b) ∙ rw (fn-neg b, h, add-neg)
