-- Polynomials over a ring as lists of coefficients, the free term first: values, sums, products, degrees, division by `Z - a`.
-- Assumes nothing.
use mathlib.Core.Path.{◌≡◌, refl, sym, ◌∙◌, ap, ap₂}
use mathlib.Core.List.{List, [], ◌∷◌, ◌++◌, map}
use Prim.Native.Nat.{ℕ, zero, suc, ◌+◌, ◌≤◌, max}
use native.Mathlib.Omega.{arith}
use native.Mathlib.Decide.{dec_le}
use lib.ListN.{length, take, replicate}
use Rattle.algebra.specs.Ring.{CommRing, Hom}
use Rattle.algebra.specs.Poly.{eval, coef}
use Rattle.algebra.proofs.Ring.{add-zero, zero-add, mul-zero, zero-mul, add-mul, add-sub, ring, sums, fn-zero}

module _ (R : CommRing) where
  infixl 65 ◌⊕◌
  infixl 70 ◌⊗◌
  open R use {E, add as ◌⊕◌, mul as ◌⊗◌, neg as ⊖, 𝟘}

  -- sum (a shorter one is as if filled up with zeros), multiple, product
  abbrev pub padd : List E → List E → List E
  padd [] q = q
  padd (a ∷ p) [] = a ∷ p
  padd (a ∷ p) (b ∷ q) = (a ⊕ b) ∷ padd p q

  abbrev pub scale : E → List E → List E
  scale c [] = []
  scale c (a ∷ p) = (c ⊗ a) ∷ scale c p

  abbrev pub pmul : List E → List E → List E
  pmul [] q = []
  pmul (a ∷ p) q = padd (scale a q) (𝟘 ∷ pmul p q)

  -- u·p + v·q, and (Z - x)·p
  abbrev pub lin : E → List E → E → List E → List E
  lin u p v q = padd (scale u p) (scale v q)

  abbrev pub mulx : E → List E → List E
  mulx x p = padd (𝟘 ∷ p) (scale (⊖ x) p)

  -- the coefficients from `Z^n` on are zero
  abbrev pub Low : ℕ → List E → Type 0
  Low n p = (j : ℕ) → n ≤ j → coef R p j ≡ 𝟘

  -- the same of `Z^t·p`
  abbrev pub Lo : ℕ → ℕ → List E → Type 0
  Lo n t p = (j : ℕ) → n ≤ j + t → coef R p j ≡ 𝟘

  -- the value is linear: of a sum the sum, of a multiple the multiple
  pub eval-padd : (p q : List E) (z : E) → eval R (padd p q) z ≡ eval R p z ⊕ eval R q z
  eval-padd [] q z = sym (zero-add R (eval R q z))
  eval-padd (a ∷ p) [] z = sym (add-zero R _)
  eval-padd (a ∷ p) (b ∷ q) z = step a b z _ _ _ (eval-padd p q z)
    where
      step : (a b z s u v : E) → s ≡ u ⊕ v → a ⊕ b ⊕ z ⊗ s ≡ a ⊕ z ⊗ u ⊕ (b ⊕ z ⊗ v)
      step a b z s u v h = rw h (simp ring)

  pub eval-scale : (c : E) (p : List E) (z : E) → eval R (scale c p) z ≡ c ⊗ eval R p z
  eval-scale c [] z = sym (mul-zero R c)
  eval-scale c (a ∷ p) z = rw (eval-scale c p z) (simp ring)

  pub eval-pmul : (p q : List E) (z : E) → eval R (pmul p q) z ≡ eval R p z ⊗ eval R q z
  eval-pmul [] q z = sym (zero-mul R _)
  eval-pmul (a ∷ p) q z = eval-padd (scale a q) (𝟘 ∷ pmul p q) z ∙ step a z _ _ _ _ (eval-scale a q z) (eval-pmul p q z)
    where
      step : (a z u v s r : E) → s ≡ a ⊗ v → r ≡ u ⊗ v → s ⊕ (𝟘 ⊕ z ⊗ r) ≡ (a ⊕ z ⊗ u) ⊗ v
      step a z u v s r h k = rw (h, k) (simp ring)

  pub eval-lin : (u : E) (p : List E) (v : E) (q : List E) (z : E) → eval R (lin u p v q) z ≡ u ⊗ eval R p z ⊕ v ⊗ eval R q z
  eval-lin u p v q z = simp (eval-padd, eval-scale)

  pub eval-mulx : (x : E) (p : List E) (z : E) → eval R (mulx x p) z ≡ (z ⊕ ⊖ x) ⊗ eval R p z
  eval-mulx x p z = simp (eval-padd, eval-scale, add-mul, zero-add)

  pub coef-padd : (p q : List E) (j : ℕ) → coef R (padd p q) j ≡ coef R p j ⊕ coef R q j
  coef-padd [] q j = sym (zero-add R _)
  coef-padd (a ∷ p) [] j = sym (add-zero R _)
  coef-padd (a ∷ p) (b ∷ q) zero = refl
  coef-padd (a ∷ p) (b ∷ q) (suc j) = coef-padd p q j

  pub coef-scale : (c : E) (p : List E) (j : ℕ) → coef R (scale c p) j ≡ c ⊗ coef R p j
  coef-scale c [] j = sym (mul-zero R c)
  coef-scale c (a ∷ p) zero = refl
  coef-scale c (a ∷ p) (suc j) = coef-scale c p j

  pub coef-lin : (u : E) (p : List E) (v : E) (q : List E) (j : ℕ) → coef R (lin u p v q) j ≡ u ⊗ coef R p j ⊕ v ⊗ coef R q j
  coef-lin u p v q j = simp (coef-padd, coef-scale)

  pub length-scale : (c : E) (p : List E) → length (scale c p) ≡ length p
  length-scale c [] = refl
  length-scale c (a ∷ p) = ap suc (length-scale c p)

  pub length-padd : (p q : List E) → length (padd p q) ≡ max (length p) (length q)
  length-padd [] q = omega arith
  length-padd (a ∷ p) [] = omega arith
  length-padd (a ∷ p) (b ∷ q) = omega (arith, length-padd p q)

  -- the sum of two of one length has it
  pub length-sum : (p q : List E) → length p ≡ length q → length (padd p q) ≡ length p
  length-sum p q h = omega (arith, length-padd p q)

  pub coef-mulx : (x : E) (p : List E) (j : ℕ) → coef R (mulx x p) (suc j) ≡ coef R p j ⊕ ⊖ x ⊗ coef R p (suc j)
  coef-mulx x p j = simp (coef-padd, coef-scale)

  pub low-mono : {n m : ℕ} (p : List E) → n ≤ m → Low n p → Low m p
  low-mono p h l j k = l j (omega arith)

  pub low-length : (p : List E) → Low (length p) p
  low-length p j h = lib.ListN.get_or-eq_default p 𝟘 h

  pub low-padd : (n : ℕ) (p q : List E) → Low n p → Low n q → Low n (padd p q)
  low-padd n p q h k j l = simp (coef-padd, h j l, k j l, add-zero)

  pub low-shift : (n : ℕ) (a : E) (p : List E) → Low n p → Low (suc n) (a ∷ p)
  low-shift n a p h zero l = absurd (omega arith)
  low-shift n a p h (suc j) l = h j (omega arith)

  pub low-tail : (n : ℕ) (a : E) (p : List E) → Low (suc n) (a ∷ p) → Low n p
  low-tail n a p h j l = h (suc j) (omega arith)

  zero-tail : (a : E) (p : List E) → Low 0 (a ∷ p) → Low 0 p
  zero-tail a p h j l = h (suc j) (omega arith)

  zero-cons : (c : E) (p : List E) → c ≡ 𝟘 → Low 0 p → Low 0 (c ∷ p)
  zero-cons c p e h zero l = e
  zero-cons c p e h (suc j) l = h j (omega arith)

  pub eval-zero : (p : List E) (z : E) → Low 0 p → eval R p z ≡ 𝟘
  eval-zero [] z h = refl
  eval-zero (a ∷ p) z h = simp (h 0 (omega arith), eval-zero p z (λ j l. h (suc j) (omega arith)), ring)

  -- the value goes by the coefficients alone, however long the list is
  abbrev pub Same : List E → List E → Type 0
  Same p q = (j : ℕ) → coef R p j ≡ coef R q j

  pub eval-same : (p q : List E) (z : E) → Same p q → eval R p z ≡ eval R q z
  eval-same [] [] z h = refl
  eval-same [] (b ∷ q) z h = sym (eval-zero (b ∷ q) z (λ j l. sym (h j)))
  eval-same (a ∷ p) [] z h = eval-zero (a ∷ p) z (λ j l. h j)
  eval-same (a ∷ p) (b ∷ q) z h = ap₂ (λ c v. c ⊕ z ⊗ v) (h 0) (eval-same p q z (λ j. h (suc j)))

  pub same-take : (n : ℕ) (p : List E) → Low n p → Same (take n p) p
  same-take zero p h j = sym (h j (omega arith))
  same-take (suc n) [] h j = refl
  same-take (suc n) (a ∷ p) h zero = refl
  same-take (suc n) (a ∷ p) h (suc j) = same-take n p (low-tail n a p h) j

  pub same-pad : (p : List E) (n : ℕ) → Same (p ++ replicate n 𝟘) p
  same-pad [] zero j = refl
  same-pad [] (suc n) zero = refl
  same-pad [] (suc n) (suc j) = same-pad [] n j
  same-pad (a ∷ p) n zero = refl
  same-pad (a ∷ p) n (suc j) = same-pad p n j

  zero-split : (c : E) (p : List E) (a : E) → eval R (c ∷ p) a ≡ 𝟘 → Low 0 p → Low 0 (c ∷ p)
  zero-split c p a e h = zero-cons c p (step e (eval-zero p a h)) h
    where
      step : {u : E} → c ⊕ a ⊗ u ≡ 𝟘 → u ≡ 𝟘 → c ≡ 𝟘
      step k l = simp (l, mul-zero, add-zero) at k

  zero-pmul : (p q : List E) → Low 0 p → Low 0 (pmul p q)
  zero-pmul [] q h = λ j l. refl
  zero-pmul (a ∷ p) q h =
      low-padd 0 (scale a q) (𝟘 ∷ pmul p q)
      (λ j l. simp (coef-scale, h 0 (omega arith), zero-mul))
      (zero-cons 𝟘 (pmul p q) refl (zero-pmul p q (zero-tail a p h)))

  -- a factor of degree below `n - t` (zero if `n ≤ t`), and one of at most `t`
  pub low-pmul : (n t : ℕ) (p q : List E) → Lo n t p → Low (suc t) q → Low n (pmul p q)
  low-pmul zero t p q h k = zero-pmul p q (λ j l. h j (omega arith))
  low-pmul (suc n) t [] q h k = λ j l. refl
  low-pmul (suc n) t (a ∷ p) q h k =
      low-padd (suc n) (scale a q) (𝟘 ∷ pmul p q) (λ j l. coef-scale a q j ∙ head (dec_le (suc n) t) j l)
      (low-shift n 𝟘 (pmul p q) (low-pmul n t p q (λ j l. h (suc j) (omega arith)) k))
    where
      head : Dec (suc n ≤ t) → (j : ℕ) → suc n ≤ j → a ⊗ coef R q j ≡ 𝟘
      head (yes m) j l = rw (h 0 (omega arith), zero-mul)
      head (no m) j l = rw (k j (omega arith), mul-zero)

  -- the quotient of `c ∷ p` by `Z - a`: its coefficients are the values at `a` of the tails of `p`
  abbrev pub quo : E → List E → List E
  quo a [] = []
  quo a (c ∷ p) = eval R (c ∷ p) a ∷ quo a p

  quo-step : (w a : E) (p : List E) → (w ⊕ a) ⊗ eval R p (w ⊕ a) ≡ w ⊗ eval R (quo a p) (w ⊕ a) ⊕ a ⊗ eval R p a
  quo-step w a [] = simp ring
  quo-step w a (c ∷ p) = step w a c _ _ _ (quo-step w a p)
    where
      step : (w a c u s v : E) → (w ⊕ a) ⊗ u ≡ w ⊗ s ⊕ a ⊗ v →
          (w ⊕ a) ⊗ (c ⊕ (w ⊕ a) ⊗ u) ≡ w ⊗ (c ⊕ a ⊗ v ⊕ (w ⊕ a) ⊗ s) ⊕ a ⊗ (c ⊕ a ⊗ v)
      step w a c u s v h = rw h (simp ring)

  pub eval-quo : (a c : E) (p : List E) (z : E) → eval R (c ∷ p) z ≡ (z ⊕ ⊖ a) ⊗ eval R (quo a p) z ⊕ eval R (c ∷ p) a
  eval-quo a c p z = step (simp add-sub at (quo-step (z ⊕ ⊖ a) a p))
    where
      step : {u v w : E} → u ≡ v ⊕ w → c ⊕ u ≡ v ⊕ (c ⊕ w)
      step h = rw h (simp sums)

  pub low-quo : (n : ℕ) (a : E) (p : List E) → Low n p → Low n (quo a p)
  low-quo n a [] h = h
  low-quo zero a (c ∷ p) h = zero-cons (eval R (c ∷ p) a) (quo a p) (eval-zero (c ∷ p) a h) (low-quo zero a p (zero-tail c p h))
  low-quo (suc n) a (c ∷ p) h = low-shift n (eval R (c ∷ p) a) (quo a p) (low-quo n a p (low-tail n c p h))

  -- the coefficients are zero if those of the quotient are, and the value at `a`
  zero-quo : (a : E) (p : List E) → Low 0 (quo a p) → Low 0 p
  zero-quo a [] h = h
  zero-quo a (c ∷ p) h = zero-split c p a (h 0 (omega arith)) (zero-quo a p (zero-tail (eval R (c ∷ p) a) (quo a p) h))

  pub zero-of-quo : (a c : E) (p : List E) → eval R (c ∷ p) a ≡ 𝟘 → Low 0 (quo a p) → Low 0 (c ∷ p)
  zero-of-quo a c p e h = zero-split c p a e (zero-quo a p h)

-- a map of rings takes a value to the value of the images
pub eval-map : {R S : CommRing} (f : Hom R S) (p : List R.E) (z : R.E) → f.fn (eval R p z) ≡ eval S (map f.fn p) (f.fn z)
eval-map f [] z = fn-zero f
eval-map {R} {S} f (a ∷ p) z =
    f.fn-add a (R.mul z (eval R p z)) ∙ ap (S.add (f.fn a)) (f.fn-mul z (eval R p z) ∙ ap (S.mul (f.fn z)) (eval-map f p z))
