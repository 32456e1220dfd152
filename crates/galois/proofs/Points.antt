-- The points: at every k the difference of two of them is a unit, and so is a point but 0; no two of those below 2^d are the same; and a point
-- is the same at every k. Assumes nothing.
use mathlib.Core.Path.{◌≡◌, refl, sym, ◌∙◌, ap, ap₂}
use mathlib.Core.Logic.{◌≢◌}
use mathlib.Core.List.{◌∷◌, head-eq_of_cons-eq, tail-eq_of_cons-eq}
use Prim.Native.Nat.{ℕ, zero, suc, ◌%◌, ◌/◌, ◌^◌, ◌≤◌, ◌<◌}
use native.Mathlib.Nat.{mod-eq_of_lt, pow-suc, le_refl}
use native.Mathlib.Omega.{arith}
use lib.Pow.{pow_pos, pow-lt}
use lib.ListN.{length}
use Rattle.words.specs.Word.{sub_w}
use Rattle.algebra.specs.Ring.{IsUnit}
use Rattle.galois.specs.Element.{lower, difference, product, zero_e, one_e, point, reduce, inverse}
use Rattle.galois.proofs.Galois.{GR, modulus, low}
use Rattle.galois.proofs.Lists.{to_list, of_list, to-of, low_of, of-difference, zero_of, length-zip}
use Rattle.galois.proofs.Field.{unit-of-odd, unit-of-apart}
use Rattle.galois.proofs.Inverse.{inverse-unit}

pub length-point : (d i : ℕ) → length (point d i) ≡ d
unfolding point
length-point zero i = refl
length-point (suc d) i = ap suc (length-point d _)

-- bits are below 2^j
pub reduce-point : (j : ℕ) → 1 ≤ j → (d i : ℕ) → reduce j (point d i) ≡ point d i
unfolding point reduce
reduce-point j h zero i = refl
reduce-point j h (suc d) i =
    let p : 2 ^ 0 < 2 ^ j = pow-lt {i = 0} {j = j} h in
    let q : i % 2 < 2 ^ j = omega arith in
    ap₂ ◌∷◌ (mod-eq_of_lt q) (reduce-point j h d (i / 2))

pub point-inj : (d i j : ℕ) → i < 2 ^ d → j < 2 ^ d → point d i ≡ point d j → i ≡ j
unfolding point
point-inj zero i j h g e = omega arith
point-inj (suc d) i j h g e =
    let p : i / 2 ≡ j / 2 = point-inj d (i / 2) (j / 2) (omega (arith, pow-suc 2 d)) (omega (arith, pow-suc 2 d)) (tail-eq_of_cons-eq e) in
    let q : i % 2 ≡ j % 2 = head-eq_of_cons-eq e in
    omega arith

pub point-zero : (d : ℕ) → point d 0 ≡ zero_e d
unfolding point
point-zero zero = refl
point-zero (suc d) = ap (λ r. 0 ∷ r) (point-zero d)

-- a point as an element
abbrev pub point_r : (d k i : ℕ) → (GR d k).E
point_r d k i = of_list k d (point d i)

pub low-point : (d : ℕ) {j k : ℕ} (h : j ≤ k) (i : ℕ) → (low (modulus d) h).fn (point_r d k i) ≡ point_r d j i
low-point d h i = low_of h d (point d i)

pub to-point : (d k : ℕ) → 1 ≤ k → (i : ℕ) → to_list (point_r d k i) ≡ point d i
to-point d k h i = to-of k d (point d i) (length-point d i) ∙ reduce-point k h d i

pub point_r-inj : (d k i j : ℕ) → 1 ≤ k → i < 2 ^ d → j < 2 ^ d → point_r d k i ≡ point_r d k j → i ≡ j
point_r-inj d k i j h p q e = point-inj d i j p q (sym (to-point d k h i) ∙ ap to_list e ∙ to-point d k h j)

module _ (d : ℕ) (dl : 2 ≤ d) (dh : d ≤ 6) (k : ℕ) (h : 1 ≤ k) where
  pub points-apart : (i j : ℕ) → i < 2 ^ d → j < 2 ^ d → i ≢ j → IsUnit (GR d k) ((GR d k).add (point_r d k i) ((GR d k).neg (point_r d k j)))
  points-apart i j p q n =
      unit-of-apart d dl dh k h (point_r d k i) (point_r d k j)
      (λ e. n (point_r-inj d 1 i j (le_refl 1) p q (sym (low-point d h i) ∙ e ∙ low-point d h j)))

  pub point-unit : (i : ℕ) → i < 2 ^ d → i ≢ 0 → IsUnit (GR d k) (point_r d k i)
  point-unit i p n =
      unit-of-odd d dl dh k h (point_r d k i)
      (λ e. n (point-inj d i 0 p (pow_pos d)
      (sym (to-point d 1 (le_refl 1) i) ∙ ap to_list (sym (low-point d h i) ∙ e) ∙ sym (zero_of 1 d) ∙ sym (point-zero d))))

  -- the same of lists
  pub points-inverse : (i j : ℕ) → i < 2 ^ d → j < 2 ^ d → i ≢ j
      → (let a = difference k (point d i) (point d j) in product k (lower d) a (inverse k d a)) ≡ one_e d
  points-inverse i j p q n =
      let a = difference k (point d i) (point d j) in
      let l : length a ≡ d = length-zip (sub_w k) (point d i) (point d j) (length-point d i ∙ sym (length-point d j)) ∙ length-point d j in
      inverse-unit d dl dh k h a l
      (rw (of-difference (le_refl k) d (point d i) (point d j) (length-point d i) (length-point d j)) (points-apart i j p q n))

  pub point-inverse : (i : ℕ) → i < 2 ^ d → i ≢ 0 → product k (lower d) (point d i) (inverse k d (point d i)) ≡ one_e d
  point-inverse i p n = inverse-unit d dl dh k h (point d i) (length-point d i) (point-unit i p n)
