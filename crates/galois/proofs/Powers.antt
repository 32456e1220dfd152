-- Powers of an element are those of the ring; the first is the element, and those of X are what comes of one, moved up place by place.
-- Assumes nothing.
use mathlib.Core.Path.{◌≡◌, refl, sym, ◌∙◌, ap, ap₂}
use mathlib.Core.Bool.{true}
use mathlib.Core.List.{◌∷◌}
use Prim.Native.Nat.{ℕ, zero, suc, ◌-◌, ◌≤◌}
use native.Mathlib.Nat.{le_refl}
use native.Mathlib.Omega.{arith}
use lib.ListN.{length, replicate, length-replicate}
use lib.Seq.{length-take-le}
use Rattle.words.specs.Word.{all_in_width}
use Rattle.algebra.proofs.Ring.{one-mul}
use Rattle.algebra.proofs.Units.{pow, pow-zero, pow-suc}
use Rattle.algebra.proofs.Vec.{nil, cons}
use Rattle.algebra.proofs.Extension.{pad, unit, shifts, act-x}
use Rattle.galois.specs.Element.{Element, lower, one_e}
use Rattle.galois.specs.Modulus.{element_x, power}
use Rattle.galois.proofs.Galois.{Zk, GR, rho, modulus}
use Rattle.galois.proofs.Table.{length-lower}
use Rattle.galois.proofs.Held.{to-six}
use Rattle.galois.proofs.Lists.{to_list, of_list, length-product, of-product, product-of, of_one, to-of, reduce-width, const-suc}

pub length-one : (d : ℕ) → length (one_e d) ≡ d
length-one zero = refl
length-one (suc d) = ap length (const-suc 1 d) ∙ ap suc (length-replicate d 0)

module _ (k d : ℕ) (dl : 2 ≤ d) (dh : d ≤ 6) where
  len : length (lower d) ≡ d
  len = length-lower d dl dh

  pub length-power : (x : Element) → length x ≡ d → (i : ℕ) → length (power k d x i) ≡ d
  unfolding power
  length-power x l zero = length-one d
  length-power x l (suc i) = length-product k (lower d) (power k d x i) x (l ∙ sym len) ∙ len

  pub of-power : (x : Element) → length x ≡ d → (i : ℕ) → of_list k d (power k d x i) ≡ pow (GR d k) (of_list k d x) i
  unfolding power
  of-power x l zero = of_one k d ∙ sym (pow-zero (GR d k) (of_list k d x))
  of-power x l (suc i) =
      of-product (le_refl k) d (lower d) len (power k d x i) x (length-power x l i) l
      ∙ ap (λ u. (GR d k).mul u (of_list k d x)) (of-power x l i)
      ∙ sym (pow-suc (GR d k) (of_list k d x) i)

  -- the first power of an element is the element
  pub power-one : (x : Element) → length x ≡ d → all_in_width k x ≡ true → power k d x 1 ≡ x
  unfolding power
  power-one x l w =
      product-of k d (lower d) len d (one_e d) x (length-one d) l
      ∙ ap to_list (ap (λ u. (GR d k).mul u (of_list k d x)) (of_one k d) ∙ one-mul (GR d k) (of_list k d x))
      ∙ to-of k d x l
      ∙ reduce-width k x w

  -- the powers of X
  length-x : length (element_x d) ≡ d
  length-x = length-take-le d (0 ∷ 1 ∷ replicate (d - 2) 0) (rw (length-replicate {A = ℕ} (d - 2) 0) (omega arith))

  of-x : of_list k d (element_x d) ≡ pad (Zk k) d (cons (Zk k).𝟘 (cons (Zk k).𝟙 nil))
  of-x =
      to-six (λ n. of_list k n (element_x n) ≡ pad (Zk k) n (cons (Zk k).𝟘 (cons (Zk k).𝟙 nil))) refl refl refl refl refl refl refl d dh

  pub powers-x : (i : ℕ) → of_list k d (power k d (element_x d) i) ≡ shifts (Zk k) (rho (modulus d) k) i (unit (Zk k) d)
  unfolding shifts power
  powers-x zero = of_one k d
  powers-x (suc i) =
      let R = GR d k in
      of-product (le_refl k) d (lower d) len (power k d (element_x d) i) (element_x d) (length-power (element_x d) length-x i) length-x
      ∙ R.mul_comm (of_list k d (power k d (element_x d) i)) (of_list k d (element_x d))
      ∙ ap₂ R.mul of-x (powers-x i)
      ∙ act-x (Zk k) (rho (modulus d) k) dl (shifts (Zk k) (rho (modulus d) k) i (unit (Zk k) d))

  pub length-power-x : (i : ℕ) → length (power k d (element_x d) i) ≡ d
  length-power-x = length-power (element_x d) length-x
