-- The value, which the definition takes by Horner's rule, is the paper's sum of coefficients times powers (`value-powers`): the free term, and
-- then the second coefficient times x, the third times its square and so on (`value-terms`). Assumes nothing.
use mathlib.Core.Path.{◌≡◌, sym, ◌∙◌, ap, ap₂}
use mathlib.Core.List.{[], ◌∷◌}
use Prim.Native.Nat.{ℕ, suc, ◌≤◌}
use lib.ListN.{length}
use Rattle.algebra.specs.Ring.{CommRing}
use Rattle.algebra.specs.Poly.{eval}
use Rattle.algebra.specs.Shares.{All}
use Rattle.algebra.proofs.Ring.{one-mul, mul-zero, ring}
use Rattle.algebra.proofs.Units.{pow, pow-zero, pow-suc}
use Rattle.galois.specs.Element.{Element, sum, lower, product}
use Rattle.galois.specs.Modulus.{power}
use Rattle.galois.proofs.Galois.{GR}
use Rattle.galois.proofs.Table.{length-lower}
use Rattle.galois.proofs.Lists.{to_list, of_list, length-to_list, of-to, sum_to, product-of, zero_of}
use Rattle.galois.proofs.Powers.{length-power, of-power}
use Rattle.polynomial.specs.Polynomial.{Polynomial, value, terms}
use Rattle.polynomial.proofs.OverRing.{poly_of, value_of}

step : (R : CommRing) (c w z v : R.E) → R.add (R.mul c w) (R.mul (R.mul w z) v) ≡ R.mul w (R.add c (R.mul z v))
step R c w z v = simp ring

module _ (k d : ℕ) (dl : 2 ≤ d) (dh : d ≤ 6) (x : Element) (lx : length x ≡ d) where
  terms-of : (i : ℕ) (p : Polynomial) → All (λ c. length c ≡ d) p
      → terms k d i p x ≡ to_list ((GR d k).mul (pow (GR d k) (of_list k d x) i) (eval (GR d k) (poly_of k d p) (of_list k d x)))
  unfolding terms
  terms-of i [] l = zero_of k d ∙ ap to_list (sym (mul-zero (GR d k) (pow (GR d k) (of_list k d x) i)))
  terms-of i (c ∷ p) (l, ls) =
      let R = GR d k in
      let z = of_list k d x in
      let v = eval R (poly_of k d p) z in
      let e : product k (lower d) c (power k d x i) ≡ to_list (R.mul (of_list k d c) (pow R z i)) =
      product-of k d (lower d) (length-lower d dl dh) d c (power k d x i) l (length-power k d dl dh x lx i)
      ∙ ap (λ u. to_list (R.mul (of_list k d c) u)) (of-power k d dl dh x lx i) in
      ap₂ (sum k) e (terms-of (suc i) p ls)
      ∙ sum_to k (R.mul (of_list k d c) (pow R z i)) (R.mul (pow R z (suc i)) v)
      ∙ ap to_list (ap (λ w. R.add (R.mul (of_list k d c) (pow R z i)) (R.mul w v)) (pow-suc R z i) ∙ step R (of_list k d c) (pow R z i) z v)

  pub value-powers : (p : Polynomial) → All (λ c. length c ≡ d) p → value k d p x ≡ terms k d 0 p x
  value-powers p l =
      let R = GR d k in
      let z = of_list k d x in
      value_of k d dl dh p x l lx
      ∙ ap to_list (sym (ap (λ w. R.mul w (eval R (poly_of k d p) z)) (pow-zero R z) ∙ one-mul R (eval R (poly_of k d p) z)))
      ∙ sym (terms-of 0 p l)

  pub value-terms : (c : Element) (p : Polynomial) → All (λ a. length a ≡ d) p → value k d (c ∷ p) x ≡ sum k c (terms k d 1 p x)
  unfolding value
  value-terms c p ls =
      let R = GR d k in
      let z = of_list k d x in
      let v = eval R (poly_of k d p) z in
      let one : pow R z 1 ≡ z = pow-suc R z 0 ∙ ap (λ w. R.mul w z) (pow-zero R z) ∙ one-mul R z in
      ap (λ r. sum k c (product k (lower d) x r)) (value_of k d dl dh p x ls lx)
      ∙ ap (sum k c)
      (product-of k d (lower d) (length-lower d dl dh) d x (to_list v) lx (length-to_list v)
      ∙ ap to_list (ap (R.mul z) (of-to k v) ∙ ap (λ w. R.mul w v) (sym one))
      ∙ sym (terms-of 1 p ls))
