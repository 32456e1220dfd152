-- Newton's interpolation in rows is the one over the ring (`Interpolation` of algebra): where q holds the polynomial through some shares and m
-- their nodal polynomial, after one share more they hold those of all the shares (`extend_same`). Assumes nothing.
use mathlib.Core.Path.{◌≡◌, refl, sym, ◌∙◌, ap, ap₂}
use mathlib.Core.List.{List, [], ◌∷◌}
use Prim.Native.Nat.{ℕ, zero, suc, ◌+◌, ◌≤◌}
use native.Mathlib.Omega.{arith}
use lib.ListN.{length, replicate}
use Rattle.algebra.specs.Ring.{CommRing}
use Rattle.algebra.specs.Poly.{eval, coef}
use Rattle.algebra.specs.Shares.{Share}
use Rattle.algebra.proofs.Ring.{signed}
use Rattle.algebra.proofs.Poly.{Low, Same, lin, mulx, scale, coef-lin, coef-padd, coef-scale, low-mono, low-length, eval-same, same-pad}
use Rattle.algebra.proofs.Interpolation.{interp, nodal, length-interp, length-nodal}
use Rattle.galois.specs.Element.{Element, difference, product, lower, inverse}
use Rattle.galois.proofs.Galois.{GR}
use Rattle.galois.proofs.Table.{length-lower}
use Rattle.galois.proofs.Lists.{to_list, of_list, length-to_list, of-to, difference-of, product-of}
use Rattle.galois.proofs.Instance.{ring_of, invert, invert-is}
use Rattle.polynomial.specs.Polynomial.{value}
use Rattle.polynomial.specs.Rows.{Rows, coefs, root_rows, excess, extend_rows}
use Rattle.polynomial.proofs.OverRing.{
  poly_of,
  Exact,
  exact-length,
  poly-by,
  zero-rows,
  one-rows,
  value_low,
  subtract-exact,
  subtract-same,
  root-exact,
  root-same,
}

-- what has the same coefficients, in place of it
module _ (R : CommRing) where
  infixl 65 ◌⊕◌
  infixl 70 ◌⊗◌
  open R use {E, add as ◌⊕◌, mul as ◌⊗◌, neg as ⊖, 𝟘}

  pub same_low : (n : ℕ) (p q : List E) → Same R p q → Low R n q → Low R n p
  same_low n p q s h j l = s j ∙ h j l

  pub same-lin : (u v : E) (p p' q q' : List E) → Same R p p' → Same R q q' → Same R (lin R u p v q) (lin R u p' v q')
  same-lin u v p p' q q' s t j = coef-lin R u p v q j ∙ ap₂ (λ a b. u ⊗ a ⊕ v ⊗ b) (s j) (t j) ∙ sym (coef-lin R u p' v q' j)

  pub same-mulx : (x : E) (p q : List E) → Same R p q → Same R (mulx R x p) (mulx R x q)
  same-mulx x p q s j = coef-at p j ∙ ap₂ (λ a b. a ⊕ ⊖ x ⊗ b) (up j) (s j) ∙ sym (coef-at q j)
    where
      coef-at : (r : List E) (j : ℕ) → coef R (mulx R x r) j ≡ coef R (𝟘 ∷ r) j ⊕ ⊖ x ⊗ coef R r j
      coef-at r j = coef-padd R (𝟘 ∷ r) (scale R (⊖ x) r) j ∙ ap (λ a. coef R (𝟘 ∷ r) j ⊕ a) (coef-scale R (⊖ x) r j)

      up : (j : ℕ) → coef R (𝟘 ∷ p) j ≡ coef R (𝟘 ∷ q) j
      up zero = refl
      up (suc j) = s j

  turned : (a b i : E) → ⊖ ((a ⊕ ⊖ b) ⊗ i) ≡ (b ⊕ ⊖ a) ⊗ i
  turned a b i = simp signed

module _ (k d : ℕ) (h : 1 ≤ k) (dl : 2 ≤ d) (dh : d ≤ 6) where
  infixl 65 ◌⊕◌
  infixl 70 ◌⊗◌
  open GR d k use {E, add as ◌⊕◌, mul as ◌⊗◌, neg as ⊖, 𝟘, 𝟙}

  -- no share yet: zero, and one
  pub start-same : (n : ℕ) → Same (GR d k) (poly_of k d (replicate n (replicate 6 0))) (interp (ring_of d k) [])
  start-same n j =
      ap (λ us. coef (GR d k) us j) (poly-by k d (replicate n (replicate 6 0)) (replicate n 𝟘) (zero-rows k d dh n)) ∙ same-pad (GR d k) [] n j

  pub start-nodal : (n : ℕ) → Same (GR d k) (poly_of k d ((1 ∷ replicate 5 0) ∷ replicate n (replicate 6 0))) (nodal (GR d k) [])
  start-nodal n j =
      ap (λ us. coef (GR d k) us j)
      (poly-by k d ((1 ∷ replicate 5 0) ∷ replicate n (replicate 6 0)) (𝟙 ∷ replicate n 𝟘) (one-rows k d h (omega arith) dh n))
      ∙ same-pad (GR d k) (𝟙 ∷ []) n j

  module _ (q m : Rows) (xq : Exact k d q) (xm : Exact k d m) (lq : length q ≡ length m)
      (ss : List (Share (GR d k))) (room : length ss + 2 ≤ length m)
      (sq : Same (GR d k) (poly_of k d q) (interp (ring_of d k) ss)) (sm : Same (GR d k) (poly_of k d m) (nodal (GR d k) ss))
      (x y : Element) (lx : length x ≡ d) (ly : length y ≡ d) where
    abbrev n : ℕ
    n = length ss

    abbrev share : Share (GR d k)
    share = record { at = of_list k d x; val = of_list k d y }

    low-q : Low (GR d k) n (poly_of k d q)
    low-q =
        let p = interp (ring_of d k) ss in
        same_low (GR d k) n (poly_of k d q) p sq (rw (length-interp (ring_of d k) ss) at (low-length (GR d k) p))

    low-m : Low (GR d k) (n + 1) (poly_of k d m)
    low-m =
        let l : length (nodal (GR d k) ss) ≡ n + 1 = omega (arith, length-nodal (GR d k) ss) in
        same_low (GR d k) (n + 1) (poly_of k d m) (nodal (GR d k) ss) sm (rw l at (low-length (GR d k) (nodal (GR d k) ss)))

    -- the values at x
    abbrev v : E
    v = eval (GR d k) (interp (ring_of d k) ss) (of_list k d x)

    abbrev w : E
    w = eval (GR d k) (nodal (GR d k) ss) (of_list k d x)

    value-q : value k d (coefs d n q) x ≡ to_list v
    value-q =
        value_low k d dl dh n q x (exact-length k d dh q xq) lx low-q
        ∙ ap to_list (eval-same (GR d k) (poly_of k d q) (interp (ring_of d k) ss) (of_list k d x) sq)

    value-m : value k d (coefs d (n + 1) m) x ≡ to_list w
    value-m =
        value_low k d dl dh (n + 1) m x (exact-length k d dh m xm) lx low-m
        ∙ ap to_list (eval-same (GR d k) (poly_of k d m) (nodal (GR d k) ss) (of_list k d x) sm)

    abbrev over : E
    over = (v ⊕ ⊖ (of_list k d y)) ⊗ invert d k w

    excess-is : excess k d n q m x y ≡ to_list over
    excess-is =
        let u = v ⊕ ⊖ (of_list k d y) in
        let i = invert d k w in
        let du : difference k (to_list v) y ≡ to_list u =
        difference-of k d (to_list v) y (length-to_list v) ly ∙ ap (λ a. to_list (a ⊕ ⊖ (of_list k d y))) (of-to k v) in
        ap₂ (λ a b. product k (lower d) (difference k a y) (inverse k d b)) value-q value-m
        ∙ ap₂ (product k (lower d)) du (sym (invert-is d dl dh k h w))
        ∙ product-of k d (lower d) (length-lower d dl dh) d (to_list u) (to_list i) (length-to_list u) (length-to_list i)
        ∙ ap₂ (λ a b. to_list (a ⊗ b)) (of-to k u) (of-to k i)

    of-excess : of_list k d (excess k d n q m x y) ≡ over
    of-excess = ap (of_list k d) excess-is ∙ of-to k over

    length-excess : length (excess k d n q m x y) ≡ d
    length-excess = ap length excess-is ∙ length-to_list over

    pub extend-exact : Exact k d (extend_rows k d n q m x y)
    extend-exact = subtract-exact k d dl dh (n + 1) q (excess k d n q m x y) m length-excess xq xm

    pub extend_same : Same (GR d k) (poly_of k d (extend_rows k d n q m x y)) (interp (ring_of d k) (share ∷ ss))
    extend_same j =
        subtract-same k d dl dh (n + 1) q (excess k d n q m x y) m length-excess xq xm lq
        (low-mono (GR d k) (poly_of k d q) (omega arith) low-q) low-m j
        ∙ ap (λ e. coef (GR d k) (lin (GR d k) 𝟙 (poly_of k d q) e (poly_of k d m)) j)
        (ap ⊖ of-excess ∙ turned (GR d k) v (of_list k d y) (invert d k w))
        ∙ same-lin (GR d k) 𝟙 ((of_list k d y ⊕ ⊖ v) ⊗ invert d k w) (poly_of k d q) (interp (ring_of d k) ss) (poly_of k d m) (nodal (GR d k) ss) sq sm j

    pub nodal-exact : Exact k d (root_rows k d (n + 2) x m)
    nodal-exact = root-exact k d dl dh (n + 2) x m lx xm

    pub nodal-same : Same (GR d k) (poly_of k d (root_rows k d (n + 2) x m)) (nodal (GR d k) (share ∷ ss))
    nodal-same j =
        root-same k d dl dh (n + 2) x m lx xm (n + 1) (omega arith) room low-m j
        ∙ same-mulx (GR d k) (of_list k d x) (poly_of k d m) (nodal (GR d k) ss) sm j
