-- The ring of the book as one of algebra's: with a test of equality and an inverse, for every k and d; and split into its lowest bits and the
-- ring of one bit fewer. Assumes nothing.
use mathlib.Core.Path.{◌≡◌, sym, ◌∙◌, ap, ap₂}
use mathlib.Core.Bool.{Bool, true}
use mathlib.Core.Option.{get_or}
use mathlib.Core.List.{Memᴰ}
use Prim.Native.Nat.{ℕ, suc, ◌≤◌, zero-le, suc-le-suc}
use native.Mathlib.Nat.{le-suc}
use lib.ListN.{length}
use Rattle.algebra.specs.Ring.{DiscreteRing}
use Rattle.algebra.proofs.Split.{Split}
use Rattle.galois.specs.Element.{Element, lower, product, zero_e, one_e, same, elements, find, inverse}
use Rattle.galois.proofs.Galois.{GR, modulus, low, raise, low-raise, halve, double, double-inj, double-halve, low-double}
use Rattle.galois.proofs.Table.{length-lower}
use Rattle.galois.proofs.Lists.{to_list, of_list, length-to_list, to_list-inj, of-to, one_of, product-of}
use Rattle.galois.proofs.Elements.{same-eq, same_refl, eq-same, elements-all, elements-only}
use Rattle.galois.proofs.Find.{find-same, found-passes}
use Rattle.galois.proofs.Inverse.{inverse-element}

-- b stands for an inverse of u
unfoldable pub inverts : (d k : ℕ) → (GR d k).E → Element → Bool
unfolding same
inverts d k u b = same (to_list ((GR d k).mul (of_list k d b) u)) (to_list (GR d k).𝟙)

-- the first element that does, or zero
unfoldable pub invert : (d k : ℕ) → (GR d k).E → (GR d k).E
unfolding find elements inverts
invert d k u = of_list k d (get_or (find (inverts d k u) (elements k d)) (zero_e d))

pub invert-unit : (d k : ℕ) (u v : (GR d k).E) → (GR d k).mul v u ≡ (GR d k).𝟙 → (GR d k).mul (invert d k u) u ≡ (GR d k).𝟙
unfolding invert inverts
invert-unit d k u v e =
    let R = GR d k in
    let b = get_or (find (inverts d k u) (elements k d)) (zero_e d) in
    let t : inverts d k u (to_list v) ≡ true =
    eq-same (to_list (R.mul (of_list k d (to_list v)) u)) (to_list R.𝟙) (ap to_list (ap (λ x. R.mul x u) (of-to k v) ∙ e)) in
    to_list-inj k (R.mul (of_list k d b) u) R.𝟙
    (same-eq (to_list (R.mul (of_list k d b) u)) (to_list R.𝟙)
    (found-passes (inverts d k u) (elements k d) (zero_e d) (to_list v) (elements-all k d v) t))

abbrev pub ring_of : ℕ → ℕ → DiscreteRing
ring_of d k =
    record {
      ring = GR d k;
      inv = invert d k;
      eqb = λ u v. same (to_list u) (to_list v);
      inv-unit = invert-unit d k;
      eqb_refl = λ u. same_refl (to_list u);
      eqb-eq = λ u v t. to_list-inj k u v (same-eq (to_list u) (to_list v) t);
    }

-- one level: the lowest bits, and the rest as an element of one bit fewer
abbrev pub split : (d k : ℕ) → Split (GR d (suc k)) (GR d k) (GR d 1)
split d k =
    let F = modulus d in
    record {
      red = low F (suc-le-suc zero-le);
      low = (low F (le-suc k)).fn;
      up = raise (suc k);
      dbl = (double k F).back;
      half = halve k;
      red-up = low-raise (suc-le-suc zero-le);
      dbl-add = (double k F).back-add;
      dbl-mul = (double k F).back-mul;
      dbl-inj = double-inj k F;
      red-dbl = low-double k F;
      dbl-half = double-halve k F;
    }

module _ (d : ℕ) (dl : 2 ≤ d) (dh : d ≤ 6) where
  -- the inverse is the one of the specification
  pub invert-is : (k : ℕ) → 1 ≤ k → (u : (GR d k).E) → to_list (invert d k u) ≡ inverse k d (to_list u)
  unfolding invert inverts inverse
  invert-is k h u =
      let R = GR d k in
      let e = inverse-element k d (to_list u) in
      let s : get_or (find (inverts d k u) (elements k d)) (zero_e d) ≡ inverse k d (to_list u) =
      ap (λ o. get_or o (zero_e d))
      (find-same (inverts d k u) (λ b. same (product k (lower d) (to_list u) b) (one_e d)) (elements k d) one) in
      ap (λ b. to_list (of_list k d b)) (s ∙ sym e.1) ∙ ap to_list (of-to k e.0) ∙ e.1
    where
      one : (b : Element) → Memᴰ b (elements k d) → inverts d k u b ≡ same (product k (lower d) (to_list u) b) (one_e d)
      one b m =
          let R = GR d k in
          let e = elements-only k d b m in
          let l : length b ≡ d = ap length (sym e.1) ∙ length-to_list e.0 in
          let p : product k (lower d) (to_list u) b ≡ to_list (R.mul (of_list k d b) u) =
          product-of k d (lower d) (length-lower d dl dh) d (to_list u) b (length-to_list u) l
          ∙ ap (λ x. to_list (R.mul x (of_list k d b))) (of-to k u) ∙ ap to_list (R.mul_comm u (of_list k d b)) in
          ap₂ same (sym p) (sym (one_of k h d))
