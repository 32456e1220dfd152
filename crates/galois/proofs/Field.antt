-- Modulo two each row of the table gives a field: one test, computed over the rows and over all elements of each, and the law that gives it for
-- each element. So what is not zero modulo two is a unit at every k. Assumes nothing.
use mathlib.Core.Path.{◌≡◌, refl, sym, ◌∙◌, ap}
use mathlib.Core.Logic.{◌≢◌}
use mathlib.Core.Bool.{Bool, true, false, ◌||◌}
use Prim.Native.Nat.{ℕ, zero, suc, ◌-◌, ◌≤◌}
use native.Mathlib.Nat.{le_refl}
use native.Mathlib.Omega.{arith}
use lib.ListN.{length}
use Rattle.words.specs.Word.{add_w, neg_w, sub_w, mul_w}
use Rattle.algebra.specs.Ring.{IsUnit, IsField}
use Rattle.algebra.proofs.Ring.{sub-zero}
use Rattle.algebra.proofs.Units.{fn-diff}
use Rattle.algebra.proofs.Vec.{Vec, vhead}
use Rattle.galois.specs.Inversion.{fermat}
use Rattle.galois.specs.Field.{passes, every, field_at}
use Rattle.galois.specs.Element.{Element, lower, product, zero_e, one_e, reduce, same, elements}
use Rattle.galois.proofs.Zmod.{Word}
use Rattle.galois.proofs.Galois.{GR, modulus, low, unit-of-low}
use Rattle.galois.proofs.Table.{passes_at, length-lower}
use Rattle.galois.proofs.Lists.{to_list, of_list, length-to_list, length-reduce, length-product, of-to, to-of, of-reduce, reduce-to, of_zero, of_one, of-product, product-same}
use Rattle.galois.proofs.Elements.{same-eq, listed, every-at}

-- the rows 2 to 6, and all elements modulo two of each
pub table-field : passes (λ d. every (field_at d) (elements 1 d)) 2 5 ≡ true
unfolding passes every field_at elements lower add_w sub_w neg_w mul_w
table-field = refl

or_right : (a b : Bool) → (a || b) ≡ true → (a ≡ true → ⊥) → b ≡ true
or_right true b t n = absurd (n refl)
or_right false b t n = t

field-at : (d : ℕ) (r : Element) → field_at d r ≡ true → r ≢ zero_e d → product 1 (lower d) r (fermat d r (d - 2)) ≡ one_e d
unfolding field_at
field-at d r t n =
    same-eq (product 1 (lower d) r (fermat d r (d - 2))) (one_e d)
    (or_right (same r (zero_e d)) (same (product 1 (lower d) r (fermat d r (d - 2))) (one_e d)) t (λ s. n (same-eq r (zero_e d) s)))

-- one is not zero modulo two
pub one_not_zero : (d : ℕ) → 1 ≤ d → (GR d 1).𝟙 ≢ (GR d 1).𝟘
one_not_zero zero h e = absurd (omega arith)
one_not_zero (suc d) h e = let z : ◌≡◌ {A = ℕ} 1 0 = ap (λ (v : Vec (Word 2) (suc d)). (vhead v).val) e in absurd (omega arith)

module _ (d : ℕ) (dl : 2 ≤ d) (dh : d ≤ 6) where
  len : length (lower d) ≡ d
  len = length-lower d dl dh

  pub length-fermat : (a : Element) → length a ≡ d → (n : ℕ) → length (fermat d a n) ≡ d
  unfolding fermat
  length-fermat a l zero = length-product 1 (lower d) a a (l ∙ sym len) ∙ len
  length-fermat a l (suc n) =
      let y = product 1 (lower d) (fermat d a n) a in
      let m : length y ≡ length (lower d) = length-product 1 (lower d) (fermat d a n) a (l ∙ sym len) in
      length-product 1 (lower d) y y m ∙ len

  fermat-reduce : (a : Element) → length a ≡ d → (n : ℕ) → fermat d (reduce 1 a) n ≡ fermat d a n
  unfolding fermat
  fermat-reduce a l zero =
      let m : length (reduce 1 a) ≡ d = length-reduce 1 a ∙ l in
      let e : of_list 1 d (reduce 1 a) ≡ of_list 1 d a = of-reduce (le_refl 1) d a in
      product-same 1 d (lower d) len (reduce 1 a) (reduce 1 a) a a m m l l e e
  fermat-reduce a l (suc n) =
      let m : length (reduce 1 a) ≡ d = length-reduce 1 a ∙ l in
      let y : product 1 (lower d) (fermat d (reduce 1 a) n) (reduce 1 a) ≡ product 1 (lower d) (fermat d a n) a =
      product-same 1 d (lower d) len (fermat d (reduce 1 a) n) (reduce 1 a) (fermat d a n) a (length-fermat (reduce 1 a) m n) m (length-fermat a l n) l
      (ap (of_list 1 d) (fermat-reduce a l n)) (of-reduce (le_refl 1) d a) in
      ap (λ z. product 1 (lower d) z z) y

  -- Fermat: for what is not zero modulo two, the chain of squares is an inverse modulo two
  pub fermat-inverse : (a : Element) → length a ≡ d → reduce 1 a ≢ zero_e d → product 1 (lower d) a (fermat d a (d - 2)) ≡ one_e d
  fermat-inverse a l n =
      let r = reduce 1 a in
      let m : length r ≡ d = length-reduce 1 a ∙ l in
      let rr : reduce 1 r ≡ r = ap (reduce 1) (sym (to-of 1 d a l)) ∙ reduce-to 1 (of_list 1 d a) ∙ to-of 1 d a l in
      let row : every (field_at d) (elements 1 d) ≡ true = passes_at (λ d. every (field_at d) (elements 1 d)) 2 5 table-field d dl (omega arith) in
      let t : field_at d r ≡ true = every-at (field_at d) (elements 1 d) row r (listed 1 d r m rr) in
      let f : product 1 (lower d) r (fermat d r (d - 2)) ≡ one_e d = field-at d r t n in
      product-same 1 d (lower d) len a (fermat d a (d - 2)) r (fermat d r (d - 2)) l (length-fermat a l (d - 2)) m (length-fermat r m (d - 2))
      (sym (of-reduce (le_refl 1) d a)) (ap (of_list 1 d) (sym (fermat-reduce a l (d - 2)))) ∙ f

  -- the ring of one bit is a field
  pub is_field : IsField (GR d 1)
  is_field = record { unit = unit; apart = one_not_zero d (omega arith) }
    where
      unit : (v : (GR d 1).E) → v ≢ (GR d 1).𝟘 → IsUnit (GR d 1) v
      unit v n =
          let a = to_list v in
          let x = fermat d a (d - 2) in
          let o : reduce 1 a ≢ zero_e d =
          λ z. n (sym (of-to 1 v) ∙ ap (of_list 1 d) (sym (reduce-to 1 v) ∙ z) ∙ of_zero 1 d) in
          let m : length x ≡ d = length-fermat a (length-to_list v) (d - 2) in
          let p : (GR d 1).mul v (of_list 1 d x) ≡ (GR d 1).𝟙 =
          ap (λ u. (GR d 1).mul u (of_list 1 d x)) (sym (of-to 1 v)) ∙ sym (of-product (le_refl 1) d (lower d) len a x (length-to_list v) m)
          ∙ ap (of_list 1 d) (fermat-inverse a (length-to_list v) o) ∙ of_one 1 d in
          (of_list 1 d x, (GR d 1).mul_comm (of_list 1 d x) v ∙ p)

  module _ (k : ℕ) (h : 1 ≤ k) where
    -- what is not zero modulo two is a unit
    pub unit-of-odd : (a : (GR d k).E) → (low (modulus d) h).fn a ≢ (GR d 1).𝟘 → IsUnit (GR d k) a
    unit-of-odd a n = unit-of-low (modulus d) k h a (is_field.unit ((low (modulus d) h).fn a) n)

    -- and so is the difference of two that differ modulo two
    pub unit-of-apart : (a b : (GR d k).E) → (low (modulus d) h).fn a ≢ (low (modulus d) h).fn b → IsUnit (GR d k) ((GR d k).add a ((GR d k).neg b))
    unit-of-apart a b n =
        let f = low (modulus d) h in
        unit-of-odd ((GR d k).add a ((GR d k).neg b)) (λ z. n (sub-zero (GR d 1) (f.fn a) (f.fn b) (sym (fn-diff f a b) ∙ z)))
