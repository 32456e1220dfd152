-- The value is linear in the coefficients (`value-sum`, `value-multiple`): the sum of dealt shares is the share of the sum of the polynomials
-- (`dealt-sum`). Assumes nothing.
use mathlib.Core.Path.{◌≡◌, refl, sym, ◌∙◌, ap, ap₂}
use mathlib.Core.List.{[], ◌∷◌}
use Prim.Native.Nat.{ℕ, suc, ◌≤◌}
use native.Mathlib.Nat.{suc_inj, suc-ne-zero}
use lib.ListN.{length, get_or, length-map}
use Rattle.algebra.specs.Poly.{eval}
use Rattle.algebra.specs.Shares.{All}
use Rattle.algebra.proofs.Shares.{all_map}
use Rattle.algebra.proofs.Poly.{padd, scale, eval-padd, eval-scale}
use Rattle.galois.specs.Element.{Element, sum, product, lower, point}
use Rattle.galois.proofs.Galois.{GR}
use Rattle.galois.proofs.Table.{length-lower}
use Rattle.galois.proofs.Lists.{to_list, of_list, length-to_list, of-to, width-to, sum-of, sum_to, product-of}
use Rattle.galois.proofs.Points.{length-point}
use Rattle.polynomial.proofs.OverRing.{poly_of, value_of}
use Rattle.codewords.specs.Codeword.{Polynomial, value}
use Rattle.codewords.specs.WellFormed.{IsElement, IsPoly}
use Rattle.codewords.proofs.Value.{Rows, rows_of}
pub use Rattle.codewords.specs.Linear.{multiple, dealt}
unfoldable pub use Rattle.codewords.specs.Linear.{sums}

module _ (k : ℕ) where
  length-sums : (p q : Polynomial) → length p ≡ length q → length (sums k p q) ≡ length p
  unfolding sums
  length-sums [] q l = refl
  length-sums (a ∷ p) [] l = absurd (suc-ne-zero (length p) l)
  length-sums (a ∷ p) (b ∷ q) l = ap suc (length-sums p q (suc_inj l))

  sum-element : (d : ℕ) (a b : Element) → length a ≡ d → length b ≡ d → IsElement k d (sum k a b)
  sum-element d a b l m =
      let u = (GR d k).add (of_list k d a) (of_list k d b) in
      rw (sum-of k d a b l m) (length-to_list u, width-to k u)

  sums-elements : (d : ℕ) (p q : Polynomial) → Rows d p → Rows d q → All (IsElement k d) (sums k p q)
  unfolding sums
  sums-elements d [] q x y = tt
  sums-elements d (a ∷ p) [] x y = tt
  sums-elements d (a ∷ p) (b ∷ q) x y = (sum-element d a b x.0 y.0, sums-elements d p q x.1 y.1)

  sums-of : (d : ℕ) (p q : Polynomial) → Rows d p → Rows d q → length p ≡ length q →
      poly_of k d (sums k p q) ≡ padd (GR d k) (poly_of k d p) (poly_of k d q)
  unfolding sums
  sums-of d [] [] x y l = refl
  sums-of d [] (b ∷ q) x y l = absurd (suc-ne-zero (length q) (sym l))
  sums-of d (a ∷ p) [] x y l = absurd (suc-ne-zero (length p) l)
  sums-of d (a ∷ p) (b ∷ q) x y l =
      ap₂ ◌∷◌ (ap (of_list k d) (sum-of k d a b x.0 y.0) ∙ of-to k ((GR d k).add (of_list k d a) (of_list k d b)))
      (sums-of d p q x.1 y.1 (suc_inj l))

  pub sums-is-poly : (d t : ℕ) (p q : Polynomial) → IsPoly k d t p → IsPoly k d t q → IsPoly k d t (sums k p q)
  sums-is-poly d t p q x y =
      (length-sums p q (x.0 ∙ sym y.0) ∙ x.0, sums-elements d p q (rows_of k d t p x) (rows_of k d t q y))

module _ (d : ℕ) (dl : 2 ≤ d) (dh : d ≤ 6) (k : ℕ) where
  len : length (lower d) ≡ d
  len = length-lower d dl dh

  -- the value of a sum is the sum of the values
  pub value-sum : (p q : Polynomial) → Rows d p → Rows d q → length p ≡ length q → (x : Element) → length x ≡ d →
      value k d (sums k p q) x ≡ sum k (value k d p x) (value k d q x)
  value-sum p q r s l x m =
      let R = GR d k in
      let z = of_list k d x in
      value_of k d dl dh (sums k p q) x (all_map (λ c e. e.0) (sums k p q) (sums-elements k d p q r s)) m
      ∙ ap to_list (ap (λ f. eval R f z) (sums-of k d p q r s l) ∙ eval-padd R (poly_of k d p) (poly_of k d q) z)
      ∙ sym (ap₂ (sum k) (value_of k d dl dh p x r m) (value_of k d dl dh q x s m) ∙ sum_to k (eval R (poly_of k d p) z) (eval R (poly_of k d q) z))

  -- multiples
  multiple-element : (c a : Element) → length c ≡ d → length a ≡ d → IsElement k d (product k (lower d) c a)
  multiple-element c a l m =
      let u = (GR d k).mul (of_list k d c) (of_list k d a) in
      rw (product-of k d (lower d) len d c a l m) (length-to_list u, width-to k u)

  multiple-elements : (c : Element) → length c ≡ d → (p : Polynomial) → Rows d p → All (IsElement k d) (multiple k d c p)
  multiple-elements c l [] x = tt
  multiple-elements c l (a ∷ p) x = (multiple-element c a l x.0, multiple-elements c l p x.1)

  multiple-of : (c : Element) → length c ≡ d → (p : Polynomial) → Rows d p →
      poly_of k d (multiple k d c p) ≡ scale (GR d k) (of_list k d c) (poly_of k d p)
  multiple-of c l [] x = refl
  multiple-of c l (a ∷ p) x =
      ap₂ ◌∷◌ (ap (of_list k d) (product-of k d (lower d) len d c a l x.0) ∙ of-to k ((GR d k).mul (of_list k d c) (of_list k d a)))
      (multiple-of c l p x.1)

  pub multiple-is-poly : (t : ℕ) (c : Element) → length c ≡ d → (p : Polynomial) → IsPoly k d t p → IsPoly k d t (multiple k d c p)
  multiple-is-poly t c l p x = (length-map p (product k (lower d) c) ∙ x.0, multiple-elements c l p (rows_of k d t p x))

  -- the value of a multiple is the multiple of the value
  pub value-multiple : (c : Element) → length c ≡ d → (p : Polynomial) → Rows d p → (x : Element) → length x ≡ d →
      value k d (multiple k d c p) x ≡ product k (lower d) c (value k d p x)
  value-multiple c l p r x m =
      let R = GR d k in
      let z = of_list k d x in
      let v = eval R (poly_of k d p) z in
      value_of k d dl dh (multiple k d c p) x (all_map (λ b e. e.0) (multiple k d c p) (multiple-elements c l p r)) m
      ∙ ap to_list (ap (λ f. eval R f z) (multiple-of c l p r) ∙ eval-scale R (of_list k d c) (poly_of k d p) z)
      ∙ sym (ap (product k (lower d) c) (value_of k d dl dh p x r m)
      ∙ product-of k d (lower d) len d c (to_list v) l (length-to_list v) ∙ ap (λ u. to_list (R.mul (of_list k d c) u)) (of-to k v))

  -- so with dealt shares
  pub dealt-sum : (t : ℕ) (p q : Polynomial) → IsPoly k d t p → IsPoly k d t q → (h : ℕ) →
      (dealt k d (sums k p q) h).words ≡ sum k (dealt k d p h).words (dealt k d q h).words
  dealt-sum t p q x y h =
      value-sum p q (rows_of k d t p x) (rows_of k d t q y) (x.0 ∙ sym y.0) (point d h) (length-point d h)

-- free terms
pub sums-free : (k t : ℕ) (q r : Polynomial) → length q ≡ suc t → length r ≡ suc t → get_or (sums k q r) 0 [] ≡ sum k (get_or q 0 []) (get_or r 0 [])
unfolding sums
sums-free k t [] r l m = absurd (suc-ne-zero t (sym l))
sums-free k t (x ∷ q) [] l m = absurd (suc-ne-zero t (sym m))
sums-free k t (x ∷ q) (y ∷ r) l m = refl

pub multiple-free : (k d t : ℕ) (c : Element) (q : Polynomial) → length q ≡ suc t → get_or (multiple k d c q) 0 [] ≡ product k (lower d) c (get_or q 0 [])
multiple-free k d t c [] l = absurd (suc-ne-zero t (sym l))
multiple-free k d t c (x ∷ q) l = refl
