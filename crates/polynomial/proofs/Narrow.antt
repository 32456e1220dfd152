-- Rows of k bits may be cut to j bits at any time: values, p - e q, (Z - x) p and Newton's step of cut rows at j bits are those at k bits, cut
-- after. Only the inverse is of j bits from the start. Assumes nothing.
use mathlib.Core.Path.{◌≡◌, refl, sym, ◌∙◌, ap, ap₂}
use mathlib.Core.List.{List, [], ◌∷◌}
use Prim.Native.Nat.{ℕ, ◌+◌, ◌≤◌}
use native.Mathlib.Nat.{le_refl}
use native.Mathlib.Omega.{arith}
use lib.ListN.{length, take, replicate}
use lib.Seq.{length-take-le}
use Rattle.words.specs.Word.{sub_w}
use Rattle.algebra.specs.Poly.{eval}
use Rattle.algebra.specs.Shares.{All}
use Rattle.galois.specs.Element.{Element, difference, lower, product, reduce, inverse, held}
use Rattle.galois.proofs.Galois.{GR}
use Rattle.galois.proofs.Table.{length-lower}
use Rattle.galois.proofs.Lists.{to_list, of_list, length-reduce, length-zip, length-product, of-take, to-of, of-reduce}
use Rattle.galois.proofs.Lists.{difference-of, of-difference, of-product}
use Rattle.galois.proofs.Inverse.{length-inverse, inverse-same}
use Rattle.galois.proofs.Narrow.{reduce-zeros, reduce-held}
use Rattle.polynomial.specs.Polynomial.{value}
use Rattle.polynomial.specs.Rows.{Rows, coefs, change, less_times, less_multiple, subtract_rows, root_rows, excess, extend_rows, reduce_rows}
use Rattle.polynomial.proofs.Change.{change-map-all}
use Rattle.polynomial.proofs.OverRing.{poly_of, value-rows, value-length, value-reduced}
use Rattle.polynomial.proofs.Turns.{product-length, difference-length, excess_by}

abbrev Six : List ℕ → Type 0
Six r = length r ≡ 6

rows-six : (j : ℕ) (p : Rows) → All Six p → All Six (reduce_rows j p)
rows-six j [] l = tt
rows-six j (a ∷ p) (l, ls) = (length-reduce j a ∙ l, rows-six j p ls)

poly-reduce : (j d : ℕ) (p : Rows) → poly_of j d (reduce_rows j p) ≡ poly_of j d p
poly-reduce j d [] = refl
poly-reduce j d (a ∷ p) = ap₂ ◌∷◌ (of-reduce (le_refl j) d a) (poly-reduce j d p)

module _ {j k : ℕ} (h : j ≤ k) (d : ℕ) (dl : 2 ≤ d) (dh : d ≤ 6) where
  infixl 65 ◌⊕◌
  infixl 70 ◌⊗◌
  open GR d j use {E, add as ◌⊕◌, mul as ◌⊗◌, neg as ⊖}

  abbrev of : Element → E
  of = of_list j d

  hl : length (lower d) ≡ d
  hl = length-lower d dl dh

  -- the first d words of a row
  length-first : (a : List ℕ) → Six a → length (take d a) ≡ d
  length-first a l = length-take-le d a (omega arith)

  of_cut : (a : List ℕ) → of (take d (reduce j a)) ≡ of (take d a)
  of_cut a = of-take j d (reduce j a) ∙ of-reduce (le_refl j) d a ∙ sym (of-take j d a)

  -- a row less x times another, where y is x at j bits
  less-narrow : (x y : Element) → length x ≡ d → length y ≡ d → of x ≡ of y → (b a : List ℕ) → Six b → Six a
      → less_times j d y (reduce j b) (reduce j a) ≡ reduce j (less_times k d x b a)
  less-narrow x y lx ly e b a lb la =
      let b' = reduce j b in
      let a' = reduce j a in
      let lb' : Six b' = length-reduce j b ∙ lb in
      let la' : Six a' = length-reduce j a ∙ la in
      let v = product k (lower d) x (take d a) in
      let v' = product j (lower d) y (take d a') in
      let ev : of v' ≡ of v =
      of-product (le_refl j) d (lower d) hl y (take d a') ly (length-first a' la') ∙ ap₂ ◌⊗◌ (sym e) (of_cut a)
      ∙ sym (of-product h d (lower d) hl x (take d a) lx (length-first a la)) in
      let ld : length (difference k (take d b) v) ≡ d = difference-length k d dl dh x b a lb la in
      ap (held d)
      (difference-of j d (take d b') v' (length-first b' lb') (product-length j d dl dh y a' la')
      ∙ ap₂ (λ u z. to_list (u ⊕ ⊖ z)) (of_cut b) ev
      ∙ ap to_list (sym (of-difference h d (take d b) v (length-first b lb) (product-length k d dl dh x a la)))
      ∙ to-of j d (difference k (take d b) v) ld)
      ∙ sym (reduce-held j d (difference k (take d b) v) ld dh)

  subtract-narrow : (n : ℕ) (p : Rows) (e f : Element) (q : Rows) → length e ≡ d → length f ≡ d → of e ≡ of f → All Six p → All Six q
      → reduce_rows j (subtract_rows k d n p e q) ≡ subtract_rows j d n (reduce_rows j p) f (reduce_rows j q)
  subtract-narrow n p e f q le lf ef lp lq =
      sym (change-map-all Six (reduce j) (less_multiple k d e) (less_multiple j d f) (λ b a lb la. less-narrow e f le lf ef a b la lb) n q p lq lp)

  pub root-narrow : (n : ℕ) (x : Element) (p : Rows) → length x ≡ d → All Six p
      → reduce_rows j (root_rows k d n x p) ≡ root_rows j d n x (reduce_rows j p)
  root-narrow n x p lx lp =
      sym (ap (λ (z : List ℕ). change (less_times j d x) n (z ∷ reduce_rows j p) (reduce_rows j p)) (sym (reduce-zeros j 6))
      ∙ change-map-all Six (reduce j) (less_times k d x) (less_times j d x) (less-narrow x x lx lx refl) n (replicate 6 0 ∷ p) p (refl, lp) lp)

  value-narrow : (n : ℕ) (p : Rows) (x : Element) → All Six p → length x ≡ d
      → value j d (coefs d n (reduce_rows j p)) x ≡ reduce j (value k d (coefs d n p) x)
  value-narrow n p x l m =
      value-rows j d dl dh n (reduce_rows j p) x (rows-six j p l) m
      ∙ ap (λ us. to_list (eval (GR d j) (take n us) (of x))) (poly-reduce j d p)
      ∙ sym (value-rows j d dl dh n p x l m)
      ∙ sym (value-reduced h d dl dh n p x l m)

  module _ (n : ℕ) (q m : Rows) (x y : Element) (lq : All Six q) (lm : All Six m) (lx : length x ≡ d) (ly : length y ≡ d) where
    abbrev v : Element
    v = value k d (coefs d n q) x

    abbrev w : Element
    w = value k d (coefs d (n + 1) m) x

    abbrev v' : Element
    v' = value j d (coefs d n (reduce_rows j q)) x

    abbrev w' : Element
    w' = value j d (coefs d (n + 1) (reduce_rows j m)) x

    lv : length v ≡ d
    lv = value-length k d dl dh n q x lq lx

    lw : length w ≡ d
    lw = value-length k d dl dh (n + 1) m x lm lx

    lv' : length v' ≡ d
    lv' = value-length j d dl dh n (reduce_rows j q) x (rows-six j q lq) lx

    lw' : length w' ≡ d
    lw' = value-length j d dl dh (n + 1) (reduce_rows j m) x (rows-six j m lm) lx

    of-value : of v ≡ of v'
    of-value = sym (ap of (value-narrow n q x lq lx) ∙ of-reduce (le_refl j) d v)

    inverse-is : inverse j d w ≡ inverse j d w'
    inverse-is = inverse-same j d dl dh w w' lw lw' (sym (ap of (value-narrow (n + 1) m x lm lx) ∙ of-reduce (le_refl j) d w))

    length-times : (i : ℕ) (a b : Element) → length (product i (lower d) a (inverse j d b)) ≡ d
    length-times i a b = length-product i (lower d) a (inverse j d b) (length-inverse j d b ∙ sym hl) ∙ hl

    length-less : (i : ℕ) (a : Element) → length a ≡ d → length (difference i a y) ≡ d
    length-less i a l = length-zip (sub_w i) a y (l ∙ sym ly) ∙ ly

    of-excess : of (excess_by j k d n q m x y) ≡ of (excess j d n (reduce_rows j q) (reduce_rows j m) x y)
    of-excess =
        of-product h d (lower d) hl (difference k v y) (inverse j d w) (length-less k v lv) (length-inverse j d w)
        ∙ ap₂ ◌⊗◌ (of-difference h d v y lv ly ∙ ap (λ u. u ⊕ ⊖ (of y)) of-value ∙ sym (of-difference (le_refl j) d v' y lv' ly)) (ap of inverse-is)
        ∙ sym (of-product (le_refl j) d (lower d) hl (difference j v' y) (inverse j d w') (length-less j v' lv') (length-inverse j d w'))

    pub extend-narrow : reduce_rows j (subtract_rows k d (n + 1) q (excess_by j k d n q m x y) m)
        ≡ extend_rows j d n (reduce_rows j q) (reduce_rows j m) x y
    extend-narrow =
        subtract-narrow (n + 1) q (excess_by j k d n q m x y) (excess j d n (reduce_rows j q) (reduce_rows j m) x y) m
        (length-times k (difference k v y) w) (length-times j (difference j v' y) w') of-excess lq lm
