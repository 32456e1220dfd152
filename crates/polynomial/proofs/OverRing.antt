-- Rows as polynomials over the ring of the elements, `GR d k`: values, p - e q and (Z - x) p of rows are those of the polynomials;
-- and a value in more bits, cut to fewer, is the one at fewer. Assumes nothing.
use mathlib.Core.Path.{◌≡◌, refl, sym, ◌∙◌, ap, ap₂}
use mathlib.Core.List.{List, [], ◌∷◌, map}
use Prim.Native.Nat.{ℕ, zero, suc, ◌≤◌, ◌<◌}
use native.Mathlib.Omega.{arith}
use lib.ListN.{length, take, replicate, length-map}
use lib.Seq.{length-take-le}
use Rattle.algebra.specs.Poly.{eval, coef}
use Rattle.algebra.specs.Shares.{All}
use Rattle.algebra.proofs.Ring.{mul-zero, add-zero}
use Rattle.algebra.proofs.Poly.{Low, Same, lin, mulx, eval-same, same-take}
use Rattle.galois.specs.Element.{Element, sum, difference, lower, product, one_e, reduce, held}
use Rattle.galois.proofs.Galois.{GR}
use Rattle.galois.proofs.Table.{length-lower}
use Rattle.galois.proofs.Lists.{to_list, of_list, length-to_list, of-to, of-take, to-of, sum-of, difference-to, product-of, zero_of, one_of}
use Rattle.galois.proofs.Lists.{reduce-product}
use Rattle.galois.proofs.Held.{held-take, held-length, zeros-held, to-six}
use Rattle.galois.proofs.Narrow.{reduce-zeros, reduce-sum, reduce-held, sum-reduce, product-reduce}
use Rattle.polynomial.specs.Polynomial.{Polynomial, value}
use Rattle.polynomial.specs.Rows.{Rows, coefs, change, less_times, less_multiple, subtract_rows, root_rows}
use Rattle.polynomial.proofs.Change.{change-map, change-lin, change-mulx}

module _ (k d : ℕ) where
  -- the row of an element, and the polynomial of rows
  abbrev pub row : (GR d k).E → List ℕ
  row u = held d (to_list u)

  abbrev pub poly_of : Rows → List (GR d k).E
  poly_of = map (of_list k d)

  -- rows of elements: six words each, in width, with zeros after the d words
  abbrev pub Exact : Rows → Type 0
  Exact p = map row (poly_of p) ≡ p

  pub take_row : (u : (GR d k).E) → take d (row u) ≡ to_list u
  take_row u = held-take d (to_list u) (length-to_list u)

  pub of_row : (u : (GR d k).E) → of_list k d (row u) ≡ u
  of_row u = sym (of-take k d (row u)) ∙ ap (of_list k d) (take_row u) ∙ of-to k u

  pub length-row : d ≤ 6 → (u : (GR d k).E) → length (row u) ≡ 6
  length-row h u = held-length d (to_list u) (length-to_list u) h

  pub row_zero : d ≤ 6 → row (GR d k).𝟘 ≡ replicate 6 0
  row_zero h = ap (held d) (sym (zero_of k d)) ∙ zeros-held d h

  pub row_one : 1 ≤ k → 1 ≤ d → d ≤ 6 → row (GR d k).𝟙 ≡ 1 ∷ replicate 5 0
  row_one h l m =
      ap (held d) (sym (one_of k h d))
      ∙ to-six (λ n. 1 ≤ n → held n (one_e n) ≡ 1 ∷ replicate 5 0) (λ z. absurd (omega arith))
      (λ _. refl) (λ _. refl) (λ _. refl) (λ _. refl) (λ _. refl) (λ _. refl) d m l

  pub poly-rows : (us : List (GR d k).E) → poly_of (map row us) ≡ us
  poly-rows [] = refl
  poly-rows (u ∷ us) = ap₂ ◌∷◌ (of_row u) (poly-rows us)

  pub exact-rows : (us : List (GR d k).E) → Exact (map row us)
  exact-rows us = ap (map row) (poly-rows us)

  -- what is equal to the rows of some elements
  pub exact-by : (p : Rows) (us : List (GR d k).E) → p ≡ map row us → Exact p
  exact-by p us e = ap (λ q. map row (poly_of q)) e ∙ exact-rows us ∙ sym e

  pub poly-by : (p : Rows) (us : List (GR d k).E) → p ≡ map row us → poly_of p ≡ us
  poly-by p us e = ap poly_of e ∙ poly-rows us

  pub exact-length : d ≤ 6 → (p : Rows) → Exact p → All (λ r. length r ≡ 6) p
  exact-length h p e = rw (← e) (go (poly_of p))
    where
      go : (us : List (GR d k).E) → All (λ r. length r ≡ 6) (map row us)
      go [] = tt
      go (u ∷ us) = (length-row h u, go us)

  -- the rows of the zero polynomial, and of one
  pub zero-rows : d ≤ 6 → (n : ℕ) → replicate n (replicate 6 0) ≡ map row (replicate n (GR d k).𝟘)
  zero-rows h zero = refl
  zero-rows h (suc n) = ap₂ ◌∷◌ (sym (row_zero h)) (zero-rows h n)

  pub one-rows : 1 ≤ k → 1 ≤ d → d ≤ 6 → (n : ℕ) → (1 ∷ replicate 5 0) ∷ replicate n (replicate 6 0) ≡ map row ((GR d k).𝟙 ∷ replicate n (GR d k).𝟘)
  one-rows h l m n = ap₂ ◌∷◌ (sym (row_one h l m)) (zero-rows m n)

  -- the polynomial of rows that are long enough
  poly-coefs : (n : ℕ) (p : Rows) → poly_of (coefs d n p) ≡ take n (poly_of p)
  poly-coefs zero p = refl
  poly-coefs (suc n) [] = refl
  poly-coefs (suc n) (a ∷ p) = ap₂ ◌∷◌ (of-take k d a) (poly-coefs n p)

  coefs-length : d ≤ 6 → (n : ℕ) (p : Rows) → All (λ r. length r ≡ 6) p → All (λ r. length r ≡ d) (coefs d n p)
  coefs-length h zero p l = tt
  coefs-length h (suc n) [] l = tt
  coefs-length h (suc n) (a ∷ p) (l, m) = (length-take-le d a (rw l h), coefs-length h n p m)

  module _ (dl : 2 ≤ d) (dh : d ≤ 6) where
    infixl 65 ◌⊕◌
    infixl 70 ◌⊗◌
    open GR d k use {E, add as ◌⊕◌, mul as ◌⊗◌, neg as ⊖, 𝟘, 𝟙}

    product-row : (c : Element) (u : E) → length c ≡ d → product k (lower d) c (to_list u) ≡ to_list (of_list k d c ⊗ u)
    product-row c u l =
        product-of k d (lower d) (length-lower d dl dh) d c (to_list u) l (length-to_list u) ∙ ap (λ v. to_list (of_list k d c ⊗ v)) (of-to k u)

    pub value_of : (cs : Polynomial) (x : Element) → All (λ c. length c ≡ d) cs → length x ≡ d
        → value k d cs x ≡ to_list (eval (GR d k) (poly_of cs) (of_list k d x))
    unfolding value
    value_of [] x l m = zero_of k d
    value_of (c ∷ cs) x (l, ls) m =
        let v = eval (GR d k) (poly_of cs) (of_list k d x) in
        let w = of_list k d x ⊗ v in
        ap (λ r. sum k c (product k (lower d) x r)) (value_of cs x ls m)
        ∙ ap (sum k c) (product-row x v m)
        ∙ sum-of k d c (to_list w) l (length-to_list w)
        ∙ ap (λ r. to_list (of_list k d c ⊕ r)) (of-to k w)

    -- of one coefficient
    pub value-last : (c x : Element) → length c ≡ d → length x ≡ d → value k d (c ∷ []) x ≡ reduce k c
    value-last c x l m =
        value_of (c ∷ []) x (l, tt) m
        ∙ ap (λ v. to_list (of_list k d c ⊕ v)) (mul-zero (GR d k) (of_list k d x))
        ∙ ap to_list (add-zero (GR d k) (of_list k d c))
        ∙ to-of k d c l

    -- the value of the first n rows
    pub value-rows : (n : ℕ) (p : Rows) (x : Element) → All (λ r. length r ≡ 6) p → length x ≡ d
        → value k d (coefs d n p) x ≡ to_list (eval (GR d k) (take n (poly_of p)) (of_list k d x))
    value-rows n p x l m =
        value_of (coefs d n p) x (coefs-length dh n p l) m ∙ ap (λ us. to_list (eval (GR d k) us (of_list k d x))) (poly-coefs n p)

    pub value-length : (n : ℕ) (p : Rows) (x : Element) → All (λ r. length r ≡ 6) p → length x ≡ d → length (value k d (coefs d n p) x) ≡ d
    value-length n p x l m = ap length (value-rows n p x l m) ∙ length-to_list (eval (GR d k) (take n (poly_of p)) (of_list k d x))

    -- of all rows, if the coefficients beyond are zero
    pub value_low : (n : ℕ) (p : Rows) (x : Element) → All (λ r. length r ≡ 6) p → length x ≡ d → Low (GR d k) n (poly_of p)
        → value k d (coefs d n p) x ≡ to_list (eval (GR d k) (poly_of p) (of_list k d x))
    value_low n p x l m h =
        value-rows n p x l m ∙ ap to_list (eval-same (GR d k) (take n (poly_of p)) (poly_of p) (of_list k d x) (same-take (GR d k) n (poly_of p) h))

    less-row : (x : Element) → length x ≡ d → (b a : E) → less_times k d x (row b) (row a) ≡ row (b ⊕ ⊖ (of_list k d x ⊗ a))
    less-row x lx b a =
        ap₂ (λ u v. held d (difference k u (product k (lower d) x v))) (take_row b) (take_row a)
        ∙ ap (λ v. held d (difference k (to_list b) v)) (product-row x a lx)
        ∙ ap (held d) (difference-to k b (of_list k d x ⊗ a))

    -- p - e q
    module _ (n : ℕ) (p : Rows) (e : Element) (q : Rows) (le : length e ≡ d) (xp : Exact p) (xq : Exact q) where
      abbrev less_of : E → E → E
      less_of b a = a ⊕ ⊖ (of_list k d e ⊗ b)

      subtract-rows : subtract_rows k d n p e q ≡ map row (change less_of n (poly_of q) (poly_of p))
      subtract-rows =
          ap₂ (change (less_multiple k d e) n) (sym xq) (sym xp)
          ∙ change-map row less_of (less_multiple k d e) (λ b a. less-row e le a b) n (poly_of q) (poly_of p)

      pub subtract-exact : Exact (subtract_rows k d n p e q)
      subtract-exact = exact-by (subtract_rows k d n p e q) (change less_of n (poly_of q) (poly_of p)) subtract-rows

      pub subtract-same : length p ≡ length q → Low (GR d k) n (poly_of p) → Low (GR d k) n (poly_of q)
          → Same (GR d k) (poly_of (subtract_rows k d n p e q)) (lin (GR d k) 𝟙 (poly_of p) (⊖ (of_list k d e)) (poly_of q))
      subtract-same l hp hq j =
          ap (λ us. coef (GR d k) us j) (poly-by (subtract_rows k d n p e q) (change less_of n (poly_of q) (poly_of p)) subtract-rows)
          ∙ change-lin (GR d k) (of_list k d e) n (poly_of p) (poly_of q) (length-map p (of_list k d) ∙ l ∙ sym (length-map q (of_list k d))) hp hq j

    -- (Z - x) p
    module _ (n : ℕ) (x : Element) (p : Rows) (lx : length x ≡ d) (xp : Exact p) where
      abbrev root_of : E → E → E
      root_of b a = b ⊕ ⊖ (of_list k d x ⊗ a)

      root-rows : root_rows k d n x p ≡ map row (change root_of n (𝟘 ∷ poly_of p) (poly_of p))
      root-rows =
          ap₂ (change (less_times k d x) n) (ap₂ ◌∷◌ (sym (row_zero dh)) (sym xp)) (sym xp)
          ∙ change-map row root_of (less_times k d x) (less-row x lx) n (𝟘 ∷ poly_of p) (poly_of p)

      pub root-exact : Exact (root_rows k d n x p)
      root-exact = exact-by (root_rows k d n x p) (change root_of n (𝟘 ∷ poly_of p) (poly_of p)) root-rows

      pub root-same : (m : ℕ) → m < n → n ≤ length p → Low (GR d k) m (poly_of p)
          → Same (GR d k) (poly_of (root_rows k d n x p)) (mulx (GR d k) (of_list k d x) (poly_of p))
      root-same m l h low j =
          ap (λ us. coef (GR d k) us j) (poly-by (root_rows k d n x p) (change root_of n (𝟘 ∷ poly_of p) (poly_of p)) root-rows)
          ∙ change-mulx (GR d k) (of_list k d x) n m (poly_of p) l (rw (length-map p (of_list k d)) h) low j

-- fewer bits of a value
pub reduce-value : {j k : ℕ} → j ≤ k → (d : ℕ) → 2 ≤ d → d ≤ 6 → (cs : Polynomial) (x : Element) → All (λ c. length c ≡ d) cs → length x ≡ d
    → reduce j (value k d cs x) ≡ value j d cs x
unfolding value
reduce-value {j} h d dl dh [] x l m = reduce-zeros j d
reduce-value {j} {k} h d dl dh (c ∷ cs) x (l, ls) m =
    let v = value k d cs x in
    let hv : length v ≡ d = ap length (value_of k d dl dh cs x ls m) ∙ length-to_list (eval (GR d k) (poly_of k d cs) (of_list k d x)) in
    reduce-sum h c (product k (lower d) x v)
    ∙ sym (sum-reduce j c (product k (lower d) x v))
    ∙ ap (sum j c)
    (reduce-product h d (lower d) (length-lower d dl dh) x v m hv
    ∙ sym (product-reduce j d dl dh x v m hv)
    ∙ ap (product j (lower d) x) (reduce-value h d dl dh cs x ls m))

module _ {j k : ℕ} (h : j ≤ k) (d : ℕ) (dl : 2 ≤ d) (dh : d ≤ 6) (n : ℕ) (p : Rows) (x : Element)
    (l : All (λ r. length r ≡ 6) p) (m : length x ≡ d) where
  pub value-reduced : reduce j (value k d (coefs d n p) x) ≡ value j d (coefs d n p) x
  value-reduced = reduce-value h d dl dh (coefs d n p) x (coefs-length k d dh n p l) m

  pub narrow-value : reduce j (held d (value k d (coefs d n p) x)) ≡ held d (value j d (coefs d n p) x)
  narrow-value = reduce-held j d (value k d (coefs d n p) x) (value-length k d dl dh n p x l m) dh ∙ ap (held d) value-reduced
