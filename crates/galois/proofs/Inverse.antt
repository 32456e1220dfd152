-- The inverse, as the specification defines it: an element has one exactly when it is not zero modulo two, and then `inverse` is the only one;
-- at the others `inverse` is zero. And how it is computed: by Fermat modulo two, then Newton's step x (2 - a x), which doubles the bits.
-- Assumes nothing.
use mathlib.Core.Path.{◌≡◌, refl, sym, ◌∙◌, ap, ap₂}
use mathlib.Core.Logic.{◌≢◌}
use mathlib.Core.Bool.{true≢false}
use mathlib.Core.Option.{get_or}
use Prim.Native.Nat.{ℕ, zero, suc, ◌-◌, ◌*◌, ◌^◌, ◌≤◌, min}
use native.Mathlib.Nat.{le_refl, le_trans, pow-suc}
use native.Mathlib.Omega.{arith}
use lib.ListN.{length, take, length-replicate}
use lib.Seq.{length-take-le}
use lib.Pow.{pow_pos}
use Rattle.words.specs.Word.{sub_w}
use Rattle.words.proofs.Mod.{mods}
use Rattle.words.proofs.Tests.{bool_cases, not-held}
use Rattle.algebra.specs.Ring.{IsUnit}
use Rattle.algebra.proofs.Ring.{mul-zero, zero-mul, inverse-only}
use Rattle.algebra.proofs.Vec.{Vec, nil, cons}
use Rattle.algebra.proofs.Extension.{unit, pad, vadd, vadd-zero}
use Rattle.galois.specs.Inversion.{fermat, two_e, newton, newtons}
use Rattle.galois.specs.Element.{Element, lower, difference, product, zero_e, one_e, reduce, same, elements, inverse, held}
use Rattle.galois.proofs.Zmod.{Word, word-ext}
use Rattle.galois.proofs.Galois.{Zk, GR, modulus, low, newton-lift, step}
use Rattle.galois.proofs.Table.{length-lower}
use Rattle.galois.proofs.Lists.{to_list, of_list, const-suc, length-to_list, length-zip, length-product, length-reduce}
use Rattle.galois.proofs.Lists.{of-to, to-of, low_of, of-reduce, reduce-to, zero_of, of_zero, one_of, of_one}
use Rattle.galois.proofs.Lists.{product-of, of-product, of-difference, reduce-product, reduce-reduce, product-same, product-alike}
use Rattle.galois.proofs.Elements.{same-eq, eq-same, elements-all, elements-only, listed-only}
use Rattle.galois.proofs.Find.{none-find, find-same, found-passes, found-is}
use Rattle.galois.proofs.Held.{held-take, held-length}
use Rattle.galois.proofs.Narrow.{reduce-take, reduce-zeros, narrow-product}
use Rattle.galois.proofs.Field.{length-fermat, fermat-inverse, one_not_zero, unit-of-odd}

-- `inverse` is an element
pub inverse-element : (k d : ℕ) (a : Element) → (u : Vec (Word (2 ^ k)) d) × (to_list u ≡ inverse k d a)
unfolding inverse
inverse-element k d a =
    found-is (λ e. (u : Vec (Word (2 ^ k)) d) × (to_list u ≡ e)) (λ b. same (product k (lower d) a b) (one_e d)) (elements k d) (zero_e d)
    (elements-only k d) (pad (Zk k) d nil, sym (zero_of k d))

-- the inverse depends on the words modulo 2^k alone
pub inverse-same : (k d : ℕ) → 2 ≤ d → d ≤ 6 → (a b : Element) → length a ≡ d → length b ≡ d → of_list k d a ≡ of_list k d b → inverse k d a ≡ inverse k d b
unfolding inverse
inverse-same k d dl dh a b la lb e =
    ap (λ o. get_or o (zero_e d))
    (find-same (λ y. same (product k (lower d) a y) (one_e d)) (λ y. same (product k (lower d) b y) (one_e d)) (elements k d)
    (λ y m.
    let ly : length y ≡ d = (listed-only k d y m).0 in
    ap (λ z. same z (one_e d)) (product-same k d (lower d) (length-lower d dl dh) a y b y la ly lb ly e refl)))

pub length-inverse : (k d : ℕ) (a : Element) → length (inverse k d a) ≡ d
length-inverse k d a = let e = inverse-element k d a in ap length (sym e.1) ∙ length-to_list e.0

pub reduce-inverse : (k d : ℕ) (a : Element) → reduce k (inverse k d a) ≡ inverse k d a
reduce-inverse k d a = let e = inverse-element k d a in ap (reduce k) (sym e.1) ∙ reduce-to k e.0 ∙ e.1

pub length_two : (d : ℕ) → length (two_e d) ≡ d
length_two zero = refl
length_two (suc d) = ap length (const-suc 2 d) ∙ ap suc (length-replicate d 0)

of_two : (k d : ℕ) → of_list k d (two_e d) ≡ vadd (Zk k) (unit (Zk k) d) (unit (Zk k) d)
of_two k zero = refl
of_two k (suc d) = ap (of_list k (suc d)) (const-suc 2 d) ∙ ap₂ cons (word-ext (simp mods)) (of_zero k d ∙ sym (vadd-zero (Zk k) (pad (Zk k) d nil)))

module _ (d : ℕ) (dl : 2 ≤ d) (dh : d ≤ 6) where
  len : length (lower d) ≡ d
  len = length-lower d dl dh

  -- what the lists say of the ring, and back
  product-one : (k : ℕ) (a b : Element) → length a ≡ d → length b ≡ d → product k (lower d) a b ≡ one_e d
      → (GR d k).mul (of_list k d a) (of_list k d b) ≡ (GR d k).𝟙
  product-one k a b l m e = sym (of-product (le_refl k) d (lower d) len a b l m) ∙ ap (of_list k d) e ∙ of_one k d

  one_product : (k : ℕ) → 1 ≤ k → (a b : Element) → length a ≡ d → length b ≡ d
      → (GR d k).mul (of_list k d a) (of_list k d b) ≡ (GR d k).𝟙 → product k (lower d) a b ≡ one_e d
  one_product k h a b l m e = product-of k d (lower d) len d a b l m ∙ ap to_list e ∙ sym (one_of k h d)

  -- an inverse at k bits is one at fewer
  pub inverse-low : {j k : ℕ} → 1 ≤ j → j ≤ k → (a x : Element) → length a ≡ d → length x ≡ d
      → product k (lower d) a x ≡ one_e d → product j (lower d) a x ≡ one_e d
  inverse-low {j} {k} h g a x l m e =
      sym (reduce-product g d (lower d) len a x l m) ∙ ap (reduce j) e
      ∙ ap (reduce j) (one_of j h d) ∙ reduce-to j (unit (Zk j) d) ∙ sym (one_of j h d)

  module _ (k : ℕ) (h : 1 ≤ k) (a : Element) (l : length a ≡ d) where
    -- where there is an inverse, `inverse` is one
    pub inverse-right : (x : Element) → length x ≡ d → product k (lower d) a x ≡ one_e d → product k (lower d) a (inverse k d a) ≡ one_e d
    unfolding inverse
    inverse-right x m e =
        let u = of_list k d x in
        let p : product k (lower d) a (to_list u) ≡ one_e d =
        one_product k h a (to_list u) l (length-to_list u) (ap ((GR d k).mul (of_list k d a)) (of-to k u) ∙ product-one k a x l m e) in
        same-eq (product k (lower d) a (inverse k d a)) (one_e d)
        (found-passes (λ b. same (product k (lower d) a b) (one_e d)) (elements k d) (zero_e d) (to_list u) (elements-all k d u)
        (eq-same (product k (lower d) a (to_list u)) (one_e d) p))

    -- and it is the only one
    pub inverse-unique : (x : Element) → length x ≡ d → reduce k x ≡ x → product k (lower d) a x ≡ one_e d → inverse k d a ≡ x
    inverse-unique x m r e =
        let R = GR d k in
        let y = inverse k d a in
        let n : length y ≡ d = length-inverse k d a in
        let p = product-one k a y l n (inverse-right x m e) in
        let q = product-one k a x l m e in
        let f = of_list k d in
        let s : f y ≡ f x = inverse-only R (f a) (f y) (f x) (R.mul_comm (f y) (f a) ∙ p) (R.mul_comm (f x) (f a) ∙ q) in
        sym (reduce-inverse k d a) ∙ sym (to-of k d y n) ∙ ap to_list s ∙ to-of k d x m ∙ r

    -- what is zero modulo two has none
    pub even-not-unit : reduce 1 a ≡ zero_e d → (b : Element) → length b ≡ d → product k (lower d) a b ≢ one_e d
    even-not-unit z b m e =
        let R = GR d 1 in
        let p = product-one 1 a b l m (inverse-low (le_refl 1) h a b l m e) in
        let o : of_list 1 d a ≡ R.𝟘 = sym (of-reduce (le_refl 1) d a) ∙ ap (of_list 1 d) z ∙ of_zero 1 d in
        one_not_zero d (omega arith) (sym p ∙ ap (λ v. R.mul v (of_list 1 d b)) o ∙ zero-mul R (of_list 1 d b))

    pub inverse-even : reduce 1 a ≡ zero_e d → inverse k d a ≡ zero_e d
    unfolding inverse
    inverse-even z =
        ap (λ o. get_or o (zero_e d))
        (none-find (λ b. same (product k (lower d) a b) (one_e d)) (elements k d)
        (λ b m.
        let s = elements-only k d b m in
        not-held (same (product k (lower d) a b) (one_e d))
        (λ t. even-not-unit z b (ap length (sym s.1) ∙ length-to_list s.0) (same-eq (product k (lower d) a b) (one_e d) t))))

    -- zero is no inverse
    pub zero-not-inverse : product k (lower d) a (zero_e d) ≢ one_e d
    zero-not-inverse e =
        let p = product-one 1 a (zero_e d) l (length-replicate d 0) (inverse-low (le_refl 1) h a (zero_e d) l (length-replicate d 0) e) in
        one_not_zero d (omega arith) (sym p ∙ ap ((GR d 1).mul (of_list 1 d a)) (of_zero 1 d) ∙ mul-zero (GR d 1) (of_list 1 d a))

    -- what is a unit in the ring has one
    pub inverse-unit : IsUnit (GR d k) (of_list k d a) → product k (lower d) a (inverse k d a) ≡ one_e d
    inverse-unit (v, e) =
        let R = GR d k in
        let u = of_list k d a in
        inverse-right (to_list v) (length-to_list v)
        (one_product k h a (to_list v) l (length-to_list v) (ap (R.mul u) (of-to k v) ∙ R.mul_comm u v ∙ e))

    -- and so has what is not zero modulo two
    pub inverse-odd : reduce 1 a ≢ zero_e d → product k (lower d) a (inverse k d a) ≡ one_e d
    inverse-odd n =
        inverse-unit (unit-of-odd d dl dh k h (of_list k d a)
        (λ z. n (sym (to-of 1 d a l) ∙ ap to_list (sym (low_of h d a) ∙ z) ∙ sym (zero_of 1 d))))

  -- 2 - a x
  length_rest : (k : ℕ) (a x : Element) → length a ≡ d → length x ≡ d → length (difference k (two_e d) (product k (lower d) a x)) ≡ d
  length_rest k a x l m =
      let p : length (product k (lower d) a x) ≡ d = length-product k (lower d) a x (m ∙ sym len) ∙ len in
      length-zip (sub_w k) (two_e d) (product k (lower d) a x) (length_two d ∙ sym p) ∙ p

  length-newton : (k : ℕ) (a x : Element) → length a ≡ d → length x ≡ d → length (newton k d a x) ≡ d
  unfolding newton
  length-newton k a x l m =
      length-product k (lower d) x (difference k (two_e d) (product k (lower d) a x)) (length_rest k a x l m ∙ sym len) ∙ len

  -- Newton's step, in the ring of fewer bits
  of-newton : {j k : ℕ} → j ≤ k → (a x : Element) → length a ≡ d → length x ≡ d
      → of_list j d (newton k d a x) ≡ step (GR d j) (of_list j d a) (of_list j d x)
  unfolding newton
  of-newton {j} {k} h a x l m =
      let R = GR d j in
      let f = of_list j d in
      let b = product k (lower d) a x in
      let p : length b ≡ d = length-product k (lower d) a x (m ∙ sym len) ∙ len in
      of-product h d (lower d) len x (difference k (two_e d) b) m (length_rest k a x l m)
      ∙ ap (R.mul (f x)) (of-difference h d (two_e d) b (length_two d) p
      ∙ ap₂ (λ u v. R.add u (R.neg v)) (of_two j d) (of-product h d (lower d) len a x l m))

  newton-from : {i j k : ℕ} → 1 ≤ i → (h : i ≤ j) → j ≤ 2 * i → j ≤ k → (a x : Element) → length a ≡ d → length x ≡ d
      → product i (lower d) a x ≡ one_e d → product j (lower d) a (newton k d a x) ≡ one_e d
  newton-from {i} {j} {k} o h t g a x l m e =
      let R = GR d j in
      let f = of_list j d in
      let z : (low (modulus d) h).fn (R.mul (f a) (f x)) ≡ (GR d i).𝟙 =
      (low (modulus d) h).fn-mul (f a) (f x) ∙ ap₂ (GR d i).mul (low_of h d a) (low_of h d x) ∙ product-one i a x l m e in
      one_product j (le_trans o h) a (newton k d a x) l (length-newton k a x l m)
      (ap (R.mul (f a)) (of-newton g a x l m) ∙ newton-lift (modulus d) j h t (f a) (f x) z)

  -- an inverse x modulo 2^i gives one modulo 2^j, for j up to 2 i; the step is taken at k bits, j or more
  pub newton-right : (i j k : ℕ) → 1 ≤ j → j ≤ 2 * i → j ≤ k → (a x : Element) → length a ≡ d → length x ≡ d
      → product i (lower d) a x ≡ one_e d → product j (lower d) a (newton k d a x) ≡ one_e d
  newton-right i j k o t g a x l m e =
      let p : 1 ≤ min i j = omega arith in
      let q : min i j ≤ i = omega arith in
      newton-from {i = min i j} p (omega arith) (omega arith) g a x l m (inverse-low p q a x l m e)

  pub length-newtons : (k : ℕ) (a y : Element) → length a ≡ d → length y ≡ d → (n : ℕ) → length (newtons k d a y n) ≡ d
  unfolding newtons
  length-newtons k a y l m zero = m
  length-newtons k a y l m (suc n) = length-newton k a (newtons k d a y n) l (length-newtons k a y l m n)

  -- from an inverse modulo two, n steps give one modulo 2^j for j up to 2^n
  pub newtons-right : (k : ℕ) (a y : Element) → length a ≡ d → length y ≡ d → product 1 (lower d) a y ≡ one_e d
      → (n j : ℕ) → 1 ≤ j → j ≤ 2 ^ n → j ≤ k → product j (lower d) a (newtons k d a y n) ≡ one_e d
  unfolding newtons
  newtons-right k a y l m e zero j o h g = let q : j ≡ 1 = omega arith in rw q e
  newtons-right k a y l m e (suc n) j o h g =
      let p : 1 ≤ 2 ^ n = pow_pos n in
      let q : j ≤ 2 * 2 ^ n = omega (arith, pow-suc 2 n) in
      newton-right (min j (2 ^ n)) j k o (omega arith) g a (newtons k d a y n) l (length-newtons k a y l m n)
      (newtons-right k a y l m e n (min j (2 ^ n)) (omega arith) (omega arith) (omega arith))

  -- from zero all is zero
  zero-product : (k : ℕ) (b : Element) → length b ≡ d → product k (lower d) (zero_e d) b ≡ zero_e d
  zero-product k b m =
      product-of k d (lower d) len d (zero_e d) b (length-replicate d 0) m
      ∙ ap (λ u. to_list ((GR d k).mul u (of_list k d b))) (of_zero k d) ∙ ap to_list (zero-mul (GR d k) (of_list k d b)) ∙ sym (zero_of k d)

  newtons-zero : (k : ℕ) (a : Element) → length a ≡ d → (n : ℕ) → newtons k d a (zero_e d) n ≡ zero_e d
  unfolding newtons newton
  newtons-zero k a l zero = refl
  newtons-zero k a l (suc n) =
      ap (newton k d a) (newtons-zero k a l n)
      ∙ zero-product k (difference k (two_e d) (product k (lower d) a (zero_e d))) (length_rest k a (zero_e d) l (length-replicate d 0))

  product-zero : (a b : Element) → length a ≡ d → length b ≡ d → reduce 1 b ≡ zero_e d → product 1 (lower d) a b ≡ zero_e d
  product-zero a b l m z =
      product-of 1 d (lower d) len d a b l m
      ∙ ap (λ v. to_list ((GR d 1).mul (of_list 1 d a) v)) (sym (of-reduce (le_refl 1) d b) ∙ ap (of_list 1 d) z ∙ of_zero 1 d)
      ∙ ap to_list (mul-zero (GR d 1) (of_list 1 d a)) ∙ sym (zero_of 1 d)

  fermat-zero : (a : Element) → length a ≡ d → reduce 1 a ≡ zero_e d → (n : ℕ) → fermat d a n ≡ zero_e d
  unfolding fermat
  fermat-zero a l z zero = product-zero a a l l z
  fermat-zero a l z (suc n) =
      ap (λ y. product 1 (lower d) y y) (product-zero (fermat d a n) a (length-fermat d dl dh a l n) l z)
      ∙ zero-product 1 (zero_e d) (length-replicate d 0)

  -- the chain of squares in words of 64 bits, modulo two: its start, and a turn
  pub fermat-start : (a : Element) → length a ≡ d → reduce 1 (held d (product 64 (lower d) a a)) ≡ held d (fermat d a 0)
  unfolding fermat
  fermat-start a l = narrow-product (omega arith) d dl dh a a l l

  pub fermat-turn : (a y : Element) → length a ≡ d → (n : ℕ) → reduce 1 y ≡ held d (fermat d a n)
      → (z : Element) → z ≡ product 64 (lower d) (take d y) a → reduce 1 (held d (product 64 (lower d) z z)) ≡ held d (fermat d a (suc n))
  unfolding fermat
  fermat-turn a y l n e z q =
      let x = fermat d a n in
      let hx : length x ≡ d = length-fermat d dl dh a l n in
      let hy : length y ≡ 6 = sym (length-reduce 1 y) ∙ ap length e ∙ held-length d x hx dh in
      let ht : length (take d y) ≡ d = length-take-le d y (omega arith) in
      let hz : length z ≡ d = ap length q ∙ length-product 64 (lower d) (take d y) a (l ∙ sym len) ∙ len in
      let ex : reduce 1 (take d y) ≡ x = reduce-take 1 d y ∙ ap (take d) e ∙ held-take d x hx in
      let ez : reduce 1 z ≡ product 1 (lower d) (take d y) a = ap (reduce 1) q ∙ reduce-product o d (lower d) len (take d y) a ht l in
      let exx : reduce 1 (take d y) ≡ reduce 1 x = sym (reduce-reduce (le_refl 1) (take d y)) ∙ ap (reduce 1) ex in
      let w : product 1 (lower d) (take d y) a ≡ product 1 (lower d) x a = product-alike 1 d (lower d) len (take d y) a x a ht l exx refl in
      let ezz : reduce 1 z ≡ reduce 1 (product 1 (lower d) x a) = sym (reduce-reduce (le_refl 1) z) ∙ ap (reduce 1) (ez ∙ w) in
      narrow-product o d dl dh z z hz hz
      ∙ ap (held d) (product-alike 1 d (lower d) len z z (product 1 (lower d) x a) (product 1 (lower d) x a) hz hz ezz ezz)
    where
      o : 1 ≤ 64
      o = omega arith

  -- the inverse, computed: the chain of squares modulo two, then as many steps of Newton as reach k bits, in words of w bits that are cut at the end
  pub inverse-computed : (k w : ℕ) → 1 ≤ k → k ≤ w → (a : Element) → length a ≡ d → (n : ℕ) → k ≤ 2 ^ n
      → reduce k (newtons w d a (fermat d a (d - 2)) n) ≡ inverse k d a
  inverse-computed k w h v a l n g =
      bool_cases (same (reduce 1 a) (zero_e d)) (λ t. even (same-eq (reduce 1 a) (zero_e d) t))
      (λ f. odd (λ z. true≢false (sym (eq-same (reduce 1 a) (zero_e d) z) ∙ f)))
    where
      y : Element
      y = fermat d a (d - 2)

      x : Element
      x = newtons w d a y n

      even : reduce 1 a ≡ zero_e d → reduce k x ≡ inverse k d a
      even z =
          ap (λ y. reduce k (newtons w d a y n)) (fermat-zero a l z (d - 2))
          ∙ ap (reduce k) (newtons-zero w a l n) ∙ reduce-zeros k d ∙ sym (inverse-even k h a l z)

      m : length y ≡ d
      m = length-fermat d dl dh a l (d - 2)

      lx : length x ≡ d
      lx = length-newtons w a y l m n

      odd : reduce 1 a ≢ zero_e d → reduce k x ≡ inverse k d a
      odd o =
          let r : reduce k (reduce k x) ≡ reduce k x = reduce-reduce (le_refl k) x in
          let hr : length (reduce k x) ≡ d = length-reduce k x ∙ lx in
          sym (inverse-unique k h a l (reduce k x) hr r
          (product-alike k d (lower d) len a (reduce k x) a x l hr refl r
          ∙ newtons-right w a y l m (fermat-inverse d dl dh a l o) n k h g v))
