-- An element of a Galois ring as the list of its words: `to_list` and `of_list` are inverse to each other between the elements and the lists of
-- d words below 2^k, and each operation on lists of words of any size is the ring's operation on the elements that they stand for.
-- Assumes nothing.
use mathlib.Core.Path.{◌≡◌, refl, sym, ◌∙◌, ap, ap₂}
use mathlib.Core.Bool.{true}
use mathlib.Core.List.{[], ◌∷◌}
use Prim.Native.Nat.{ℕ, zero, suc, ◌-◌, ◌%◌, ◌^◌, ◌≤◌, ◌<◌}
use native.Mathlib.Nat.{mod-mod_of_dvd, mod-lt, mod-eq_of_lt, zero-mod, suc_inj, suc-ne-zero}
use native.Mathlib.Nat.{le_refl, le_of_eq}
use native.Mathlib.Omega.{arith}
use lib.Pow.{pow_pos, pow-lt}
use lib.Dec.{ltb}
use lib.ListN.{length, get_or, take, replicate, length-replicate}
use lib.Seq.{take_all}
use borrow.Author.Tests.{lt-ltb, ltb-true}
use Rattle.words.specs.Word.{add_w, neg_w, sub_w, mul_w, all_in_width}
use Rattle.words.proofs.Mod.{mods}
use Rattle.words.proofs.Tests.{and_left, and_right, and_both}
use Rattle.algebra.proofs.Ring.{mul-neg}
use Rattle.algebra.proofs.Vec.{Vec, nil, cons, vmap, vzip, push, last, zip-map}
use Rattle.algebra.proofs.Extension.{vadd, vneg, scale, pad, unit, shift, act, vadd-comm, add-scaled, map-add, map-neg}
use Rattle.galois.specs.Element.{Element, zip, sum, difference, down_w, times_x, plus_w, add_scaled, product, zero_e, one_e, reduce}
use Rattle.galois.proofs.Zmod.{Word, word, word-ext, word_of}
use Rattle.galois.proofs.Galois.{Zk, Galois, rho, vec, low_w, low, pow-dvd}

abbrev pub to_list : {m n : ℕ} → Vec (Word m) n → Element
to_list nil = []
to_list (cons w u) = w.val ∷ to_list u

-- cut, or filled up with zeros, and each word modulo 2^k
abbrev pub of_list : (k n : ℕ) → Element → Vec (Word (2 ^ k)) n
of_list k zero a = nil
of_list k (suc n) [] = cons (word (2 ^ k) 0) (of_list k n [])
of_list k (suc n) (x ∷ a) = cons (word (2 ^ k) x) (of_list k n a)

pub length-to_list : {m n : ℕ} (u : Vec (Word m) n) → length (to_list u) ≡ n
length-to_list nil = refl
length-to_list (cons w u) = ap suc (length-to_list u)

pub length-reduce : (k : ℕ) (a : Element) → length (reduce k a) ≡ length a
unfolding reduce
length-reduce k [] = refl
length-reduce k (x ∷ a) = ap suc (length-reduce k a)

pub of-to : (k : ℕ) {n : ℕ} (u : Vec (Word (2 ^ k)) n) → of_list k n (to_list u) ≡ u
of-to k nil = refl
of-to k (cons w u) = ap₂ cons (word_of w) (of-to k u)

pub to-of : (k n : ℕ) (a : Element) → length a ≡ n → to_list (of_list k n a) ≡ reduce k a
unfolding reduce
to-of k zero [] l = refl
to-of k zero (x ∷ a) l = absurd (suc-ne-zero (length a) l)
to-of k (suc n) [] l = absurd (suc-ne-zero n (sym l))
to-of k (suc n) (x ∷ a) l = ap (λ r. x % 2 ^ k ∷ r) (to-of k n a (suc_inj l))

-- words beyond the n-th do not count
pub of-take : (k n : ℕ) (a : Element) → of_list k n (take n a) ≡ of_list k n a
of-take k zero a = refl
of-take k (suc n) [] = refl
of-take k (suc n) (x ∷ a) = ap (cons (word (2 ^ k) x)) (of-take k n a)

pub to_list-inj : (k : ℕ) {n : ℕ} (u v : Vec (Word (2 ^ k)) n) → to_list u ≡ to_list v → u ≡ v
to_list-inj k {n} u v e = sym (of-to k u) ∙ ap (of_list k n) e ∙ of-to k v

-- fewer bits of a list are those of the element
pub low_of : {j k : ℕ} (h : j ≤ k) (n : ℕ) (a : Element) → vmap (low_w h).fn (of_list k n a) ≡ of_list j n a
low_of h zero a = refl
low_of {j} h (suc n) [] = ap₂ cons (word-ext (mod-mod_of_dvd (2 ^ j) 0 (pow-dvd h))) (low_of h n [])
low_of {j} h (suc n) (x ∷ a) = ap₂ cons (word-ext (mod-mod_of_dvd (2 ^ j) x (pow-dvd h))) (low_of h n a)

pub of-reduce : {j k : ℕ} (h : j ≤ k) (n : ℕ) (a : Element) → of_list j n (reduce k a) ≡ of_list j n a
unfolding reduce
of-reduce h zero a = refl
of-reduce h (suc n) [] = refl
of-reduce {j} h (suc n) (x ∷ a) = ap₂ cons (word-ext (mod-mod_of_dvd (2 ^ j) x (pow-dvd h))) (of-reduce h n a)

pub low-to : {j k : ℕ} (h : j ≤ k) {n : ℕ} (u : Vec (Word (2 ^ k)) n) → to_list (vmap (low_w h).fn u) ≡ reduce j (to_list u)
unfolding reduce
low-to h nil = refl
low-to {j} h (cons w u) = ap (λ r. w.val % 2 ^ j ∷ r) (low-to h u)

pub reduce-to : (k : ℕ) {n : ℕ} (u : Vec (Word (2 ^ k)) n) → reduce k (to_list u) ≡ to_list u
unfolding reduce
reduce-to k nil = refl
reduce-to k (cons w u) = ap₂ ◌∷◌ w.low (reduce-to k u)

pub reduce-reduce : {j k : ℕ} → j ≤ k → (a : Element) → reduce j (reduce k a) ≡ reduce j a
unfolding reduce
reduce-reduce h [] = refl
reduce-reduce {j} h (x ∷ a) = ap₂ ◌∷◌ (mod-mod_of_dvd (2 ^ j) x (pow-dvd h)) (reduce-reduce h a)

-- words below 2^k are those that `reduce k` leaves alone
pub reduce-width : (k : ℕ) (a : Element) → all_in_width k a ≡ true → reduce k a ≡ a
unfolding reduce all_in_width
reduce-width k [] h = refl
reduce-width k (x ∷ a) h =
    ap₂ ◌∷◌ (mod-eq_of_lt (ltb-true x (2 ^ k) (and_left (ltb x (2 ^ k)) (all_in_width k a) h)))
    (reduce-width k a (and_right (ltb x (2 ^ k)) (all_in_width k a) h))

pub reduce-below : (k : ℕ) (a : Element) → ((j : ℕ) → get_or a j 0 < 2 ^ k) → reduce k a ≡ a
unfolding reduce
reduce-below k [] fit = refl
reduce-below k (x ∷ a) fit = ap₂ ◌∷◌ (mod-eq_of_lt (fit 0)) (reduce-below k a (λ j. fit (suc j)))

pub width-reduce : (k : ℕ) (a : Element) → all_in_width k (reduce k a) ≡ true
unfolding reduce all_in_width
width-reduce k [] = refl
width-reduce k (x ∷ a) =
    and_both (ltb (x % 2 ^ k) (2 ^ k)) (all_in_width k (reduce k a)) (lt-ltb (x % 2 ^ k) (2 ^ k) (mod-lt x (pow_pos k))) (width-reduce k a)

pub width-to : (k : ℕ) {n : ℕ} (u : Vec (Word (2 ^ k)) n) → all_in_width k (to_list u) ≡ true
width-to k u = ap (all_in_width k) (sym (reduce-to k u)) ∙ width-reduce k (to_list u)

-- lengths
pub length-zip : (f : ℕ → ℕ → ℕ) (a b : Element) → length a ≡ length b → length (zip f a b) ≡ length b
unfolding zip
length-zip f [] [] l = refl
length-zip f [] (y ∷ b) l = absurd (suc-ne-zero (length b) (sym l))
length-zip f (x ∷ a) [] l = absurd (suc-ne-zero (length a) l)
length-zip f (x ∷ a) (y ∷ b) l = ap suc (length-zip f a b (suc_inj l))

zip-longer : (f : ℕ → ℕ → ℕ) (x : ℕ) (a b : Element) → length a ≡ length b → length (zip f (x ∷ a) b) ≡ length b
unfolding zip
zip-longer f x [] [] l = refl
zip-longer f x [] (y ∷ b) l = absurd (suc-ne-zero (length b) (sym l))
zip-longer f x (z ∷ a) [] l = absurd (suc-ne-zero (length a) l)
zip-longer f x (z ∷ a) (y ∷ b) l = ap suc (zip-longer f z a b (suc_inj l))

pub length-times_x : (k : ℕ) (l r : Element) → length r ≡ length l → length (times_x k l r) ≡ length l
unfolding times_x
length-times_x k l r h = zip-longer (down_w k (get_or r (length r - 1) 0)) _ r l h

pub length-product : (k : ℕ) (l a b : Element) → length b ≡ length l → length (product k l a b) ≡ length l
unfolding product
length-product k l [] b h = length-replicate (length l) 0
length-product k l (c ∷ a) b h =
    length-zip (plus_w k c) (times_x k l (product k l a b)) b (length-times_x k l (product k l a b) (length-product k l a b h) ∙ sym h) ∙ h

pub const-suc : (c d : ℕ) → take (suc d) (c ∷ replicate (suc d - 1) 0) ≡ c ∷ zero_e d
const-suc c d =
    let e : suc d - 1 ≡ d = omega arith in
    ap (λ n. c ∷ take d (replicate n 0)) e ∙ ap (λ r. c ∷ r) (take_all d (zero_e d) (le_of_eq (length-replicate d 0)))

-- the operations on words, as those of the ring of words
module _ (k : ℕ) where
  open Zk k use {add as ◌⊕◌, mul as ◌⊗◌, neg as ⊖}

  infixl 65 ◌⊕◌
  infixl 70 ◌⊗◌
  abbrev w : ℕ → Word (2 ^ k)
  w = word (2 ^ k)

  add_w-of : (x y : ℕ) → add_w k x y ≡ (w x ⊕ w y).val
  unfolding add_w
  add_w-of x y = simp mods

  sub_w-of : (x y : ℕ) → sub_w k x y ≡ (w x ⊕ ⊖ (w y)).val
  unfolding sub_w neg_w
  sub_w-of x y = simp mods

  mul_w-of : (x y : ℕ) → w (mul_w k x y) ≡ w x ⊗ w y
  unfolding mul_w
  mul_w-of x y = word-ext (simp mods)

  plus_w-of : (c x y : ℕ) → plus_w k c x y ≡ (w x ⊕ w c ⊗ w y).val
  plus_w-of c x y = add_w-of x (mul_w k c y) ∙ ap (λ z. (w x ⊕ z).val) (mul_w-of c y)

  down_w-of : (t x y : ℕ) → down_w k t x y ≡ (w x ⊕ w t ⊗ ⊖ (w y)).val
  down_w-of t x y =
      sub_w-of x (mul_w k t y) ∙ ap (λ z. (w x ⊕ z).val) (ap ⊖ (mul_w-of t y) ∙ sym (mul-neg (Zk k) (w t) (w y)))

  zip-of : (f : ℕ → ℕ → ℕ) (g : Word (2 ^ k) → Word (2 ^ k) → Word (2 ^ k)) → ((x y : ℕ) → f x y ≡ (g (w x) (w y)).val)
      → (n : ℕ) (a b : Element) → length a ≡ n → length b ≡ n → zip f a b ≡ to_list (vzip g (of_list k n a) (of_list k n b))
  unfolding zip
  zip-of f g e zero [] b l m = refl
  zip-of f g e zero (x ∷ a) b l m = absurd (suc-ne-zero (length a) l)
  zip-of f g e (suc n) [] b l m = absurd (suc-ne-zero n (sym l))
  zip-of f g e (suc n) (x ∷ a) [] l m = absurd (suc-ne-zero n (sym m))
  zip-of f g e (suc n) (x ∷ a) (y ∷ b) l m = ap₂ ◌∷◌ (e x y) (zip-of f g e n a b (suc_inj l) (suc_inj m))

  pub sum-of : (n : ℕ) (a b : Element) → length a ≡ n → length b ≡ n → sum k a b ≡ to_list (vadd (Zk k) (of_list k n a) (of_list k n b))
  sum-of = zip-of (add_w k) ◌⊕◌ add_w-of

  pub difference-of : (n : ℕ) (a b : Element) → length a ≡ n → length b ≡ n
      → difference k a b ≡ to_list (vadd (Zk k) (of_list k n a) (vneg (Zk k) (of_list k n b)))
  difference-of n a b l m =
      zip-of (sub_w k) (λ x y. x ⊕ ⊖ y) sub_w-of n a b l m ∙ ap to_list (sym (zip-map ◌⊕◌ ⊖ (of_list k n a) (of_list k n b)))

  pub add_scaled-of : (c n : ℕ) (a b : Element) → length a ≡ n → length b ≡ n
      → add_scaled k c a b ≡ to_list (vadd (Zk k) (of_list k n a) (scale (Zk k) (w c) (of_list k n b)))
  add_scaled-of c n a b l m =
      zip-of (plus_w k c) (λ x y. x ⊕ w c ⊗ y) (plus_w-of c) n a b l m ∙ ap to_list (sym (add-scaled (Zk k) (w c) (of_list k n a) (of_list k n b)))

  down-of : (t x n : ℕ) (r l : Element) → length r ≡ n → length l ≡ n
      → zip (down_w k t) (x ∷ r) l ≡ to_list (vadd (Zk k) (push (w x) (of_list k n r)) (scale (Zk k) (w t) (rho (vec n l) k)))
  unfolding zip
  down-of t x zero r [] h m = refl
  down-of t x zero r (y ∷ l) h m = absurd (suc-ne-zero (length l) m)
  down-of t x (suc n) [] l h m = absurd (suc-ne-zero n (sym h))
  down-of t x (suc n) (z ∷ r) [] h m = absurd (suc-ne-zero n (sym m))
  down-of t x (suc n) (z ∷ r) (y ∷ l) h m = ap₂ ◌∷◌ (down_w-of t x y) (down-of t z n r l (suc_inj h) (suc_inj m))

  last_of : (n x : ℕ) (a : Element) → length a ≡ n → last (w x) (of_list k n a) ≡ w (get_or (x ∷ a) n 0)
  last_of zero x a h = refl
  last_of (suc n) x [] h = absurd (suc-ne-zero n (sym h))
  last_of (suc n) x (y ∷ a) h = last_of n y a (suc_inj h)

  top : (n : ℕ) (r : Element) → length r ≡ n → get_or (0 ∷ r) n 0 ≡ get_or r (n - 1) 0
  top zero [] h = refl
  top zero (x ∷ r) h = absurd (suc-ne-zero (length r) h)
  top (suc n) r h = let e : n ≡ suc n - 1 = omega arith in ap (λ i. get_or r i 0) e

  pub zero_of : (n : ℕ) → zero_e n ≡ to_list (pad (Zk k) n nil)
  zero_of zero = refl
  zero_of (suc n) = ap₂ ◌∷◌ (sym (zero-mod (2 ^ k))) (zero_of n)

  pub of_zero : (n : ℕ) → of_list k n (zero_e n) ≡ pad (Zk k) n nil
  of_zero n = ap (of_list k n) (zero_of n) ∙ of-to k (pad (Zk k) n nil)

  pub of_one : (n : ℕ) → of_list k n (one_e n) ≡ unit (Zk k) n
  of_one zero = refl
  of_one (suc n) = ap (of_list k (suc n)) (const-suc 1 n) ∙ ap (cons (w 1)) (of_zero n)

  -- (at k = 0 the one word is 0, and the list `one_e d` is not the element's)
  pub one_of : 1 ≤ k → (n : ℕ) → one_e n ≡ to_list (unit (Zk k) n)
  one_of h zero = refl
  one_of h (suc n) = const-suc 1 n ∙ ap₂ ◌∷◌ (sym (mod-eq_of_lt (pow-lt {i = 0} {j = k} h))) (zero_of n)

  -- the same, between elements
  pub sum_to : {n : ℕ} (u v : Vec (Word (2 ^ k)) n) → sum k (to_list u) (to_list v) ≡ to_list (vadd (Zk k) u v)
  sum_to {n} u v = sum-of n (to_list u) (to_list v) (length-to_list u) (length-to_list v) ∙ rw (of-to k u, of-to k v)

  pub difference-to : {n : ℕ} (u v : Vec (Word (2 ^ k)) n) → difference k (to_list u) (to_list v) ≡ to_list (vadd (Zk k) u (vneg (Zk k) v))
  difference-to {n} u v = difference-of n (to_list u) (to_list v) (length-to_list u) (length-to_list v) ∙ rw (of-to k u, of-to k v)

  pub add_scaled-to : (c : ℕ) {n : ℕ} (u v : Vec (Word (2 ^ k)) n)
      → add_scaled k c (to_list u) (to_list v) ≡ to_list (vadd (Zk k) u (scale (Zk k) (w c) v))
  add_scaled-to c {n} u v = add_scaled-of c n (to_list u) (to_list v) (length-to_list u) (length-to_list v) ∙ rw (of-to k u, of-to k v)

  module _ (d : ℕ) (l : Element) (len : length l ≡ d) where
    pub times_x-of : (r : Element) → length r ≡ d → times_x k l r ≡ to_list (shift (Zk k) (rho (vec d l) k) (of_list k d r))
    unfolding times_x shift
    times_x-of r h =
        down-of (get_or r (length r - 1) 0) 0 d r l h len
        ∙ ap (λ t. to_list (vadd (Zk k) (push (w 0) (of_list k d r)) (scale (Zk k) t (rho (vec d l) k))))
        (sym (last_of d 0 r h ∙ ap w (top d r h ∙ ap (λ n. get_or r (n - 1) 0) (sym h))))

    pub times_x-to : (u : Vec (Word (2 ^ k)) d) → times_x k l (to_list u) ≡ to_list (shift (Zk k) (rho (vec d l) k) u)
    times_x-to u = times_x-of (to_list u) (length-to_list u) ∙ rw (of-to k u)

    -- one step of the product
    horner : (c : ℕ) (u : Vec (Word (2 ^ k)) d) (b : Element) → length b ≡ d
        → add_scaled k c (times_x k l (to_list u)) b ≡ to_list (vadd (Zk k) (scale (Zk k) (w c) (of_list k d b)) (shift (Zk k) (rho (vec d l) k) u))
    horner c u b m =
        let s = shift (Zk k) (rho (vec d l) k) in
        ap (λ r. add_scaled k c r b) (times_x-to u)
        ∙ add_scaled-of c d (to_list (s u)) b (length-to_list (s u)) m
        ∙ ap (λ v. to_list (vadd (Zk k) v (scale (Zk k) (w c) (of_list k d b)))) (of-to k (s u))
        ∙ ap to_list (vadd-comm (Zk k) (s u) (scale (Zk k) (w c) (of_list k d b)))

    pub product-of : (n : ℕ) (a b : Element) → length a ≡ n → length b ≡ d
        → product k l a b ≡ to_list (act (Zk k) (rho (vec d l) k) (of_list k n a) (of_list k d b))
    unfolding product act
    product-of zero [] b h m = ap (λ n. replicate n 0) len ∙ zero_of d
    product-of zero (x ∷ a) b h m = absurd (suc-ne-zero (length a) h)
    product-of (suc n) [] b h m = absurd (suc-ne-zero n (sym h))
    product-of (suc n) (c ∷ a) b h m =
        ap (λ r. add_scaled k c (times_x k l r) b) (product-of n a b (suc_inj h) m)
        ∙ horner c (act (Zk k) (rho (vec d l) k) (of_list k n a) (of_list k d b)) b m

    pub product-to : {n : ℕ} (u : Vec (Word (2 ^ k)) n) (v : Vec (Word (2 ^ k)) d)
        → product k l (to_list u) (to_list v) ≡ to_list (act (Zk k) (rho (vec d l) k) u v)
    product-to {n} u v = product-of n (to_list u) (to_list v) (length-to_list u) (length-to_list v) ∙ rw (of-to k u, of-to k v)

-- at j bits or fewer than an operation's own, `of_list` takes it to the ring's
module _ {j k : ℕ} (h : j ≤ k) (d : ℕ) where
  pub of_low : (u : Vec (Word (2 ^ k)) d) → of_list j d (to_list u) ≡ vmap (low_w h).fn u
  of_low u = sym (low_of h d (to_list u)) ∙ ap (vmap (low_w h).fn) (of-to k u)

  pub of-difference : (a b : Element) → length a ≡ d → length b ≡ d
      → of_list j d (difference k a b) ≡ vadd (Zk j) (of_list j d a) (vneg (Zk j) (of_list j d b))
  of-difference a b l m =
      ap (of_list j d) (difference-of k d a b l m) ∙ of_low (vadd (Zk k) (of_list k d a) (vneg (Zk k) (of_list k d b)))
      ∙ map-add (low_w h) (of_list k d a) (vneg (Zk k) (of_list k d b))
      ∙ ap₂ (vadd (Zk j)) (low_of h d a) (map-neg (low_w h) (of_list k d b) ∙ ap (vneg (Zk j)) (low_of h d b))

  pub of-product : (l : Element) → length l ≡ d → (a b : Element) → length a ≡ d → length b ≡ d
      → of_list j d (product k l a b) ≡ (Galois (vec d l) j).mul (of_list j d a) (of_list j d b)
  of-product l len a b m n =
      let F = vec d l in
      ap (of_list j d) (product-of k d l len d a b m n) ∙ of_low ((Galois F k).mul (of_list k d a) (of_list k d b))
      ∙ (low F h).fn-mul (of_list k d a) (of_list k d b) ∙ ap₂ (Galois F j).mul (low_of h d a) (low_of h d b)

  -- so fewer bits of a product are the product at fewer bits
  pub reduce-product : (l : Element) → length l ≡ d → (a b : Element) → length a ≡ d → length b ≡ d
      → reduce j (product k l a b) ≡ product j l a b
  reduce-product l len a b m n =
      sym (to-of j d (product k l a b) (length-product k l a b (n ∙ sym len) ∙ len)) ∙ ap to_list (of-product l len a b m n)
      ∙ sym (product-of j d l len d a b m n)

-- a product is the same in either order
pub product-comm : (k d : ℕ) (l : Element) → length l ≡ d → (a b : Element) → length a ≡ d → length b ≡ d → product k l a b ≡ product k l b a
product-comm k d l len a b m n =
    product-of k d l len d a b m n
    ∙ ap to_list ((Galois (vec d l) k).mul_comm (of_list k d a) (of_list k d b))
    ∙ sym (product-of k d l len d b a n m)

-- a product depends on its factors' words modulo 2^k alone
pub product-same : (k d : ℕ) (l : Element) → length l ≡ d → (a b a' b' : Element) → length a ≡ d → length b ≡ d → length a' ≡ d → length b' ≡ d
    → of_list k d a ≡ of_list k d a' → of_list k d b ≡ of_list k d b' → product k l a b ≡ product k l a' b'
product-same k d l len a b a' b' m n m' n' p q =
    product-of k d l len d a b m n ∙ ap₂ (λ x y. to_list ((Galois (vec d l) k).mul x y)) p q ∙ sym (product-of k d l len d a' b' m' n')

-- the same, where they are given cut
pub product-alike : (k d : ℕ) (l : Element) → length l ≡ d → (a b a' b' : Element) → length a ≡ d → length b ≡ d
    → reduce k a ≡ reduce k a' → reduce k b ≡ reduce k b' → product k l a b ≡ product k l a' b'
product-alike k d l len a b a' b' m n p q =
    let m' : length a' ≡ d = sym (length-reduce k a') ∙ ap length (sym p) ∙ length-reduce k a ∙ m in
    let n' : length b' ≡ d = sym (length-reduce k b') ∙ ap length (sym q) ∙ length-reduce k b ∙ n in
    product-same k d l len a b a' b' m n m' n' (of-alike a a' p) (of-alike b b' q)
  where
    of-alike : (x y : Element) → reduce k x ≡ reduce k y → of_list k d x ≡ of_list k d y
    of-alike x y e = sym (of-reduce (le_refl k) d x) ∙ ap (of_list k d) e ∙ of-reduce (le_refl k) d y
