-- The definition of a product is the paper's: the product of the two polynomials in X, reduced modulo 2^k and the modulus of the row
-- (`product-reduced`), which gives one element only (`reduced-once`); X is a root of the modulus (`modulus-root`). Assumes nothing.
use mathlib.Core.Path.{◌≡◌, refl, sym, ◌∙◌, ap, ap₂}
use mathlib.Core.List.{List, [], ◌∷◌, ◌++◌, map}
use Prim.Native.Nat.{ℕ, zero, suc, ◌+◌, ◌-◌, ◌*◌, ◌/◌, ◌%◌, ◌^◌, ◌≤◌, ◌<◌}
use native.Mathlib.Nat.{suc_inj, suc-ne-zero, add_comm, add-mul-mod_self_left, mod-add-div, mod-lt, mul-one, zero-mod}
use native.Mathlib.Nat.{le_of_eq, le_of_suc-le-suc, zero-add, mod-mod, not-suc-le-zero}
use native.Mathlib.Omega.{arith}
use lib.Pow.{pow_pos}
use lib.ListN.{length, get_or, drop, replicate, length-replicate, length-map}
use Rattle.words.specs.Word.{add_w, neg_w, sub_w, mul_w}
use Rattle.words.proofs.Mod.{mods}
use Rattle.algebra.specs.Ring.{CommRing}
use Rattle.algebra.proofs.Ring.{zero-add as 𝟘-add, sums}
use Rattle.algebra.proofs.Vec.{Vec, nil, cons, vmap}
use Rattle.algebra.proofs.Extension.{vadd, scale, pad, unit, shift, act, shifts, shifts-all, scale-nil, scale-zero, scale_one, vmul-one}
use Rattle.algebra.proofs.Extension.{shift-add, shift-scale, shift-nil, add-scale, scale-add, scale-scale}
use Rattle.galois.specs.Element.{Element, zip, sum, lower, down_w, times_x, plus_w, add_scaled, product, zero_e, reduce}
use Rattle.galois.specs.Modulus.{plus, times, modulus, Reduced, element_x, power}
use Rattle.galois.proofs.Zmod.{Word, word, word-ext}
use Rattle.galois.proofs.Galois.{Zk, GR, rho, vec, modulus as row}
use Rattle.galois.proofs.Table.{length-lower}
use Rattle.galois.proofs.Lists.{to_list, of_list, length-times_x, length-product, reduce-width, reduce-to, width-to, product-of}
use Rattle.galois.proofs.Lists.{to-of, sum-of, zero_of}
use Rattle.galois.proofs.Powers.{length-power-x, powers-x}
use Rattle.galois.proofs.Rising.{times_x-zero}

-- sums of polynomials
module _ (k : ℕ) where
  add-swap : (a b : ℕ) → add_w k a b ≡ add_w k b a
  unfolding add_w
  add-swap a b = rw (add_comm a b)

  add-again : (a b c : ℕ) → add_w k (add_w k a b) c ≡ add_w k a (add_w k b c)
  unfolding add_w
  add-again a b c = simp mods (ap (λ (n : ℕ). n % 2 ^ k) (omega arith))

  zeros : add_w k 0 0 ≡ 0
  unfolding add_w
  zeros = zero-mod (2 ^ k)

  plus_nil : (p : List ℕ) → plus k p [] ≡ p
  unfolding plus
  plus_nil [] = refl
  plus_nil (a ∷ p) = refl

  plus_comm : (p q : List ℕ) → plus k p q ≡ plus k q p
  unfolding plus
  plus_comm [] q = sym (plus_nil q)
  plus_comm (a ∷ p) [] = refl
  plus_comm (a ∷ p) (b ∷ q) = ap₂ ◌∷◌ (add-swap a b) (plus_comm p q)

  plus_assoc : (p q r : List ℕ) → plus k (plus k p q) r ≡ plus k p (plus k q r)
  unfolding plus
  plus_assoc [] q r = refl
  plus_assoc (a ∷ p) [] r = refl
  plus_assoc (a ∷ p) (b ∷ q) [] = refl
  plus_assoc (a ∷ p) (b ∷ q) (c ∷ r) = ap₂ ◌∷◌ (add-again a b c) (plus_assoc p q r)

  plus-left-comm : (p q r : List ℕ) → plus k p (plus k q r) ≡ plus k q (plus k p r)
  plus-left-comm p q r = sym (plus_assoc p q r) ∙ ap (λ (s : List ℕ). plus k s r) (plus_comm p q) ∙ plus_assoc q p r

  -- X times a sum
  plus-up : (p q : List ℕ) → 0 ∷ plus k p q ≡ plus k (0 ∷ p) (0 ∷ q)
  unfolding plus
  plus-up p q = ap (λ (n : ℕ). n ∷ plus k p q) (sym zeros)

  scaled-plus : (c : ℕ) (u b : Element) → length u ≡ length b → add_scaled k c u b ≡ plus k u (map (mul_w k c) b)
  unfolding zip plus
  scaled-plus c [] [] h = refl
  scaled-plus c [] (y ∷ b) h = absurd (suc-ne-zero (length b) (sym h))
  scaled-plus c (x ∷ u) [] h = absurd (suc-ne-zero (length u) h)
  scaled-plus c (x ∷ u) (y ∷ b) h = ap (λ (l : Element). plus_w k c x y ∷ l) (scaled-plus c u b (suc_inj h))

  -- a multiple of the modulus, and what X times an element leaves of it
  over : (b x m : ℕ) → 0 < m → (b + (x + (m - b % m))) % m ≡ x % m
  over b x m p =
      ap (λ (n : ℕ). n % m) (omega (arith, mod-add-div b m, mod-lt b p))
      ∙ add-mul-mod_self_left x m (suc (b / m))

  back : (t x y : ℕ) → x % 2 ^ k ≡ x → add_w k (mul_w k t y) (down_w k t x y) ≡ x
  unfolding add_w mul_w sub_w neg_w
  back t x y h = simp mods (over (t * y) x (2 ^ k) (pow_pos k) ∙ h)

  top : (t x : ℕ) → x % 2 ^ k ≡ x → x ≡ t → mul_w k t 1 ≡ x
  unfolding mul_w
  top t x h e = rw (mul-one, ← e) h

  down-plus : (t x : ℕ) (r l : Element) → length r ≡ length l → x % 2 ^ k ≡ x → reduce k r ≡ r → get_or (x ∷ r) (length l) 0 ≡ t
      → plus k (map (mul_w k t) (l ++ (1 ∷ []))) (zip (down_w k t) (x ∷ r) l) ≡ x ∷ r
  unfolding plus zip reduce
  down-plus t x [] [] h e f z = ap (λ (n : ℕ). n ∷ []) (top t x e z)
  down-plus t x [] (y ∷ l) h e f z = absurd (suc-ne-zero (length l) (sym h))
  down-plus t x (w ∷ r) [] h e f z = absurd (suc-ne-zero (length r) h)
  down-plus t x (w ∷ r) (y ∷ l) h e f z =
      ap₂ ◌∷◌ (back t x y e)
      (down-plus t w r l (suc_inj h) (ap (λ (a : Element). get_or a 0 0) f) (ap (λ (a : Element). drop 1 a) f) z)

  times_x-plus : (l r : Element) → 0 < length l → length r ≡ length l → reduce k r ≡ r
      → plus k (map (mul_w k (get_or r (length r - 1) 0)) (l ++ (1 ∷ []))) (times_x k l r) ≡ 0 ∷ r
  unfolding times_x
  times_x-plus l [] p h e = absurd (omega arith)
  times_x-plus l (x ∷ r) p h e =
      let n : suc (length r) - 1 ≡ length r = omega arith in
      down-plus (get_or (x ∷ r) (suc (length r) - 1) 0) 0 (x ∷ r) l h (zero-mod (2 ^ k)) e
      (ap (λ (i : ℕ). get_or (0 ∷ x ∷ r) i 0) (sym h) ∙ ap (λ (i : ℕ). get_or (x ∷ r) i 0) (sym n))

  -- zeros add nothing
  zeros-plus : (n : ℕ) (p : List ℕ) → n ≤ length p → reduce k p ≡ p → plus k (zero_e n) p ≡ p
  unfolding plus reduce add_w
  zeros-plus zero p h e = refl
  zeros-plus (suc n) [] h e = absurd (not-suc-le-zero h)
  zeros-plus (suc n) (a ∷ p) h e =
      ap₂ ◌∷◌ (ap (λ (x : ℕ). x % 2 ^ k) (zero-add a) ∙ ap (λ (l : List ℕ). get_or l 0 0) e)
      (zeros-plus n p (le_of_suc-le-suc h) (ap (λ (l : List ℕ). drop 1 l) e))

  scaled-reduced : (c : ℕ) (b : List ℕ) → reduce k (map (mul_w k c) b) ≡ map (mul_w k c) b
  unfolding reduce mul_w
  scaled-reduced c [] = refl
  scaled-reduced c (y ∷ b) = ap₂ ◌∷◌ (mod-mod (c * y) (2 ^ k)) (scaled-reduced c b)

  ruleset pluses = (plus_assoc, plus_comm, plus-left-comm)

  -- division by a modulus with lower coefficients l
  module _ (d : ℕ) (l : Element) (len : length l ≡ d) (some : 1 ≤ d) (b : Element) (m : length b ≡ d) where
    abbrev F : List ℕ
    F = l ++ (1 ∷ [])

    product-low : (a : Element) → reduce k (product k l a b) ≡ product k l a b
    product-low a =
        rw (product-of k d l len (length a) a b refl m)
        (reduce-to k (act (Zk k) (rho (vec d l) k) (of_list k (length a) a) (of_list k d b)))

    divided-one : (c : ℕ) → times k (c ∷ []) b ≡ plus k (times k [] F) (product k l (c ∷ []) b)
    unfolding times plus product
    divided-one c =
        let s = map (mul_w k c) b in
        let ls : length s ≡ d = length-map b (mul_w k c) ∙ m in
        plus_comm s (0 ∷ [])
        ∙ zeros-plus 1 s (rw ls some) (scaled-reduced c b)
        ∙ sym (ap (λ (r : Element). add_scaled k c r b) (ap (λ (n : ℕ). times_x k l (replicate n 0)) len ∙ times_x-zero k d l len)
        ∙ scaled-plus c (zero_e d) b (length-replicate d 0 ∙ sym m)
        ∙ zeros-plus d s (le_of_eq (sym ls)) (scaled-reduced c b))

    divided-more : (c : ℕ) (a q : List ℕ) → times k a b ≡ plus k (times k q F) (product k l a b)
        → times k (c ∷ a) b ≡ plus k (times k (get_or (product k l a b) (length (product k l a b) - 1) 0 ∷ q) F) (product k l (c ∷ a) b)
    unfolding times product
    divided-more c a q e =
        let r = product k l a b in
        let t = get_or r (length r - 1) 0 in
        let s = map (mul_w k c) b in
        let lr : length r ≡ length l = length-product k l a b (m ∙ sym len) in
        ap (λ (p : List ℕ). plus k s (0 ∷ p)) e
        ∙ ap (plus k s) (plus-up (times k q F) r
        ∙ ap (plus k (0 ∷ times k q F)) (sym (times_x-plus l r (rw len some) lr (product-low a))))
        ∙ turned s (0 ∷ times k q F) (map (mul_w k t) F) (times_x k l r)
        ∙ ap (plus k (plus k (map (mul_w k t) F) (0 ∷ times k q F)))
        (sym (scaled-plus c (times_x k l r) b (length-times_x k l r lr ∙ len ∙ sym m)))
      where
        turned : (x y u v : List ℕ) → plus k x (plus k y (plus k u v)) ≡ plus k (plus k u y) (plus k v x)
        turned x y u v = simp pluses

    divided : (c : ℕ) (a : Element) → (q : List ℕ) × (times k (c ∷ a) b ≡ plus k (times k q F) (product k l (c ∷ a) b))
    divided c [] = ([], divided-one c)
    divided c (c' ∷ a) =
        let h = divided c' a in
        let r = product k l (c' ∷ a) b in
        (get_or r (length r - 1) 0 ∷ h.0, divided-more c (c' ∷ a) h.0 h.1)

swap : (R : CommRing) (x y u v : R.E) → R.add (R.add x y) (R.add u v) ≡ R.add (R.add x u) (R.add y v)
swap R x y u v = simp sums

-- X is a root of the modulus, and so every polynomial in X has one value at X: 0 for the multiples of the modulus, and an element for itself.
module _ (k d : ℕ) (dl : 2 ≤ d) (dh : d ≤ 6) where
  infixl 65 ◌⊕◌
  open GR d k use {add as ◌⊕◌, 𝟘, 𝟙}

  len : length (lower d) ≡ d
  len = length-lower d dl dh

  abbrev ρ : Vec (Word (2 ^ k)) d
  ρ = rho (row d) k

  of-lower : (n : ℕ) (l : Element) → of_list k n l ≡ vmap (word (2 ^ k)) (vec n l)
  of-lower zero l = refl
  of-lower (suc n) [] = ap (cons (word (2 ^ k) 0)) (of-lower n [])
  of-lower (suc n) (x ∷ l) = ap (cons (word (2 ^ k) x)) (of-lower n l)

  x-to-d : shifts (Zk k) ρ d (unit (Zk k) d) ≡ ρ
  x-to-d = all d ρ (omega arith)
    where
      all : (n : ℕ) (σ : Vec (Word (2 ^ k)) n) → 1 ≤ n → shifts (Zk k) σ n (unit (Zk k) n) ≡ σ
      all zero σ h = absurd (not-suc-le-zero h)
      all (suc n) σ h = shifts-all (Zk k) σ

  root : of_list k d (lower d) ⊕ ρ ≡ 𝟘
  root = ap (λ u. u ⊕ ρ) (of-lower d (lower d)) ∙ (GR d k).add-neg (vmap (word (2 ^ k)) (row d))

  -- X^d and the lower coefficients are zero
  pub modulus-root : sum k (power k d (element_x d) d) (lower d) ≡ zero_e d
  modulus-root =
      sum-of k d (power k d (element_x d) d) (lower d) (length-power-x k d dl dh d) len
      ∙ ap to_list (ap (λ u. u ⊕ of_list k d (lower d)) (powers-x k d dl dh d ∙ x-to-d) ∙ (GR d k).add_comm ρ (of_list k d (lower d)) ∙ root)
      ∙ sym (zero_of k d)

  pub product-reduced : (a b : Element) → length a ≡ d → length b ≡ d → Reduced k d (times k a b) (product k (lower d) a b)
  product-reduced [] b l m = absurd (omega arith)
  product-reduced (c ∷ a) b l m =
      let q = divided k d (lower d) len (omega arith) b m c a in
      let u = (GR d k).mul (of_list k d (c ∷ a)) (of_list k d b) in
      record {
        words = length-product k (lower d) (c ∷ a) b (m ∙ sym len) ∙ len;
        width = rw (product-of k d (lower d) len d (c ∷ a) b l m) (width-to k u);
        quotient = q.0;
        divided = q.1;
      }

  -- the value at X
  unfoldable at : List ℕ → Vec (Word (2 ^ k)) d
  at [] = pad (Zk k) d nil
  at (a ∷ p) = vadd (Zk k) (scale (Zk k) (word (2 ^ k) a) (unit (Zk k) d)) (shift (Zk k) ρ (at p))

  at-plus : (p q : List ℕ) → at (plus k p q) ≡ at p ⊕ at q
  unfolding at plus add_w
  at-plus [] q = sym (𝟘-add (GR d k) (at q))
  at-plus (a ∷ p) [] = sym ((GR d k).add-zero (at (a ∷ p)))
  at-plus (a ∷ p) (b ∷ q) =
      let x = word (2 ^ k) a in
      let y = word (2 ^ k) b in
      let e : word (2 ^ k) ((a + b) % 2 ^ k) ≡ (Zk k).add x y = word-ext (simp mods) in
      ap₂ ◌⊕◌ (ap (λ z. scale (Zk k) z 𝟙) e ∙ add-scale (Zk k) x y 𝟙) (ap (shift (Zk k) ρ) (at-plus p q) ∙ shift-add (Zk k) ρ (at p) (at q))
      ∙ swap (GR d k) (scale (Zk k) x 𝟙) (scale (Zk k) y 𝟙) (shift (Zk k) ρ (at p)) (shift (Zk k) ρ (at q))

  at_scaled : (c : ℕ) (p : List ℕ) → at (map (mul_w k c) p) ≡ scale (Zk k) (word (2 ^ k) c) (at p)
  unfolding at mul_w
  at_scaled c [] = sym (scale-nil (Zk k) d (word (2 ^ k) c))
  at_scaled c (a ∷ p) =
      let x = word (2 ^ k) c in
      let y = word (2 ^ k) a in
      let e : word (2 ^ k) (c * a % 2 ^ k) ≡ (Zk k).mul x y = word-ext (simp mods) in
      ap₂ ◌⊕◌ (ap (λ z. scale (Zk k) z 𝟙) e ∙ scale-scale (Zk k) x y 𝟙) (ap (shift (Zk k) ρ) (at_scaled c p) ∙ shift-scale (Zk k) ρ x (at p))
      ∙ sym (scale-add (Zk k) x (scale (Zk k) y 𝟙) (shift (Zk k) ρ (at p)))

  at_up : (p : List ℕ) → at (0 ∷ p) ≡ shift (Zk k) ρ (at p)
  unfolding at
  at_up p = ap (λ u. u ⊕ shift (Zk k) ρ (at p)) (scale-zero (Zk k) 𝟙) ∙ 𝟘-add (GR d k) (shift (Zk k) ρ (at p))

  at_low : (n : ℕ) (p : List ℕ) → length p ≡ n → at p ≡ act (Zk k) ρ (of_list k n p) (unit (Zk k) d)
  unfolding at act
  at_low zero [] h = refl
  at_low zero (a ∷ p) h = absurd (suc-ne-zero (length p) h)
  at_low (suc n) [] h = absurd (suc-ne-zero n (sym h))
  at_low (suc n) (a ∷ p) h =
      ap (λ u. vadd (Zk k) (scale (Zk k) (word (2 ^ k) a) (unit (Zk k) d)) (shift (Zk k) ρ u)) (at_low n p (suc_inj h))

  at-element : (r : Element) → length r ≡ d → at r ≡ of_list k d r
  at-element r h = at_low d r h ∙ vmul-one (Zk k) ρ (of_list k d r)

  at_one : (p : List ℕ) → at (p ++ (1 ∷ [])) ≡ at p ⊕ shifts (Zk k) ρ (length p) (unit (Zk k) d)
  unfolding at shifts
  at_one [] =
      ap₂ ◌⊕◌ (scale_one (Zk k) 𝟙) (shift-nil (Zk k) ρ) ∙ (GR d k).add_comm 𝟙 𝟘
  at_one (a ∷ p) =
      let x = scale (Zk k) (word (2 ^ k) a) 𝟙 in
      let y = shifts (Zk k) ρ (length p) 𝟙 in
      ap (λ u. x ⊕ u) (ap (shift (Zk k) ρ) (at_one p) ∙ shift-add (Zk k) ρ (at p) y)
      ∙ sym ((GR d k).add_assoc x (shift (Zk k) ρ (at p)) (shift (Zk k) ρ y))

  at-modulus : at (modulus d) ≡ 𝟘
  at-modulus =
      at_one (lower d) ∙ ap₂ ◌⊕◌ (at-element (lower d) len) (ap (λ (n : ℕ). shifts (Zk k) ρ n (unit (Zk k) d)) len ∙ x-to-d) ∙ root

  at-multiple : (q : List ℕ) → at (times k q (modulus d)) ≡ 𝟘
  unfolding times at
  at-multiple [] = refl
  at-multiple (a ∷ q) =
      at-plus (map (mul_w k a) (modulus d)) (0 ∷ times k q (modulus d))
      ∙ ap₂ ◌⊕◌ (at_scaled a (modulus d) ∙ ap (scale (Zk k) (word (2 ^ k) a)) at-modulus ∙ scale-nil (Zk k) d (word (2 ^ k) a))
      (at_up (times k q (modulus d)) ∙ ap (shift (Zk k) ρ) (at-multiple q) ∙ shift-nil (Zk k) ρ)
      ∙ (GR d k).add-zero 𝟘

  -- what a polynomial is reduced to is one element
  reduced-at : {p : List ℕ} {r : Element} → Reduced k d p r → at p ≡ of_list k d r
  reduced-at {p} {r} h =
      ap at h.divided
      ∙ at-plus (times k h.quotient (modulus d)) r
      ∙ ap₂ ◌⊕◌ (at-multiple h.quotient) (at-element r h.words)
      ∙ 𝟘-add (GR d k) (of_list k d r)

  pub reduced-once : {p : List ℕ} {r s : Element} → Reduced k d p r → Reduced k d p s → r ≡ s
  reduced-once {p} {r} {s} h g =
      sym (reduce-width k r h.width)
      ∙ sym (to-of k d r h.words)
      ∙ ap to_list (sym (reduced-at h) ∙ reduced-at g)
      ∙ to-of k d s g.words
      ∙ reduce-width k s g.width
