-- Values and fewer bits: the value of the reduction is the reduction of the value (`value-reduce`), and where every coefficient is zero below
-- bit v, the value of bits v is bit v of the value (`eval-bit`). Assumes nothing.
use mathlib.Core.Path.{◌≡◌, refl, sym, ◌∙◌, ap, ap₂}
use mathlib.Core.List.{List, [], ◌∷◌, map}
use Prim.Native.Nat.{ℕ, ◌*◌, ◌-◌, ◌/◌, ◌%◌, ◌^◌, ◌≤◌, ◌<◌}
use native.Mathlib.Nat.{le_refl, mul_comm, mul-one}
use native.Mathlib.Omega.{arith}
use lib.Pow.{pow_pos}
use lib.ListN.{length, length-map}
use Rattle.words.proofs.Mod.{mods, cut, mod-narrow}
use Rattle.algebra.specs.Poly.{eval}
use Rattle.algebra.specs.Shares.{All}
use Rattle.algebra.proofs.Ring.{one-mul}
use Rattle.algebra.proofs.Units.{times, times-mul}
use Rattle.algebra.proofs.Vec.{Vec, nil, cons, vmap}
use Rattle.algebra.proofs.Extension as X
use Rattle.algebra.proofs.Poly.{scale, eval-scale, eval-map}
use Rattle.galois.specs.Element.{Element, reduce}
use Rattle.galois.proofs.Zmod.{Word, word, word-ext, times-val}
use Rattle.galois.proofs.Galois.{GR, Zk, modulus, rho, low, low_w, quot_w, times-quot}
use Rattle.galois.proofs.Lists.{to_list, of_list, length-reduce, width-reduce, low_of, low-to, of-reduce}
use Rattle.polynomial.proofs.OverRing.{poly_of, value_of}
use Rattle.codewords.specs.Codeword.{Polynomial, value}
use Rattle.codewords.specs.Residue.{bit_of}
use Rattle.codewords.specs.WellFormed.{IsElement, IsPoly}
use Rattle.codewords.proofs.Value.{Rows}

-- elements and polynomials of fewer bits
pub reduce-element : (k d : ℕ) (a : Element) → length a ≡ d → IsElement k d (reduce k a)
reduce-element k d a l = (length-reduce k a ∙ l, width-reduce k a)

pub reduce-is-poly : (j k d t : ℕ) (p : Polynomial) → IsPoly k d t p → IsPoly j d t (map (reduce j) p)
reduce-is-poly j k d t p h = (length-map p (reduce j) ∙ h.0, all p h.1)
  where
    all : (p : Polynomial) → All (IsElement k d) p → All (IsElement j d) (map (reduce j) p)
    all [] x = tt
    all (a ∷ p) x = (reduce-element j d a x.0.0, all p x.1)

-- the same polynomial of the ring of j bits, before and after
pub reduced-of : (j d : ℕ) (p : Polynomial) → poly_of j d (map (reduce j) p) ≡ poly_of j d p
reduced-of j d [] = refl
reduced-of j d (a ∷ p) = ap₂ ◌∷◌ (of-reduce (le_refl j) d a) (reduced-of j d p)

pub low-poly : {j k : ℕ} (h : j ≤ k) (d : ℕ) (p : Polynomial) → map (low (modulus d) h).fn (poly_of k d p) ≡ poly_of j d p
low-poly h d [] = refl
low-poly h d (a ∷ p) = ap₂ ◌∷◌ (low_of h d a) (low-poly h d p)

module _ (d : ℕ) (dl : 2 ≤ d) (dh : d ≤ 6) {j k : ℕ} (h : j ≤ k) where
  -- the value of the reduction is the reduction of the value
  pub value-reduce : (p : Polynomial) → Rows d p → (x : Element) → length x ≡ d → value j d (map (reduce j) p) x ≡ reduce j (value k d p x)
  value-reduce p r x l =
      value_of j d dl dh (map (reduce j) p) x (rows p r) l
      ∙ ap₂ (λ q z. to_list (eval (GR d j) q z)) (reduced-of j d p ∙ sym (low-poly h d p)) (sym (low_of h d x))
      ∙ ap to_list (sym (eval-map (low (modulus d) h) (poly_of k d p) (of_list k d x)))
      ∙ low-to h (eval (GR d k) (poly_of k d p) (of_list k d x))
      ∙ ap (reduce j) (sym (value_of k d dl dh p x r l))
    where
      rows : (p : Polynomial) → Rows d p → Rows d (map (reduce j) p)
      rows [] r = tt
      rows (a ∷ p) r = (length-reduce j a ∙ r.0, rows p r.1)

-- bit v of a word
abbrev pub bit_w : {m : ℕ} (v : ℕ) → Word m → Word (2 ^ 1)
bit_w v w = word (2 ^ 1) (w.val / 2 ^ v)

pub bit-to : (v : ℕ) {m n : ℕ} (u : Vec (Word m) n) → to_list (vmap (bit_w v) u) ≡ bit_of v (to_list u)
unfolding bit_of
bit-to v nil = refl
bit-to v (cons w u) = ap (λ r. w.val / 2 ^ v % 2 ∷ r) (bit-to v u)

module _ {v k : ℕ} (h : v < k) where
  pub some-bit : 1 ≤ k
  some-bit = omega arith

  pub within : v ≤ k
  within = omega arith

  -- bit v of 2^v x is the lowest bit of x
  bit-number : (x : ℕ) → 2 ^ v * x % 2 ^ k / 2 ^ v % 2 ≡ x % 2
  bit-number x =
      let e : k - (k - v) ≡ v = omega arith in
      let c : x * 2 ^ v % 2 ^ k / 2 ^ v ≡ x % 2 ^ (k - v) = rw e at (cut x (k - v) k (omega arith)) in
      ap (λ y. y % 2 ^ k / 2 ^ v % 2) (mul_comm (2 ^ v) x) ∙ ap (λ y. y % 2) c ∙ mod-narrow x 1 (k - v) (omega arith)

  bit_word : (w : Word (2 ^ k)) → bit_w v ((Zk k).mul (times (Zk k) (2 ^ v) (Zk k).𝟙) w) ≡ (low_w some-bit).fn w
  bit_word w =
      let e : (times (Zk k) (2 ^ v) (Zk k).𝟙).val * w.val % 2 ^ k ≡ 2 ^ v * w.val % 2 ^ k =
      rw (times-val (2 ^ k) (pow_pos k)) (simp mods (rw mul-one)) in
      word-ext (ap (λ y. y / 2 ^ v % 2) e ∙ bit-number w.val)

  bits-scaled : {n : ℕ} (u : Vec (Word (2 ^ k)) n) →
      vmap (bit_w v) (X.scale (Zk k) (times (Zk k) (2 ^ v) (Zk k).𝟙) u) ≡ vmap (low_w some-bit).fn u
  bits-scaled nil = refl
  bits-scaled (cons w u) = ap₂ cons (bit_word w) (bits-scaled u)

  module _ (d : ℕ) where
    -- the same of an element
    bit-times : (u : (GR d k).E) → vmap (bit_w v) (times (GR d k) (2 ^ v) u) ≡ (low (modulus d) some-bit).fn u
    bit-times u = ap (vmap (bit_w v)) (X.ext-times (Zk k) (rho (modulus d) k) (2 ^ v) u) ∙ bits-scaled u

    abbrev factor : (GR d k).E
    factor = times (GR d k) (2 ^ v) (GR d k).𝟙

    times-factor : (u : (GR d k).E) → (GR d k).mul factor u ≡ times (GR d k) (2 ^ v) u
    times-factor u = times-mul (GR d k) (2 ^ v) (GR d k).𝟙 u ∙ ap (times (GR d k) (2 ^ v)) (one-mul (GR d k) u)

    -- no bit below v is set
    abbrev pub Above : (GR d k).E → Type 0
    Above u = (low (modulus d) within).fn u ≡ (GR d v).𝟘

    -- so it is 2^v times its quotient, and bit v of it is the quotient's lowest
    quotients : (f : List (GR d k).E) → All Above f → scale (GR d k) factor (map (vmap (quot_w v)) f) ≡ f
    quotients [] a = refl
    quotients (u ∷ f) a =
        ap₂ ◌∷◌ (times-factor (vmap (quot_w v) u) ∙ times-quot (modulus d) k within u a.0) (quotients f a.1)

    bits-low : (f : List (GR d k).E) → All Above f → map (low (modulus d) some-bit).fn (map (vmap (quot_w v)) f) ≡ map (vmap (bit_w v)) f
    bits-low [] a = refl
    bits-low (u ∷ f) a =
        ap₂ ◌∷◌ (sym (bit-times (vmap (quot_w v) u)) ∙ ap (vmap (bit_w v)) (times-quot (modulus d) k within u a.0)) (bits-low f a.1)

    -- the value of bits v is bit v of the value
    pub eval-bit : (f : List (GR d k).E) → All Above f → (x : (GR d k).E) →
        eval (GR d 1) (map (vmap (bit_w v)) f) ((low (modulus d) some-bit).fn x) ≡ vmap (bit_w v) (eval (GR d k) f x)
    eval-bit f a x =
        let q = map (vmap (quot_w v)) f in
        let y = eval (GR d k) q x in
        ap (λ p. eval (GR d 1) p ((low (modulus d) some-bit).fn x)) (sym (bits-low f a))
        ∙ sym (eval-map (low (modulus d) some-bit) q x)
        ∙ sym (bit-times y)
        ∙ ap (vmap (bit_w v)) (sym (times-factor y) ∙ sym (eval-scale (GR d k) factor q x) ∙ ap (λ p. eval (GR d k) p x) (quotients f a))
