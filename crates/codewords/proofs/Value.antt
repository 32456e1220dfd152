-- Shares, values at their points and errors of the definitions, as those of the ring: a share in width differs exactly when the ring says
-- that the polynomial misses it, and a share of any words that does not differ is not missed; the zero polynomial. Assumes nothing.
use mathlib.Core.Path.{◌≡◌, refl, sym, ◌∙◌, ap, ap₂}
use mathlib.Core.Bool.{Bool, true, false, not}
use mathlib.Core.List.{List, [], ◌∷◌, map}
use Prim.Native.Nat.{ℕ, zero, suc, ◌+◌, ◌≤◌}
use native.Mathlib.Nat.{suc-ne-zero}
use native.Mathlib.Omega.{arith}
use lib.ListN.{length, get_or, replicate, length-replicate}
use Rattle.algebra.specs.Poly.{eval}
use Rattle.algebra.specs.Shares as A
use Rattle.algebra.specs.Shares.{bit, count, All, misses}
use Rattle.algebra.proofs.Ring.{add-zero, mul-zero, eqb-true}
use Rattle.algebra.proofs.Shares.{all_map}
use Rattle.galois.specs.Element.{zero_e, point, same}
use Rattle.galois.proofs.Galois.{GR}
use Rattle.galois.proofs.Lists.{to_list, of_list, length-to_list, of-to, to-of, width-to, zero_of, of_zero}
use Rattle.galois.proofs.Points.{length-point, point_r}
use Rattle.galois.proofs.Instance.{ring_of}
use Rattle.polynomial.proofs.OverRing.{poly_of, value_of}
use Rattle.comparison.specs.Comparison.{unequal}
use Rattle.comparison.proofs.Compared.{none-same, same_none, unequal-same}
use Rattle.codewords.specs.Codeword.{Share, Polynomial, value, differs, errors, when}
use Rattle.codewords.specs.WellFormed.{IsElement, IsPoly, InWidth}
use Rattle.codewords.proofs.Find.{fixed, zero-element}

-- a share in the ring: words are cut to k bits
abbrev pub share_of : (k d : ℕ) → Share → A.Share (GR d k)
share_of k d s = record { at = point_r d k s.holder; val = of_list k d s.words }

-- each coefficient has d words
abbrev pub Rows : ℕ → Polynomial → Type 0
Rows d p = All (λ c. length c ≡ d) p

pub rows_of : (k d t : ℕ) (p : Polynomial) → IsPoly k d t p → Rows d p
rows_of k d t p h = all_map (λ c e. e.0) p h.1

-- the free term is an element
pub free-element : (k d t : ℕ) (p : Polynomial) → IsPoly k d t p → IsElement k d (get_or p 0 [])
free-element k d t [] h = absurd (suc-ne-zero t (sym h.0))
free-element k d t (c ∷ p) h = h.1.0

-- a share does not differ exactly when it holds the value: the same shares differ as before paper 02, K4 (`differs-same`)
module _ (k d : ℕ) (p : Polynomial) (s : Share) where
  pub right-value : differs k d p s ≡ false → s.words ≡ value k d p (point d s.holder)
  unfolding differs
  right-value e = none-same s.words (value k d p (point d s.holder)) e

  pub value-right : s.words ≡ value k d p (point d s.holder) → differs k d p s ≡ false
  unfolding differs
  value-right e = ap unequal (same_none s.words (value k d p (point d s.holder)) e)

  pub differs-same : differs k d p s ≡ not (same s.words (value k d p (point d s.holder)))
  unfolding differs
  differs-same = unequal-same s.words (value k d p (point d s.holder))

module _ (d : ℕ) (dl : 2 ≤ d) (dh : d ≤ 6) (k : ℕ) where
  pub value-at : (p : Polynomial) → Rows d p → (s : Share) →
      value k d p (point d s.holder) ≡ to_list (eval (GR d k) (poly_of k d p) (share_of k d s).at)
  value-at p h s = value_of k d dl dh p (point d s.holder) h (length-point d s.holder)

  -- a value is an element
  pub value-element : (p : Polynomial) → Rows d p → (s : Share) → IsElement k d (value k d p (point d s.holder))
  value-element p h s =
      let u = eval (GR d k) (poly_of k d p) (share_of k d s).at in
      rw (value-at p h s) (length-to_list u, width-to k u)

  -- a share that does not differ holds the value
  pub right-meets : (p : Polynomial) → Rows d p → (s : Share) → differs k d p s ≡ false →
      eval (GR d k) (poly_of k d p) (share_of k d s).at ≡ (share_of k d s).val
  right-meets p h s e = sym (ap (of_list k d) (right-value k d p s e ∙ value-at p h s) ∙ of-to k _)

  -- so it is not missed
  pub misses-le : (p : Polynomial) → Rows d p → (s : Share) → bit (misses (ring_of d k) (poly_of k d p) (share_of k d s)) ≤ bit (differs k d p s)
  misses-le p h s = go (differs k d p s) refl
    where
      any : (b : Bool) → bit b ≤ 1
      any true = omega arith
      any false = omega arith

      go : (b : Bool) → differs k d p s ≡ b → bit (misses (ring_of d k) (poly_of k d p) (share_of k d s)) ≤ bit b
      go true e = any (misses (ring_of d k) (poly_of k d p) (share_of k d s))
      go false e = rw (eqb-true (ring_of d k) (right-meets p h s e)) (omega arith)

  -- a share in width differs exactly when it is missed
  pub differs-misses : (p : Polynomial) → Rows d p → (s : Share) → IsElement k d s.words →
      differs k d p s ≡ misses (ring_of d k) (poly_of k d p) (share_of k d s)
  differs-misses p h s w = go (differs k d p s) refl ((ring_of d k).eqb u v) refl
    where
      u : (GR d k).E
      u = eval (GR d k) (poly_of k d p) (share_of k d s).at

      v : (GR d k).E
      v = (share_of k d s).val

      back : u ≡ v → s.words ≡ value k d p (point d s.holder)
      back e = sym (to-of k d s.words w.0 ∙ fixed k d s.words w) ∙ ap to_list {x = v} {y = u} (sym e) ∙ sym (value-at p h s)

      go : (b : Bool) → differs k d p s ≡ b → (c : Bool) → (ring_of d k).eqb u v ≡ c → b ≡ not c
      go true e true f = sym e ∙ value-right k d p s (back ((ring_of d k).eqb-eq u v f))
      go true e false f = refl
      go false e c f = ap not (sym (eqb-true (ring_of d k) (right-meets p h s e)) ∙ f)

  -- the shares that differ are at least those that are missed, and in width they are the same
  pub count-errors : (p : Polynomial) → Rows d p → (ss : List Share) →
      count (misses (ring_of d k) (poly_of k d p)) (map (share_of k d) ss) ≤ errors k d p ss
  unfolding errors
  count-errors p h [] = omega arith
  count-errors p h (s ∷ ss) = go (differs k d p s) (misses-le p h s) (count-errors p h ss)
    where
      go : (b : Bool) → bit (misses (ring_of d k) (poly_of k d p) (share_of k d s)) ≤ bit b →
          count (misses (ring_of d k) (poly_of k d p)) (map (share_of k d) ss) ≤ errors k d p ss →
          bit (misses (ring_of d k) (poly_of k d p) (share_of k d s)) + count (misses (ring_of d k) (poly_of k d p)) (map (share_of k d) ss)
          ≤ when b 1 + errors k d p ss
      go true x y = omega arith
      go false x y = omega arith

  pub errors-count : (p : Polynomial) → Rows d p → (ss : List Share) → InWidth k d ss →
      errors k d p ss ≡ count (misses (ring_of d k) (poly_of k d p)) (map (share_of k d) ss)
  unfolding errors
  errors-count p h [] a = refl
  errors-count p h (s ∷ ss) a = go (differs k d p s) (differs-misses p h s a.0) (errors-count p h ss a.1)
    where
      go : (b : Bool) → b ≡ misses (ring_of d k) (poly_of k d p) (share_of k d s) →
          errors k d p ss ≡ count (misses (ring_of d k) (poly_of k d p)) (map (share_of k d) ss) →
          when b 1 + errors k d p ss
          ≡ bit (misses (ring_of d k) (poly_of k d p) (share_of k d s)) + count (misses (ring_of d k) (poly_of k d p)) (map (share_of k d) ss)
      go true x y = ap₂ (λ m n. m + n) (ap bit x) y
      go false x y = ap₂ (λ m n. m + n) (ap bit x) y

-- the zero polynomial
module _ (k d : ℕ) where
  pub zero-is-poly : (t : ℕ) → IsPoly k d t (replicate (suc t) (zero_e d))
  zero-is-poly t = (length-replicate (suc t) (zero_e d), all (suc t))
    where
      all : (n : ℕ) → All (IsElement k d) (replicate n (zero_e d))
      all zero = tt
      all (suc n) = (zero-element k d, all n)

  zero-eval : (n : ℕ) (x : (GR d k).E) → eval (GR d k) (poly_of k d (replicate n (zero_e d))) x ≡ (GR d k).𝟘
  zero-eval zero x = refl
  zero-eval (suc n) x =
      let R = GR d k in
      ap₂ (λ c u. R.add c (R.mul x u)) (of_zero k d) (zero-eval n x) ∙ ap (R.add R.𝟘) (mul-zero R x) ∙ add-zero R R.𝟘

  pub zero-value : 2 ≤ d → d ≤ 6 → (t : ℕ) (s : Share) → value k d (replicate (suc t) (zero_e d)) (point d s.holder) ≡ zero_e d
  zero-value dl dh t s =
      let z = replicate (suc t) (zero_e d) in
      value-at d dl dh k z (rows_of k d t z (zero-is-poly t)) s ∙ ap to_list (zero-eval (suc t) (share_of k d s).at) ∙ sym (zero_of k d)
