-- Demand 3 over the definitions: of t + 1 + 2e shares or more, whatever their words are, at most one polynomial differs from e or fewer
-- (`unique`); `codeword` is that polynomial if there is one (`codeword-sound`, `codeword-complete`), and none exactly when there is none
-- (`codeword-none`, `none-codeword`). Assumes nothing.
use mathlib.Core.Path.{◌≡◌, refl, sym, ◌∙◌, ap, ap₂}
use mathlib.Core.Logic.{◌≢◌}
use mathlib.Core.List.{List, [], ◌∷◌, map}
use mathlib.Core.Option.{none, some}
use Prim.Native.Nat.{ℕ, zero, suc, ◌+◌, ◌*◌, ◌^◌, ◌≤◌, ◌<◌}
use native.Mathlib.Nat.{le_trans, suc_inj, suc-ne-zero}
use native.Mathlib.Omega.{arith}
use lib.Dec.{leb}
use lib.ListN.{length, length-map, replicate}
use borrow.Author.Tests.{leb-true, leb-false, le-leb, lt-leb}
use Rattle.algebra.specs.Ring.{IsUnit}
use Rattle.algebra.specs.Shares.{All, Apart}
use Rattle.algebra.proofs.Shares as A
use Rattle.algebra.proofs.Shares.{all_map}
use Rattle.galois.specs.Element.{Element, zero_e, reduce}
use Rattle.galois.proofs.Galois.{GR}
use Rattle.galois.proofs.Lists.{to_list, of_list, of-to, to-of}
use Rattle.galois.proofs.Find.{find-some, find_none, none-find, find-only}
use Rattle.galois.proofs.Points.{points-apart}
use Rattle.galois.proofs.Instance.{ring_of}
use Rattle.polynomial.proofs.OverRing.{poly_of}
use Rattle.codewords.specs.Codeword.{Share, Polynomial, errors, polynomials, codeword}
use Rattle.codewords.specs.WellFormed.{IsElement, IsPoly, Different, Holders}
use Rattle.codewords.proofs.Find.{fixed, listed-poly, poly-listed}
use Rattle.codewords.proofs.Value.{share_of, rows_of, count-errors}

-- a polynomial is known by its elements of the ring
pub poly-to : (k d : ℕ) (p : Polynomial) → All (IsElement k d) p → map to_list (poly_of k d p) ≡ p
poly-to k d [] h = refl
poly-to k d (c ∷ p) h = ap₂ ◌∷◌ (to-of k d c h.0.0 ∙ fixed k d c h.0) (poly-to k d p h.1)

pub poly-back : (k d : ℕ) (f : List (GR d k).E) → poly_of k d (map to_list f) ≡ f
poly-back k d [] = refl
poly-back k d (u ∷ f) = ap₂ ◌∷◌ (of-to k u) (poly-back k d f)

pub poly-inj : (k d t : ℕ) (p q : Polynomial) → IsPoly k d t p → IsPoly k d t q → poly_of k d p ≡ poly_of k d q → p ≡ q
poly-inj k d t p q h g e = sym (poly-to k d p h.1) ∙ ap (map to_list) e ∙ poly-to k d q g.1

-- of no bits there is one element and one polynomial
no_bits : (a : Element) → reduce 0 a ≡ zero_e (length a)
unfolding reduce
no_bits [] = refl
no_bits (w ∷ a) = ap₂ ◌∷◌ (omega arith) (no_bits a)

pub element-zero : (d : ℕ) (a : Element) → IsElement 0 d a → a ≡ zero_e d
element-zero d a h = sym (fixed 0 d a h) ∙ no_bits a ∙ ap zero_e h.0

pub poly-zero : (d n : ℕ) (p : Polynomial) → length p ≡ n → All (IsElement 0 d) p → p ≡ replicate n (zero_e d)
poly-zero d zero [] l h = refl
poly-zero d zero (c ∷ p) l h = absurd (suc-ne-zero (length p) l)
poly-zero d (suc n) [] l h = absurd (suc-ne-zero n (sym l))
poly-zero d (suc n) (c ∷ p) l h = ap₂ ◌∷◌ (element-zero d c h.0) (poly-zero d n p (suc_inj l) h.1)

module _ (d : ℕ) (dl : 2 ≤ d) (dh : d ≤ 6) where
  -- different numbers below 2^d, of which 0 may be one, have points that differ by units
  pub points-of : (k : ℕ) → 1 ≤ k → (ss : List Share) → All (λ (s : Share). s.holder < 2 ^ d) ss → Different ss →
      Apart (GR d k) (map (share_of k d) ss)
  points-of k h [] b u = tt
  points-of k h (s ∷ ss) b u = (all ss b.1 u.0, points-of k h ss b.1 u.1)
    where
      all : (rs : List Share) → All (λ (r : Share). r.holder < 2 ^ d) rs → All (λ (r : Share). s.holder ≢ r.holder) rs →
          All (λ r. IsUnit (GR d k) ((GR d k).add r.at ((GR d k).neg (share_of k d s).at))) (map (share_of k d) rs)
      all [] c n = tt
      all (r ∷ rs) c n = (points-apart d dl dh k h r.holder s.holder c.0 b.0 (λ e. n.0 (sym e)), all rs c.1 n.1)

  -- so have different holders
  pub apart_of : (k : ℕ) → 1 ≤ k → (ss : List Share) → Holders d ss → Apart (GR d k) (map (share_of k d) ss)
  apart_of k h ss a = points-of k h ss (all_map (λ (s : Share) x. x.1) ss a.0) a.1

  -- at most one polynomial
  pub unique : (k t e : ℕ) (ss : List Share) (p q : Polynomial) → Holders d ss → suc t + 2 * e ≤ length ss →
      IsPoly k d t p → IsPoly k d t q → errors k d p ss ≤ e → errors k d q ss ≤ e → p ≡ q
  unique zero t e ss p q a m h g x y = poly-zero d (suc t) p h.0 h.1 ∙ sym (poly-zero d (suc t) q g.0 g.1)
  unique (suc k) t e ss p q a m h g x y =
      poly-inj (suc k) d t p q h g
      (A.unique (ring_of d (suc k)) (suc t) e (map (share_of (suc k) d) ss) (poly_of (suc k) d p) (poly_of (suc k) d q)
      (apart_of (suc k) (omega arith) ss a) (length-map p (of_list (suc k) d) ∙ h.0) (length-map q (of_list (suc k) d) ∙ g.0)
      (le_trans (count-errors d dl dh (suc k) p (rows_of (suc k) d t p h) ss) x)
      (le_trans (count-errors d dl dh (suc k) q (rows_of (suc k) d t q g) ss) y)
      (rw (length-map ss (share_of (suc k) d)) m))

-- what is found is a polynomial within the bound
pub codeword-sound : (k d t e : ℕ) (ss : List Share) (p : Polynomial) → codeword k d t e ss ≡ some p → IsPoly k d t p × (errors k d p ss ≤ e)
unfolding codeword
codeword-sound k d t e ss p h =
    let s = find-some (λ p. leb (errors k d p ss) e) (polynomials k d t) p h in
    (poly-listed k d t p s.0, leb-true (errors k d p ss) e s.1)

-- nothing is found exactly when there is none
pub codeword-none : (k d t e : ℕ) (ss : List Share) → codeword k d t e ss ≡ none → (p : Polynomial) → IsPoly k d t p → e < errors k d p ss
unfolding codeword
codeword-none k d t e ss h p i =
    leb-false (errors k d p ss) e (find_none (λ p. leb (errors k d p ss) e) (polynomials k d t) h p (listed-poly k d t p i))

pub none-codeword : (k d t e : ℕ) (ss : List Share) → ((p : Polynomial) → IsPoly k d t p → e < errors k d p ss) → codeword k d t e ss ≡ none
unfolding codeword
none-codeword k d t e ss f =
    none-find (λ p. leb (errors k d p ss) e) (polynomials k d t) (λ p m. lt-leb (errors k d p ss) e (f p (poly-listed k d t p m)))

-- the only one is found
pub codeword-only : (k d t e : ℕ) (ss : List Share) (p : Polynomial) → IsPoly k d t p → errors k d p ss ≤ e →
    ((q : Polynomial) → IsPoly k d t q → errors k d q ss ≤ e → q ≡ p) → codeword k d t e ss ≡ some p
unfolding codeword
codeword-only k d t e ss p i h only =
    find-only (λ p. leb (errors k d p ss) e) (polynomials k d t) p (listed-poly k d t p i) (le-leb (errors k d p ss) e h)
    (λ q m x. only q (poly-listed k d t q m) (leb-true (errors k d q ss) e x))

-- every one is found
pub codeword-complete : (d : ℕ) → 2 ≤ d → d ≤ 6 → (k t e : ℕ) (ss : List Share) (p : Polynomial) → Holders d ss → suc t + 2 * e ≤ length ss →
    IsPoly k d t p → errors k d p ss ≤ e → codeword k d t e ss ≡ some p
codeword-complete d dl dh k t e ss p a m i h =
    codeword-only k d t e ss p i h (λ q j x. unique d dl dh k t e ss q p a m j i x h)
