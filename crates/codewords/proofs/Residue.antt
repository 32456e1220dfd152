-- What a polynomial leaves of a share, as an element of the ring: nothing exactly where the share does not differ (`residue-zero`); and where
-- nothing is left below bit v, the share holds the value modulo 2^v (`agree-reduce`). Assumes nothing.
use mathlib.Core.Path.{◌≡◌, refl, sym, ◌∙◌, ap, ap₂}
use mathlib.Core.Bool.{not}
use mathlib.Core.List.{[], ◌∷◌}
use Prim.Native.Nat.{ℕ, zero, suc, ◌%◌, ◌^◌, ◌≤◌}
use native.Mathlib.Nat.{zero-mod, zero-div}
use lib.ListN.{length}
use Rattle.words.proofs.Tests.{same_test}
use Rattle.algebra.specs.Poly.{eval}
use Rattle.algebra.specs.Shares.{All}
use Rattle.algebra.proofs.Ring.{add-neg, sub-zero, eqb-true}
use Rattle.algebra.proofs.Extension.{pad}
use Rattle.algebra.proofs.Vec.{nil, cons}
use Rattle.galois.specs.Element.{Element, zero_e, difference, reduce, point, same}
use Rattle.galois.proofs.Zmod.{word, word-ext}
use Rattle.galois.proofs.Galois.{GR, Zk}
use Rattle.galois.proofs.Lists.{to_list, of_list, to_list-inj, length-to_list, width-to, of-to, to-of, zero_of, difference-of, of-difference}
use Rattle.galois.proofs.Elements.{same-eq, eq-same}
use Rattle.galois.proofs.Instance.{ring_of}
use Rattle.polynomial.proofs.OverRing.{poly_of}
use Rattle.comparison.specs.Comparison.{apart}
use Rattle.comparison.proofs.Compared.{unequal-same}
use Rattle.codewords.specs.Codeword.{Share, Polynomial, value, differs}
use Rattle.codewords.specs.Residue.{residue, bit_of}
use Rattle.codewords.specs.WellFormed.{IsElement, IsPoly}
use Rattle.codewords.proofs.Value.{share_of, Rows, rows_of, value-at, value-element, differs-misses}

module _ (d : ℕ) (dl : 2 ≤ d) (dh : d ≤ 6) (k : ℕ) (p : Polynomial) (r : Rows d p) where
  -- in the ring: the share's value without the polynomial's
  abbrev left : Share → (GR d k).E
  left s = (GR d k).add (share_of k d s).val ((GR d k).neg (eval (GR d k) (poly_of k d p) (share_of k d s).at))

  pub residue-of : (s : Share) → length s.words ≡ d → residue k d p s ≡ to_list (left s)
  residue-of s l =
      let u = eval (GR d k) (poly_of k d p) (share_of k d s).at in
      ap (difference k s.words) (value-at d dl dh k p r s)
      ∙ difference-of k d s.words (to_list u) l (length-to_list u)
      ∙ ap (λ x. to_list ((GR d k).add (share_of k d s).val ((GR d k).neg x))) (of-to k u)

  pub residue-element : (s : Share) → length s.words ≡ d → IsElement k d (residue k d p s)
  residue-element s l = rw (residue-of s l) (length-to_list (left s), width-to k (left s))

  -- nothing is left exactly where the share holds the value
  pub residue-none : (s : Share) → length s.words ≡ d → eval (GR d k) (poly_of k d p) (share_of k d s).at ≡ (share_of k d s).val →
      residue k d p s ≡ zero_e d
  residue-none s l e =
      let v = (share_of k d s).val in
      residue-of s l ∙ ap (λ x. to_list ((GR d k).add v ((GR d k).neg x))) e ∙ ap to_list (add-neg (GR d k) v) ∙ sym (zero_of k d)

  none-residue : (s : Share) → length s.words ≡ d → residue k d p s ≡ zero_e d →
      eval (GR d k) (poly_of k d p) (share_of k d s).at ≡ (share_of k d s).val
  none-residue s l e =
      sym (sub-zero (GR d k) (share_of k d s).val (eval (GR d k) (poly_of k d p) (share_of k d s).at)
      (to_list-inj k (left s) (GR d k).𝟘 (sym (residue-of s l) ∙ e ∙ zero_of k d)))

pub residue-zero : (d : ℕ) → 2 ≤ d → d ≤ 6 → (k t : ℕ) (p : Polynomial) → IsPoly k d t p → (s : Share) → IsElement k d s.words →
    differs k d p s ≡ apart (residue k d p s) (zero_e d)
residue-zero d dl dh k t p i s w =
    let r = rows_of k d t p i in
    let u = eval (GR d k) (poly_of k d p) (share_of k d s).at in
    let y = (share_of k d s).val in
    differs-misses d dl dh k p r s w
    ∙ ap not
    (same_test ((ring_of d k).eqb u y) (same (residue k d p s) (zero_e d))
    (λ e. eq-same (residue k d p s) (zero_e d) (residue-none d dl dh k p r s w.0 ((ring_of d k).eqb-eq u y e)))
    (λ e. eqb-true (ring_of d k) (none-residue d dl dh k p r s w.0 (same-eq (residue k d p s) (zero_e d) e))))
    ∙ sym (unequal-same (residue k d p s) (zero_e d))

-- what is zero below bit v is zero in the ring of v bits
zero-below : (v n : ℕ) (c : Element) → All (λ w. w % 2 ^ v ≡ 0) c → of_list v n c ≡ pad (Zk v) n nil
zero-below v zero c h = refl
zero-below v (suc n) [] h = ap (cons (word (2 ^ v) 0)) (zero-below v n [] h)
zero-below v (suc n) (w ∷ c) h = ap₂ cons (word-ext (h.0 ∙ sym (zero-mod (2 ^ v)))) (zero-below v n c h.1)

-- where no bit below v is left of a share, it holds the value modulo 2^v
pub agree-reduce : (d : ℕ) → 2 ≤ d → d ≤ 6 → {v k : ℕ} → v ≤ k → (p : Polynomial) → Rows d p → (s : Share) → length s.words ≡ d →
    All (λ w. w % 2 ^ v ≡ 0) (residue k d p s) → reduce v s.words ≡ reduce v (value k d p (point d s.holder))
agree-reduce d dl dh {v} {k} l p r s m h =
    let y = value k d p (point d s.holder) in
    let n : length y ≡ d = (value-element d dl dh k p r s).0 in
    let z : of_list v d s.words ≡ of_list v d y =
    sub-zero (GR d v) (of_list v d s.words) (of_list v d y)
    (sym (of-difference l d s.words y m n) ∙ zero-below v d (residue k d p s) h) in
    sym (to-of v d s.words m) ∙ ap to_list {x = of_list v d s.words} {y = of_list v d y} z ∙ to-of v d y n

-- no bits of nothing
pub bit-zeros : (v n : ℕ) → bit_of v (zero_e n) ≡ zero_e n
unfolding bit_of
bit-zeros v zero = refl
bit-zeros v (suc n) = ap₂ (λ x r. x % 2 ∷ r) (zero-div (2 ^ v)) (bit-zeros v n)
