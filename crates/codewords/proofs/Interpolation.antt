-- Interpolation over the definitions: through t + 1 shares in width, under different numbers below 2^d, of which 0 may be one, goes exactly one
-- polynomial of degree at most t (`interpolant-poly`, `interpolant-meets`, `interpolant-only`); the value at 0 is the free term (`value-zero`).
-- Assumes nothing.
use mathlib.Core.Path.{◌≡◌, sym, ◌∙◌, ap}
use mathlib.Core.Bool.{not}
use mathlib.Core.List.{List, [], ◌∷◌, map}
use Prim.Native.Nat.{ℕ, suc, ◌^◌, ◌≤◌, ◌<◌}
use native.Mathlib.Nat.{suc-ne-zero}
use lib.ListN.{length, get_or, length-map}
use Rattle.algebra.specs.Poly.{eval}
use Rattle.algebra.specs.Shares.{All, Apart}
use Rattle.algebra.proofs.Ring.{add-zero, zero-mul, eqb-true}
use Rattle.algebra.proofs.Interpolation.{interp, length-interp, interp-hits, interp-only}
use Rattle.galois.specs.Element.{point}
use Rattle.galois.proofs.Galois.{GR}
use Rattle.galois.proofs.Instance.{ring_of}
use Rattle.galois.proofs.Lists.{to_list, of_list, to-of, of_zero}
use Rattle.galois.proofs.Points.{point-zero, point_r}
use Rattle.polynomial.proofs.OverRing.{poly_of}
use Rattle.codewords.specs.Codeword.{Share, Polynomial, value}
use Rattle.codewords.specs.WellFormed.{IsPoly, InWidth, Different}
use Rattle.codewords.proofs.Candidate.{poly-of}
use Rattle.codewords.proofs.Find.{fixed}
use Rattle.codewords.proofs.Unique.{poly-to, poly-back, points-of}
use Rattle.codewords.proofs.Value.{share_of, Rows, rows_of, right-value, value-right, value-at, right-meets, differs-misses}

-- each share holds the polynomial's value
abbrev pub Meets : ℕ → ℕ → Polynomial → List Share → Type 0
Meets k d q = All (λ (s : Share). s.words ≡ value k d q (point d s.holder))

abbrev pub interpolant : ℕ → ℕ → List Share → Polynomial
interpolant k d ss = map to_list (interp (ring_of d k) (map (share_of k d) ss))

module _ (d : ℕ) (dl : 2 ≤ d) (dh : d ≤ 6) (k : ℕ) where
  pub value-zero : (t : ℕ) (q : Polynomial) → IsPoly k d t q → value k d q (point d 0) ≡ get_or q 0 []
  value-zero t [] i = absurd (suc-ne-zero t (sym i.0))
  value-zero t (c ∷ q) i =
      let R = GR d k in
      let v = eval R (poly_of k d q) (point_r d k 0) in
      value-at d dl dh k (c ∷ q) (rows_of k d t (c ∷ q) i) (record { holder = 0; words = [] })
      ∙ ap to_list
      (ap (λ z. R.add (of_list k d c) (R.mul z v)) (ap (of_list k d) (point-zero d) ∙ of_zero k d)
      ∙ ap (R.add (of_list k d c)) (zero-mul R v)
      ∙ add-zero R (of_list k d c))
      ∙ to-of k d c i.1.0.0
      ∙ fixed k d c i.1.0

  -- a share holds the value exactly when the ring says that the polynomial goes through it
  rings : (q : Polynomial) → Rows d q → (ss : List Share) → Meets k d q ss →
      All (λ r. eval (GR d k) (poly_of k d q) r.at ≡ r.val) (map (share_of k d) ss)
  rings q h [] m = tt
  rings q h (s ∷ ss) m = (right-meets d dl dh k q h s (value-right k d q s m.0), rings q h ss m.1)

  words : (q : Polynomial) → Rows d q → (ss : List Share) → InWidth k d ss →
      All (λ r. eval (GR d k) (poly_of k d q) r.at ≡ r.val) (map (share_of k d) ss) → Meets k d q ss
  words q h [] w m = tt
  words q h (s ∷ ss) w m = (
    right-value k d q s (differs-misses d dl dh k q h s w.0 ∙ ap not (eqb-true (ring_of d k) m.0)),
    words q h ss w.1 m.1,
  )

  module _ (h : 1 ≤ k) (t : ℕ) (ss : List Share) (count : length ss ≡ suc t) (below : All (λ (s : Share). s.holder < 2 ^ d) ss)
      (different : Different ss) (width : InWidth k d ss) where
    apart : Apart (GR d k) (map (share_of k d) ss)
    apart = points-of d dl dh k h ss below different

    pub interpolant-poly : IsPoly k d t (interpolant k d ss)
    interpolant-poly =
        let rs = map (share_of k d) ss in
        poly-of k d t (interp (ring_of d k) rs) (length-interp (ring_of d k) rs ∙ length-map ss (share_of k d) ∙ count)

    pub interpolant-meets : Meets k d (interpolant k d ss) ss
    interpolant-meets =
        let f = interp (ring_of d k) (map (share_of k d) ss) in
        words (interpolant k d ss) (rows_of k d t (interpolant k d ss) interpolant-poly) ss width
        (rw (poly-back k d f) (interp-hits (ring_of d k) (map (share_of k d) ss) apart))

    pub interpolant-only : (q : Polynomial) → IsPoly k d t q → Meets k d q ss → q ≡ interpolant k d ss
    interpolant-only q i m =
        sym (poly-to k d q i.1)
        ∙ ap (map to_list)
        (interp-only (ring_of d k) (map (share_of k d) ss) (poly_of k d q) apart
        (length-map q (of_list k d) ∙ i.0 ∙ sym count ∙ sym (length-map ss (share_of k d)))
        (rings q (rows_of k d t q i) ss m))
