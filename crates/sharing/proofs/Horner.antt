-- Horner's rule from the last coefficient on, as dealing evaluates: what the coefficients from the i-th on add to the value stands in an
-- array (`horner-start`), one coefficient more is the array's sum with it, times the point (`horner-turn`), and the free term's sum with the
-- array is the value (`horner-end`). And a value in more bits, cut to fewer, is the one at fewer (`narrow-value`). Assumes nothing.
use mathlib.Core.Path.{◌≡◌, sym, ◌∙◌, ap}
use mathlib.Core.List.{List, [], ◌∷◌}
use Prim.Native.Nat.{ℕ, ◌-◌, ◌*◌, ◌≤◌, ◌<◌}
use native.Mathlib.Omega.{arith}
use lib.ListN.{length, take, drop, length-replicate}
use Rattle.algebra.specs.Poly.{eval}
use Rattle.algebra.proofs.Ring.{mul-zero}
use Rattle.galois.specs.Element.{Element, sum, lower, product, zero_e, point, reduce, held}
use Rattle.galois.proofs.Galois.{GR}
use Rattle.galois.proofs.Table.{length-lower}
use Rattle.galois.proofs.Lists.{to_list, of_list, length-to_list, length-product, product-of, zero_of, of_zero}
use Rattle.galois.proofs.Points.{length-point}
use Rattle.galois.proofs.Held.{held-take, zeros-held, sum-held}
use Rattle.galois.proofs.Narrow.{sum_comm, reduce-held}
use Rattle.polynomial.specs.Polynomial.{Polynomial, value}
use Rattle.polynomial.proofs.OverRing.{poly_of, value_of, reduce-value}
use Rattle.codewords.proofs.Value.{Rows}
use Rattle.sharing.specs.Dealing.{elements_of}
use Rattle.sharing.proofs.Elements.{held_cut, elements_from, from-none, from_more, from_all, from-rows}

-- what coefficients add to the value where another stands below them: the point times their own value
abbrev pub above : ℕ → ℕ → Element → Polynomial → Element
above k d x q = product k (lower d) x (value k d q x)

module _ (k d : ℕ) (dl : 2 ≤ d) (dh : d ≤ 6) (x : Element) (lx : length x ≡ d) where
  value-length : (q : Polynomial) → Rows d q → length (value k d q x) ≡ d
  value-length q rows = ap length (value_of k d dl dh q x rows lx) ∙ length-to_list (eval (GR d k) (poly_of k d q) (of_list k d x))

  above-length : (q : Polynomial) → Rows d q → length (above k d x q) ≡ d
  above-length q rows =
      let hl : length (lower d) ≡ d = length-lower d dl dh in
      length-product k (lower d) x (value k d q x) (value-length q rows ∙ sym hl) ∙ hl

  above-none : above k d x [] ≡ zero_e d
  unfolding value
  above-none =
      product-of k d (lower d) (length-lower d dl dh) d x (zero_e d) lx (length-replicate d 0)
      ∙ ap (λ u. to_list ((GR d k).mul (of_list k d x) u)) (of_zero k d)
      ∙ ap to_list (mul-zero (GR d k) (of_list k d x))
      ∙ sym (zero_of k d)

  -- one coefficient more
  module _ (c : Element) (lc : length c ≡ d) (q : Polynomial) (rows : Rows d q) (r : Element) (e : r ≡ held d (above k d x q)) where
    value-more : sum k r (held d c) ≡ held d (value k d (c ∷ q) x)
    unfolding value
    value-more =
        ap (λ (a : Element). sum k a (held d c)) e
        ∙ sum-held k d (above k d x q) c (above-length q rows) lc dh
        ∙ ap (held d) (sum_comm k (above k d x q) c)

    above_more : held d (product k (lower d) x (take d (sum k r (held d c)))) ≡ held d (above k d x (c ∷ q))
    above_more =
        ap (λ (a : Element). held d (product k (lower d) x a))
        (ap (take d) value-more ∙ held-take d (value k d (c ∷ q) x) (value-length (c ∷ q) (lc, rows)))

  -- the t coefficients in a list of words
  module _ (t : ℕ) (ws : List ℕ) (lw : length ws ≡ t * d) where
    pub horner-start : zero_e 6 ≡ held d (above k d x (elements_from d t ws t))
    horner-start = sym (ap (λ (q : Polynomial). held d (above k d x q)) (from-none d t ws) ∙ ap (held d) above-none ∙ zeros-held d dh)

    pub horner-turn : (r : Element) (i : ℕ) → 0 < i → i ≤ t → r ≡ held d (above k d x (elements_from d t ws i))
        → held d (product k (lower d) x (take d (sum k r (held d (drop ((i - 1) * d) ws))))) ≡ held d (above k d x (elements_from d t ws (i - 1)))
    horner-turn r i z h e =
        let b = drop ((i - 1) * d) ws in
        let m : elements_from d t ws (i - 1) ≡ take d b ∷ elements_from d t ws i = from_more d t ws i z h in
        let rows : Rows d (take d b ∷ elements_from d t ws i) = rw m at (from-rows d t ws (i - 1) (omega arith) lw) in
        ap (λ (a : Element). held d (product k (lower d) x (take d (sum k r a)))) (sym (held_cut d b))
        ∙ above_more (take d b) rows.0 (elements_from d t ws i) rows.1 r e
        ∙ ap (λ (q : Polynomial). held d (above k d x q)) (sym m)

    pub horner-end : (s r : Element) → length s ≡ d → r ≡ held d (above k d x (elements_from d t ws 0))
        → sum k r (held d s) ≡ held d (value k d (s ∷ elements_of d t ws) x)
    horner-end s r ls e =
        value-more s ls (elements_from d t ws 0) (from-rows d t ws 0 (omega arith) lw) r e
        ∙ ap (λ (q : Polynomial). held d (value k d (s ∷ q) x)) (from_all d t ws)

-- fewer bits
pub narrow-value : {j k : ℕ} → j ≤ k → (d : ℕ) → 2 ≤ d → d ≤ 6 → (q : Polynomial) → Rows d q → (i : ℕ)
    → reduce j (held d (value k d q (point d i))) ≡ held d (value j d q (point d i))
narrow-value {j} {k} h d dl dh q rows i =
    let x = point d i in
    let lx : length x ≡ d = length-point d i in
    reduce-held j d (value k d q x) (value-length k d dl dh x lx q rows) dh ∙ ap (held d) (reduce-value h d dl dh q x rows lx)
