-- A turn of each loop: down through the rows for a value, up through them for p - e q and (Z - x) p; that these leave arrays of the same shape;
-- and the calls of Newton's step. Assumes nothing.
use mathlib.Core.Path.{◌≡◌, refl, sym, ◌∙◌, ap, ap₂}
use mathlib.Core.List.{List, [], ◌∷◌}
use Prim.Native.Nat.{ℕ, zero, suc, ◌+◌, ◌-◌, ◌^◌, ◌≤◌, ◌<◌}
use native.Mathlib.Nat.{le_of_eq, le_refl, not-suc-le-zero}
use native.Mathlib.Omega.{arith}
use lib.ListN.{length, get_or, take, drop, set, replicate, drop_of_length-le, length-map, get_or-map}
use lib.Seq.{paste, drop-cons, length-take-le, get_or-take, take-nil}
use Rattle.words.specs.Word.{add_w, sub_w}
use Rattle.words.proofs.Fill.{fill-next, fill-ahead}
use Rattle.galois.specs.Element.{Element, sum, difference, lower, product, reduce, inverse, held}
use Rattle.galois.proofs.Table.{length-lower}
use Rattle.galois.proofs.Lists.{length-zip, length-product, reduce-below}
use Rattle.galois.proofs.Inverse.{length-inverse}
use Rattle.galois.proofs.Zip.{zip-take}
use Rattle.galois.proofs.Held.{held-take, held-length, held_same, zeros-held}
use Rattle.galois.proofs.Narrow.{reduce-sum, reduce-held, product-reduce}
use Rattle.polynomial.specs.Polynomial.{Polynomial, value}
use Rattle.polynomial.specs.Rows.{Rows, Shaped, coefs, change, less_times, less_multiple, subtract_rows, root_rows}
use Rattle.polynomial.proofs.Change.{length-change, change-at, change-all}
use Rattle.polynomial.proofs.Shape.{shaped-length, shaped-all, shaped-by}
use Rattle.polynomial.proofs.OverRing.{value-last}

-- how much of m is to be taken off q, as `excess` but in words of k bits, and the inverse at j
abbrev pub excess_by : ℕ → ℕ → ℕ → ℕ → Rows → Rows → Element → Element → Element
excess_by j k d n q m x y = product k (lower d) (difference k (value k d (coefs d n q) x) y) (inverse j d (value k d (coefs d (n + 1) m) x))

module _ (k d : ℕ) (dl : 2 ≤ d) (dh : d ≤ 6) where
  pub product-length : (c b : Element) → length b ≡ 6 → length (product k (lower d) c (take d b)) ≡ d
  product-length c b h =
      let hl : length (lower d) ≡ d = length-lower d dl dh in
      length-product k (lower d) c (take d b) (length-take-le d b (omega arith) ∙ sym hl) ∙ hl

  -- values
  module _ (n : ℕ) (p : Rows) (hp : n ≤ length p) (x : Element) where
    coefs-length : length (coefs d n p) ≡ n
    coefs-length = length-map (take n p) (take d) ∙ length-take-le n p hp

    coef-at : (i : ℕ) → i < n → get_or (coefs d n p) i [] ≡ take d (get_or p i [])
    coef-at i h =
        ap (λ (z : List ℕ). get_or (coefs d n p) i z) (sym (take-nil d)) ∙ get_or-map (take d) (take n p) i [] ∙ ap (take d) (get_or-take n p i [] h)

    value-step : (i : ℕ) → 0 < i → i ≤ n
        → value k d (drop (i - 1) (coefs d n p)) x
        ≡ sum k (take d (get_or p (i - 1) [])) (product k (lower d) x (value k d (drop i (coefs d n p)) x))
    unfolding value
    value-step zero z h = absurd (not-suc-le-zero z)
    value-step (suc j) z h =
        let e : suc j - 1 ≡ j = omega arith in
        let m : j < length (coefs d n p) = rw coefs-length h in
        rw (e, drop-cons (coefs d n p) j [] m, coef-at j h)

    last-coef : 0 < n → drop (n - 1) (coefs d n p) ≡ take d (get_or p (n - 1) []) ∷ []
    last-coef z =
        let e : suc (n - 1) ≡ n = omega arith in
        let m : n - 1 < length (coefs d n p) = rw coefs-length (omega arith) in
        drop-cons (coefs d n p) (n - 1) [] m
        ∙ ap₂ ◌∷◌ (coef-at (n - 1) (omega arith))
        (ap (λ (i : ℕ). drop i (coefs d n p)) e ∙ drop_of_length-le (coefs d n p) {i = n} (le_of_eq coefs-length))

    -- of no rows
    pub eval-none : n ≡ 0 → replicate 6 0 ≡ held d (value k d (coefs d n p) x)
    unfolding value
    eval-none z = rw z (sym (zeros-held d dh))

    -- the value of the last row is the row's, but for the cut, and no later turn sees whether a value is cut
    pub eval-start : length x ≡ d → 0 < n → length (get_or p (n - 1) []) ≡ 6
        → reduce k (take d (get_or p (n - 1) [])) ≡ value k d (drop (n - 1) (coefs d n p)) x
    eval-start lx z l =
        let a = get_or p (n - 1) [] in
        sym (ap (λ (cs : Polynomial). value k d cs x) (last-coef z)
        ∙ value-last k d dl dh (take d a) x (length-take-le d a (omega arith)) lx)

    pub eval-turn : length x ≡ d → (r : Element) (i : ℕ) → length r ≡ 6 → 0 < i → i ≤ n
        → reduce k (take d r) ≡ value k d (drop i (coefs d n p)) x
        → reduce k (take d (sum k (get_or p (i - 1) []) (held d (product k (lower d) x (take d r))))) ≡ value k d (drop (i - 1) (coefs d n p)) x
    eval-turn lx r i hr z h e =
        let a = get_or p (i - 1) [] in
        let b = product k (lower d) x (take d r) in
        ap (reduce k) (zip-take (add_w k) d a (held d b))
        ∙ reduce-sum (le_refl k) (take d a) (take d (held d b))
        ∙ ap (sum k (take d a)) (held-take d b (product-length x r hr)
        ∙ sym (product-reduce k d dl dh x (take d r) lx (length-take-le d r (omega arith))) ∙ ap (product k (lower d) x) e)
        ∙ sym (value-step i z h)

    -- the array that is left, of words below 2^k, is the value's
    pub eval-end : (y r v : Element) → y ≡ held d r → ((j : ℕ) → get_or y j 0 < 2 ^ k) → length r ≡ 6 → reduce k (take d r) ≡ v → y ≡ held d v
    eval-end y r v ey fit lr e =
        let lt : length (take d r) ≡ d = length-take-le d r (omega arith) in
        sym (reduce-below k y fit)
        ∙ ap (reduce k) (ey ∙ held_same d r (take d r) refl lt)
        ∙ reduce-held k d (take d r) lt dh
        ∙ ap (held d) e

    pub eval-length : (a r : Element) → length a ≡ 6 → length r ≡ 6 → length (sum k a (held d (product k (lower d) x (take d r)))) ≡ 6
    eval-length a r ha hr =
        let b = product k (lower d) x (take d r) in
        let hb : length (held d b) ≡ 6 = held-length d b (product-length x r hr) dh in
        length-zip (add_w k) a (held d b) (ha ∙ sym hb) ∙ hb

  -- a row less x times another is six words, so arrays keep their shape
  pub difference-length : (x b a : Element) → length b ≡ 6 → length a ≡ 6 → length (difference k (take d b) (product k (lower d) x (take d a))) ≡ d
  difference-length x b a lb la =
      let lu : length (product k (lower d) x (take d a)) ≡ d = product-length x a la in
      length-zip (sub_w k) (take d b) (product k (lower d) x (take d a)) (length-take-le d b (omega arith) ∙ sym lu) ∙ lu

  less-length : (x b a : Element) → length b ≡ 6 → length a ≡ 6 → length (less_times k d x b a) ≡ 6
  less-length x b a lb la = held-length d (difference k (take d b) (product k (lower d) x (take d a))) (difference-length x b a lb la) dh

  pub subtract-shaped : (n : ℕ) (p : Rows) (e : Element) (q : Rows) → Shaped p → Shaped q → Shaped (subtract_rows k d n p e q)
  subtract-shaped n p e q hp hq =
      let f = less_multiple k d e in
      shaped-by (change f n q p)
      (change-all (λ (r : List ℕ). length r ≡ 6) f (λ b a lb la. less-length e a b la lb) n q p (shaped-all q hq) (shaped-all p hp))
      (length-change f n q p ∙ shaped-length p hp)

  pub root-shaped : (n : ℕ) (x : Element) (p : Rows) → Shaped p → Shaped (root_rows k d n x p)
  root-shaped n x p hp =
      let f = less_times k d x in
      let u : Rows = replicate 6 0 ∷ p in
      shaped-by (change f n u p) (change-all (λ (r : List ℕ). length r ≡ 6) f (less-length x) n u p (refl, shaped-all p hp) (shaped-all p hp))
      (length-change f n u p ∙ shaped-length p hp)

  -- a row less x times another, as it is computed: over six words, then cut to d
  less-held : (x b a : Element) → length b ≡ 6 → length a ≡ 6
      → held d (difference k b (held d (product k (lower d) x (take d a)))) ≡ less_times k d x b a
  less-held x b a lb la =
      let u = product k (lower d) x (take d a) in
      let lu : length u ≡ d = product-length x a la in
      held_same d (difference k b (held d u)) (difference k (take d b) u)
      (zip-take (sub_w k) d b (held d u) ∙ ap (difference k (take d b)) (held-take d u lu)) (difference-length x b a lb la)

  -- p - e q
  pub subtract-turn : (n : ℕ) (p : Rows) (e : Element) (q x : Rows) (i : ℕ)
      → i < n → n ≤ length p → n ≤ length q → length (get_or p i []) ≡ 6 → length (get_or q i []) ≡ 6
      → x ≡ paste p 0 (subtract_rows k d n p e q) i
      → set x i (held d (difference k (get_or x i []) (held d (product k (lower d) e (take d (get_or q i []))))))
      ≡ paste p 0 (subtract_rows k d n p e q) (i + 1)
  subtract-turn n p e q x i h hp hq lp lq ex =
      let s = subtract_rows k d n p e q in
      let ls : length s ≡ length p = length-change (less_multiple k d e) n q p in
      let v = product k (lower d) e (take d (get_or q i [])) in
      let ahead : get_or x i [] ≡ get_or p i [] = fill-ahead p s x i [] ex (omega arith) in
      fill-next p s x i [] _ ex (omega arith) (omega arith)
      (ap (λ (r : List ℕ). held d (difference k r (held d v))) ahead
      ∙ less-held e (get_or p i []) (get_or q i []) lp lq
      ∙ sym (change-at (less_multiple k d e) n q p i [] h (omega arith) (omega arith)))

  -- (Z - x) p
  pub root-turn : (n : ℕ) (x : Element) (p y : Rows) (b : List ℕ) (i : ℕ)
      → i < n → n ≤ length p → length (get_or p i []) ≡ 6 → length b ≡ 6 → b ≡ get_or (replicate 6 0 ∷ p) i []
      → y ≡ paste p 0 (root_rows k d n x p) i
      → set y i (held d (difference k b (held d (product k (lower d) x (take d (get_or y i [])))))) ≡ paste p 0 (root_rows k d n x p) (i + 1)
  root-turn n x p y b i h hp lp lb eb ey =
      let s = root_rows k d n x p in
      let ls : length s ≡ length p = length-change (less_times k d x) n (replicate 6 0 ∷ p) p in
      let ahead : get_or y i [] ≡ get_or p i [] = fill-ahead p s y i [] ey (omega arith) in
      fill-next p s y i [] _ ey (omega arith) (omega arith)
      (ap (λ (r : List ℕ). held d (difference k b (held d (product k (lower d) x (take d r))))) ahead
      ∙ less-held x b (get_or p i []) lb lp
      ∙ ap (λ (r : List ℕ). less_times k d x r (get_or p i [])) eb
      ∙ sym (change-at (less_times k d x) n (replicate 6 0 ∷ p) p i [] h (omega arith) (omega arith)))

  -- the calls of Newton's step, the inverse at j bits
  pub extend-calls : (j n : ℕ) (q m r : Rows) (x y v w f i c : Element)
      → length (value k d (coefs d n q) x) ≡ d → length (value k d (coefs d (n + 1) m) x) ≡ d
      → v ≡ held d (value k d (coefs d n q) x) → w ≡ held d (value k d (coefs d (n + 1) m) x)
      → i ≡ held d (inverse j d (take d w)) → f ≡ difference k v y → c ≡ held d (product k (lower d) (take d f) (take d i))
      → r ≡ subtract_rows k d (n + 1) q (take d c) m → r ≡ subtract_rows k d (n + 1) q (excess_by j k d n q m x (take d y)) m
  extend-calls j n q m r x y v w f i c lv lw ev ew ei ef ec er =
      let vv = value k d (coefs d n q) x in
      let ww = value k d (coefs d (n + 1) m) x in
      let hl : length (lower d) ≡ d = length-lower d dl dh in
      let tf : take d f ≡ difference k vv (take d y) =
      ap (take d) ef ∙ zip-take (sub_w k) d v y ∙ ap (λ (a : Element). difference k a (take d y)) (ap (take d) ev ∙ held-take d vv lv) in
      let tw : take d w ≡ ww = ap (take d) ew ∙ held-take d ww lw in
      let ti : take d i ≡ inverse j d ww =
      ap (take d) ei ∙ held-take d (inverse j d (take d w)) (length-inverse j d (take d w)) ∙ ap (inverse j d) tw in
      let lp : length (product k (lower d) (take d f) (take d i)) ≡ d =
      length-product k (lower d) (take d f) (take d i) (ap length ti ∙ length-inverse j d ww ∙ sym hl) ∙ hl in
      let tc : take d c ≡ excess_by j k d n q m x (take d y) =
      ap (take d) ec ∙ held-take d (product k (lower d) (take d f) (take d i)) lp ∙ ap₂ (product k (lower d)) tf ti in
      er ∙ ap (λ (b : Element). subtract_rows k d (n + 1) q b m) tc
