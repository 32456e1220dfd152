-- Interpolation in rows, share by share: what the rows are once some shares are in, one share more, and that the rows through t + 1 shares are
-- a polynomial of degree at most t from which none of these differs (`through`). The rows are the first t + 2, their words cut to k bits
-- (`cut`): what stands above in words of 64 bits, or in later rows, is not looked at. Assumes nothing.
use mathlib.Core.Path.{◌≡◌, refl, sym, ◌∙◌, ap, ap₂}
use mathlib.Core.List.{List, [], ◌∷◌, map}
use Prim.Native.Nat.{ℕ, zero, suc, ◌+◌, ◌-◌, ◌≤◌, ◌<◌}
use native.Mathlib.Omega.{arith}
use lib.ListN.{length, take, replicate, length-map, length-replicate}
use lib.Seq.{length-take-le, take-take}
use Rattle.algebra.specs.Poly.{eval}
use Rattle.algebra.specs.Shares.{misses}
use Rattle.algebra.proofs.Poly.{Low, Same, low-length, eval-same, same-take}
use Rattle.algebra.proofs.Shares.{all_map, count_none}
use Rattle.algebra.proofs.Interpolation as I
use Rattle.galois.specs.Element.{point, reduce}
use Rattle.galois.proofs.Galois.{GR}
use Rattle.galois.proofs.Lists.{to_list, of_list, of-to}
use Rattle.galois.proofs.Points.{length-point}
use Rattle.galois.proofs.Instance.{ring_of}
use Rattle.polynomial.specs.Rows.{Rows, coefs, reduce_rows, root_rows, extend_rows}
use Rattle.polynomial.proofs.Change.{length-change}
use Rattle.polynomial.proofs.OverRing.{poly_of, row, Exact, exact-by, zero-rows, one-rows, take_row}
use Rattle.polynomial.proofs.Newton.{same_low, start-same, start-nodal, extend-exact, extend_same, nodal-exact, nodal-same}
use Rattle.codewords.specs.Codeword.{Share, errors}
use Rattle.codewords.specs.WellFormed.{IsPoly, InWidth, Holders}
use Rattle.codewords.proofs.Value.{share_of, rows_of, errors-count}
use Rattle.codewords.proofs.Unique.{apart_of}
use Rattle.codewords.proofs.Candidate.{poly-of}
use Rattle.level.specs.Shares.{share_at, shares_from, shares_of, Sized}
use Rattle.level.proofs.Shares.{length_from, from_next, from_end, sized-from}
use Rattle.rounds.specs.Residues.{Through}
use Rattle.std.proofs.lemmas.List.{take-map}
use Rattle.rounds.proofs.Rows.{zero_row, one_rows, cut, take-root, take-extend, cut-zero, cut-one}

module _ (k d : ℕ) (h : 1 ≤ k) (dl : 2 ≤ d) (dh : d ≤ 6) where
  abbrev shares : List Share → List (Rattle.algebra.specs.Shares.Share (GR d k))
  shares = map (share_of k d)

  -- q goes through the shares ss, and m is their nodal polynomial; both are b rows
  pub record Interpolated (b : ℕ) (ss : List Share) (q m : Rows) : Type 0 where
    pub xq : Exact k d q
    pub xm : Exact k d m
    pub lq : length q ≡ b
    pub lm : length m ≡ b
    pub sq : Same (GR d k) (poly_of k d q) (I.interp (ring_of d k) (shares ss))
    pub sm : Same (GR d k) (poly_of k d m) (I.nodal (GR d k) (shares ss))

  none_in : (b : ℕ) → Interpolated (suc b) [] (replicate (suc b) zero_row) (one_rows b)
  none_in b =
      record {
        xq = exact-by k d (replicate (suc b) zero_row) (replicate (suc b) (GR d k).𝟘) (zero-rows k d dh (suc b));
        xm = exact-by k d (one_rows b) ((GR d k).𝟙 ∷ replicate b (GR d k).𝟘) (one-rows k d h (omega arith) dh b);
        lq = length-replicate {A = List ℕ} (suc b) zero_row;
        lm = ap suc (length-replicate {A = List ℕ} b zero_row);
        sq = start-same k d h dl dh (suc b);
        sm = start-nodal k d h dl dh b;
      }

  module _ (b : ℕ) (s : Share) (ss : List Share) (q m : Rows) (g : Interpolated b ss q m) (l : length s.words ≡ d) (n : ℕ) (en : length ss ≡ n)
      (few : n + 2 ≤ b) where
    one_more : Interpolated b (s ∷ ss) (extend_rows k d n q m (point d s.holder) s.words) (root_rows k d (n + 2) (point d s.holder) m)
    one_more =
        record {
          xq = rw es at (extend-exact k d h dl dh q m g.xq g.xm lqm (shares ss) room g.sq g.sm x s.words lx l);
          xm = rw es at (nodal-exact k d h dl dh q m g.xq g.xm lqm (shares ss) room g.sq g.sm x s.words lx l);
          lq = length-change _ (n + 1) m q ∙ g.lq;
          lm = length-change _ (n + 2) (zero_row ∷ m) m ∙ g.lm;
          sq = rw es at (extend_same k d h dl dh q m g.xq g.xm lqm (shares ss) room g.sq g.sm x s.words lx l);
          sm = rw es at (nodal-same k d h dl dh q m g.xq g.xm lqm (shares ss) room g.sq g.sm x s.words lx l);
        }
      where
        x : List ℕ
        x = point d s.holder

        lx : length x ≡ d
        lx = length-point d s.holder

        es : length (shares ss) ≡ n
        es = length-map ss (share_of k d) ∙ en

        lqm : length q ≡ length m
        lqm = g.lq ∙ sym g.lm

        room : length (shares ss) + 2 ≤ length m
        room = omega (arith, es, g.lm)

  -- the first n rows of elements
  coefs-exact : (n : ℕ) (us : List (GR d k).E) → coefs d n (map (row k d) us) ≡ map to_list (take n us)
  coefs-exact zero us = refl
  coefs-exact (suc n) [] = refl
  coefs-exact (suc n) (u ∷ us) = ap₂ ◌∷◌ (take_row k d u) (coefs-exact n us)

  poly-to-of : (us : List (GR d k).E) → poly_of k d (map to_list us) ≡ us
  poly-to-of [] = refl
  poly-to-of (u ∷ us) = ap₂ ◌∷◌ (of-to k u) (poly-to-of us)

  -- what goes through t + 1 shares
  module _ (t : ℕ) (ss : List Share) (q m : Rows) (g : Interpolated (t + 2) ss q m) (ls : length ss ≡ suc t) (a : Holders d ss)
      (w : InWidth k d ss) where
    abbrev us : List (GR d k).E
    us = poly_of k d q

    lu : length us ≡ t + 2
    lu = length-map q (of_list k d) ∙ g.lq

    low : Low (GR d k) (suc t) us
    low =
        let p = I.interp (ring_of d k) (shares ss) in
        let l : length p ≡ suc t = I.length-interp (ring_of d k) (shares ss) ∙ length-map ss (share_of k d) ∙ ls in
        same_low (GR d k) (suc t) us p g.sq (rw l at (low-length (GR d k) p))

    lt : length (take (suc t) us) ≡ suc t
    lt = length-take-le (suc t) us (omega (arith, lu))

    is-coefs : coefs d (suc t) q ≡ map to_list (take (suc t) us)
    is-coefs = ap (coefs d (suc t)) (sym g.xq) ∙ coefs-exact (suc t) us

    is-poly : IsPoly k d t (coefs d (suc t) q)
    is-poly = rw is-coefs (poly-of k d t (take (suc t) us) lt)

    value-us : (x : (GR d k).E) → eval (GR d k) (poly_of k d (coefs d (suc t) q)) x ≡ eval (GR d k) (I.interp (ring_of d k) (shares ss)) x
    value-us x =
        ap (λ p. eval (GR d k) p x) (ap (poly_of k d) is-coefs ∙ poly-to-of (take (suc t) us))
        ∙ eval-same (GR d k) (take (suc t) us) us x (same-take (GR d k) (suc t) us low)
        ∙ eval-same (GR d k) us (I.interp (ring_of d k) (shares ss)) x g.sq

    no-error : errors k d (coefs d (suc t) q) ss ≡ 0
    no-error =
        errors-count d dl dh k (coefs d (suc t) q) (rows_of k d t (coefs d (suc t) q) is-poly) ss w
        ∙ count_none (misses (ring_of d k) (poly_of k d (coefs d (suc t) q))) (shares ss)
        (all_map (λ r e. rw (value-us r.at, e, (ring_of d k).eqb_refl r.val)) (shares ss)
        (I.interp-hits (ring_of d k) (shares ss) (apart_of d dl dh k h ss a)))

    -- and what has the same first t + 1 rows
    through : (r : Rows) → take (suc t) r ≡ take (suc t) q → Through k d t ss r
    through r e =
        let c : coefs d (suc t) r ≡ coefs d (suc t) q = ap (map (take d)) e in
        rw c (is-poly, no-error)

  -- the loop, on arrays of which only the first t + 2 rows and the lowest k bits count
  module _ (t : ℕ) (hs : List ℕ) (ys : Rows) where
    abbrev pub Passed : ℕ → Rows → Rows → Type 0
    Passed i q m = Interpolated (t + 2) (shares_from d hs ys i (suc t - i)) (cut k (t + 2) q) (cut k (t + 2) m)

    pub interpolate-start : (q m : Rows) → take (t + 2) q ≡ replicate (t + 2) zero_row → take (t + 2) m ≡ one_rows (t + 1) → Passed (t + 1) q m
    unfolding shares_from
    interpolate-start q m eq em =
        let e : suc t - (t + 1) ≡ 0 = omega arith in
        let f : t + 2 ≡ suc (t + 1) = omega arith in
        rw (e, cut-zero k (t + 2) q eq, cut-one k h t m em, f) (none_in (t + 1))

    pub interpolate-turn : Sized d (shares_of d (suc t) hs ys) → (i : ℕ) → 0 < i → i ≤ t + 1 → (q m q' m' : Rows) → Passed i q m →
        (let n = t - (i - 1) in
        let s = share_at d hs ys (i - 1) in
        reduce_rows k q' ≡ extend_rows k d n (reduce_rows k q) (reduce_rows k m) (point d s.holder) s.words →
        reduce_rows k m' ≡ root_rows k d (n + 2) (point d s.holder) (reduce_rows k m) → Passed (i - 1) q' m')
    interpolate-turn z i p l q m q' m' g eq em =
        let n = t - (i - 1) in
        let b = t + 2 in
        let le : i ≤ suc t = omega arith in
        let f = from_next d hs ys i (suc t) p le in
        let s = share_at d hs ys (i - 1) in
        let x = point d s.holder in
        let ss = shares_from d hs ys i (suc t - i) in
        let en : length ss ≡ n = length_from d hs ys i (suc t - i) ∙ omega arith in
        let sz : Sized d (s ∷ ss) = rw f at (sized-from d hs ys (i - 1) (suc t) (omega arith) z) in
        let fq : cut k b q' ≡ extend_rows k d n (cut k b q) (cut k b m) x s.words =
        ap (take b) eq ∙ take-extend k d b n (omega arith) (reduce_rows k q) (reduce_rows k m) x s.words in
        let fm : cut k b m' ≡ root_rows k d (n + 2) x (cut k b m) = ap (take b) em ∙ take-root k d b (n + 2) x (reduce_rows k m) in
        rw (f, fq, fm) (one_more b s ss (cut k b q) (cut k b m) g sz.0 n en (omega arith))

    pub interpolate-end : Holders d (shares_of d (suc t) hs ys) → InWidth k d (shares_of d (suc t) hs ys) → (i : ℕ) → i ≡ 0 → (q m r : Rows) →
        Passed i q m → take (suc t) r ≡ reduce_rows k (take (suc t) q) → Through k d t (shares_of d (suc t) hs ys) r
    interpolate-end a w i z q m r g e =
        through t (shares_of d (suc t) hs ys) (cut k (t + 2) q) (cut k (t + 2) m) (rw (from_end d hs ys i (suc t) z) at g)
        (length_from d hs ys 0 (suc t)) a w r
        (e ∙ sym (take-map (reduce k) (suc t) q) ∙ sym (take-take (suc t) (t + 2) (reduce_rows k q) (omega arith)))
