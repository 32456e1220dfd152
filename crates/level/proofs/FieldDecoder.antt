-- What one level decides: the shares whose gap is not zero once t + 1 trusted shares are in are those that differ from the only polynomial
-- that can be the codeword, and by counting them the codeword is found, if there is one; without t + 1 trusted shares there is none.
-- Assumes nothing.
use mathlib.Core.Path.{◌≡◌, refl, sym, ◌∙◌, ap, subst⁻¹}
use mathlib.Core.Bool.{Bool, true, false, not, cond}
use mathlib.Core.Logic.{◌⊎◌, inl, inr}
use mathlib.Core.List.{List, [], ◌∷◌, map}
use mathlib.Core.Option.{Option, some, none}
use Prim.Native.Nat.{ℕ, zero, suc, ◌+◌, ◌-◌, ◌*◌, ◌/◌, ◌%◌, ◌^◌, ◌≤◌, ◌<◌}
use native.Mathlib.Nat.{le_refl}
use native.Mathlib.Omega.{arith}
use lib.Bits.{bit_or}
use lib.Count.{ones}
use lib.Dec.{leb, eqb}
use lib.ListN.{length, get_or, drop, length-map, drop_of_length-le, get_or-map}
use lib.Seq.{drop-cons}
use borrow.Author.Tests.{le-leb, lt-leb}
use Rattle.words.proofs.Tests.{same_test}
use Rattle.algebra.specs.Ring.{CommRing, DiscreteRing, IsUnit}
use Rattle.algebra.specs.Poly.{eval}
use Rattle.algebra.specs.Shares as A
use Rattle.algebra.specs.Shares.{count, bit, misses}
use Rattle.algebra.proofs.Ring.{unit-cancel, sub-zero, eqb-true, add-neg, mul-zero}
use Rattle.algebra.proofs.Shares.{all-at, all_map, nonroot}
use Rattle.algebra.proofs.Interpolation.{interp, length-interp}
use Rattle.algebra.proofs.KeyEquation.{Pairs, Inv, run, inv-run}
use Rattle.galois.specs.Element.{point}
use Rattle.galois.proofs.Galois.{GR}
use Rattle.galois.proofs.Lists.{to_list, to-of}
use Rattle.galois.proofs.Points.{to-point}
use Rattle.galois.proofs.Field.{is_field}
use Rattle.galois.proofs.Instance.{ring_of}
use Rattle.codewords.specs.Codeword.{Share, Polynomial, differs, errors, error_set, codeword, when}
use Rattle.codewords.specs.Opening.{fault_of, from_codeword}
use Rattle.codewords.specs.WellFormed.{IsElement, InWidth, Holders}
use Rattle.codewords.proofs.Find.{fixed}
use Rattle.codewords.proofs.Value.{share_of, rows_of, differs-misses}
use Rattle.codewords.proofs.Unique.{poly-back}
use Rattle.codewords.proofs.ErrorSet.{or_new, bit-clear, ones-errors}
use Rattle.codewords.proofs.Candidate.{poly-of, chosen, too_few}
use Rattle.sliced.specs.Lane.{lane, support_of}
use Rattle.level.specs.Level.{level_of, level_fault}
use Rattle.level.specs.Shares.{holder_set}
use Rattle.level.specs.KeyEquation.{start_lanes, run_lanes}
use Rattle.level.specs.Interpolation.{Newton, start_newton, gather_lanes}
use Rattle.std.specs.declared.option.Option.TheVariants.{Some, None}
use Rattle.level.proofs.Lanes.{Lanes, lanes-same, in-support}
use Rattle.level.proofs.KeyEquation.{locates}
use Rattle.level.proofs.Interpolation.{Gathered, gathered-all}
use Rattle.level.proofs.Shares.{holders-drop}

count_map : (d : ℕ) (U : A.Share (GR d 1) → Bool) (ss : List Share) → count (λ s. U (share_of 1 d s)) ss ≡ count U (map (share_of 1 d) ss)
count_map d U [] = refl
count_map d U (s ∷ ss) = ap (λ n. bit (U (share_of 1 d s)) + n) (count_map d U ss)

-- a multiple of a difference is zero where the two are equal
module _ (D : DiscreteRing) where
  infixl 65 ◌⊕◌
  infixl 70 ◌⊗◌
  open D use {ring as R, eqb}
  open R use {E, add as ◌⊕◌, mul as ◌⊗◌, neg as ⊖, 𝟘}

  zero-gap : (u x y : E) → IsUnit R u → eqb (u ⊗ (x ⊕ ⊖ y)) 𝟘 ≡ eqb x y
  zero-gap u x y h =
      same_test (eqb (u ⊗ (x ⊕ ⊖ y)) 𝟘) (eqb x y)
      (λ z. eqb-true D (sub-zero R x y (unit-cancel R u (x ⊕ ⊖ y) h (D.eqb-eq _ _ z))))
      (λ z. eqb-true D (ap (λ v. u ⊗ (v ⊕ ⊖ y)) (D.eqb-eq x y z) ∙ ap (λ v. u ⊗ v) (add-neg R y) ∙ mul-zero R u))

-- the set of the holders of the shares that differ, by the shares' places
module _ (d : ℕ) (c : Polynomial) (ss : List Share) (s₀ : Share) (a : Holders d ss) (w : ℕ) (hs : List ℕ)
    (hh : (i : ℕ) → i < length ss → (get_or ss i s₀).holder ≡ get_or hs i 0)
    (hd : (i : ℕ) → i < length ss → eqb (w / 2 ^ i % 2) 1 ≡ differs 1 d c (get_or ss i s₀)) where
  put : (s : Share) (rest : List Share) → Holders d (s ∷ rest) → (b : Bool) →
      cond b (bit_or (error_set 1 d c rest) (2 ^ (s.holder - 1))) (error_set 1 d c rest) ≡ when b (2 ^ (s.holder - 1)) + error_set 1 d c rest
  put s rest h true =
      let j = s.holder - 1 in
      let n : suc j ≡ s.holder = omega (arith, h.0.0) in
      or_new (error_set 1 d c rest) j (bit-clear 1 d c rest j (all_map (λ r x. x.0) rest h.0.1) h.1.1 (rw n h.1.0)) ∙ omega arith
  put s rest h false = omega arith

  set-from : (n i : ℕ) → i + n ≡ length ss → holder_set w hs i n ≡ error_set 1 d c (drop i ss)
  unfolding holder_set error_set
  set-from zero i e = sym (ap (error_set 1 d c) (drop_of_length-le ss {i = i} (omega arith)))
  set-from (suc n) i e =
      let l : i < length ss = omega arith in
      let q : drop i ss ≡ get_or ss i s₀ ∷ drop (suc i) ss = drop-cons ss i s₀ l in
      (λ j. let r = set-from n (suc i) (omega arith) j in cond (hd i l j) (bit_or r (2 ^ (sym (hh i l) j - 1))) r)
      ∙ put (get_or ss i s₀) (drop (suc i) ss) (rw q at (holders-drop d ss i a)) (differs 1 d c (get_or ss i s₀))
      ∙ ap (error_set 1 d c) (sym q)

module _ (d : ℕ) (dl : 2 ≤ d) (dh : d ≤ 6) (t e : ℕ) (ss : List Share) (s₀ : Share) (m : ℕ) (lm : length ss ≡ m) (mh : m ≤ 63)
    (a : Holders d ss) (b : InWidth 1 d ss) (enough : suc t + 2 * e ≤ m) (xs ys hs : List ℕ) (lx : length xs ≡ 6) (ly : length ys ≡ 6)
    (hx : (i : ℕ) → i < m → lane d xs i ≡ point d (get_or ss i s₀).holder) (hy : (i : ℕ) → i < m → lane d ys i ≡ (get_or ss i s₀).words)
    (hh : (i : ℕ) → i < m → (get_or ss i s₀).holder ≡ get_or hs i 0) (w : ℕ) (ew : w ≡ support_of d (run_lanes d xs (start_lanes ys t) m m).b1)
    (p : Newton) (ep : p ≡ gather_lanes d xs t w (start_newton ys) m m) where
  infixl 65 ◌⊕◌
  infixl 70 ◌⊗◌
  open GR d 1 use {E, add as ◌⊕◌, mul as ◌⊗◌, neg as ⊖, 𝟘}

  abbrev R : CommRing
  R = GR d 1

  abbrev D : DiscreteRing
  D = ring_of d 1

  abbrev rs : List (A.Share R)
  rs = map (share_of 1 d) ss

  abbrev sh : ℕ → A.Share R
  sh j = share_of 1 d (get_or ss j s₀)

  lr : length rs ≡ m
  lr = length-map ss (share_of 1 d) ∙ lm

  element : (i : ℕ) → i < m → IsElement 1 d (get_or ss i s₀).words
  element i h = all-at (λ (s : Share). IsElement 1 d s.words) ss i s₀ b (omega (arith, lm))

  -- the lanes are the shares of the field
  points : Lanes d m xs (λ j. (sh j).at)
  points = record { six = lx; at = λ j h. hx j h ∙ sym (to-point d 1 (le_refl 1) (get_or ss j s₀).holder) }

  values : Lanes d m ys (λ j. (sh j).val)
  values =
      record {
        six = ly;
        at = λ j h. hy j h ∙ sym (to-of 1 d (get_or ss j s₀).words (element j h).0 ∙ fixed 1 d (get_or ss j s₀).words (element j h));
      }

  share-at : (j : ℕ) → sh j ≡ get_or rs j (share_of 1 d s₀)
  share-at j = sym (get_or-map (share_of 1 d) ss j s₀)

  -- the pairs of the key equation, and which shares they trust
  abbrev q : Pairs R
  q = run D t rs

  inv : Inv R t rs q
  inv = inv-run D (is_field d dl dh) t rs

  abbrev T : Share → Bool
  T s = nonroot D q.b₁ (share_of 1 d s)

  test : (i : ℕ) → i < m → not (eqb (w / 2 ^ i % 2) 0) ≡ T (get_or ss i s₀)
  test i h =
      locates d dl dh rs (share_of 1 d s₀) m lr mh xs (lanes-same points (λ j _. ap (λ (s : A.Share R). s.at) (share-at j))) t ys
      (lanes-same values (λ j _. ap (λ (s : A.Share R). s.val) (share-at j))) w ew i h
      ∙ ap (nonroot D q.b₁) (sym (share-at i))

  g : Gathered d dl dh ss s₀ m lm mh a xs points t T ss p
  g = subst⁻¹ (Gathered d dl dh ss s₀ m lm mh a xs points t T ss) ep (gathered-all d dl dh ss s₀ m lm mh a xs points t T ys values w test)

  pub verdict-few : p.n ≤ t → None ≡ level_of d ss (codeword 1 d t e ss)
  unfolding level_of
  verdict-few h = rw (too_few d dl dh t e ss a (rw lm enough) q inv (few g.rest))
    where
      few : (suc t ≤ p.n) ⊎ (p.n ≡ count T ss) → count (nonroot D q.b₁) rs ≤ t
      few (inl z) = absurd (omega arith)
      few (inr z) = omega (arith, count_map d (nonroot D q.b₁) ss)

  -- t + 1 shares are in
  module _ (full : t < p.n) where
    abbrev f : List E
    f = interp D (map (share_of 1 d) g.qs)

    abbrev c : Polynomial
    c = map to_list f

    lq : length g.qs ≡ suc t
    lq = omega (arith, g.len, g.few)

    lf : length f ≡ suc t
    lf = length-interp D (map (share_of 1 d) g.qs) ∙ length-map g.qs (share_of 1 d) ∙ lq

    is-codeword : codeword 1 d t e ss ≡ cond (leb (errors 1 d c ss) e) (some c) none
    is-codeword = chosen d dl dh t e ss a (rw lm enough) q inv g.qs g.different lq g.from

    differing : (i : ℕ) → i < m → eqb (support_of d p.gap / 2 ^ i % 2) 1 ≡ differs 1 d c (get_or ss i s₀)
    differing i h =
        in-support d dl dh m mh g.gaps i h
        ∙ ap not (zero-gap D g.u (eval R f (sh i).at) (sh i).val g.unit)
        ∙ sym
        (differs-misses d dl dh 1 c (rows_of 1 d t c (poly-of 1 d t f lf)) (get_or ss i s₀) (element i h)
        ∙ ap (λ y. misses D y (sh i)) (poly-back 1 d f))

    wrong-set : holder_set (support_of d p.gap) hs 0 m ≡ error_set 1 d c ss
    wrong-set =
        set-from d c ss s₀ a (support_of d p.gap) hs (λ i h. hh i (omega (arith, lm))) (λ i h. differing i (omega (arith, lm))) m 0
        (omega (arith, lm))

    module _ (r : ℕ) (er : r ≡ holder_set (support_of d p.gap) hs 0 m) where
      counted : ones r ≡ errors 1 d c ss
      counted = ap ones (er ∙ wrong-set) ∙ ones-errors 1 d c ss (all_map (λ s x. x.0) ss a.0) a.1

      pub verdict-found : ones r ≤ e → Some r ≡ level_of d ss (codeword 1 d t e ss)
      unfolding level_of
      verdict-found h =
          let l : codeword 1 d t e ss ≡ some c = is-codeword ∙ rw (le-leb (errors 1 d c ss) e (omega (arith, counted))) in
          rw l (ap Some (er ∙ wrong-set))

      pub verdict-none : e < ones r → None ≡ level_of d ss (codeword 1 d t e ss)
      unfolding level_of
      verdict-none h =
          let l : codeword 1 d t e ss ≡ none = is-codeword ∙ rw (lt-leb (errors 1 d c ss) e (omega (arith, counted))) in
          rw l

-- the number of the answer
pub level-fault : (d : ℕ) (ss : List Share) (o : Option Polynomial) → level_fault (level_of d ss o) ≡ fault_of (from_codeword o)
unfolding level_fault level_of
level-fault d ss none = refl
level-fault d ss (some p) = refl
