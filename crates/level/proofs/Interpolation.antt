-- Interpolation by values through shares that pass a test, at most t + 1 of them: what the lanes are once some shares are looked at
-- (`gathered-all`). Assumes nothing.
use mathlib.Core.Path.{◌≡◌, refl, sym, ◌∙◌, ap, subst⁻¹}
use mathlib.Core.Bool.{Bool, true, false, not, cond, ◌&&◌}
use mathlib.Core.Logic.{◌⊎◌, inl, inr, ◌≢◌}
use mathlib.Core.List.{List, [], ◌∷◌, map, Memᴰ}
use Prim.Native.Nat.{ℕ, zero, suc, ◌+◌, ◌-◌, ◌/◌, ◌%◌, ◌^◌, ◌≤◌, ◌<◌}
use native.Mathlib.Nat.{le_refl}
use native.Mathlib.Omega.{arith}
use lib.Dec.{leb, eqb}
use lib.ListN.{length, get_or, drop, drop_of_length-le}
use lib.Seq.{drop-cons}
use borrow.Author.Tests.{leb-true, leb-false}
use Rattle.algebra.specs.Ring.{CommRing, DiscreteRing, IsUnit}
use Rattle.algebra.specs.Poly.{eval}
use Rattle.algebra.specs.Shares as A
use Rattle.algebra.specs.Shares.{All, count, bit}
use Rattle.algebra.proofs.Ring.{unit-one, unit-mul, zero-add, one-mul}
use Rattle.algebra.proofs.Poly.{eval-mulx}
use Rattle.algebra.proofs.Shares.{all_map}
use Rattle.algebra.proofs.Interpolation.{nodal, nodal-unit, excess, excess-more}
use Rattle.galois.proofs.Galois.{GR, neg-self}
use Rattle.galois.proofs.Instance.{ring_of}
use Rattle.codewords.specs.Codeword.{Share}
use Rattle.codewords.specs.WellFormed.{Different, Holders}
use Rattle.codewords.proofs.Value.{share_of}
use Rattle.codewords.proofs.Unique.{apart_of}
use Rattle.codewords.proofs.Candidate.{member}
use Rattle.level.specs.Interpolation.{Newton, taken, trust_lanes, start_newton, gather_lanes}
use Rattle.level.proofs.Lanes.{Lanes, lanes-same, lanes-times, lanes-spread, lanes-mix, lanes-root, lanes-one}
use Rattle.level.proofs.KeyEquation.{start-one}
use Rattle.level.proofs.Shares.{holders-drop}

module _ (d : ℕ) (dl : 2 ≤ d) (dh : d ≤ 6) (ss : List Share) (s₀ : Share) (m : ℕ) (lm : length ss ≡ m) (mh : m ≤ 63) (a : Holders d ss)
    (xs : List ℕ) (hx : Lanes d m xs (λ j. (share_of 1 d (get_or ss j s₀)).at)) (t : ℕ) (T : Share → Bool) where
  infixl 65 ◌⊕◌
  infixl 70 ◌⊗◌
  open GR d 1 use {E, add as ◌⊕◌, mul as ◌⊗◌, neg as ⊖, 𝟘, 𝟙}

  abbrev R : CommRing
  R = GR d 1

  abbrev D : DiscreteRing
  D = ring_of d 1

  abbrev sh : ℕ → A.Share R
  sh j = share_of 1 d (get_or ss j s₀)

  abbrev shares : List Share → List (A.Share R)
  shares = map (share_of 1 d)

  -- the lanes once the shares l are looked at: they are those of the shares qs
  pub record Gathered (l : List Share) (p : Newton) : Type 0 where
    pub qs : List Share
    pub from : All (λ q. Memᴰ q l × (T q ≡ true)) qs
    pub different : Different qs
    pub len : length qs ≡ p.n
    pub few : p.n ≤ suc t
    pub rest : (suc t ≤ p.n) ⊎ (p.n ≡ count T l)
    pub u : E
    pub unit : IsUnit R u
    pub gaps : Lanes d m p.gap (λ j. u ⊗ excess D (shares qs) (sh j))
    pub nodals : Lanes d m p.nodal (λ j. eval R (nodal R (shares qs)) (sh j).at)

  gathered_none : (ys : List ℕ) → Lanes d m ys (λ j. (sh j).val) → Gathered [] (start_newton ys)
  gathered_none ys hy =
      record {
        qs = [];
        from = tt;
        different = tt;
        len = refl;
        few = omega arith;
        rest = inr refl;
        u = 𝟙;
        unit = unit-one R;
        gaps = lanes-same hy (λ j _. sym (one-mul R (𝟘 ⊕ ⊖ (sh j).val) ∙ zero-add R (⊖ (sh j).val) ∙ neg-self (sh j).val));
        nodals = lanes-same (lanes-one d dl dh m mh) (λ j _. start-one R (sh j).at);
      }

  module _ (s : Share) (l : List Share) (p : Newton) (g : Gathered l p) where
    later : All (λ q. Memᴰ q (s ∷ l) × (T q ≡ true)) g.qs
    later = all_map (λ q x. (Memᴰ.tail x.0, x.1)) g.qs g.from

    -- a share that is passed over
    gathered-same : (suc t ≤ p.n) ⊎ (p.n ≡ count T (s ∷ l)) → Gathered (s ∷ l) p
    gathered-same r =
        record {
          qs = g.qs;
          from = later;
          different = g.different;
          len = g.len;
          few = g.few;
          rest = r;
          u = g.u;
          unit = g.unit;
          gaps = g.gaps;
          nodals = g.nodals;
        }

    -- a share that is taken in
    module _ (i : ℕ) (hi : i < m) (hs : get_or ss i s₀ ≡ s) (b : Holders d (s ∷ l)) where
      others : Different (s ∷ g.qs)
      others = (all_map (λ q x. member (λ (r : Share). s.holder ≢ r.holder) l b.1.0 q x.0) g.qs g.from, g.different)

      unit-nodal : IsUnit R (eval R (nodal R (shares g.qs)) (sh i).at)
      unit-nodal =
          rw hs
          (nodal-unit R (share_of 1 d s).at (shares g.qs)
          (apart_of d dl dh 1 (le_refl 1) (s ∷ g.qs) ((b.0.0, all_map (λ q x. member Fit l b.0.1 q x.0) g.qs g.from), others)).0)
        where
          Fit : Share → Type 0
          Fit r = (1 ≤ r.holder) × (r.holder < 2 ^ d)

      gathered-more : p.n ≤ t → T s ≡ true → Gathered (s ∷ l) (taken d xs i p)
      gathered-more h e =
          record {
            qs = s ∷ g.qs;
            from = ((Memᴰ.head refl, e), later);
            different = others;
            len = omega (arith, g.len);
            few = omega arith;
            rest = more g.rest;
            u = g.u ⊗ c;
            unit = unit-mul R g.u c g.unit unit-nodal;
            gaps = lanes-same
                (lanes-mix d dl dh m mh (lanes-spread d dl dh m mh i hi g.nodals) g.gaps (lanes-spread d dl dh m mh i hi g.gaps) g.nodals)
                (λ j _. gap-next j);
            nodals = lanes-same (lanes-times d dl dh m mh (lanes-root d dl dh m mh i hi hx) g.nodals) (λ j _. nodal-next j);
          }
        where
          rs : List (A.Share R)
          rs = shares g.qs

          c : E
          c = eval R (nodal R rs) (sh i).at

          gap-next : (j : ℕ) → c ⊗ (g.u ⊗ excess D rs (sh j)) ⊕ g.u ⊗ excess D rs (sh i) ⊗ eval R (nodal R rs) (sh j).at
              ≡ g.u ⊗ c ⊗ excess D (shares (s ∷ g.qs)) (sh j)
          gap-next j =
              sym (ap (λ z. c ⊗ (g.u ⊗ excess D rs (sh j)) ⊕ z ⊗ eval R (nodal R rs) (sh j).at) (neg-self (g.u ⊗ excess D rs (sh i))))
              ∙ excess-more D (sh i) rs g.u unit-nodal (sh j)
              ∙ ap (λ r. g.u ⊗ c ⊗ excess D (share_of 1 d r ∷ rs) (sh j)) hs

          nodal-next : (j : ℕ) → ((sh j).at ⊕ (sh i).at) ⊗ eval R (nodal R rs) (sh j).at ≡ eval R (nodal R (shares (s ∷ g.qs))) (sh j).at
          nodal-next j =
              sym
              (ap (λ r. eval R (nodal R (share_of 1 d r ∷ rs)) (sh j).at) (sym hs)
              ∙ eval-mulx R (sh i).at (nodal R rs) (sh j).at
              ∙ ap (λ z. ((sh j).at ⊕ z) ⊗ eval R (nodal R rs) (sh j).at) (neg-self (sh i).at))

          more : (suc t ≤ p.n) ⊎ (p.n ≡ count T l) → (suc t ≤ p.n + 1) ⊎ (p.n + 1 ≡ count T (s ∷ l))
          more (inl z) = inl (omega arith)
          more (inr z) = inr (omega (arith, ap bit e))

      gathered-if : (v w : Bool) → leb p.n t ≡ v → T s ≡ w → Gathered (s ∷ l) (cond (v && w) (taken d xs i p) p)
      gathered-if true true x y = gathered-more (leb-true p.n t x) y
      gathered-if true false x y = gathered-same (less g.rest)
        where
          less : (suc t ≤ p.n) ⊎ (p.n ≡ count T l) → (suc t ≤ p.n) ⊎ (p.n ≡ count T (s ∷ l))
          less (inl z) = inl z
          less (inr z) = inr (omega (arith, ap bit y))
      gathered-if false w x y = gathered-same (inl (omega (arith, leb-false p.n t x)))

  module _ (ys : List ℕ) (hy : Lanes d m ys (λ j. (sh j).val)) (w : ℕ)
      (test : (i : ℕ) → i < m → not (eqb (w / 2 ^ i % 2) 0) ≡ T (get_or ss i s₀)) where
    gathered-run : (n : ℕ) → n ≤ m → Gathered (drop (m - n) ss) (gather_lanes d xs t w (start_newton ys) m n)
    unfolding gather_lanes trust_lanes
    gathered-run zero h =
        subst⁻¹ (λ l. Gathered l (start_newton ys)) (drop_of_length-le ss {i = m - 0} (omega (arith, lm))) (gathered_none ys hy)
    gathered-run (suc n) h =
        let p = gather_lanes d xs t w (start_newton ys) m n in
        let i = m - suc n in
        let e : suc (m - suc n) ≡ m - n = omega arith in
        let c : drop i ss ≡ get_or ss i s₀ ∷ drop (m - n) ss = drop-cons ss i s₀ (omega (arith, lm)) ∙ ap (λ j. get_or ss i s₀ ∷ drop j ss) e in
        subst⁻¹ (λ l. Gathered l (trust_lanes d xs t w i p)) c
        (subst⁻¹ (λ b. Gathered (get_or ss i s₀ ∷ drop (m - n) ss) (cond (leb p.n t && b) (taken d xs i p) p)) (test i (omega arith))
        (gathered-if (get_or ss i s₀) (drop (m - n) ss) p (gathered-run n (omega arith)) i (omega arith) refl
        (rw c at (holders-drop d ss i a)) (leb p.n t) (T (get_or ss i s₀)) refl refl))

    -- all shares
    pub gathered-all : Gathered ss (gather_lanes d xs t w (start_newton ys) m m)
    gathered-all = let z : m - m ≡ 0 = omega arith in rw z at (gathered-run m (le_refl m))
