-- The key equation by values is the one over the field: a step on slices does at each share what the step of `Rattle.algebra` does
-- (`solved-step`), so once all shares are taken in the lanes of the locator are its values at the shares' points (`locates`). Assumes nothing.
use mathlib.Core.Path.{◌≡◌, refl, sym, ◌∙◌, ap, subst⁻¹}
use mathlib.Core.Bool.{not}
use mathlib.Core.List.{List}
use Prim.Native.Nat.{ℕ, zero, suc, ◌-◌, ◌/◌, ◌%◌, ◌^◌, ◌≤◌, ◌<◌}
use native.Mathlib.Omega.{arith}
use lib.Dec.{leb, eqb}
use lib.ListN.{length, get_or, drop, drop_of_length-le}
use Rattle.algebra.specs.Ring.{CommRing, DiscreteRing}
use Rattle.algebra.specs.Poly.{eval}
use Rattle.algebra.specs.Shares.{Share}
use Rattle.algebra.proofs.Ring.{ring}
use Rattle.algebra.proofs.Poly.{eval-lin, eval-mulx}
use Rattle.algebra.proofs.Shares.{nonroot}
use Rattle.algebra.proofs.KeyEquation as K
use Rattle.algebra.specs.KeyEquation.{Pivot, none, first, second, pivot}
use Rattle.algebra.proofs.KeyEquation.{gap, gap-lin, gap-mulx}
use Rattle.galois.proofs.Galois.{GR, neg-self}
use Rattle.galois.proofs.Instance.{ring_of}
use Rattle.sliced.specs.Lane.{support_of}
use Rattle.level.specs.KeyEquation.{Pairs, zero_at, raised, swapped, move_lanes, step_lanes, start_lanes, run_lanes}
use Rattle.level.proofs.Lanes.{Lanes, lanes-same, lanes-times, lanes-spread, lanes-mix, lanes-root, lanes-one, lanes-zero, zero-at}

-- the values of the pairs (1, 0) and (0, 1)
module _ (R : CommRing) where
  infixl 65 ◌⊕◌
  infixl 70 ◌⊗◌
  open R use {E, add as ◌⊕◌, mul as ◌⊗◌, 𝟘, 𝟙}

  pub start-one : (x : E) → 𝟙 ≡ 𝟙 ⊕ x ⊗ 𝟘
  start-one x = simp ring

  start_first : (x y : E) → 𝟙 ≡ 𝟙 ⊕ x ⊗ 𝟘 ⊕ 𝟘 ⊗ y
  start_first x y = simp ring

  start-second : (x y : E) → y ≡ 𝟘 ⊕ (𝟙 ⊕ x ⊗ 𝟘) ⊗ y
  start-second x y = simp ring

module _ (d : ℕ) (dl : 2 ≤ d) (dh : d ≤ 6) (rs : List (Share (GR d 1))) (r₀ : Share (GR d 1)) (m : ℕ) (lm : length rs ≡ m) (mh : m ≤ 63) (xs : List ℕ)
    (hx : Lanes d m xs (λ j. (get_or rs j r₀).at)) where
  infixl 65 ◌⊕◌
  infixl 70 ◌⊗◌
  open GR d 1 use {E, add as ◌⊕◌, mul as ◌⊗◌, neg as ⊖, 𝟘, 𝟙}

  abbrev R : CommRing
  R = GR d 1

  abbrev D : DiscreteRing
  D = ring_of d 1

  abbrev sh : ℕ → Share R
  sh j = get_or rs j r₀

  -- the slices are the values of the pairs q
  pub record Solved (q : K.Pairs R) (p : Pairs) : Type 0 where
    pub v₀ : Lanes d m p.v0 (λ j. gap R q.a₀ q.b₀ (sh j))
    pub b₀ : Lanes d m p.b0 (λ j. eval R q.b₀ (sh j).at)
    pub d₀ : p.d0 ≡ q.d₀
    pub v₁ : Lanes d m p.v1 (λ j. gap R q.a₁ q.b₁ (sh j))
    pub b₁ : Lanes d m p.b1 (λ j. eval R q.b₁ (sh j).at)
    pub d₁ : p.d1 ≡ q.d₁

  abbrev turned : K.Pairs R → K.Pairs R
  turned q = record { a₀ = q.a₁; b₀ = q.b₁; d₀ = q.d₁; a₁ = q.a₀; b₁ = q.b₀; d₁ = q.d₀ }

  solved-swap : {q : K.Pairs R} {p : Pairs} → Solved q p → Solved (turned q) (swapped p)
  solved-swap s = record { v₀ = s.v₁; b₀ = s.b₁; d₀ = s.d₁; v₁ = s.v₀; b₁ = s.b₀; d₁ = s.d₀ }

  module _ (i : ℕ) (h : i < m) where
    -- with plus for minus
    root-plus : (z v w : E) → v ≡ (z ⊕ ⊖ (sh i).at) ⊗ w → (z ⊕ (sh i).at) ⊗ w ≡ v
    root-plus z v w e = sym (e ∙ ap (λ x. (z ⊕ x) ⊗ w) (neg-self (sh i).at))

    mix-plus : (c a e b v : E) → v ≡ c ⊗ a ⊕ ⊖ e ⊗ b → c ⊗ a ⊕ e ⊗ b ≡ v
    mix-plus c a e b v q = sym (q ∙ ap (λ x. c ⊗ a ⊕ x ⊗ b) (neg-self e))

    solved-raise : {q : K.Pairs R} {p : Pairs} → Solved q p →
        Solved (K.move R first (sh i).at (gap R q.a₀ q.b₀ (sh i)) (gap R q.a₁ q.b₁ (sh i)) q) (raised d xs i p)
    solved-raise {q} {p} s =
        record {
          v₀ = lanes-same (lanes-times d dl dh m mh root s.v₀) (λ j _. root-plus (sh j).at _ _ (gap-mulx R x q.a₀ q.b₀ (sh j)));
          b₀ = lanes-same (lanes-times d dl dh m mh root s.b₀) (λ j _. root-plus (sh j).at _ _ (eval-mulx R x q.b₀ (sh j).at));
          d₀ = omega (arith, s.d₀);
          v₁ = lanes-same (lanes-mix d dl dh m mh g₀ s.v₁ g₁ s.v₀)
              (λ j _. mix-plus e₀ _ e₁ _ _ (gap-lin R e₀ (⊖ e₁) q.a₁ q.b₁ q.a₀ q.b₀ (sh j)));
          b₁ = lanes-same (lanes-mix d dl dh m mh g₀ s.b₁ g₁ s.b₀)
              (λ j _. mix-plus e₀ _ e₁ _ _ (eval-lin R e₀ q.b₁ (⊖ e₁) q.b₀ (sh j).at));
          d₁ = s.d₁;
        }
      where
        x : E
        x = (sh i).at

        e₀ : E
        e₀ = gap R q.a₀ q.b₀ (sh i)

        e₁ : E
        e₁ = gap R q.a₁ q.b₁ (sh i)

        root : Lanes d m (Rattle.level.specs.KeyEquation.root_lanes xs i) (λ j. (sh j).at ⊕ x)
        root = lanes-root d dl dh m mh i h hx

        g₀ : Lanes d m (Rattle.sliced.specs.Lane.spread_lane p.v0 i) (λ j. e₀)
        g₀ = lanes-spread d dl dh m mh i h s.v₀

        g₁ : Lanes d m (Rattle.sliced.specs.Lane.spread_lane p.v1 i) (λ j. e₁)
        g₁ = lanes-spread d dl dh m mh i h s.v₁

    solved-move : {q : K.Pairs R} {p : Pairs} → Solved q p → (v : Pivot) →
        Solved (K.move R v (sh i).at (gap R q.a₀ q.b₀ (sh i)) (gap R q.a₁ q.b₁ (sh i)) q) (move_lanes d xs i v p)
    solved-move s none = s
    solved-move s first = solved-raise s
    solved-move s second = solved-swap (solved-raise (solved-swap s))

    solved-step : {q : K.Pairs R} {p : Pairs} → Solved q p → Solved (K.step D (sh i) q) (step_lanes d xs i p)
    unfolding step_lanes
    solved-step {q} {p} s =
        subst⁻¹ (λ v. Solved (K.step D (sh i) q) (move_lanes d xs i v p))
        (λ j. pivot (zero-at d dl dh m mh s.v₀ i h j) (zero-at d dl dh m mh s.v₁ i h j) (leb (s.d₀ j) (s.d₁ j)))
        (solved-move s
        (pivot (D.eqb (gap R q.a₀ q.b₀ (sh i)) 𝟘) (D.eqb (gap R q.a₁ q.b₁ (sh i)) 𝟘) (leb q.d₀ q.d₁)))

  module _ (t : ℕ) (ys : List ℕ) (hy : Lanes d m ys (λ j. (sh j).val)) where
    solved-start : Solved (K.start R t) (start_lanes ys t)
    solved-start =
        record {
          v₀ = lanes-same (lanes-one d dl dh m mh) (λ j _. start_first R (sh j).at (sh j).val);
          b₀ = lanes-zero d dl dh m mh;
          d₀ = refl;
          v₁ = lanes-same hy (λ j _. start-second R (sh j).at (sh j).val);
          b₁ = lanes-same (lanes-one d dl dh m mh) (λ j _. start-one R (sh j).at);
          d₁ = refl;
        }

    solved-run : (n : ℕ) → n ≤ m → Solved (K.run D t (drop (m - n) rs)) (run_lanes d xs (start_lanes ys t) m n)
    unfolding run_lanes
    solved-run zero h =
        subst⁻¹ (λ l. Solved (K.run D t l) (start_lanes ys t)) (drop_of_length-le rs {i = m - 0} (omega (arith, lm))) solved-start
    solved-run (suc n) h =
        let e : suc (m - suc n) ≡ m - n = omega arith in
        subst⁻¹ (λ q. Solved q (step_lanes d xs (m - suc n) (run_lanes d xs (start_lanes ys t) m n)))
        (K.run_drop D t rs (m - suc n) r₀ (omega (arith, lm)) ∙ ap (λ i. K.step D (sh (m - suc n)) (K.run D t (drop i rs))) e)
        (solved-step (m - suc n) (omega arith) (solved-run n (omega arith)))

    -- the locator's support
    pub locates : (w : ℕ) → w ≡ support_of d (run_lanes d xs (start_lanes ys t) m m).b1 → (i : ℕ) → i < m →
        not (eqb (w / 2 ^ i % 2) 0) ≡ nonroot D (K.run D t rs).b₁ (sh i)
    unfolding zero_at
    locates w e i h =
        let z : m - m ≡ 0 = omega arith in
        let s : Solved (K.run D t (drop 0 rs)) (run_lanes d xs (start_lanes ys t) m m) =
        rw z at (solved-run m (omega arith)) in
        ap not (ap (λ v. eqb (v / 2 ^ i % 2) 0) e ∙ zero-at d dl dh m mh s.b₁ i h)
