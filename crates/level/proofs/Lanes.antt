-- Slices that carry elements of the field, lane i the i-th: sums, products and the like of slices carry those of the elements, and a lane is
-- zero where its element is. Assumes nothing.
use mathlib.Core.Path.{◌≡◌, refl, sym, ◌∙◌, ap, ap₂}
use mathlib.Core.Bool.{Bool, true, false, not, cond}
use mathlib.Core.List.{List, [], ◌∷◌}
use Prim.Native.Nat.{ℕ, ◌/◌, ◌%◌, ◌^◌, ◌≤◌, ◌<◌}
use native.Mathlib.Nat.{le_refl, zero-div}
use native.Mathlib.Omega.{arith}
use lib.Dec.{eqb}
use lib.ListN.{length, replicate}
use Rattle.galois.specs.Element.{sum, product, lower, zero_e, one_e, same}
use Rattle.galois.proofs.Galois.{GR}
use Rattle.galois.proofs.Lists.{to_list, sum_to, product-to, zero_of, one_of}
use Rattle.galois.proofs.Held.{to-six}
use Rattle.galois.proofs.Table.{length-lower}
use Rattle.galois.proofs.Instance.{ring_of}
use Rattle.sliced.specs.Lane.{lane, plus_lanes, times_lanes, spread_lane, support_of}
use Rattle.sliced.proofs.Lanes.{lane-plus, lane_times, lane-spread, support-lane, length-plus, length-times, length-spread}
use Rattle.level.specs.KeyEquation.{ones, zero_at, mix_lanes, root_lanes}

-- the first m lanes of a slice carry f's elements
pub record Lanes (d m : ℕ) (a : List ℕ) (f : ℕ → (GR d 1).E) : Type 0 where
  pub six : length a ≡ 6
  pub at : (j : ℕ) → j < m → lane d a j ≡ to_list (f j)

pub lanes-same : {d m : ℕ} {a : List ℕ} {f g : ℕ → (GR d 1).E} → Lanes d m a f → ((j : ℕ) → j < m → f j ≡ g j) → Lanes d m a g
lanes-same x e = record { six = x.six; at = λ j h. x.at j h ∙ ap to_list (e j h) }

module _ (d : ℕ) (dl : 2 ≤ d) (dh : d ≤ 6) (m : ℕ) (mh : m ≤ 63) where
  infixl 65 ◌⊕◌
  infixl 70 ◌⊗◌
  open GR d 1 use {E, add as ◌⊕◌, mul as ◌⊗◌, 𝟘, 𝟙}

  pub lanes-plus : {a b : List ℕ} {f g : ℕ → E} → Lanes d m a f → Lanes d m b g → Lanes d m (plus_lanes a b) (λ j. f j ⊕ g j)
  lanes-plus {a} {b} {f} {g} x y =
      record {
        six = length-plus a b (x.six ∙ sym y.six) ∙ y.six;
        at = λ j h. lane-plus d a b j ∙ ap₂ (sum 1) (x.at j h) (y.at j h) ∙ sum_to 1 (f j) (g j);
      }

  pub lanes-times : {a b : List ℕ} {f g : ℕ → E} → Lanes d m a f → Lanes d m b g → Lanes d m (times_lanes d a b) (λ j. f j ⊗ g j)
  lanes-times {a} {b} {f} {g} x y =
      record {
        six = length-times d a b dl dh y.six;
        at = λ j h. lane_times d a b j dl dh y.six ∙ ap₂ (product 1 (lower d)) (x.at j h) (y.at j h)
            ∙ product-to 1 d (lower d) (length-lower d dl dh) (f j) (g j);
      }

  pub lanes-spread : {a : List ℕ} {f : ℕ → E} (i : ℕ) → i < m → Lanes d m a f → Lanes d m (spread_lane a i) (λ j. f i)
  lanes-spread {a} {f} i l x = record { six = length-spread a i ∙ x.six; at = λ j h. lane-spread d a i j (omega arith) ∙ x.at i l }

  -- c a + e b, and x + z
  pub lanes-mix : {c a e b : List ℕ} {f g p q : ℕ → E} → Lanes d m c f → Lanes d m a g → Lanes d m e p → Lanes d m b q →
      Lanes d m (mix_lanes d c a e b) (λ j. f j ⊗ g j ⊕ p j ⊗ q j)
  lanes-mix x y z w = lanes-plus (lanes-times x y) (lanes-times z w)

  pub lanes-root : {a : List ℕ} {f : ℕ → E} (i : ℕ) → i < m → Lanes d m a f → Lanes d m (root_lanes a i) (λ j. f j ⊕ f i)
  lanes-root i l x = lanes-plus x (lanes-spread i l x)

  -- one, and zero, in every lane
  pub lanes-one : Lanes d m ones (λ j. 𝟙)
  unfolding lane
  lanes-one =
      record {
        six = length-spread (1 ∷ 0 ∷ 0 ∷ 0 ∷ 0 ∷ 0 ∷ []) 0;
        at = λ j h. lane-spread d (1 ∷ 0 ∷ 0 ∷ 0 ∷ 0 ∷ 0 ∷ []) 0 j (omega arith) ∙ first d dl dh ∙ one_of 1 (le_refl 1) d;
      }
    where
      first : (d : ℕ) → 2 ≤ d → d ≤ 6 → lane d (1 ∷ 0 ∷ 0 ∷ 0 ∷ 0 ∷ 0 ∷ []) 0 ≡ one_e d
      first d l h =
          to-six (λ n. lane n (1 ∷ 0 ∷ 0 ∷ 0 ∷ 0 ∷ 0 ∷ []) 0 ≡ one_e n) refl refl refl refl refl refl refl d h

  pub lanes-zero : Lanes d m (replicate 6 0) (λ j. 𝟘)
  unfolding lane
  lanes-zero = record { six = refl; at = λ j h. nought j d dh ∙ zero_of 1 d }
    where
      nought : (j d : ℕ) → d ≤ 6 → lane d (replicate 6 0) j ≡ zero_e d
      nought j =
          let z : 0 / 2 ^ j % 2 ≡ 0 = rw (zero-div (2 ^ j)) in
          to-six (λ n. lane n (replicate 6 0) j ≡ zero_e n) refl (rw z) (rw z) (rw z) (rw z) (rw z) (rw z)

  -- a lane is zero where its element is, and is in the support where it is not
  bit-zero : (b : Bool) → eqb (cond b 0 1) 0 ≡ b
  bit-zero true = refl
  bit-zero false = refl

  bit-one : (b : Bool) → eqb (cond b 0 1) 1 ≡ not b
  bit-one true = refl
  bit-one false = refl

  module _ {a : List ℕ} {f : ℕ → E} (x : Lanes d m a f) (i : ℕ) (h : i < m) where
    test : same (lane d a i) (zero_e d) ≡ (ring_of d 1).eqb (f i) 𝟘
    test = ap₂ same (x.at i h) (zero_of 1 d)

    pub zero-at : zero_at d a i ≡ (ring_of d 1).eqb (f i) 𝟘
    unfolding zero_at
    zero-at = ap (λ n. eqb n 0) (support-lane d a i (omega (arith, x.six))) ∙ bit-zero (same (lane d a i) (zero_e d)) ∙ test

    pub in-support : eqb (support_of d a / 2 ^ i % 2) 1 ≡ not ((ring_of d 1).eqb (f i) 𝟘)
    in-support = ap (λ n. eqb n 1) (support-lane d a i (omega (arith, x.six))) ∙ bit-one (same (lane d a i) (zero_e d)) ∙ ap not test
