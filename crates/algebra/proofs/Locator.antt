-- The error locator of the key equation, over a field: of a polynomial within `e` errors, the shares at which the second pair's `b₁` is not
-- zero are right (`right`), and there are at least `t + 1` of them (`enough`). Assumes nothing.
use mathlib.Core.Path.{◌≡◌, sym, ◌∙◌, ap}
use mathlib.Core.Bool.{true}
use mathlib.Core.List.{List}
use Prim.Native.Nat.{ℕ, suc, ◌+◌, ◌*◌, ◌-◌, ◌≤◌, ◌<◌}
use native.Mathlib.Omega.{arith}
use native.Mathlib.Decide.{dec_le}
use lib.ListN.{length}
use borrow.Author.Tests.{not-true}
use Rattle.algebra.specs.Ring.{DiscreteRing, IsField}
use Rattle.algebra.specs.Poly.{eval}
use Rattle.algebra.specs.Shares.{Share, Apart, All, count, misses}
use Rattle.algebra.proofs.Ring.{add-zero, cancel, unit-inj, eqb-false}
use Rattle.algebra.proofs.Poly.{padd, pmul, Low, Lo, eval-padd, eval-pmul, coef-padd, low-padd, low-pmul, eval-zero}
use Rattle.algebra.proofs.Shares.{all_map, count-le, nonroot, neq-le, roots}
use Rattle.algebra.proofs.KeyEquation.{Pairs, gap, Inv}

module _ (D : DiscreteRing) (F : IsField D.ring) (t : ℕ) (ss : List (Share D.ring)) (apart : Apart D.ring ss) (f : List D.ring.E)
    (deg : Low D.ring (suc t) f) where
  infixl 65 ◌⊕◌
  infixl 70 ◌⊗◌
  open D use {ring as R}
  open R use {E, add as ◌⊕◌, mul as ◌⊗◌, 𝟘}

  -- a pair that is zero at the shares is zero on `f`, if its degree is below the number of shares that `f` meets
  kill : (n : ℕ) (a b : List E) → All (λ s. gap R a b s ≡ 𝟘) ss → Low R n a → Lo R n t b → n + count (misses D f) ss ≤ length ss →
      Low R 0 (padd R a (pmul R b f))
  kill n a b z la lb h = roots D n ss p apart (low-padd R n a (pmul R b f) la (low-pmul R n t b f lb deg)) (omega (arith, few))
    where
      p : List E
      p = padd R a (pmul R b f)

      few : count (nonroot D p) ss ≤ count (misses D f) ss
      few = count-le (nonroot D p) (misses D f) ss
          (all_map (λ s g. neq-le D (λ e. eval-padd R a (pmul R b f) s.at ∙ rw (eval-pmul R b f s.at, e) g)) ss z)

  module _ (e : ℕ) (near : count (misses D f) ss ≤ e) (many : suc t + 2 * e ≤ length ss) (p : Pairs R) (inv : Inv R t ss p) where
    -- the second pair leads: the first one's leading term would be zero
    second : p.d₁ < p.d₀
    second = go (dec_le p.d₀ p.d₁)
      where
        last : {u v w : E} → w ≡ u ⊕ v → v ≡ 𝟘 → w ≡ 𝟘 → u ≡ 𝟘
        last {u} h k l = cc (add-zero R u)

        go : Dec (p.d₀ ≤ p.d₁) → p.d₁ < p.d₀
        go (yes l) =
            absurd
            (inv.half₀.top p.d₀ (omega arith)
            (last (coef-padd R p.a₀ (pmul R p.b₀ f) p.d₀) (low-pmul R p.d₀ t p.b₀ f inv.half₀.oth deg p.d₀ (omega arith))
            (kill (suc p.d₀) p.a₀ p.b₀ inv.zero₀ (λ j m. inv.half₀.low j (omega arith)) (λ j m. inv.half₀.oth j (omega arith))
            (omega (arith, inv.sum)) p.d₀ (omega arith))))
        go (no l) = omega arith

    -- so it is zero on `f`
    solved : (z : E) → eval R p.a₁ z ⊕ eval R p.b₁ z ⊗ eval R f z ≡ 𝟘
    solved z =
        sym (eval-padd R p.a₁ (pmul R p.b₁ f) z ∙ ap (λ x. eval R p.a₁ z ⊕ x) (eval-pmul R p.b₁ f z))
        ∙ eval-zero R (padd R p.a₁ (pmul R p.b₁ f)) z
        (kill (suc p.d₁) p.a₁ p.b₁ inv.zero₁ (λ j m. inv.half₁.oth j (omega arith)) inv.half₁.low
        (omega (arith, inv.sum, second)))

    -- a share at which `b₁` is not zero is right, and there are enough of them
    pub right : All (λ s. nonroot D p.b₁ s ≡ true → eval R f s.at ≡ s.val) ss
    right =
        all_map
        (λ s g n. unit-inj R (eval R p.b₁ s.at) _ _ (F.unit _ (eqb-false D _ _ (not-true _ n)))
        (cancel R _ _ _ (solved s.at ∙ sym g)))
        ss inv.zero₁

    pub enough : suc t ≤ count (nonroot D p.b₁) ss
    enough = go (dec_le (suc t) (count (nonroot D p.b₁) ss))
      where
        go : Dec (suc t ≤ count (nonroot D p.b₁) ss) → suc t ≤ count (nonroot D p.b₁) ss
        go (yes l) = l
        go (no l) =
            absurd
            (inv.half₁.top (p.d₁ - t) (omega (arith, inv.half₁.fit))
            (roots D (suc (p.d₁ - t)) ss p.b₁ apart (λ j m. inv.half₁.low j (omega arith))
            (omega (arith, inv.sum, second, inv.half₁.fit)) (p.d₁ - t) (omega arith)))
