-- The key equation of Welch and Berlekamp, solved point by point: two pairs of polynomials that are zero at the shares, their leading
-- terms, and the step that takes in one share more and keeps all that (`inv-step`). Over a field. Assumes nothing.
use mathlib.Core.Path.{◌≡◌, refl, sym, ◌∙◌, ap}
use mathlib.Core.Bool.{Bool, true, false}
use mathlib.Core.List.{List, [], ◌∷◌}
use mathlib.Core.Logic.{◌≢◌, ◌⊎◌, inl, inr, ⊎_map}
use Prim.Native.Nat.{ℕ, zero, suc, ◌+◌, ◌≤◌, ◌<◌}
use native.Mathlib.Omega.{arith}
use lib.Dec.{leb}
use lib.ListN.{length, get_or, drop}
use lib.Seq.{drop-cons}
use borrow.Author.Tests.{leb-true, leb-false}
use Rattle.algebra.specs.Ring.{CommRing, DiscreteRing, IsField}
use Rattle.algebra.specs.Poly.{eval, coef}
use Rattle.algebra.specs.Shares.{Share, All}
use Rattle.algebra.specs.KeyEquation.{Pivot, none, first, second, pivot}
use Rattle.algebra.proofs.Ring.{add-zero, zero-mul, mul-zero, unit-cancel, eqb-false, neg-mul, mul_comm, add-neg, ring, neg-zero}
use Rattle.algebra.proofs.Poly.{
  scale,
  lin,
  mulx,
  Lo,
  eval-lin,
  eval-mulx,
  coef-lin,
  coef-mulx,
  coef-padd,
  coef-scale,
}
use Rattle.algebra.proofs.Shares.{all_map, all-map₂}

module _ (R : CommRing) where
  infixl 65 ◌⊕◌
  infixl 70 ◌⊗◌
  open R use {E, add as ◌⊕◌, mul as ◌⊗◌, neg as ⊖, 𝟘, 𝟙}

  -- two pairs, with the places of their leading terms
  pub record Pairs : Type 0 where
    pub a₀ : List E
    pub b₀ : List E
    pub d₀ : ℕ
    pub a₁ : List E
    pub b₁ : List E
    pub d₁ : ℕ

  -- what the pair `(a, b)` has at a share, a(x) + b(x)·y
  abbrev pub gap : List E → List E → Share R → E
  gap a b s = eval R a s.at ⊕ eval R b s.at ⊗ s.val

  pub gap-mulx : (x : E) (a b : List E) (s : Share R) → gap (mulx R x a) (mulx R x b) s ≡ (s.at ⊕ ⊖ x) ⊗ gap a b s
  gap-mulx x a b s = step (eval-mulx R x a s.at) (eval-mulx R x b s.at)
    where
      step : {w u v u' v' y : E} → u' ≡ w ⊗ u → v' ≡ w ⊗ v → u' ⊕ v' ⊗ y ≡ w ⊗ (u ⊕ v ⊗ y)
      step h k = rw (h, k) (simp ring)

  pub gap-lin : (u v : E) (a b a' b' : List E) (s : Share R) → gap (lin R u a v a') (lin R u b v b') s ≡ u ⊗ gap a b s ⊕ v ⊗ gap a' b' s
  gap-lin u v a b a' b' s = step (eval-lin R u a v a' s.at) (eval-lin R u b v b' s.at)
    where
      step : {u v m n k l p q y : E} → p ≡ u ⊗ m ⊕ v ⊗ n → q ≡ u ⊗ k ⊕ v ⊗ l → p ⊕ q ⊗ y ≡ u ⊗ (m ⊕ k ⊗ y) ⊕ v ⊗ (n ⊕ l ⊗ y)
      step h k = rw (h, k) (simp ring)

  -- the pivot is multiplied by Z - x, and a multiple of it taken off the other pair, so that both are zero at the share
  abbrev pub move : Pivot → E → E → E → Pairs → Pairs
  move none x e₀ e₁ p = p
  move first x e₀ e₁ p = record {
    a₀ = mulx R x p.a₀;
    b₀ = mulx R x p.b₀;
    d₀ = suc p.d₀;
    a₁ = lin R e₀ p.a₁ (⊖ e₁) p.a₀;
    b₁ = lin R e₀ p.b₁ (⊖ e₁) p.b₀;
    d₁ = p.d₁;
  }
  move second x e₀ e₁ p = record {
    a₀ = lin R e₁ p.a₀ (⊖ e₀) p.a₁;
    b₀ = lin R e₁ p.b₀ (⊖ e₀) p.b₁;
    d₀ = p.d₀;
    a₁ = mulx R x p.a₁;
    b₁ = mulx R x p.b₁;
    d₁ = suc p.d₁;
  }

  abbrev pub start : ℕ → Pairs
  start t = record { a₀ = 𝟙 ∷ []; b₀ = []; d₀ = 0; a₁ = []; b₁ = 𝟙 ∷ []; d₁ = t }

  -- the leading term of the pair is that of `Z^s·p`, at `Z^d`, and `Z^r·q` has none from `Z^n` on
  pub record Half (d s : ℕ) (p : List E) (n r : ℕ) (q : List E) : Type 0 where
    pub fit : s ≤ d
    pub top : (j : ℕ) → j + s ≡ d → coef R p j ≢ 𝟘
    pub low : Lo R (suc d) s p
    pub oth : Lo R n r q

  lo-mulx : (n s : ℕ) (x : E) (p : List E) → Lo R n s p → Lo R (suc n) s (mulx R x p)
  lo-mulx n s x p h zero l = coef-padd R (𝟘 ∷ p) (scale R (⊖ x) p) 0 ∙ rw (coef-scale R (⊖ x) p 0, h 0 (omega arith)) (simp ring)
  lo-mulx n s x p h (suc j) l = coef-mulx R x p j ∙ rw (h j (omega arith), h (suc j) (omega arith)) (simp ring)

  half-mulx : {d s : ℕ} {p : List E} {n r : ℕ} {q : List E} (x : E) → Half d s p n r q → Half (suc d) s (mulx R x p) (suc n) r (mulx R x q)
  half-mulx {d} {s} {p} {n} {r} {q} x h = record {
    fit = omega (arith, h.fit);
    top = top';
    low = lo-mulx (suc d) s x p h.low;
    oth = lo-mulx n r x q h.oth;
  }
    where
      top' : (j : ℕ) → j + s ≡ suc d → coef R (mulx R x p) j ≢ 𝟘
      top' zero e = λ z. absurd (omega (arith, h.fit))
      top' (suc j) e = λ z. h.top j (omega arith) (rw (coef-mulx R x p j, h.low (suc j) (omega arith), mul-zero, add-zero) at z)

  -- what holds of the pairs once the shares `ss` are taken in
  pub record Inv (t : ℕ) (ss : List (Share R)) (p : Pairs) : Type 0 where
    pub zero₀ : All (λ s. gap p.a₀ p.b₀ s ≡ 𝟘) ss
    pub zero₁ : All (λ s. gap p.a₁ p.b₁ s ≡ 𝟘) ss
    pub half₀ : Half p.d₀ 0 p.a₀ p.d₀ t p.b₀
    pub half₁ : Half p.d₁ t p.b₁ (suc p.d₁) 0 p.a₁
    pub sum : p.d₀ + p.d₁ ≤ t + length ss

  gone : (a b : List E) (s : Share R) → gap (mulx R s.at a) (mulx R s.at b) s ≡ 𝟘
  gone a b s = gap-mulx s.at a b s ∙ rw (add-neg, zero-mul)

  stays : (x : E) (a b : List E) (ss : List (Share R)) → All (λ s. gap a b s ≡ 𝟘) ss → All (λ s. gap (mulx R x a) (mulx R x b) s ≡ 𝟘) ss
  stays x a b ss h = all_map (λ s e. gap-mulx x a b s ∙ rw (e, mul-zero)) ss h

  -- the pair that is no pivot
  mixed : (a b a' b' : List E) (s : Share R) → gap (lin R (gap a' b' s) a (⊖ (gap a b s)) a') (lin R (gap a' b' s) b (⊖ (gap a b s)) b') s ≡ 𝟘
  mixed a b a' b' s = gap-lin _ _ a b a' b' s ∙ cross _ _
    where
      cross : (u v : E) → u ⊗ v ⊕ ⊖ v ⊗ u ≡ 𝟘
      cross u v = rw (neg-mul, mul_comm R v u, add-neg)

  keeps : (u v : E) (a b a' b' : List E) (ss : List (Share R)) → All (λ s. gap a b s ≡ 𝟘) ss → All (λ s. gap a' b' s ≡ 𝟘) ss →
      All (λ s. gap (lin R u a v a') (lin R u b v b') s ≡ 𝟘) ss
  keeps u v a b a' b' ss h k = all-map₂ (λ s e f. gap-lin u v a b a' b' s ∙ simp (e, f, mul-zero, add-zero)) ss h k

module _ (D : DiscreteRing) where
  open D use {ring as R, eqb}
  open R use {𝟘}

  abbrev pub step : Share R → Pairs R → Pairs R
  step s p =
      let e₀ = gap R p.a₀ p.b₀ s in
      let e₁ = gap R p.a₁ p.b₁ s in
      move R (pivot (eqb e₀ 𝟘) (eqb e₁ 𝟘) (leb p.d₀ p.d₁)) s.at e₀ e₁ p

  -- all shares, the last one first
  abbrev pub run : ℕ → List (Share R) → Pairs R
  run t [] = start R t
  run t (s ∷ ss) = step s (run t ss)

  -- The shares from the `i`th on, for a loop that goes down.
  pub run_drop : (t : ℕ) (ss : List (Share R)) (i : ℕ) (d : Share R) → i < length ss →
      run t (drop i ss) ≡ step (get_or ss i d) (run t (drop (suc i) ss))
  run_drop t ss i d h = ap (run t) (drop-cons ss i d h)

module _ (R : CommRing) (F : IsField R) where
  infixl 65 ◌⊕◌
  infixl 70 ◌⊗◌
  open R use {E, add as ◌⊕◌, mul as ◌⊗◌, 𝟘, 𝟙}

  off : {u m v w : E} → (v ≡ 𝟘) ⊎ (w ≡ 𝟘) → u ⊗ m ⊕ v ⊗ w ≡ u ⊗ m
  off (inl e) = rw (e, zero-mul, add-zero)
  off (inr e) = rw (e, mul-zero, add-zero)

  half-lin : {d s : ℕ} {p : List E} {n r : ℕ} {q : List E} (u v : E) (p' q' : List E) → u ≢ 𝟘 → Half R d s p n r q →
      (v ≡ 𝟘) ⊎ (Lo R d s p' × Lo R n r q') → Half R d s (lin R u p v p') n r (lin R u q v q')
  half-lin {d} {s} {p} {n} {r} {q} u v p' q' h k c = record {
    fit = k.fit;
    top = λ j e z. k.top j e (unit-cancel R u _ (F.unit u h) (sym (coef-lin R u p v p' j ∙ off (at₀ c j (omega arith))) ∙ z));
    low = λ j l. coef-lin R u p v p' j ∙ off (at₀ c j (omega arith)) ∙ rw (k.low j l, mul-zero);
    oth = λ j l. coef-lin R u q v q' j ∙ off (at₁ c j l) ∙ rw (k.oth j l, mul-zero);
  }
    where
      at₀ : (v ≡ 𝟘) ⊎ (Lo R d s p' × Lo R n r q') → (j : ℕ) → d ≤ j + s → (v ≡ 𝟘) ⊎ (coef R p' j ≡ 𝟘)
      at₀ (inl e) j l = inl e
      at₀ (inr e) j l = inr (e.0 j l)

      at₁ : (v ≡ 𝟘) ⊎ (Lo R d s p' × Lo R n r q') → (j : ℕ) → n ≤ j + r → (v ≡ 𝟘) ⊎ (coef R q' j ≡ 𝟘)
      at₁ (inl e) j l = inl e
      at₁ (inr e) j l = inr (e.1 j l)

  half-one : (s n r : ℕ) → Half R s s (𝟙 ∷ []) n r []
  half-one s n r = record { fit = omega arith; top = top'; low = low'; oth = λ j l. refl }
    where
      top' : (j : ℕ) → j + s ≡ s → coef R (𝟙 ∷ []) j ≢ 𝟘
      top' zero e = F.apart
      top' (suc j) e = absurd (omega arith)

      low' : Lo R (suc s) s (𝟙 ∷ [])
      low' zero l = absurd (omega arith)
      low' (suc j) l = refl

  pub inv-start : (t : ℕ) → Inv R t [] (start R t)
  inv-start t = record { zero₀ = tt; zero₁ = tt; half₀ = half-one 0 0 t; half₁ = half-one t (suc t) 0; sum = omega arith }

module _ (D : DiscreteRing) (F : IsField D.ring) where
  open D use {ring as R, eqb}
  open R use {E, neg as ⊖, 𝟘}

  pub inv-step : (t : ℕ) (s : Share R) (ss : List (Share R)) (p : Pairs R) → Inv R t ss p → Inv R t (s ∷ ss) (step D s p)
  inv-step t s ss p h = go (eqb e₀ 𝟘) (eqb e₁ 𝟘) (leb p.d₀ p.d₁) refl refl refl
    where
      e₀ : E
      e₀ = gap R p.a₀ p.b₀ s

      e₁ : E
      e₁ = gap R p.a₁ p.b₁ s

      one : e₀ ≢ 𝟘 → (⊖ e₁ ≡ 𝟘) ⊎ (p.d₀ ≤ p.d₁) → Inv R t (s ∷ ss) (move R first s.at e₀ e₁ p)
      one n c = record {
        zero₀ = (gone R p.a₀ p.b₀ s, stays R s.at p.a₀ p.b₀ ss h.zero₀);
        zero₁ = (mixed R p.a₁ p.b₁ p.a₀ p.b₀ s, keeps R e₀ (⊖ e₁) p.a₁ p.b₁ p.a₀ p.b₀ ss h.zero₁ h.zero₀);
        half₀ = half-mulx R s.at h.half₀;
        half₁ = half-lin R F e₀ (⊖ e₁) p.b₀ p.a₀ n h.half₁
            (⊎_map (λ e. e) (λ l. (λ j m. h.half₀.oth j (omega arith), λ j m. h.half₀.low j (omega arith))) c);
        sum = omega (arith, h.sum);
      }

      two : e₁ ≢ 𝟘 → (⊖ e₀ ≡ 𝟘) ⊎ (p.d₁ < p.d₀) → Inv R t (s ∷ ss) (move R second s.at e₀ e₁ p)
      two n c = record {
        zero₀ = (mixed R p.a₀ p.b₀ p.a₁ p.b₁ s, keeps R e₁ (⊖ e₀) p.a₀ p.b₀ p.a₁ p.b₁ ss h.zero₀ h.zero₁);
        zero₁ = (gone R p.a₁ p.b₁ s, stays R s.at p.a₁ p.b₁ ss h.zero₁);
        half₀ = half-lin R F e₁ (⊖ e₀) p.a₁ p.b₁ n h.half₀
            (⊎_map (λ e. e) (λ l. (λ j m. h.half₁.oth j (omega arith), λ j m. h.half₁.low j (omega arith))) c);
        half₁ = half-mulx R s.at h.half₁;
        sum = omega (arith, h.sum);
      }

      nil : {e : E} → eqb e 𝟘 ≡ true → ⊖ e ≡ 𝟘
      nil z = ap ⊖ (D.eqb-eq _ _ z) ∙ neg-zero R

      go : (z₀ z₁ l : Bool) → eqb e₀ 𝟘 ≡ z₀ → eqb e₁ 𝟘 ≡ z₁ → leb p.d₀ p.d₁ ≡ l → Inv R t (s ∷ ss) (move R (pivot z₀ z₁ l) s.at e₀ e₁ p)
      go true true l x y z = record {
        zero₀ = (D.eqb-eq _ _ x, h.zero₀);
        zero₁ = (D.eqb-eq _ _ y, h.zero₁);
        half₀ = h.half₀;
        half₁ = h.half₁;
        sum = omega (arith, h.sum);
      }
      go true false l x y z = two (eqb-false D _ _ y) (inl (nil x))
      go false true l x y z = one (eqb-false D _ _ x) (inl (nil y))
      go false false true x y z = one (eqb-false D _ _ x) (inr (leb-true _ _ z))
      go false false false x y z = two (eqb-false D _ _ y) (inr (leb-false _ _ z))

  pub inv-run : (t : ℕ) (ss : List (Share R)) → Inv R t ss (run D t ss)
  inv-run t [] = inv-start R F t
  inv-run t (s ∷ ss) = inv-step t s ss (run D t ss) (inv-run t ss)
