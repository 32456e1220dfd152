-- Interpolation, in Newton's form: through n points with invertible differences and any n values goes exactly one polynomial of n
-- coefficients (`interp-hits`, `interp-only`); and the same of its values alone, without division (`excess-more`). Assumes nothing.
use mathlib.Core.Path.{◌≡◌, refl, sym, ◌∙◌, ap}
use mathlib.Core.List.{List, [], ◌∷◌}
use Prim.Native.Nat.{suc}
use native.Mathlib.Omega.{arith}
use lib.ListN.{length}
use lib.Seq.{ext_get_or}
use Rattle.algebra.specs.Ring.{CommRing, DiscreteRing, IsUnit}
use Rattle.algebra.specs.Poly.{eval}
use Rattle.algebra.specs.Shares.{Share, Apart, All, count, misses}
use Rattle.algebra.proofs.Ring.{
  add-neg,
  add-zero,
  mul-zero,
  zero-mul,
  one-mul,
  mul-one,
  mul_assoc,
  unit-mul,
  unit-swap,
  add-sub-left,
  ring,
  differ,
  cross,
  differences,
  inv_right,
}
use Rattle.algebra.proofs.Poly.{lin, mulx, scale, eval-lin, eval-mulx, length-scale, length-padd, low-length}
use Rattle.algebra.proofs.Shares.{all_map, all-map₂, agree, count_none}

module _ (R : CommRing) where
  infixl 65 ◌⊕◌
  infixl 70 ◌⊗◌
  open R use {E, add as ◌⊕◌, mul as ◌⊗◌, neg as ⊖, 𝟘, 𝟙}

  -- the nodal polynomial, the product of the `Z - x` over the shares' points
  abbrev pub nodal : List (Share R) → List E
  nodal [] = 𝟙 ∷ []
  nodal (s ∷ ss) = mulx R s.at (nodal ss)

  pub nodal-root : (ss : List (Share R)) → All (λ r. eval R (nodal ss) r.at ≡ 𝟘) ss
  nodal-root [] = tt
  nodal-root (s ∷ ss) = (
    eval-mulx R s.at (nodal ss) s.at ∙ rw (add-neg, zero-mul),
    all_map (λ r h. eval-mulx R s.at (nodal ss) r.at ∙ rw (h, mul-zero)) ss (nodal-root ss),
  )

  pub nodal-unit : (x : E) (ss : List (Share R)) → All (λ r. IsUnit R (r.at ⊕ ⊖ x)) ss → IsUnit R (eval R (nodal ss) x)
  nodal-unit x [] a = (𝟙, simp ring)
  nodal-unit x (s ∷ ss) a = rw (eval-mulx R s.at (nodal ss) x) (unit-mul R _ _ (unit-swap R _ _ a.0) (nodal-unit x ss a.1))

  pub length-nodal : (ss : List (Share R)) → length (nodal ss) ≡ suc (length ss)
  length-nodal [] = refl
  length-nodal (s ∷ ss) =
      omega (
        arith,
        length-padd R (𝟘 ∷ nodal ss) (scale R (⊖ s.at) (nodal ss)),
        length-scale R (⊖ s.at) (nodal ss),
        length-nodal ss,
      )

module _ (D : DiscreteRing) where
  infixl 65 ◌⊕◌
  infixl 70 ◌⊗◌
  open D use {ring as R, inv}
  open R use {E, add as ◌⊕◌, mul as ◌⊗◌, neg as ⊖, 𝟘, 𝟙}

  -- one more share: the polynomial through the others, and as much of their nodal polynomial as is wanting
  abbrev pub interp : List (Share R) → List E
  interp [] = []
  interp (s ∷ ss) = lin R 𝟙 (interp ss) ((s.val ⊕ ⊖ (eval R (interp ss) s.at)) ⊗ inv (eval R (nodal R ss) s.at)) (nodal R ss)

  pub length-interp : (ss : List (Share R)) → length (interp ss) ≡ length ss
  length-interp [] = refl
  length-interp (s ∷ ss) = simp (length-padd, length-scale, length-interp ss, length-nodal R ss) (omega arith)

  -- it goes through them
  pub interp-hits : (ss : List (Share R)) → Apart R ss → All (λ r. eval R (interp ss) r.at ≡ r.val) ss
  interp-hits [] a = tt
  interp-hits (s ∷ ss) a = (
    eval-lin R 𝟙 (interp ss) _ (nodal R ss) s.at ∙ hit (eval R (interp ss) s.at) s.val _ _ (inv_right D _ (nodal-unit R s.at ss a.0)),
    all-map₂ (λ r n g. eval-lin R 𝟙 (interp ss) _ (nodal R ss) r.at ∙ rw (n, g, mul-zero, add-zero, one-mul)) ss (nodal-root R ss)
        (interp-hits ss a.1),
  )
    where
      hit : (g v i n : E) → i ⊗ n ≡ 𝟙 → 𝟙 ⊗ g ⊕ (v ⊕ ⊖ g) ⊗ i ⊗ n ≡ v
      hit g v i n h = rw (mul_assoc, h, mul-one, one-mul) (add-sub-left R v g)

  -- so no other polynomial of as many coefficients does
  pub interp-only : (ss : List (Share R)) (f : List E) → Apart R ss → length f ≡ length ss →
      All (λ r. eval R f r.at ≡ r.val) ss → f ≡ interp ss
  interp-only ss f a l h =
      ext_get_or 𝟘 f (interp ss) (l ∙ sym (length-interp ss))
      (λ i _. agree D (length ss) ss f (interp ss) a (rw l at (low-length R f)) (rw (length-interp ss) at (low-length R (interp ss)))
      (omega (arith, none f h, none (interp ss) (interp-hits ss a))) i)
    where
      none : (g : List E) → All (λ r. eval R g r.at ≡ r.val) ss → count (misses D g) ss ≡ 0
      none g b = count_none (misses D g) ss (all_map (λ r e. rw (e, D.eqb_refl r.val)) ss b)

  -- by how much it misses a share
  abbrev pub excess : List (Share R) → Share R → E
  excess ss r = eval R (interp ss) r.at ⊕ ⊖ r.val

  -- one share more without a division: up to a factor that is the same for all shares
  pub excess-more : (s : Share R) (ss : List (Share R)) (u : E) → IsUnit R (eval R (nodal R ss) s.at) → (r : Share R) →
      eval R (nodal R ss) s.at ⊗ (u ⊗ excess ss r) ⊕ ⊖ (u ⊗ excess ss s) ⊗ eval R (nodal R ss) r.at
      ≡ u ⊗ eval R (nodal R ss) s.at ⊗ excess (s ∷ ss) r
  excess-more s ss u h r =
      sym
      (ap (λ z. u ⊗ n ⊗ (z ⊕ ⊖ r.val)) (eval-lin R 𝟙 (interp ss) _ (nodal R ss) r.at)
      ∙ out u n (eval R (interp ss) r.at) (eval R (interp ss) s.at) s.val r.val (inv n) (eval R (nodal R ss) r.at)
      ∙ ap (λ z. n ⊗ (u ⊗ excess ss r) ⊕ z ⊗ (⊖ (u ⊗ excess ss s) ⊗ eval R (nodal R ss) r.at)) (inv_right D n h)
      ∙ ap (λ z. n ⊗ (u ⊗ excess ss r) ⊕ z) (one-mul R (⊖ (u ⊗ excess ss s) ⊗ eval R (nodal R ss) r.at)))
    where
      n : E
      n = eval R (nodal R ss) s.at

      out : (u n q p v w i z : E) →
          u ⊗ n ⊗ (𝟙 ⊗ q ⊕ (v ⊕ ⊖ p) ⊗ i ⊗ z ⊕ ⊖ w) ≡ n ⊗ (u ⊗ (q ⊕ ⊖ w)) ⊕ i ⊗ n ⊗ (⊖ (u ⊗ (p ⊕ ⊖ v)) ⊗ z)
      out u n q p v w i z = differ R _ _ (simp differences (cross R (simp ring)))
