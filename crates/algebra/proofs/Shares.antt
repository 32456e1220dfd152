-- Shares and a polynomial. Roots: a polynomial of k coefficients that is zero at k points with invertible differences is zero. So two of
-- k coefficients that each differ from at most e of k + 2e shares or more are the same (`unique`). Assumes nothing.
use mathlib.Core.Path.{◌≡◌, refl, sym, ◌∙◌, ap}
use mathlib.Core.Bool.{Bool, true, false, not}
use mathlib.Core.List.{List, [], ◌∷◌}
use Prim.Native.Nat.{ℕ, zero, suc, ◌+◌, ◌*◌, ◌≤◌, ◌<◌}
use native.Mathlib.Nat.{not-suc-le-zero, le_of_suc-le-suc}
use native.Mathlib.Omega.{arith}
use lib.ListN.{length, take, get_or}
use lib.Seq.{ext_get_or}
use Rattle.algebra.specs.Ring.{CommRing, DiscreteRing}
use Rattle.algebra.specs.Poly.{eval, coef}
use Rattle.algebra.specs.Shares.{bit, count, All, Share, Apart, misses}
use Rattle.algebra.proofs.Ring.{add-zero, unit-cancel, diff-zero, zero-diff}
use Rattle.algebra.proofs.Poly.{lin, Low, eval-lin, coef-lin, eval-quo, quo, low-quo, low-tail, zero-of-quo, low-length}

module _ {S : Type 0} where
  pub all_map : {P Q : S → Type 0} (f : (s : S) → P s → Q s) (ss : List S) → All P ss → All Q ss
  all_map f [] a = tt
  all_map f (s ∷ ss) a = (f s a.0, all_map f ss a.1)

  pub all-map₂ : {P Q T : S → Type 0} (f : (s : S) → P s → Q s → T s) (ss : List S) → All P ss → All Q ss → All T ss
  all-map₂ f [] a b = tt
  all-map₂ f (s ∷ ss) a b = (f s a.0 b.0, all-map₂ f ss a.1 b.1)

  -- what holds of each holds of the one at a place
  pub all-at : (P : S → Type 0) (ss : List S) (i : ℕ) (z : S) → All P ss → i < length ss → P (get_or ss i z)
  all-at P [] i z a h = absurd (not-suc-le-zero h)
  all-at P (s ∷ ss) zero z a h = a.0
  all-at P (s ∷ ss) (suc i) z a h = all-at P ss i z a.1 (le_of_suc-le-suc h)

  pub count_none : (t : S → Bool) (ss : List S) → All (λ s. t s ≡ false) ss → count t ss ≡ 0
  count_none t [] a = refl
  count_none t (s ∷ ss) a = omega (arith, ap bit a.0, count_none t ss a.1)

  pub count-le : (t u : S → Bool) (ss : List S) → All (λ s. bit (t s) ≤ bit (u s)) ss → count t ss ≤ count u ss
  count-le t u [] a = omega arith
  count-le t u (s ∷ ss) a = omega (arith, a.0, count-le t u ss a.1)

  pub count-le-add : (t u v : S → Bool) → ((s : S) → bit (t s) ≤ bit (u s) + bit (v s)) → (ss : List S) →
      count t ss ≤ count u ss + count v ss
  count-le-add t u v h [] = omega arith
  count-le-add t u v h (s ∷ ss) = omega (arith, h s, count-le-add t u v h ss)

  -- those that pass a test
  abbrev pub put : Bool → S → List S → List S
  put true s l = s ∷ l
  put false s l = l

  abbrev pub sift : (S → Bool) → List S → List S
  sift t [] = []
  sift t (s ∷ ss) = put (t s) s (sift t ss)

  pub length-sift : (t : S → Bool) (ss : List S) → length (sift t ss) ≡ count t ss
  length-sift t [] = refl
  length-sift t (s ∷ ss) = go (t s) (length-sift t ss)
    where
      go : (b : Bool) → length (sift t ss) ≡ count t ss → length (put b s (sift t ss)) ≡ bit b + count t ss
      go true h = omega arith
      go false h = omega arith

  pub all-sift : {P Q : S → Type 0} (t : S → Bool) (f : (s : S) → P s → t s ≡ true → Q s) (ss : List S) → All P ss → All Q (sift t ss)
  all-sift t f [] a = tt
  all-sift {P} {Q} t f (s ∷ ss) a = go (t s) refl (all-sift t f ss a.1)
    where
      go : (b : Bool) → t s ≡ b → All Q (sift t ss) → All Q (put b s (sift t ss))
      go true e h = (f s a.0 e, h)
      go false e h = h

  pub all_take : {P Q : S → Type 0} (f : (s : S) → P s → Q s) (n : ℕ) (ss : List S) → All P ss → All Q (take n ss)
  all_take f zero ss a = tt
  all_take f (suc n) [] a = tt
  all_take f (suc n) (s ∷ ss) a = (f s a.0, all_take f n ss a.1)

module _ (R : CommRing) where
  pub apart-sift : (t : Share R → Bool) (ss : List (Share R)) → Apart R ss → Apart R (sift t ss)
  apart-sift t [] a = tt
  apart-sift t (s ∷ ss) a = go (t s) (apart-sift t ss a.1)
    where
      go : (b : Bool) → Apart R (sift t ss) → Apart R (put b s (sift t ss))
      go true h = (all-sift t (λ r u _. u) ss a.0, h)
      go false h = h

  pub apart-take : (n : ℕ) (ss : List (Share R)) → Apart R ss → Apart R (take n ss)
  apart-take zero ss a = tt
  apart-take (suc n) [] a = tt
  apart-take (suc n) (s ∷ ss) a = (all_take (λ r u. u) n ss a.0, apart-take n ss a.1)

module _ (D : DiscreteRing) where
  infixl 65 ◌⊕◌
  open D use {ring as R, eqb}
  open R use {E, add as ◌⊕◌, neg as ⊖, 𝟘, 𝟙}

  -- the polynomial is not zero at the share's point
  abbrev pub nonroot : List E → Share R → Bool
  nonroot p s = not (eqb (eval R p s.at) 𝟘)

  -- a test is passed by what is equal, so a miss is what is not
  bit_le : (k : Bool) → bit k ≤ 1
  bit_le true = omega arith
  bit_le false = omega arith

  pub neq-le : {a b c d : E} → (c ≡ d → a ≡ b) → bit (not (eqb a b)) ≤ bit (not (eqb c d))
  neq-le {a} {b} {c} {d} f = go (eqb c d) refl
    where
      go : (k : Bool) → eqb c d ≡ k → bit (not (eqb a b)) ≤ bit (not (eqb c d))
      go true e = rw (ap (eqb a) (sym (f (D.eqb-eq c d e))) ∙ D.eqb_refl a) (omega arith)
      go false e = rw e (bit_le (not (eqb a b)))

  pub neq-le-add : {a b c d u v : E} → (c ≡ d → u ≡ v → a ≡ b) → bit (not (eqb a b)) ≤ bit (not (eqb c d)) + bit (not (eqb u v))
  neq-le-add {a} {b} {c} {d} {u} {v} f = go (eqb c d) refl
    where
      go : (k : Bool) → eqb c d ≡ k → bit (not (eqb a b)) ≤ bit (not (eqb c d)) + bit (not (eqb u v))
      go true e = omega (arith, neq-le (f (D.eqb-eq c d e)))
      go false e = omega (arith, bit_le (not (eqb a b)), ap (λ b. bit (not b)) e)

  -- a polynomial of `k` coefficients that is zero at `k` points of those is zero
  pub roots : (k : ℕ) (ss : List (Share R)) (p : List E) → Apart R ss → Low R k p → k + count (nonroot p) ss ≤ length ss → Low R 0 p
  roots zero ss p a l h = l
  roots (suc k) [] p a l h = absurd (omega arith)
  roots (suc k) (s ∷ ss) [] a l h = λ j m. refl
  roots (suc k) (s ∷ ss) (c ∷ p) a l h =
      go (roots k ss (quo R s.at p) a.1 (low-quo R k s.at p (low-tail R k c p l)))
      (roots (suc k) ss (c ∷ p) a.1 l) (eqb (eval R (c ∷ p) s.at) 𝟘) refl
    where
      q : List E
      q = quo R s.at p

      step : {u v w : E} → u ≡ v ⊕ w → w ≡ 𝟘 → u ≡ 𝟘 → v ≡ 𝟘
      step {u} {v} {w} e f g = cc (add-zero R v)

      go : (k + count (nonroot q) ss ≤ length ss → Low R 0 q) → (suc k + count (nonroot (c ∷ p)) ss ≤ length ss → Low R 0 (c ∷ p)) →
          (b : Bool) → eqb (eval R (c ∷ p) s.at) 𝟘 ≡ b → Low R 0 (c ∷ p)
      go f g true e =
          let z : eval R (c ∷ p) s.at ≡ 𝟘 = D.eqb-eq _ _ e in
          zero-of-quo R s.at c p z
          (f
          (omega (
            arith,
            count-le (nonroot q) (nonroot (c ∷ p)) ss
                (all_map (λ r u. neq-le (λ v. unit-cancel R _ _ u (step (eval-quo R s.at c p r.at) z v))) ss a.0),
          )))
      go f g false e = g (omega (arith, ap (λ b. bit (not b)) e))

  -- two polynomials of `k` coefficients of which enough shares are missed by neither are one
  pub agree : (k : ℕ) (ss : List (Share R)) (f g : List E) → Apart R ss → Low R k f → Low R k g →
      k + count (misses D f) ss + count (misses D g) ss ≤ length ss → (i : ℕ) → coef R f i ≡ coef R g i
  agree k ss f g a lf lg h i = diff-zero R _ _ (sym (coef-lin R 𝟙 f (⊖ 𝟙) g i) ∙ roots k ss d a low (omega (arith, few)) i (omega arith))
    where
      d : List E
      d = lin R 𝟙 f (⊖ 𝟙) g

      low : Low R k d
      low j m = coef-lin R 𝟙 f (⊖ 𝟙) g j ∙ zero-diff R _ _ (lf j m ∙ sym (lg j m))

      few : count (nonroot d) ss ≤ count (misses D f) ss + count (misses D g) ss
      few = count-le-add (nonroot d) (misses D f) (misses D g)
          (λ s. neq-le-add (λ u v. eval-lin R 𝟙 f (⊖ 𝟙) g s.at ∙ zero-diff R _ _ (u ∙ sym v))) ss

  pub unique : (k e : ℕ) (ss : List (Share R)) (f g : List E) → Apart R ss → length f ≡ k → length g ≡ k →
      count (misses D f) ss ≤ e → count (misses D g) ss ≤ e → k + 2 * e ≤ length ss → f ≡ g
  unique k e ss f g a lf lg hf hg h =
      ext_get_or 𝟘 f g (lf ∙ sym lg)
      (λ i l. agree k ss f g a (rw lf at (low-length R f)) (rw lg at (low-length R g)) (omega arith) i)
