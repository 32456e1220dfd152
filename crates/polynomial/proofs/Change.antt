-- A list of which the first members are changed (`change`): its length, its members, what stays; and such changes of coefficients as the
-- polynomials' own operations: p - e q, and (Z - x) p. Assumes nothing.
use mathlib.Core.Path.{◌≡◌, refl, sym, ◌∙◌, ap, ap₂}
use mathlib.Core.List.{List, [], ◌∷◌, ◌++◌, map}
use Prim.Native.Nat.{ℕ, zero, suc, ◌≤◌, ◌<◌}
use native.Mathlib.Nat.{zero-add, le_of_suc-le-suc, not-suc-le-zero, suc_inj, suc-ne-zero}
use native.Mathlib.Omega.{arith}
use lib.ListN.{length, take, drop, get_or, take-append-drop}
use lib.Seq.{paste}
use Rattle.algebra.specs.Ring.{CommRing}
use Rattle.algebra.specs.Poly.{coef}
use Rattle.algebra.specs.Shares.{All}
use Rattle.algebra.proofs.Ring.{mul-zero, one-mul, add-zero, neg-mul}
use Rattle.algebra.proofs.Poly.{Low, Same, lin, mulx, padd, scale, coef-lin, coef-padd, coef-scale, low-tail, low-shift, low-mono}
use Rattle.polynomial.specs.Rows.{change}

module _ {A : Type 0} (f : A → A → A) where
  pub length-change : (n : ℕ) (u p : List A) → length (change f n u p) ≡ length p
  unfolding change
  length-change zero u p = refl
  length-change (suc n) [] p = refl
  length-change (suc n) (b ∷ u) [] = refl
  length-change (suc n) (b ∷ u) (a ∷ p) = ap suc (length-change n u p)

  pub change-at : (n : ℕ) (u p : List A) (i : ℕ) (z : A) → i < n → i < length u → i < length p
      → get_or (change f n u p) i z ≡ f (get_or u i z) (get_or p i z)
  unfolding change
  change-at zero u p i z h l m = absurd (not-suc-le-zero h)
  change-at (suc n) [] p i z h l m = absurd (not-suc-le-zero l)
  change-at (suc n) (b ∷ u) [] i z h l m = absurd (not-suc-le-zero m)
  change-at (suc n) (b ∷ u) (a ∷ p) zero z h l m = refl
  change-at (suc n) (b ∷ u) (a ∷ p) (suc i) z h l m =
      change-at n u p i z (le_of_suc-le-suc h) (le_of_suc-le-suc l) (le_of_suc-le-suc m)

  rest : (n : ℕ) (u p : List A) → take n (change f n u p) ++ drop n p ≡ change f n u p
  unfolding change
  rest zero u p = refl
  rest (suc n) [] p = take-append-drop (suc n) p
  rest (suc n) (b ∷ u) [] = refl
  rest (suc n) (b ∷ u) (a ∷ p) = ap (λ (l : List A). f b a ∷ l) (rest n u p)

  -- once n members are written, all is
  pub change-paste : (n : ℕ) (u p : List A) → paste p 0 (change f n u p) n ≡ change f n u p
  change-paste n u p = rw zero-add (rest n u p)

-- what the function keeps, and a map that takes one function to the other, where all members are of a kind
module _ {A : Type 0} (P : A → Type 0) where
  pub change-all : (f : A → A → A) → ((b a : A) → P b → P a → P (f b a)) → (n : ℕ) (u p : List A) → All P u → All P p → All P (change f n u p)
  unfolding change
  change-all f e zero u p hu hp = hp
  change-all f e (suc n) [] p hu hp = hp
  change-all f e (suc n) (b ∷ u) [] hu hp = tt
  change-all f e (suc n) (b ∷ u) (a ∷ p) hu hp = (e b a hu.0 hp.0, change-all f e n u p hu.1 hp.1)

  pub change-map-all : {B : Type 0} (h : A → B) (g : A → A → A) (f : B → B → B) → ((b a : A) → P b → P a → f (h b) (h a) ≡ h (g b a))
      → (n : ℕ) (u p : List A) → All P u → All P p → change f n (map h u) (map h p) ≡ map h (change g n u p)
  unfolding change
  change-map-all h g f e zero u p hu hp = refl
  change-map-all h g f e (suc n) [] p hu hp = refl
  change-map-all h g f e (suc n) (b ∷ u) [] hu hp = refl
  change-map-all h g f e (suc n) (b ∷ u) (a ∷ p) hu hp = ap₂ ◌∷◌ (e b a hu.0 hp.0) (change-map-all h g f e n u p hu.1 hp.1)

pub change-map : {A B : Type 0} (h : A → B) (g : A → A → A) (f : B → B → B) → ((b a : A) → f (h b) (h a) ≡ h (g b a))
    → (n : ℕ) (u p : List A) → change f n (map h u) (map h p) ≡ map h (change g n u p)
change-map {A} h g f e n u p = change-map-all (λ a. Unit {0}) h g f (λ b a _ _. e b a) n u p (any u) (any p)
  where
    any : (xs : List A) → All (λ a. Unit {0}) xs
    any [] = tt
    any (x ∷ xs) = (tt, any xs)

module _ (R : CommRing) where
  infixl 65 ◌⊕◌
  infixl 70 ◌⊗◌
  open R use {E, add as ◌⊕◌, mul as ◌⊗◌, neg as ⊖, 𝟘, 𝟙}

  -- p - e q
  pub change-lin : (e : E) (n : ℕ) (p q : List E) → length p ≡ length q → Low R n p → Low R n q
      → Same R (change (λ b a. a ⊕ ⊖ (e ⊗ b)) n q p) (lin R 𝟙 p (⊖ e) q)
  unfolding change
  change-lin e zero p q l h g j = h j (omega arith) ∙ sym (coef-lin R 𝟙 p (⊖ e) q j ∙ nought (h j (omega arith)) (g j (omega arith)))
    where
      nought : {x y : E} → x ≡ 𝟘 → y ≡ 𝟘 → 𝟙 ⊗ x ⊕ ⊖ e ⊗ y ≡ 𝟘
      nought u v = rw (u, v, mul-zero, mul-zero, add-zero)
  change-lin e (suc n) [] [] l h g j = refl
  change-lin e (suc n) [] (b ∷ q) l h g j = absurd (suc-ne-zero (length q) (sym l))
  change-lin e (suc n) (a ∷ p) [] l h g j = absurd (suc-ne-zero (length p) l)
  change-lin e (suc n) (a ∷ p) (b ∷ q) l h g zero = ap₂ ◌⊕◌ (sym (one-mul R a)) (sym (neg-mul R e b))
  change-lin e (suc n) (a ∷ p) (b ∷ q) l h g (suc j) = change-lin e n p q (suc_inj l) (low-tail R n a p h) (low-tail R n b q g) j

  -- (Z - x) p, with b for the coefficient below the first
  carried : (x b : E) (n : ℕ) (p : List E) → n ≤ length p → Low R n (b ∷ p)
      → Same R (change (λ b a. b ⊕ ⊖ (x ⊗ a)) n (b ∷ p) p) (padd R (b ∷ p) (scale R (⊖ x) p))
  unfolding change
  carried x b zero p l h j =
      h (suc j) (omega arith)
      ∙ sym (coef-padd R (b ∷ p) (scale R (⊖ x) p) j ∙ ap₂ ◌⊕◌ (h j (omega arith)) (coef-scale R (⊖ x) p j ∙ gone) ∙ add-zero R 𝟘)
    where
      gone : ⊖ x ⊗ coef R p j ≡ 𝟘
      gone = ap (λ y. ⊖ x ⊗ y) (h (suc j) (omega arith)) ∙ mul-zero R (⊖ x)
  carried x b (suc n) [] l h j = absurd (not-suc-le-zero l)
  carried x b (suc n) (a ∷ p) l h zero = ap (λ y. b ⊕ y) (sym (neg-mul R x a))
  carried x b (suc n) (a ∷ p) l h (suc j) = carried x a n p (le_of_suc-le-suc l) (low-tail R n b (a ∷ p) h) j

  pub change-mulx : (x : E) (n m : ℕ) (p : List E) → m < n → n ≤ length p → Low R m p
      → Same R (change (λ b a. b ⊕ ⊖ (x ⊗ a)) n (𝟘 ∷ p) p) (mulx R x p)
  change-mulx x n m p l h low = carried x 𝟘 n p h (low-mono R (𝟘 ∷ p) l (low-shift R m 𝟘 p low))
