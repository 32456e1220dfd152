-- Laws of `zip`. Assumes nothing.
use mathlib.Core.Path.{◌≡◌, refl, sym, ap, ap₂}
use mathlib.Core.List.{[], ◌∷◌, ◌++◌}
use Prim.Native.Nat.{ℕ, zero, suc, ◌≤◌}
use native.Mathlib.Nat.{not-suc-le-zero, le_of_suc-le-suc, suc_inj, suc-ne-zero}
use native.Mathlib.Omega.{arith}
use lib.ListN.{length, get_or, take, replicate}
use Rattle.galois.specs.Element.{Element, zip}

-- a list of six words, word by word
pub six-words : (a : Element) → length a ≡ 6 → a ≡ get_or a 0 0 ∷ get_or a 1 0 ∷ get_or a 2 0 ∷ get_or a 3 0 ∷ get_or a 4 0 ∷ get_or a 5 0 ∷ []
six-words [] h = absurd (omega arith)
six-words (x₀ ∷ []) h = absurd (omega arith)
six-words (x₀ ∷ x₁ ∷ []) h = absurd (omega arith)
six-words (x₀ ∷ x₁ ∷ x₂ ∷ []) h = absurd (omega arith)
six-words (x₀ ∷ x₁ ∷ x₂ ∷ x₃ ∷ []) h = absurd (omega arith)
six-words (x₀ ∷ x₁ ∷ x₂ ∷ x₃ ∷ x₄ ∷ []) h = absurd (omega arith)
six-words (x₀ ∷ x₁ ∷ x₂ ∷ x₃ ∷ x₄ ∷ x₅ ∷ []) h = refl
six-words (x₀ ∷ x₁ ∷ x₂ ∷ x₃ ∷ x₄ ∷ x₅ ∷ x₆ ∷ a) h = absurd (omega arith)

pub zip-take : (f : ℕ → ℕ → ℕ) (n : ℕ) (a b : Element) → take n (zip f a b) ≡ zip f (take n a) (take n b)
unfolding zip
zip-take f zero a b = refl
zip-take f (suc n) [] b = refl
zip-take f (suc n) (x ∷ a) [] = refl
zip-take f (suc n) (x ∷ a) (y ∷ b) = ap (λ (l : Element). f x y ∷ l) (zip-take f n a b)

-- what is beyond the second list's end is not looked at
pub zip-short : (f : ℕ → ℕ → ℕ) (n : ℕ) (a b : Element) → length b ≤ n → zip f (take n a) b ≡ zip f a b
unfolding zip
zip-short f zero a [] h = empty a
  where
    empty : (a : Element) → zip f [] [] ≡ zip f a []
    empty [] = refl
    empty (x ∷ a) = refl
zip-short f zero a (y ∷ b) h = absurd (not-suc-le-zero h)
zip-short f (suc n) [] b h = refl
zip-short f (suc n) (x ∷ a) [] h = refl
zip-short f (suc n) (x ∷ a) (y ∷ b) h = ap (λ (l : Element). f x y ∷ l) (zip-short f n a b (le_of_suc-le-suc h))

pub zip-append : (f : ℕ → ℕ → ℕ) (a b u v : Element) → length a ≡ length b → zip f (a ++ u) (b ++ v) ≡ zip f a b ++ zip f u v
unfolding zip
zip-append f [] [] u v h = refl
zip-append f [] (y ∷ b) u v h = absurd (suc-ne-zero (length b) (sym h))
zip-append f (x ∷ a) [] u v h = absurd (suc-ne-zero (length a) h)
zip-append f (x ∷ a) (y ∷ b) u v h = ap (λ (l : Element). f x y ∷ l) (zip-append f a b u v (suc_inj h))

pub zip-zeros : (f : ℕ → ℕ → ℕ) (n : ℕ) → f 0 0 ≡ 0 → zip f (replicate n 0) (replicate n 0) ≡ replicate n 0
unfolding zip
zip-zeros f zero e = refl
zip-zeros f (suc n) e = ap₂ ◌∷◌ e (zip-zeros f n e)

pub zip-by : (f g : ℕ → ℕ → ℕ) → ((x y : ℕ) → f x y ≡ g x y) → (a b : Element) → zip f a b ≡ zip g a b
unfolding zip
zip-by f g e [] b = refl
zip-by f g e (x ∷ a) [] = refl
zip-by f g e (x ∷ a) (y ∷ b) = ap₂ ◌∷◌ (e x y) (zip-by f g e a b)

-- two operations on the first list's words that may change places
pub zip-swap : (f g : ℕ → ℕ → ℕ) → ((x y z : ℕ) → f (g x y) z ≡ g (f x z) y) → (a b c : Element) → zip f (zip g a b) c ≡ zip g (zip f a c) b
unfolding zip
zip-swap f g e [] b c = refl
zip-swap f g e (x ∷ a) [] [] = refl
zip-swap f g e (x ∷ a) [] (z ∷ c) = refl
zip-swap f g e (x ∷ a) (y ∷ b) [] = refl
zip-swap f g e (x ∷ a) (y ∷ b) (z ∷ c) = ap₂ ◌∷◌ (e x y z) (zip-swap f g e a b c)

-- an operation that changes no word of the first list
pub zip_first : (f : ℕ → ℕ → ℕ) (a b : Element) → length a ≡ length b → ((i : ℕ) → f (get_or a i 0) (get_or b i 0) ≡ get_or a i 0) → zip f a b ≡ a
unfolding zip
zip_first f [] b h e = refl
zip_first f (x ∷ a) [] h e = absurd (suc-ne-zero (length a) h)
zip_first f (x ∷ a) (y ∷ b) h e = ap₂ ◌∷◌ (e 0) (zip_first f a b (suc_inj h) (λ i. e (suc i)))

-- zip of two lists of six words, as six calls give it
pub zip-six : (f : ℕ → ℕ → ℕ) (a b : Element) → length a ≡ 6 → length b ≡ 6
    → zip f a b
    ≡ f (get_or a 0 0) (get_or b 0 0)
    ∷ f (get_or a 1 0) (get_or b 1 0)
    ∷ f (get_or a 2 0) (get_or b 2 0)
    ∷ f (get_or a 3 0) (get_or b 3 0)
    ∷ f (get_or a 4 0) (get_or b 4 0)
    ∷ f (get_or a 5 0) (get_or b 5 0)
    ∷ []
unfolding zip
zip-six f a b ha hb = ap₂ (zip f) (six-words a ha) (six-words b hb)

-- the same with the first list one place up
pub zip-shifted : (f : ℕ → ℕ → ℕ) (a b : Element) → length a ≡ 6 → length b ≡ 6
    → zip f (0 ∷ a) b
    ≡ f 0 (get_or b 0 0)
    ∷ f (get_or a 0 0) (get_or b 1 0)
    ∷ f (get_or a 1 0) (get_or b 2 0)
    ∷ f (get_or a 2 0) (get_or b 3 0)
    ∷ f (get_or a 3 0) (get_or b 4 0)
    ∷ f (get_or a 4 0) (get_or b 5 0)
    ∷ []
unfolding zip
zip-shifted f a b ha hb = ap₂ (λ (x y : Element). zip f (0 ∷ x) y) (six-words a ha) (six-words b hb)
