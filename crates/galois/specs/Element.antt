-- Elements and points of the Galois ring, paper 01, "Ring, points, shares", as lists of words. Assumes nothing.
use Prim.Native.Nat.{ℕ, zero, suc, ◌-◌, ◌/◌, ◌%◌, ◌^◌}
use Rattle.std.specs.Prelude.{Bool, true, false, cond, ◌&&◌, eqb, take, drop, get_or, length, replicate}
use mathlib.Core.List.{List, [], ◌∷◌, ◌++◌, map}
use Rattle.std.proofs.Math.Option
use Rattle.std.proofs.Math.Option.{Option, none, some}
use Rattle.words.specs.Word.{add_w, sub_w, mul_w}

-- "An element is d words, each 0 to 2^k − 1, the coefficients of a polynomial in X, constant first."
abbrev pub Element : Type 0
Element = List ℕ

-- word by word
unfoldable pub zip : (ℕ → ℕ → ℕ) → Element → Element → Element
zip f [] b = []
zip f (x ∷ a) [] = []
zip f (x ∷ a) (y ∷ b) = f x y ∷ zip f a b

-- "Sums are taken word by word modulo 2^k."
abbrev pub sum : ℕ → Element → Element → Element
sum k = zip (add_w k)

abbrev pub difference : ℕ → Element → Element → Element
difference k = zip (sub_w k)

-- "one fixed modulus for each d": its lower coefficients, constant first, by d
unfoldable pub rows : List Element
rows =
    []
    ∷ []
    ∷ (1 ∷ 1 ∷ [])
    ∷ (1 ∷ 1 ∷ 0 ∷ [])
    ∷ (1 ∷ 1 ∷ 0 ∷ 0 ∷ [])
    ∷ (1 ∷ 0 ∷ 1 ∷ 0 ∷ 0 ∷ [])
    ∷ (1 ∷ 1 ∷ 0 ∷ 0 ∷ 0 ∷ 0 ∷ [])
    ∷ []

unfoldable pub lower : ℕ → Element
unfolding rows
lower d = get_or rows d []

-- X times r: the words move up one place, and the word that leaves takes the modulus's lower coefficients l with it
abbrev pub down_w : ℕ → ℕ → ℕ → ℕ → ℕ
down_w k top x m = sub_w k x (mul_w k top m)

unfoldable pub times_x : ℕ → Element → Element → Element
unfolding zip
times_x k l r = zip (down_w k (get_or r (length r - 1) 0)) (0 ∷ r) l

-- s plus the word c times b
abbrev pub plus_w : ℕ → ℕ → ℕ → ℕ → ℕ
plus_w k c x y = add_w k x (mul_w k c y)

abbrev pub add_scaled : ℕ → ℕ → Element → Element → Element
add_scaled k c = zip (plus_w k c)

-- "Products are reduced modulo 2^k and one fixed modulus", by Horner's rule in X
unfoldable pub product : ℕ → Element → Element → Element → Element
unfolding zip times_x
product k l [] b = replicate (length l) 0
product k l (c ∷ a) b = add_scaled k c (times_x k l (product k l a b)) b

-- zero and one
abbrev pub zero_e : ℕ → Element
zero_e d = replicate d 0

abbrev pub one_e : ℕ → Element
one_e d = take d (1 ∷ replicate (d - 1) 0)

-- "Holder i has the point whose word j is bit j of i"
unfoldable pub point : ℕ → ℕ → Element
point zero i = []
point (suc d) i = i % 2 ∷ point d (i / 2)

-- each word modulo 2^j
unfoldable pub reduce : ℕ → Element → Element
reduce j [] = []
reduce j (w ∷ a) = w % 2 ^ j ∷ reduce j a

-- the same words, place by place
unfoldable pub same : Element → Element → Bool
same [] [] = true
same [] (y ∷ b) = false
same (x ∷ a) [] = false
same (x ∷ a) (y ∷ b) = eqb x y && same a b

-- the numbers below m, and the lists of n of some things
unfoldable pub below : ℕ → List ℕ
below zero = []
below (suc m) = below m ++ (m ∷ [])

module _ {A : Type 0} where
  unfoldable pub each : List A → List (List A) → List (List A)
  each [] ls = []
  each (x ∷ xs) ls = map (λ l. x ∷ l) ls ++ each xs ls

  unfoldable pub tuples : List A → ℕ → List (List A)
  unfolding each
  tuples xs zero = [] ∷ []
  tuples xs (suc n) = each xs (tuples xs n)

-- all elements of d words of k bits
unfoldable pub elements : ℕ → ℕ → List Element
unfolding below tuples
elements k d = tuples (below (2 ^ k)) d

-- the first in a list that passes a test
unfoldable pub find : {A : Type 0} → (A → Bool) → List A → Option A
find t [] = none
find t (x ∷ xs) = cond (t x) (some x) (find t xs)

-- the inverse: the element whose product with a is one. "for one that is [zero modulo 2], the inverse call gives zero"
unfoldable pub inverse : ℕ → ℕ → Element → Element
unfolding elements find same product lower
inverse k d a = Option.get_or (find (λ b. same (product k (lower d) a b) (one_e d)) (elements k d)) (zero_e d)

-- An element in an array of six: zeros after its d words.
abbrev pub held : ℕ → Element → List ℕ
held d e = take d e ++ drop d (replicate 6 0)
