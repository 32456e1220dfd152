-- Internal: polynomials in arrays of rows: a row is an element in an array of six, the free term's row stands first. Assumes nothing.
use Rattle.std.specs.Prelude.{◌≡◌, List, [], ◌∷◌, map, ℕ, zero, suc, ◌+◌, length, take, replicate}
use Rattle.galois.specs.Element.{Element, difference, lower, product, inverse, held, reduce}
use Rattle.polynomial.specs.Polynomial.{Polynomial, value}

abbrev pub Rows : Type 0
Rows = List (List ℕ)

-- 64 rows of six words: what the type `[[u64; 6]; 64]` says, and a function has to be told of an array that is lent to it
unfoldable pub Shaped : Rows → Type 0
Shaped p = map length p ≡ replicate 64 6

-- the polynomial of the first n rows
abbrev pub coefs : ℕ → ℕ → Rows → Polynomial
coefs d n p = map (take d) (take n p)

-- each word of each row modulo 2^k
abbrev pub reduce_rows : ℕ → Rows → Rows
reduce_rows k = map (reduce k)

-- p with its first n members changed, each to the function's value at u's member in the same place and at itself
unfoldable pub change : {A : Type 0} → (A → A → A) → ℕ → List A → List A → List A
change f zero u p = p
change f (suc n) [] p = p
change f (suc n) (b ∷ u) [] = []
change f (suc n) (b ∷ u) (a ∷ p) = f b a ∷ change f n u p

-- a row less x times another
abbrev pub less_times : ℕ → ℕ → Element → List ℕ → List ℕ → List ℕ
less_times k d x b a = held d (difference k (take d b) (product k (lower d) x (take d a)))

-- p - e q in the first n rows, coefficient by coefficient
abbrev pub less_multiple : ℕ → ℕ → Element → List ℕ → List ℕ → List ℕ
less_multiple k d e b a = less_times k d e a b

abbrev pub subtract_rows : ℕ → ℕ → ℕ → Rows → Element → Rows → Rows
subtract_rows k d n p e q = change (less_multiple k d e) n q p

-- (Z - x) p in the first n rows: each coefficient is the one below it less x times itself, and below the free term is zero
abbrev pub root_rows : ℕ → ℕ → ℕ → Element → Rows → Rows
root_rows k d n x p = change (less_times k d x) n (replicate 6 0 ∷ p) p

-- Newton's interpolation, one share more. The first n rows of q are the polynomial through n shares and the first n + 1 of m are their
-- nodal polynomial, the product of the Z - x over their points; to go through y at x as well, q takes off as much of m as it is too much at x.
abbrev pub excess : ℕ → ℕ → ℕ → Rows → Rows → Element → Element → Element
excess k d n q m x y = product k (lower d) (difference k (value k d (coefs d n q) x) y) (inverse k d (value k d (coefs d (n + 1) m) x))

abbrev pub extend_rows : ℕ → ℕ → ℕ → Rows → Rows → Element → Element → Rows
extend_rows k d n q m x y = subtract_rows k d (n + 1) q (excess k d n q m x y) m
