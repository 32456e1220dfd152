-- Arrays of 64 rows of six words, told row by row; rows written one after another: the first of them cleared, and the first of them cut to k
-- bits; and the rows that interpolation looks at, with the words cut (`cut`). Assumes nothing.
use mathlib.Core.Path.{◌≡◌, refl, sym, ◌∙◌, ap, ap₂}
use mathlib.Core.List.{List, [], ◌∷◌, ◌++◌, map}
use Prim.Native.Nat.{ℕ, zero, suc, ◌+◌, ◌≤◌, ◌<◌}
use native.Mathlib.Nat.{mod-eq_of_lt, le_of_suc-le-suc}
use native.Mathlib.Omega.{arith}
use lib.ListN.{length, take, drop, get_or, set, replicate, length-map, get_or-map, get_or-replicate}
use lib.Pow.{pow-lt}
use lib.Seq.{paste, take-set-lt, take-take, map-set_same, ext_get_or}
use Rattle.words.proofs.Fill.{fill-next, fill-ahead}
use Rattle.galois.specs.Element.{Element, reduce}
use Rattle.galois.proofs.Lists.{length-reduce}
use Rattle.galois.proofs.Narrow.{reduce-zeros}
use Rattle.polynomial.specs.Rows.{Rows, Shaped, coefs, reduce_rows, change, less_times, less_multiple, root_rows, excess, extend_rows}
use Rattle.polynomial.proofs.Shape.{shaped-length, shaped_row}
use Rattle.std.proofs.lemmas.List.{map-append, take-map, drop-map, take-append-drop, take_at, length-take-le}

abbrev pub zero_row : List ℕ
zero_row = replicate 6 0

abbrev pub one_row : List ℕ
one_row = 1 ∷ replicate 5 0

abbrev pub one_rows : ℕ → Rows
one_rows n = one_row ∷ replicate n zero_row

-- a row of six words more
pub shaped-set : (p : Rows) (i : ℕ) (r : List ℕ) → Shaped p → i < 64 → length r ≡ 6 → Shaped (set p i r)
unfolding Shaped
shaped-set p i r h l e = map-set_same length p i r [] (e ∙ sym (shaped_row p i h l)) ∙ h

-- 64 rows, each of six words
pub shaped-rows : (p : Rows) → length p ≡ 64 → ((i : ℕ) → i < 64 → length (get_or p i []) ≡ 6) → Shaped p
unfolding Shaped
shaped-rows p l h =
    let n : length (map length p) ≡ 64 = length-map p length ∙ l in
    ext_get_or 0 (map length p) (replicate 64 6) n
    (λ i b.
    let c : i < 64 = rw n at b in
    get_or-map length p i [] ∙ h i c ∙ sym (get_or-replicate 64 i 6 0 c))

-- the first n rows of z in place of those of p
pub front : (n : ℕ) (p z r : Rows) → n ≤ 64 → Shaped p → Shaped z → r ≡ take n z → (take n (r ++ drop n p) ≡ take n z) × Shaped (r ++ drop n p)
unfolding Shaped
front n p z r h sp sz e =
    let l : length (take n z) ≡ n = length-take-le n z (rw (shaped-length z sz) h) in
    rw e (
      take_at (take n z) (drop n p) n l,
      map-append length (take n z) (drop n p)
          ∙ ap₂ ◌++◌ (sym (take-map length n z) ∙ ap (take n) sz) (sym (drop-map length n p) ∙ ap (drop n) sp)
          ∙ take-append-drop n (replicate 64 6),
    )

-- the first row, one
pub clear-one : (p : Rows) (t : ℕ) → take (t + 2) p ≡ replicate (t + 2) zero_row → take (t + 2) (set p 0 one_row) ≡ one_rows (t + 1)
clear-one p t e =
    let n : t + 2 ≡ suc (t + 1) = omega arith in
    take-set-lt (t + 2) p 0 one_row (omega arith) ∙ ap (λ (r : Rows). set r 0 one_row) (e ∙ ap (λ m. replicate m zero_row) n)

-- cutting
module _ (k : ℕ) where
  pub reduce-turn : (p r : Rows) (i : ℕ) → i < length p → r ≡ paste p 0 (map (reduce k) p) i →
      set r i (reduce k (get_or r i [])) ≡ paste p 0 (map (reduce k) p) (i + 1)
  reduce-turn p r i h e =
      let l : length (map (reduce k) p) ≡ length p = length-map p (reduce k) in
      fill-next p (map (reduce k) p) r i (reduce k []) (reduce k (get_or r i [])) e h (omega arith)
      (ap (reduce k) (fill-ahead p (map (reduce k) p) r i [] e (omega arith)) ∙ sym (get_or-map (reduce k) p i []))

  reduce-lengths : (q : Rows) → map length (map (reduce k) q) ≡ map length q
  reduce-lengths [] = refl
  reduce-lengths (r ∷ q) = ap₂ ◌∷◌ (length-reduce k r) (reduce-lengths q)

  pub reduce-shaped : (q : Rows) → Shaped q → Shaped (map (reduce k) q)
  unfolding Shaped
  reduce-shaped q h = reduce-lengths q ∙ h

-- the first n rows, their words cut to k bits
abbrev pub cut : ℕ → ℕ → Rows → Rows
cut k n p = take n (reduce_rows k p)

-- interpolation changes the first rows by the first rows
take-change : {A : Type 0} (f : A → A → A) (m n : ℕ) (u p : List A) → take m (change f n u p) ≡ change f n (take m u) (take m p)
unfolding change
take-change f zero zero u p = refl
take-change f zero (suc n) u p = refl
take-change f (suc m) zero u p = refl
take-change f (suc m) (suc n) [] p = refl
take-change f (suc m) (suc n) (b ∷ u) [] = refl
take-change f (suc m) (suc n) (b ∷ u) (a ∷ p) = ap (λ r. f b a ∷ r) (take-change f m n u p)

take-carried : {A : Type 0} (f : A → A → A) (m n : ℕ) (b : A) (p : List A) → take m (change f n (b ∷ p) p) ≡ change f n (b ∷ take m p) (take m p)
unfolding change
take-carried f zero zero b p = refl
take-carried f zero (suc n) b p = refl
take-carried f (suc m) zero b p = refl
take-carried f (suc m) (suc n) b [] = refl
take-carried f (suc m) (suc n) b (a ∷ p) = ap (λ r. f b a ∷ r) (take-carried f m n a p)

pub take-root : (k d m n : ℕ) (x : Element) (p : Rows) → take m (root_rows k d n x p) ≡ root_rows k d n x (take m p)
take-root k d m n x p = take-carried (less_times k d x) m n zero_row p

pub take-extend : (k d m n : ℕ) → n + 1 ≤ m → (q p : Rows) (x y : Element) →
    take m (extend_rows k d n q p x y) ≡ extend_rows k d n (take m q) (take m p) x y
take-extend k d m n h q p x y =
    let v : coefs d n (take m q) ≡ coefs d n q = ap (map (take d)) (take-take n m q (omega arith)) in
    let w : coefs d (n + 1) (take m p) ≡ coefs d (n + 1) p = ap (map (take d)) (take-take (n + 1) m p h) in
    rw (v, w) (take-change (less_multiple k d (excess k d n q p x y)) m (n + 1) p q)

-- zero and one, cut
module _ (k : ℕ) where
  reduce-rows : (n : ℕ) → map (reduce k) (replicate n zero_row) ≡ replicate n zero_row
  reduce-rows zero = refl
  reduce-rows (suc n) = ap₂ ◌∷◌ (reduce-zeros k 6) (reduce-rows n)

  reduce-one : 1 ≤ k → reduce k one_row ≡ one_row
  unfolding reduce
  reduce-one h = ap₂ ◌∷◌ (mod-eq_of_lt (pow-lt {i = 0} {j = k} h)) (reduce-zeros k 5)

  pub cut-zero : (n : ℕ) (p : Rows) → take n p ≡ replicate n zero_row → cut k n p ≡ replicate n zero_row
  cut-zero n p e = take-map (reduce k) n p ∙ ap (map (reduce k)) e ∙ reduce-rows n

  pub cut-one : 1 ≤ k → (t : ℕ) (p : Rows) → take (t + 2) p ≡ one_rows (t + 1) → cut k (t + 2) p ≡ one_rows (t + 1)
  cut-one h t p e =
      take-map (reduce k) (t + 2) p ∙ ap (map (reduce k)) e ∙ ap₂ ◌∷◌ (reduce-one h) (reduce-rows (t + 1))

-- zeros where the search starts
pub zero-shaped : Shaped (replicate 64 zero_row)
unfolding Shaped
zero-shaped = refl

-- and the first rows of them
pub zero-rows : (n m : ℕ) → n ≤ m → take n (replicate m zero_row) ≡ replicate n zero_row
zero-rows zero m h = refl
zero-rows (suc n) zero h = absurd (omega arith)
zero-rows (suc n) (suc m) h = ap (λ (l : Rows). zero_row ∷ l) (zero-rows n m (le_of_suc-le-suc h))
