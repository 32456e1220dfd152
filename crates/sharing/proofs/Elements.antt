-- Elements one after another in a list of words: how many, how long, which stands where; those from one of them on; and the rows of an array
-- that hold them. Assumes nothing.
use mathlib.Core.Path.{◌≡◌, refl, sym, ◌∙◌, ap, ap₂}
use mathlib.Core.List.{List, [], ◌∷◌, ◌++◌, map}
use Prim.Native.Nat.{ℕ, zero, suc, ◌+◌, ◌-◌, ◌*◌, ◌≤◌, ◌<◌}
use native.Mathlib.Nat.{not-suc-le-zero, le_of_suc-le-suc, le_refl, zero-mul, sub-zero}
use native.Mathlib.Omega.{arith}
use lib.ListN.{length, take, drop, get_or, length-map, length-drop}
use lib.Seq.{take-take, drop-drop, length-take-le}
use Rattle.algebra.specs.Shares.{All}
use Rattle.galois.specs.Element.{Element, held, zero_e}
use Rattle.galois.proofs.Held.{held-take}
use Rattle.polynomial.specs.Rows.{Rows}
use Rattle.sharing.specs.Dealing.{elements_of}

pub elements-length : (d n : ℕ) (ws : List ℕ) → length (elements_of d n ws) ≡ n
unfolding elements_of
elements-length d zero ws = refl
elements-length d (suc n) ws = ap suc (elements-length d n (drop d ws))

pub element-at : (d n : ℕ) (ws : List ℕ) (i : ℕ) → i < n → get_or (elements_of d n ws) i [] ≡ take d (drop (i * d) ws)
unfolding elements_of
element-at d zero ws i h = absurd (not-suc-le-zero h)
element-at d (suc n) ws zero h = ap (λ (m : ℕ). take d (drop m ws)) (sym (zero-mul d))
element-at d (suc n) ws (suc i) h =
    let e : d + i * d ≡ suc i * d = omega arith in
    element-at d n (drop d ws) i (le_of_suc-le-suc h) ∙ ap (take d) (drop-drop (i * d) d ws ∙ ap (λ (m : ℕ). drop m ws) e)

pub elements-rows : (d n : ℕ) (ws : List ℕ) → n * d ≤ length ws → All (λ c. length c ≡ d) (elements_of d n ws)
unfolding elements_of
elements-rows d zero ws h = tt
elements-rows d (suc n) ws h = (length-take-le d ws (omega arith), elements-rows d n (drop d ws) (rw (length-drop d ws) (omega arith)))

-- those from the i-th on: one more at a time, down to all of them
abbrev pub elements_from : ℕ → ℕ → List ℕ → ℕ → List Element
elements_from d n ws i = elements_of d (n - i) (drop (i * d) ws)

pub from-none : (d n : ℕ) (ws : List ℕ) → elements_from d n ws n ≡ []
unfolding elements_of
from-none d n ws = let e : n - n ≡ 0 = omega arith in rw e

pub from_more : (d n : ℕ) (ws : List ℕ) (i : ℕ) → 0 < i → i ≤ n
    → elements_from d n ws (i - 1) ≡ take d (drop ((i - 1) * d) ws) ∷ elements_from d n ws i
unfolding elements_of
from_more d n ws zero z h = absurd (not-suc-le-zero z)
from_more d n ws (suc j) z h =
    let e : n - j ≡ suc (n - suc j) = omega arith in
    let f : suc j - 1 ≡ j = omega arith in
    let g : j * d + d ≡ suc j * d = omega arith in
    rw (f, e)
    (ap (λ (l : List ℕ). take d (drop (j * d) ws) ∷ elements_of d (n - suc j) l) (drop-drop d (j * d) ws ∙ ap (λ (m : ℕ). drop m ws) g))

pub from_all : (d n : ℕ) (ws : List ℕ) → elements_from d n ws 0 ≡ elements_of d n ws
from_all d n ws = rw (zero-mul, sub-zero)

pub from-rows : (d n : ℕ) (ws : List ℕ) (i : ℕ) → i ≤ n → length ws ≡ n * d → All (λ c. length c ≡ d) (elements_from d n ws i)
from-rows d n ws i h l =
    let e : i + (n - i) ≡ n = omega arith in
    let f : (i + (n - i)) * d ≡ n * d = ap (λ (m : ℕ). m * d) e in
    elements-rows d (n - i) (drop (i * d) ws) (rw (length-drop (i * d) ws) (omega (arith, f)))

-- the same words in a row
pub held_cut : (d : ℕ) (x : Element) → held d (take d x) ≡ held d x
held_cut d x = ap (λ (l : Element). l ++ drop d (zero_e 6)) (take-take d d x (le_refl d))

abbrev pub rows_of : ℕ → ℕ → List ℕ → Rows
rows_of d n ws = map (held d) (elements_of d n ws)

pub rows-length : (d n : ℕ) (ws : List ℕ) → length (rows_of d n ws) ≡ n
rows-length d n ws = length-map (elements_of d n ws) (held d) ∙ elements-length d n ws

pub map_at : {A B : Type 0} (f : A → B) (l : List A) (i : ℕ) (y : A) (z : B) → i < length l → get_or (map f l) i z ≡ f (get_or l i y)
map_at f [] i y z h = absurd (not-suc-le-zero h)
map_at f (x ∷ l) zero y z h = refl
map_at f (x ∷ l) (suc i) y z h = map_at f l i y z (le_of_suc-le-suc h)

pub row_at : (d n : ℕ) (ws : List ℕ) (i : ℕ) → i < n → get_or (rows_of d n ws) i [] ≡ held d (drop (i * d) ws)
row_at d n ws i h =
    map_at (held d) (elements_of d n ws) i [] [] (rw (elements-length d n ws) h)
    ∙ ap (held d) (element-at d n ws i h)
    ∙ held_cut d (drop (i * d) ws)

-- rows give their elements back
pub rows_back : (d n : ℕ) (ws : List ℕ) → n * d ≤ length ws → map (take d) (rows_of d n ws) ≡ elements_of d n ws
unfolding elements_of
rows_back d zero ws h = refl
rows_back d (suc n) ws h =
    let l : d ≤ length ws = omega arith in
    let r : n * d ≤ length (drop d ws) = rw (length-drop d ws) (omega arith) in
    ap₂ ◌∷◌ (held-take d (take d ws) (length-take-le d ws l)) (rows_back d n (drop d ws) r)
