-- Arrays of 64 rows of six words: how many rows, how long each; and that an array owned by value is one. Assumes nothing.
use mathlib.Core.Path.{◌≡◌, refl, sym, ◌∙◌, ap, ap₂}
use mathlib.Core.List.{List, [], ◌∷◌, map}
use Prim.Native.Nat.{ℕ, zero, suc, ◌<◌}
use native.Mathlib.Nat.{suc_inj, suc-ne-zero}
use lib.ListN.{length, get_or, replicate, length-map, length-replicate}
use mir.Syntax.{w64}
use mir.Val.{Val}
use denote.Array.{Array, each}
use denote.Shadow.{shadow}
use denote.Plain.{UInt}
use denote.Laws.{Is}
use borrow.Kind.Array.{good_length, e_int}
use Rattle.algebra.specs.Shares.{All}
use Rattle.algebra.proofs.Shares.{all-at}
use Rattle.polynomial.specs.Rows.{Rows, Shaped}

rows-length : (n : ℕ) (p : Rows) → map length p ≡ replicate n 6 → length p ≡ n
rows-length n p h = sym (length-map p length) ∙ ap length h ∙ length-replicate n 6

all-rows : (n : ℕ) (p : Rows) → All (λ r. length r ≡ 6) p → length p ≡ n → map length p ≡ replicate n 6
all-rows zero [] a l = refl
all-rows zero (r ∷ p) a l = absurd (suc-ne-zero (length p) l)
all-rows (suc n) [] a l = absurd (suc-ne-zero n (sym l))
all-rows (suc n) (r ∷ p) (e, a) l = ap₂ ◌∷◌ e (all-rows n p a (suc_inj l))

rows_all : (n : ℕ) (p : Rows) → map length p ≡ replicate n 6 → All (λ r. length r ≡ 6) p
rows_all n [] h = tt
rows_all zero (r ∷ p) h = absurd (suc-ne-zero (length (map length p)) (ap length h))
rows_all (suc n) (r ∷ p) h = (ap (λ (l : List ℕ). get_or l 0 0) h, rows_all n p (ap (λ (l : List ℕ). lib.ListN.drop 1 l) h))

pub shaped-length : (p : Rows) → Shaped p → length p ≡ 64
unfolding Shaped
shaped-length p h = rows-length 64 p h

pub shaped-all : (p : Rows) → Shaped p → All (λ r. length r ≡ 6) p
unfolding Shaped
shaped-all p h = rows_all 64 p h

pub shaped_row : (p : Rows) (i : ℕ) → Shaped p → i < 64 → length (get_or p i []) ≡ 6
shaped_row p i h l = all-at (λ r. length r ≡ 6) p i [] (shaped-all p h) (rw (shaped-length p h) l)

pub shaped-by : (p : Rows) → All (λ r. length r ≡ 6) p → length p ≡ 64 → Shaped p
unfolding Shaped
shaped-by p a l = all-rows 64 p a l

-- `good` is the parameter's part of `c.good`
each-six : (xs : Rows) (us : List Val) → shadow (each (List ℕ) (Array (UInt w64) 6).own_val xs us) → All (λ r. length r ≡ 6) xs
each-six [] us p = tt
each-six (x ∷ xs) [] p = absurd p
each-six (x ∷ xs) (u ∷ us) p = (good_length (e_int w64) 6 x (u ∷ []) p.0, each-six xs us p.1)

pub shaped-good : (xs : Rows) (vs : List Val) → length xs ≡ 64 → Is (Array (Array (UInt w64) 6) 64) xs vs → Shaped xs
shaped-good xs vs l p = shaped-by xs (each-six xs p.0 p.1.1) l
