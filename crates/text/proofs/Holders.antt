-- The holders of a set, taken off from the lowest on. Assumes nothing.
use mathlib.Core.Path.{◌≡◌, refl, sym, ap, ◌∙◌}
use mathlib.Core.List.{◌∷◌}
use Prim.Native.Nat.{ℕ, zero, suc, ◌+◌, ◌-◌, ◌/◌, ◌%◌, ◌^◌, ◌≤◌, ◌<◌}
use native.Mathlib.Nat.{not-suc-le-zero, le_of_suc-le-suc, div-one, div-div-eq-div-mul, pow-succ', mod-lt}
use native.Mathlib.Numerals.{add-one}
use native.Mathlib.Omega.{arith}
use borrow.Author.Tests.{eq-eqb}
use lib.Dec.{lit<}
use lib.Pow.{shr_lt}
use lib.Count.{count_trailing_zeros, under}
use Rattle.text.specs.Text.{holders_from}

-- z digits 0 and then a 1: the holder there comes first, and the rest stand for the holders above it
abbrev First : ℕ → ℕ → ℕ → ℕ → Type 0
First n i set z =
    (z < n)
    × (set / 2 ^ z / 2 < 2 ^ (n - suc z))
    × (holders_from (suc i) n set ≡ suc (i + z) ∷ holders_from (suc (suc (i + z))) (n - suc z) (set / 2 ^ z / 2))

first-here : (n i set : ℕ) → set < 2 ^ suc n → set % 2 ≡ 1 → First (suc n) i set 0
unfolding holders_from
first-here n i set h o =
    let e : suc n - 1 ≡ n = omega arith in
    let f : i + 0 ≡ i = omega arith in
    (omega arith, rw (div-one, e) (shr_lt n 1 (rw add-one h)), rw (div-one, e, f, eq-eqb (set % 2) 1 o))

first_above : (n i set z : ℕ) → set % 2 ≡ 0 → First n (suc i) (set / 2) z → First (suc n) i set (suc z)
unfolding holders_from
first_above n i set z o r =
    let e : suc n - suc (suc z) ≡ n - suc z = omega arith in
    let f : i + suc z ≡ suc i + z = omega arith in
    let g : set / 2 ^ suc z ≡ set / 2 / 2 ^ z = sym (div-div-eq-div-mul set 2 (2 ^ z) ∙ ap (λ (m : ℕ). set / m) (sym (pow-succ' 2 z))) in
    (omega arith, rw (e, g) r.1, rw (e, f, g, o) r.2)

first : (m n i set : ℕ) → n ≤ m → 0 < set → set < 2 ^ n → First n i set (count_trailing_zeros m set)
unfolding count_trailing_zeros
first m zero i set q p h = absurd (omega arith)
first zero (suc n) i set q p h = absurd (not-suc-le-zero q)
first (suc m) (suc n) i set q p h =
    go (set % 2) refl (mod-lt set (lit< tt)) (λ l. first m n (suc i) (set / 2) (le_of_suc-le-suc q) l (shr_lt n 1 (rw add-one h)))
  where
    go : (b : ℕ) → set % 2 ≡ b → b < 2 → (0 < set / 2 → First n (suc i) (set / 2) (count_trailing_zeros m (set / 2)))
        → First (suc n) i set (under b (count_trailing_zeros m (set / 2)))
    go zero e l r = first_above n i set (count_trailing_zeros m (set / 2)) e (r (omega arith))
    go (suc zero) e l r = first-here n i set h e
    go (suc (suc b)) e l r = absurd (omega arith)

-- the set that is left once i bits are off: its first holder, and what is left of it then
pub next-room : (i w : ℕ) → i ≤ 64 → 0 < w → w < 2 ^ (64 - i) → i + count_trailing_zeros 64 w + 1 ≤ 64
next-room i w q p h = let f = first 64 (64 - i) i w (omega arith) p h in omega (arith, f.0)

pub next-lt : (i w : ℕ) → i ≤ 64 → 0 < w → w < 2 ^ (64 - i) → w / 2 ^ count_trailing_zeros 64 w / 2 < 2 ^ (64 - (i + count_trailing_zeros 64 w + 1))
next-lt i w q p h =
    let e : 64 - (i + count_trailing_zeros 64 w + 1) ≡ 64 - i - suc (count_trailing_zeros 64 w) = omega arith in
    rw e (first 64 (64 - i) i w (omega arith) p h).1

pub next-holder : (i w : ℕ) → i ≤ 64 → 0 < w → w < 2 ^ (64 - i)
    → holders_from (i + 1) (64 - i) w
    ≡ (i + count_trailing_zeros 64 w + 1) ∷ holders_from (i + count_trailing_zeros 64 w + 1 + 1) (64 - (i + count_trailing_zeros 64 w + 1)) (w / 2 ^ count_trailing_zeros 64 w / 2)
next-holder i w q p h =
    let e : 64 - (i + count_trailing_zeros 64 w + 1) ≡ 64 - i - suc (count_trailing_zeros 64 w) = omega arith in
    rw (e, add-one i, add-one (i + count_trailing_zeros 64 w), add-one (suc (i + count_trailing_zeros 64 w))) (first 64 (64 - i) i w (omega arith) p h).2
