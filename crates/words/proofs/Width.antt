-- Words in width: one, two together, and those of a list. Assumes nothing.
use Rattle.std.proofs.Common.{◌≡◌, ℕ, zero, suc, ◌+◌, ◌*◌, ◌/◌, ◌^◌, ◌<◌, ◌≤◌, true, ◌&&◌, eqb, List, [], ◌∷◌, length, get_or, drop, ap, le_trans, le_of_suc-le-suc, not-suc-le-zero, mod-lt, add-one, arith, drop_of_length-le, drop-cons, pow_pos, ltb-true, lt-ltb, eq-eqb, eqb-true}
use mathlib.Core.Bool.{and_assoc, and-true}
use native.Mathlib.Nat.{mod-add-div, div-eq_of_lt, pow-le-pow_right}
use lib.Bits.{bit_or, or_lt, or_add_and, and_le_r, and_le_l}
use Rattle.words.specs.Word.{in_width, all_in_width}
use Rattle.words.proofs.Tests.{and_left, and_right, and_both, same_test}

pub in-width-lt : (k w : ℕ) → in_width k w ≡ true → w < 2 ^ k
unfolding in_width
in-width-lt k w e = ltb-true w (2 ^ k) e

pub lt-in-width : (k w : ℕ) → w < 2 ^ k → in_width k w ≡ true
unfolding in_width
lt-in-width k w h = lt-ltb w (2 ^ k) h

-- a word is in width when nothing is left of it after k bits; every word of 64 bits is, where k is 64 or more
pub shift-test : (k w : ℕ) → eqb (w / 2 ^ k) 0 ≡ in_width k w
shift-test k w =
    same_test _ _
    (λ e. lt-in-width k w (omega (arith, mod-add-div w (2 ^ k), mod-lt w (pow_pos k), ap (λ (q : ℕ). 2 ^ k * q) (eqb-true (w / 2 ^ k) 0 e))))
    (λ e. eq-eqb (w / 2 ^ k) 0 (div-eq_of_lt (in-width-lt k w e)))

pub all-bits : (k w : ℕ) → 64 ≤ k → w < 2 ^ 64 → in_width k w ≡ true
all-bits k w h l = lt-in-width k w (le_trans l (pow-le-pow_right (omega arith) h))

-- two words together, bit by bit
pub or-width : (k x y : ℕ) → in_width k (bit_or x y) ≡ (in_width k x && in_width k y)
or-width k x y =
    same_test (in_width k (bit_or x y)) (in_width k x && in_width k y)
    (λ e. (let h = in-width-lt k (bit_or x y) e in
    and_both (in_width k x) (in_width k y) (lt-in-width k x (omega (arith, h, or_add_and x y, and_le_r x y)))
    (lt-in-width k y (omega (arith, h, or_add_and x y, and_le_l x y)))))
    (λ e. lt-in-width k (bit_or x y)
    (or_lt k x y (in-width-lt k x (and_left (in_width k x) (in_width k y) e)) (in-width-lt k y (and_right (in_width k x) (in_width k y) e))))

-- words of a list, one after another: those seen, and the rest
pub none_seen : (k : ℕ) (s : List ℕ) → (in_width k 0 && all_in_width k s) ≡ all_in_width k s
none_seen k s = rw (lt-in-width k 0 (pow_pos k))

pub one_seen : (k seen : ℕ) (s : List ℕ) (i : ℕ) → i < length s →
    (in_width k (bit_or seen (get_or s i 0)) && all_in_width k (drop (i + 1) s)) ≡ (in_width k seen && all_in_width k (drop i s))
unfolding all_in_width
one_seen k seen s i h =
    rw (or-width k seen (get_or s i 0), add-one, drop-cons s i 0 h)
    (and_assoc (in_width k seen) (in_width k (get_or s i 0)) (all_in_width k (drop (suc i) s)))

pub all_seen : (k seen : ℕ) (s : List ℕ) (i : ℕ) → length s ≤ i → (in_width k seen && all_in_width k (drop i s)) ≡ in_width k seen
unfolding all_in_width
all_seen k seen s i h = rw (drop_of_length-le s {i = i} h) (and-true (in_width k seen))

-- each word of a list in width is in width
pub width-at : (k : ℕ) (s : List ℕ) (i : ℕ) → all_in_width k s ≡ true → i < length s → get_or s i 0 < 2 ^ k
unfolding all_in_width
width-at k [] i e h = absurd (not-suc-le-zero h)
width-at k (w ∷ ws) zero e h = in-width-lt k w (and_left (in_width k w) _ e)
width-at k (w ∷ ws) (suc i) e h = width-at k ws i (and_right (in_width k w) _ e) (le_of_suc-le-suc h)
