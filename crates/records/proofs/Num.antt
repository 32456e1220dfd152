-- Laws of little-endian numbers and of parts of a list of bytes. Assumes nothing.
use mathlib.Core.Path.{◌≡◌, refl, sym, ap, ap₂}
use Prim.Native.Nat.{ℕ, zero, suc, ◌+◌, ◌-◌, ◌*◌, ◌/◌, ◌%◌, ◌^◌, ◌≤◌, ◌<◌}
use native.Mathlib.Nat.{one-le-pow, pow-suc, not-suc-le-zero}
use native.Mathlib.Omega.{arith}
use native.Mathlib.Decide.{dec_le}
use mathlib.Core.List.{List, [], ◌∷◌, ◌++◌}
use lib.ListN.{length, get_or, take, drop, length-take, length-drop, drop_of_length-le, get_or-eq_default}
use lib.Seq.{get_or-take, get_or-drop, take-add, drop-drop, drop-cons, take-length}
use lib.Dec.{lit<}
use Rattle.records.specs.Num.{Bytes, part, le_num, le_at, le_bytes}

pub part_length : (bs : List ℕ) (a n : ℕ) → a + n ≤ length bs → length (part a n bs) ≡ n
unfolding part
part_length bs a n h = simp (length-take, length-drop) (omega arith)

pub part-length-le : (bs : List ℕ) (a n : ℕ) → length (part a n bs) ≤ n
unfolding part
part-length-le bs a n = simp (length-take, length-drop) (omega arith)

pub part-get_or : (bs : List ℕ) (a n i : ℕ) → i < n → get_or (part a n bs) i 0 ≡ get_or bs (a + i) 0
unfolding part
part-get_or bs a n i h = rw (get_or-take, get_or-drop)

pub part-split : (bs : List ℕ) (a m n : ℕ) → part a (m + n) bs ≡ part a m bs ++ part (a + m) n bs
unfolding part
part-split bs a m n = rw (take-add, drop-drop)

pub part-all : (bs : List ℕ) → part 0 (length bs) bs ≡ bs
unfolding part
part-all bs = take-length bs

pub part_bytes : (bs : List ℕ) (a n : ℕ) → Bytes bs → Bytes (part a n bs)
part_bytes bs a n b i =
    elim (dec_le (suc i) n) [
      | yes h ↦ rw (part-get_or bs a n i h) (b (a + i))
      | no h ↦ rw (get_or-eq_default (part a n bs) 0 {n = i} (omega (arith, part-length-le bs a n))) (lit< tt)
    ]

pub le_num-lt : (l : List ℕ) (n : ℕ) → Bytes l → length l ≤ n → le_num l < 256 ^ n
unfolding le_num
le_num-lt [] n b h = one-le-pow n 256 (lit< tt)
le_num-lt (x ∷ l) zero b h = absurd (not-suc-le-zero h)
le_num-lt (x ∷ l) (suc n) b h =
    rw pow-suc (omega (arith, b 0, le_num-lt l n (λ i. b (suc i)) (omega arith)))

pub le_bytes-le_num : (l : List ℕ) → Bytes l → le_bytes (length l) (le_num l) ≡ l
unfolding le_num le_bytes
le_bytes-le_num [] b = refl
le_bytes-le_num (x ∷ l) b =
    let h : x < 256 = b 0 in
    let m : (x + 256 * le_num l) % 256 ≡ x = omega arith in
    let q : (x + 256 * le_num l) / 256 ≡ le_num l = omega arith in
    ap₂ ◌∷◌ m (rw q (le_bytes-le_num l (λ i. b (suc i))))

pub le_num-le_bytes : (w x : ℕ) → x < 256 ^ w → le_num (le_bytes w x) ≡ x
unfolding le_num le_bytes
le_num-le_bytes zero x h = omega arith
le_num-le_bytes (suc w) x h =
    let h' : x < 256 ^ w * 256 = rw pow-suc at h in
    rw (le_num-le_bytes w (x / 256) (omega arith)) (omega arith)

pub length-le_bytes : (w x : ℕ) → length (le_bytes w x) ≡ w
unfolding le_bytes
length-le_bytes zero x = refl
length-le_bytes (suc w) x = ap suc (length-le_bytes w (x / 256))

pub le_at-lt : (w : ℕ) (bs : List ℕ) (a : ℕ) → Bytes bs → le_at w bs a < 256 ^ w
unfolding le_at
le_at-lt w bs a b = le_num-lt (part a w bs) w (part_bytes bs a w b) (part-length-le bs a w)

pub le_bytes-le_at : (w : ℕ) (bs : List ℕ) (a : ℕ) → Bytes bs → a + w ≤ length bs → le_bytes w (le_at w bs a) ≡ part a w bs
unfolding le_at
le_bytes-le_at w bs a b h =
    rw (part_length bs a w h) at (le_bytes-le_num (part a w bs) (part_bytes bs a w b))

-- the number in bytes i - 1, i, .. of a part, by its lowest byte
pub number_step : (bs : List ℕ) (at w i : ℕ) → 0 < i → i ≤ w → at + w ≤ length bs →
    le_num (drop (i - 1) (part at w bs)) ≡ get_or bs (at + (i - 1)) 0 + 256 * le_num (drop i (part at w bs))
unfolding le_num
number_step bs at w i h k f =
    let p : length (part at w bs) ≡ w = part_length bs at w f in
    let l : i - 1 < length (part at w bs) = omega arith in
    let s : suc (i - 1) ≡ i = omega arith in
    rw (drop-cons (part at w bs) (i - 1) 0 l, part-get_or bs at w (i - 1) (omega arith))
    (ap (λ (k : ℕ). get_or bs (at + (i - 1)) 0 + 256 * le_num (drop k (part at w bs))) s)

pub number-none : (bs : List ℕ) (at w : ℕ) → le_num (drop w (part at w bs)) ≡ 0
unfolding le_num
number-none bs at w = rw (drop_of_length-le (part at w bs) {i = w} (part-length-le bs at w))

drop-bytes : (l : List ℕ) (i : ℕ) → Bytes l → Bytes (drop i l)
drop-bytes l i b j = rw get_or-drop (b (i + j))

-- where a byte is left to read of a number of 8 bytes or fewer, what was read has 7 bytes or fewer
pub number_small : (bs : List ℕ) (at w i : ℕ) → Bytes bs → w ≤ 8 → 0 < i → le_num (drop i (part at w bs)) < 256 ^ 7
number_small bs at w i b h k =
    le_num-lt (drop i (part at w bs)) 7 (drop-bytes (part at w bs) i (part_bytes bs at w b))
    (simp length-drop (omega (arith, part-length-le bs at w)))

-- a number in bytes that are split in two: the second part counts 256 for each byte of the first
le_num-append : (l m : List ℕ) → le_num (l ++ m) ≡ le_num l + 256 ^ length l * le_num m
unfolding le_num
le_num-append [] m = omega arith
le_num-append (x ∷ l) m = rw (le_num-append l m, pow-suc) (omega arith)

pub le_at-split : (bs : List ℕ) (a m n : ℕ) → a + m ≤ length bs → le_at (m + n) bs a ≡ le_at m bs a + 256 ^ m * le_at n bs (a + m)
unfolding le_at
le_at-split bs a m n h = rw (part-split bs a m n, le_num-append (part a m bs) (part (a + m) n bs), part_length bs a m h)

-- the first number in the bytes from a position on
pub le_at-from : (w : ℕ) (bs : List ℕ) (a : ℕ) → le_at w (take (length bs - a) (drop a bs)) 0 ≡ le_at w bs a
unfolding le_at part
le_at-from w bs a = rw (sym (length-drop a bs), take-length)

-- the number in one byte, in two and in four, as a sum over the bytes
le_at-one : (bs : List ℕ) (a : ℕ) → a + 1 ≤ length bs → le_at 1 bs a ≡ get_or bs a 0
unfolding le_at part le_num
le_at-one bs a h = rw (drop-cons bs a 0 (omega arith)) (omega arith)

pub le_at-two : (bs : List ℕ) (a : ℕ) → a + 2 ≤ length bs → le_at 2 bs a ≡ get_or bs a 0 + 256 * get_or bs (a + 1) 0
le_at-two bs a h = rw (le_at-split bs a 1 1 (omega arith), le_at-one bs a (omega arith), le_at-one bs (a + 1) (omega arith))

pub le_at-four : (bs : List ℕ) (a : ℕ) → a + 4 ≤ length bs →
    le_at 4 bs a ≡ get_or bs a 0 + 256 * get_or bs (a + 1) 0 + 65536 * get_or bs (a + 2) 0 + 16777216 * get_or bs (a + 3) 0
le_at-four bs a h =
    let e : a + 2 + 1 ≡ a + 3 = omega arith in
    rw (le_at-split bs a 2 2 (omega arith), le_at-two bs a (omega arith), le_at-two bs (a + 2) (omega arith), e) (omega arith)
