-- What the operations on slices do in each lane: the sum and the product are the field's, a lane is spread, the lanes that are not zero are
-- found, and elements come to stand in lanes. Assumes nothing.
use mathlib.Core.Path.{◌≡◌, refl, sym, ap, ap₂, ◌∙◌}
use mathlib.Core.Bool.{Bool, true, false, cond, ◌&&◌}
use mathlib.Core.List.{List, [], ◌∷◌, map}
use Prim.Native.Nat.{ℕ, zero, suc, ◌-◌, ◌*◌, ◌/◌, ◌%◌, ◌^◌, ◌≤◌, ◌<◌, max}
use native.Mathlib.Nat.{le_refl, le_of_eq, le_of_suc-le-suc, not-suc-le-zero}
use native.Mathlib.Omega.{arith}
use lib.Bits.{bit_xor}
use lib.Dec.{eqb}
use lib.ListN.{length, get_or, take, length-map, length-take, get_or-map}
use lib.Seq.{length-take-le, take-take, get_or-take}
use borrow.Author.Tests.{eqb-true}
use Rattle.words.specs.Word.{add_w, in_width, all_in_width}
use Rattle.words.proofs.Tests.{and_left, and_right, and_both}
use Rattle.words.proofs.Width.{in-width-lt, lt-in-width, width-at}
use Rattle.algebra.specs.Shares.{All}
use Rattle.galois.specs.Element.{Element, zip, sum, product, lower, point, same, zero_e, held, down_w, plus_w, times_x}
use Rattle.galois.specs.Field.{passes}
use Rattle.galois.proofs.Table.{passes_at, length-lower}
use Rattle.galois.proofs.Zip.{zip-take}
use Rattle.galois.proofs.Held.{to-six, held_same, held-take, held-length}
use Rattle.galois.proofs.Horner.{shift-take, turn-length}
use Rattle.galois.proofs.Lists.{length-zip, width-reduce}
use Rattle.galois.proofs.Points.{length-point, reduce-point}
use Rattle.sliced.specs.Lane.{lane, plus_lanes, down_lane, plus_lane, shift_lanes, horner, times_lanes}
use Rattle.sliced.specs.Lane.{spread_lane, support_of, under, packed, slice_of, points_of}
use Rattle.sliced.proofs.Bits.{bit, zero_bit, bit-cases, xor-bit, or-bit, down-bit, plus-bit}
use Rattle.sliced.proofs.Packed.{SixBits, zip-fits, length-packed, packed-at}

map-take : (f : ℕ → ℕ) (n : ℕ) (a : List ℕ) → map f (take n a) ≡ take n (map f a)
map-take f zero a = refl
map-take f (suc n) [] = refl
map-take f (suc n) (w ∷ a) = ap (λ (l : List ℕ). f w ∷ l) (map-take f n a)

-- an operation word by word whose bits are those of another
zip-bits : (f g : ℕ → ℕ → ℕ) (i : ℕ) → ((x y : ℕ) → bit i (f x y) ≡ g (bit i x) (bit i y)) → (a b : List ℕ)
    → map (bit i) (zip f a b) ≡ zip g (map (bit i) a) (map (bit i) b)
unfolding zip
zip-bits f g i e [] b = refl
zip-bits f g i e (x ∷ a) [] = refl
zip-bits f g i e (x ∷ a) (y ∷ b) = ap₂ ◌∷◌ (e x y) (zip-bits f g i e a b)

pub length-lane : (d : ℕ) (a : List ℕ) (i : ℕ) → d ≤ length a → length (lane d a i) ≡ d
unfolding lane
length-lane d a i h = length-map (take d a) (bit i) ∙ length-take-le d a h

bits-width : (i : ℕ) (a : List ℕ) → all_in_width 1 (map (bit i) a) ≡ true
unfolding all_in_width
bits-width i [] = refl
bits-width i (w ∷ a) = and_both (in_width 1 (bit i w)) (all_in_width 1 (map (bit i) a)) (lt-in-width 1 (bit i w) (omega arith)) (bits-width i a)

pub lane-bits : (d : ℕ) (a : List ℕ) (i : ℕ) → all_in_width 1 (lane d a i) ≡ true
unfolding lane
lane-bits d a i = bits-width i (take d a)

pub length-plus : (a b : List ℕ) → length a ≡ length b → length (plus_lanes a b) ≡ length b
unfolding plus_lanes
length-plus a b h = length-zip bit_xor a b h

pub lane-plus : (d : ℕ) (a b : List ℕ) (i : ℕ) → lane d (plus_lanes a b) i ≡ sum 1 (lane d a i) (lane d b i)
unfolding lane plus_lanes
lane-plus d a b i = ap (map (bit i)) (zip-take bit_xor d a b) ∙ zip-bits bit_xor (add_w 1) i (λ x y. xor-bit x y i) (take d a) (take d b)

-- X times an element, in each lane: the modulus's coefficients are the same in every lane
down-bits : (top i : ℕ) (a l : List ℕ) → all_in_width 1 l ≡ true
    → map (bit i) (zip (down_lane top) a l) ≡ zip (down_w 1 (bit i top)) (map (bit i) a) l
unfolding zip all_in_width
down-bits top i [] l h = refl
down-bits top i (x ∷ a) [] h = refl
down-bits top i (x ∷ a) (m ∷ l) h =
    ap₂ ◌∷◌ (down-bit top x m i (le_of_suc-le-suc (in-width-lt 1 m (and_left (in_width 1 m) (all_in_width 1 l) h))))
    (down-bits top i a l (and_right (in_width 1 m) (all_in_width 1 l) h))

-- the moduli's coefficients are 0 and 1
low-width : (d : ℕ) → d ≤ 6 → all_in_width 1 (held d (lower d)) ≡ true
unfolding lower all_in_width
low-width = to-six (λ n. all_in_width 1 (held n (lower n)) ≡ true) refl refl refl refl refl refl refl

pub low_bit : (d : ℕ) (low : List ℕ) → low ≡ held d (lower d) → d ≤ 6 → (j : ℕ) → j < length low → get_or low j 0 ≤ 1
low_bit d low e h j l = le_of_suc-le-suc (width-at 1 low j (ap (all_in_width 1) e ∙ low-width d h) l)

shift-bits : (d : ℕ) (r : List ℕ) (i : ℕ) → 2 ≤ d → d ≤ 6 → length r ≡ 6
    → map (bit i) (take d (shift_lanes d r)) ≡ times_x 1 (lower d) (map (bit i) (take d r))
shift-bits d r i h₂ h₆ hr =
    let q = map (bit i) r in
    let low = held d (lower d) in
    let n : length q ≡ 6 = length-map r (bit i) ∙ hr in
    let t : bit i (get_or r (d - 1) 0) ≡ get_or q (d - 1) 0 =
    sym (ap (get_or q (d - 1)) (sym (zero_bit i)) ∙ get_or-map (bit i) r (d - 1) 0) in
    map-take (bit i) d (shift_lanes d r)
    ∙ ap (take d) (down-bits (get_or r (d - 1) 0) i (0 ∷ r) low (low-width d h₆)
    ∙ ap₂ (λ (x y : ℕ). zip (down_w 1 x) (y ∷ q) low) t (zero_bit i))
    ∙ shift-take 1 d (lower d) q (length-lower d h₂ h₆) (omega arith) (omega arith)
    ∙ ap (times_x 1 (lower d)) (sym (map-take (bit i) d r))

horner-length : (d : ℕ) (a b : List ℕ) → 2 ≤ d → d ≤ 6 → length b ≡ 6 → length (horner d a b) ≡ 6
unfolding horner
horner-length d [] b h₂ h₆ hb = refl
horner-length d (c ∷ a) b h₂ h₆ hb =
    let r = horner d a b in
    turn-length (plus_lane c) (down_lane (get_or r (d - 1) 0)) r (held d (lower d)) b (horner-length d a b h₂ h₆ hb)
    (held-length d (lower d) (length-lower d h₂ h₆) h₆) hb

zeros-take : (d : ℕ) → d ≤ 6 → take d (zero_e 6) ≡ zero_e d
zeros-take = to-six (λ n. take n (zero_e 6) ≡ zero_e n) refl refl refl refl refl refl refl

horner-bits : (d : ℕ) (a b : List ℕ) (i : ℕ) → 2 ≤ d → d ≤ 6 → length b ≡ 6
    → map (bit i) (take d (horner d a b)) ≡ product 1 (lower d) (map (bit i) a) (map (bit i) (take d b))
unfolding horner product
horner-bits d [] b i h₂ h₆ hb =
    rw (length-lower d h₂ h₆, map-take (bit i) d (zero_e 6), zero_bit i) (zeros-take d h₆)
horner-bits d (c ∷ a) b i h₂ h₆ hb =
    let r = horner d a b in
    let s = shift_lanes d r in
    ap (map (bit i)) (zip-take (plus_lane c) d s b)
    ∙ zip-bits (plus_lane c) (plus_w 1 (bit i c)) i (λ x y. plus-bit c x y i) (take d s) (take d b)
    ∙ ap (λ (x : List ℕ). zip (plus_w 1 (bit i c)) x (map (bit i) (take d b)))
    (shift-bits d r i h₂ h₆ (horner-length d a b h₂ h₆ hb) ∙ ap (times_x 1 (lower d)) (horner-bits d a b i h₂ h₆ hb))

-- the product is its first d words and zeros
times-held : (d : ℕ) (a b : List ℕ) → 2 ≤ d → d ≤ 6 → length b ≡ 6
    → (times_lanes d a b ≡ held d (take d (horner d (take d a) b))) × (length (take d (horner d (take d a) b)) ≡ d)
unfolding times_lanes
times-held d a b h₂ h₆ hb =
    let r = horner d (take d a) b in
    let n : length (take d r) ≡ d = length-take-le d r (omega (arith, horner-length d (take d a) b h₂ h₆ hb)) in
    (held_same d r (take d r) refl n, n)

pub length-times : (d : ℕ) (a b : List ℕ) → 2 ≤ d → d ≤ 6 → length b ≡ 6 → length (times_lanes d a b) ≡ 6
length-times d a b h₂ h₆ hb =
    let t = times-held d a b h₂ h₆ hb in
    ap length t.0 ∙ held-length d (take d (horner d (take d a) b)) t.1 h₆

pub lane_times : (d : ℕ) (a b : List ℕ) (i : ℕ) → 2 ≤ d → d ≤ 6 → length b ≡ 6
    → lane d (times_lanes d a b) i ≡ product 1 (lower d) (lane d a i) (lane d b i)
unfolding lane
lane_times d a b i h₂ h₆ hb =
    let t = times-held d a b h₂ h₆ hb in
    ap (map (bit i)) (ap (take d) t.0 ∙ held-take d (take d (horner d (take d a) b)) t.1)
    ∙ horner-bits d (take d a) b i h₂ h₆ hb

-- all ones or none
spread-bit : (b j : ℕ) → b ≤ 1 → j < 64 → bit j (b * (2 ^ 64 - 1)) ≡ b
unfolding passes
spread-bit b j h l =
    bit-cases (λ x. bit j (x * (2 ^ 64 - 1)) ≡ x) (zero_bit j)
    (eqb-true (bit j (1 * (2 ^ 64 - 1))) 1 (passes_at (λ n. eqb (bit n (1 * (2 ^ 64 - 1))) 1) 0 64 refl j (omega arith) (omega arith))) b h

spread-bits : (i j : ℕ) → j < 64 → (a : List ℕ) → map (bit j) (map (λ w. bit i w * (2 ^ 64 - 1)) a) ≡ map (bit i) a
spread-bits i j h [] = refl
spread-bits i j h (w ∷ a) = ap₂ ◌∷◌ (spread-bit (bit i w) j (omega arith) h) (spread-bits i j h a)

pub length-spread : (a : List ℕ) (i : ℕ) → length (spread_lane a i) ≡ length a
unfolding spread_lane
length-spread a i = length-map a (λ w. bit i w * (2 ^ 64 - 1))

pub lane-spread : (d : ℕ) (a : List ℕ) (i j : ℕ) → j < 64 → lane d (spread_lane a i) j ≡ lane d a i
unfolding lane spread_lane
lane-spread d a i j h = ap (map (bit j)) (sym (map-take (λ w. bit i w * (2 ^ 64 - 1)) d a)) ∙ spread-bits i j h (take d a)

pub support-lane : (d : ℕ) (a : List ℕ) (i : ℕ) → d ≤ length a → support_of d a / 2 ^ i % 2 ≡ cond (same (lane d a i) (zero_e d)) 0 1
unfolding support_of lane same
support-lane zero a i h = zero_bit i
support-lane (suc d) [] i h = absurd (not-suc-le-zero h)
support-lane (suc d) (w ∷ a) i h =
    or-bit w (support_of d a) i
    ∙ ap (max (bit i w)) (support-lane d a i (le_of_suc-le-suc h))
    ∙ bit-cases (λ x. max x (cond b 0 1) ≡ cond (eqb x 0 && b) 0 1) (no b) (yes b) (bit i w) (omega arith)
  where
    b : Bool
    b = same (map (bit i) (take d a)) (zero_e d)

    no : (b : Bool) → max 0 (cond b 0 1) ≡ cond (eqb 0 0 && b) 0 1
    no true = refl
    no false = refl

    yes : (b : Bool) → max 1 (cond b 0 1) ≡ cond (eqb 1 0 && b) 0 1
    yes true = refl
    yes false = refl

-- a slice of six words has six of each row
lanes-six : (v : ℕ) (ys : List (List ℕ)) → 6 ≤ length (packed (map (λ y. lane 6 y v) ys)) → All SixBits (map (λ y. lane 6 y v) ys)
unfolding packed lane
lanes-six v [] h = tt
lanes-six v (y ∷ ys) h =
    let n = zip-fits under (lane 6 y v) (packed (map (λ y. lane 6 y v) ys)) 6 h in
    let l : 6 ≤ length y = omega (arith, n.0, length-map (take 6 y) (bit v), length-take 6 y) in
    ((length-lane 6 y v l, lane-bits 6 y v), lanes-six v ys n.1)

pub point-bits : (d h : ℕ) → all_in_width 1 (point d h) ≡ true
point-bits d h = ap (all_in_width 1) (sym (reduce-point 1 (le_refl 1) d h)) ∙ width-reduce 1 (point d h)

points-six : (hs : List ℕ) → All SixBits (map (point 6) hs)
points-six [] = tt
points-six (h ∷ hs) = ((length-point 6 h, point-bits 6 h), points-six hs)

pub length-points : (m : ℕ) (hs : List ℕ) → length (points_of m hs) ≡ 6
unfolding points_of
length-points m hs = length-packed (map (point 6) (take m hs)) (points-six (take m hs))

pub lane-slice : (d v m : ℕ) (ys : List (List ℕ)) (i : ℕ) → d ≤ 6 → m ≤ length ys → length (slice_of v m ys) ≡ 6 → i < m
    → lane d (slice_of v m ys) i ≡ map (λ w. w / 2 ^ v % 2) (take d (get_or ys i []))
unfolding lane slice_of
lane-slice d v m ys i h₆ hm a h =
    let f : List ℕ → Element = λ y. lane 6 y v in
    let n : length (map f (take m ys)) ≡ m = length-map (take m ys) f ∙ length-take-le m ys hm in
    let y = get_or ys i [] in
    map-take (bit i) d (packed (map f (take m ys)))
    ∙ ap (take d)
    (packed-at (map f (take m ys)) (lanes-six v (take m ys) (le_of_eq (sym a))) i [] (omega arith)
    ∙ get_or-map f (take m ys) i []
    ∙ ap f (get_or-take m ys i [] h))
    ∙ sym (map-take (bit v) d (take 6 y))
    ∙ ap (map (bit v)) (take-take d 6 y h₆)

point-take : (d n i : ℕ) → d ≤ n → take d (point n i) ≡ point d i
unfolding point
point-take zero n i h = refl
point-take (suc d) zero i h = absurd (not-suc-le-zero h)
point-take (suc d) (suc n) i h = ap (λ (l : Element). i % 2 ∷ l) (point-take d n (i / 2) (le_of_suc-le-suc h))

pub lane-points : (d m : ℕ) (hs : List ℕ) (i : ℕ) → d ≤ 6 → m ≤ length hs → i < m → lane d (points_of m hs) i ≡ point d (get_or hs i 0)
unfolding lane points_of
lane-points d m hs i h₆ hm h =
    let es = map (point 6) (take m hs) in
    let n : length es ≡ m = length-map (take m hs) (point 6) ∙ length-take-le m hs hm in
    map-take (bit i) d (packed es)
    ∙ ap (take d)
    (packed-at es (points-six (take m hs)) i (point 6 0) (omega arith)
    ∙ get_or-map (point 6) (take m hs) i 0
    ∙ ap (point 6) (get_or-take m hs i 0 h))
    ∙ point-take d 6 (get_or hs i 0) h₆
