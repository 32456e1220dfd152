-- Internal: elements of the field of 2^d elements, the ring of paper 01 at k = 1, 64 at a time: a slice is six words, and its lane i is the element
-- whose word j is bit i of the slice's word j. Assumes nothing.
use Rattle.std.specs.Prelude.{ℕ, zero, suc, ◌+◌, ◌-◌, ◌*◌, ◌/◌, ◌%◌, ◌^◌, List, [], ◌∷◌, map, take, get_or}
use Rattle.std.specs.Int.Bits.{bit_and, bit_or, bit_xor}
use Rattle.galois.specs.Element.{Element, zip, zero_e, held, lower, point}

-- lane i: bit i of each of the first d words, an element of the field. No lane looks at what stands at d and above.
unfoldable pub lane : ℕ → List ℕ → ℕ → Element
lane d a i = map (λ w. w / 2 ^ i % 2) (take d a)

-- "Sums are taken word by word modulo 2^k", here modulo 2, lane by lane: ones where the two differ
unfoldable pub plus_lanes : List ℕ → List ℕ → List ℕ
unfolding zip
plus_lanes a b = zip bit_xor a b

-- One word of X times a slice: x, from the place below, plus the top word where the modulus has a coefficient m, 0 or 1. (Modulo 2 a difference
-- is a sum.)
abbrev pub down_lane : ℕ → ℕ → ℕ → ℕ
down_lane top x m = bit_xor x (m * top)

abbrev pub shift_lanes : ℕ → List ℕ → List ℕ
shift_lanes d r = zip (down_lane (get_or r (d - 1) 0)) (0 ∷ r) (held d (lower d))

-- one word of a slice plus a multiple: x plus c times y
abbrev pub plus_lane : ℕ → ℕ → ℕ → ℕ
plus_lane c x y = bit_xor x (bit_and c y)

-- The product lane by lane, by Horner's rule in X, as `product` has it. What comes to stand at d and above never comes down, and is cleared.
unfoldable pub horner : ℕ → List ℕ → List ℕ → List ℕ
unfolding zip lower
horner d [] b = zero_e 6
horner d (c ∷ a) b = zip (plus_lane c) (shift_lanes d (horner d a b)) b

unfoldable pub times_lanes : ℕ → List ℕ → List ℕ → List ℕ
unfolding horner
times_lanes d a b = held d (horner d (take d a) b)

-- lane i in each of the 64 lanes: a word is all ones where lane i has a one
unfoldable pub spread_lane : List ℕ → ℕ → List ℕ
spread_lane a i = map (λ w. w / 2 ^ i % 2 * (2 ^ 64 - 1)) a

-- the set of the lanes that are not zero, bit i for lane i
unfoldable pub support_of : ℕ → List ℕ → ℕ
support_of zero a = 0
support_of (suc d) [] = 0
support_of (suc d) (w ∷ a) = bit_or w (support_of d a)

-- the bit x under the word w, whose bits move up one lane
abbrev pub under : ℕ → ℕ → ℕ
under x w = x + 2 * w

-- the slice of a list of elements: lane i is the element at place i, and the lanes after the last are zero
unfoldable pub packed : List Element → List ℕ
unfolding zip
packed [] = zero_e 6
packed (e ∷ es) = zip under e (packed es)

-- "the lowest bits of what remains", or bit v of it: of the words of each of the first m rows of ys
unfoldable pub slice_of : ℕ → ℕ → List (List ℕ) → List ℕ
unfolding lane packed
slice_of v m ys = packed (map (λ y. lane 6 y v) (take m ys))

-- "Holder i has the point whose word j is bit j of i": the points of the first m holders of hs
unfoldable pub points_of : ℕ → List ℕ → List ℕ
unfolding point packed
points_of m hs = packed (map (point 6) (take m hs))
