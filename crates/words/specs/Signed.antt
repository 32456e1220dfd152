-- The signed reading of words, paper 01, "Ring, points, shares". Assumes nothing.
use Rattle.std.specs.Prelude.{ℕ, ◌+◌, ◌-◌, ◌^◌, true, false, cond, List, [], ◌∷◌, ℤ, pos, ◌+ℤ◌, ◌-ℤ◌, neg_ℤ, nat_lt}
use Rattle.words.specs.declared.Signed.{Signed}

-- "a word w below 2^(k−1) means w; otherwise w − 2^k"
unfoldable pub meaning : ℕ → ℕ → ℤ
meaning k w = cond (nat_lt w (2 ^ (k - 1))) (pos w) (pos w -ℤ pos (2 ^ k))

-- the same as sign and magnitude
unfoldable pub signed_of : ℕ → ℕ → Signed
signed_of k w =
    cond (nat_lt w (2 ^ (k - 1))) (record { negative = false; magnitude = w }) (record { negative = true; magnitude = 2 ^ k - w })

-- the integer that a sign and a magnitude stand for
unfoldable pub integer : Signed → ℤ
integer s = cond s.negative (neg_ℤ (pos s.magnitude)) (pos s.magnitude)

-- the same as a number of 64 bits in two's complement, in which C has it
unfoldable pub twos_complement : Signed → ℕ
twos_complement s = cond s.negative (2 ^ 64 - s.magnitude) s.magnitude

-- the integer that a number of 64 bits in two's complement stands for
unfoldable pub int64 : ℕ → ℤ
int64 x = cond (nat_lt x (2 ^ 63)) (pos x) (pos x -ℤ pos (2 ^ 64))

-- "the sum of the jobs' signed values", and the sum of the words
unfoldable pub sum_of_meanings : ℕ → List ℕ → ℤ
unfolding meaning
sum_of_meanings k [] = pos 0
sum_of_meanings k (w ∷ ws) = meaning k w +ℤ sum_of_meanings k ws

unfoldable pub sum_of : List ℕ → ℕ
sum_of [] = 0
sum_of (w ∷ ws) = w + sum_of ws
