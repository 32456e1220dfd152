-- Words of k bits, paper 01, "Ring, points, shares". Assumes nothing.
use Rattle.std.specs.Prelude.{ℕ, ◌+◌, ◌-◌, ◌*◌, ◌%◌, ◌^◌, Bool, true, ◌&&◌, List, [], ◌∷◌, nat_lt}

-- sums, differences and products "modulo 2^k"
unfoldable pub add_w : ℕ → ℕ → ℕ → ℕ
add_w k a b = (a + b) % 2 ^ k

unfoldable pub neg_w : ℕ → ℕ → ℕ
neg_w k a = (2 ^ k - a % 2 ^ k) % 2 ^ k

unfoldable pub sub_w : ℕ → ℕ → ℕ → ℕ
unfolding neg_w
sub_w k a b = (a + neg_w k b) % 2 ^ k

unfoldable pub mul_w : ℕ → ℕ → ℕ → ℕ
mul_w k a b = (a * b) % 2 ^ k

-- "A word is in width when it is below 2^k."
unfoldable pub in_width : ℕ → ℕ → Bool
in_width k w = nat_lt w (2 ^ k)

unfoldable pub all_in_width : ℕ → List ℕ → Bool
unfolding in_width
all_in_width k [] = true
all_in_width k (w ∷ ws) = in_width k w && all_in_width k ws
