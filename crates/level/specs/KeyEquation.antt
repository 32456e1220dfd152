-- Internal: the key equation as the decoder solves it: by the values of its two pairs of polynomials at the shares,
-- lane i for share i, and the step that takes in one share. What it has to do with codewords is proved in proofs/. Assumes nothing.
use Rattle.std.specs.Prelude.{Bool, List, [], ◌∷◌, ℕ, zero, suc, ◌+◌, ◌-◌, ◌/◌, ◌%◌, ◌^◌, leb, eqb, replicate}
use Rattle.algebra.specs.KeyEquation.{Pivot, none, first, second, pivot}
use Rattle.sliced.specs.Lane.{plus_lanes, times_lanes, spread_lane, support_of}
use Rattle.level.specs.declared.Lead.{Lead}
use Rattle.level.specs.declared.Lead.TheVariants.{Neither, First, Second}
use Rattle.level.specs.declared.Degrees.{Degrees}

-- The key equation's two pairs at the shares: lane i of v0 is a(x) + b(x) y of the first pair at share i, lane i of b0 is b(x), and d0 is
-- the pair's degree; v1, b1 and d1 are those of the second pair.
pub record Pairs : Type 0 where
  pub v0 : List ℕ
  pub b0 : List ℕ
  pub d0 : ℕ
  pub v1 : List ℕ
  pub b1 : List ℕ
  pub d1 : ℕ

-- the code keeps the degrees and the four slices apart
abbrev pub pairs_of : Degrees → List ℕ → List ℕ → List ℕ → List ℕ → Pairs
pairs_of g v0 b0 v1 b1 = record { v0 = v0; b0 = b0; d0 = g.first; v1 = v1; b1 = b1; d1 = g.second }

-- which pair is multiplied, as the code says it
abbrev pub lead_of : Pivot → Lead
lead_of none = Neither
lead_of first = First
lead_of second = Second

-- lane i is zero
unfoldable pub zero_at : ℕ → List ℕ → ℕ → Bool
zero_at d a i = eqb (support_of d a / 2 ^ i % 2) 0

-- c a + e b, and x - z, lane by lane, z being the point of share i
abbrev pub mix_lanes : ℕ → List ℕ → List ℕ → List ℕ → List ℕ → List ℕ
mix_lanes d c a e b = plus_lanes (times_lanes d c a) (times_lanes d e b)

abbrev pub root_lanes : List ℕ → ℕ → List ℕ
root_lanes xs i = plus_lanes xs (spread_lane xs i)

-- the first pair is multiplied, and a multiple of it taken off the second
abbrev pub raised : ℕ → List ℕ → ℕ → Pairs → Pairs
raised d xs i p =
    let w = root_lanes xs i in
    let e₀ = spread_lane p.v0 i in
    let e₁ = spread_lane p.v1 i in
    record {
      v0 = times_lanes d w p.v0;
      b0 = times_lanes d w p.b0;
      d0 = p.d0 + 1;
      v1 = mix_lanes d e₀ p.v1 e₁ p.v0;
      b1 = mix_lanes d e₀ p.b1 e₁ p.b0;
      d1 = p.d1;
    }

abbrev pub swapped : Pairs → Pairs
swapped p = record { v0 = p.v1; b0 = p.b1; d0 = p.d1; v1 = p.v0; b1 = p.b0; d1 = p.d0 }

abbrev pub move_lanes : ℕ → List ℕ → ℕ → Pivot → Pairs → Pairs
move_lanes d xs i none p = p
move_lanes d xs i first p = raised d xs i p
move_lanes d xs i second p = swapped (raised d xs i (swapped p))

unfoldable pub step_lanes : ℕ → List ℕ → ℕ → Pairs → Pairs
step_lanes d xs i p = move_lanes d xs i (pivot (zero_at d p.v0 i) (zero_at d p.v1 i) (leb p.d0 p.d1)) p

-- one in every lane
abbrev pub ones : List ℕ
ones = spread_lane (1 ∷ 0 ∷ 0 ∷ 0 ∷ 0 ∷ 0 ∷ []) 0

-- before any share: the pairs (1, 0) and (0, 1)
abbrev pub start_lanes : List ℕ → ℕ → Pairs
start_lanes ys t = record { v0 = ones; b0 = replicate 6 0; d0 = 0; v1 = ys; b1 = ones; d1 = t }

-- the last n of m shares, the last one first
unfoldable pub run_lanes : ℕ → List ℕ → Pairs → ℕ → ℕ → Pairs
run_lanes d xs p m zero = p
run_lanes d xs p m (suc n) = step_lanes d xs (m - suc n) (run_lanes d xs p m n)
