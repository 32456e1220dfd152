-- Internal: interpolation through trusted shares as the decoder does it, without division, by values at the shares'
-- points. Assumes nothing.
use Rattle.std.specs.Prelude.{cond, not, ◌&&◌, List, ℕ, zero, suc, ◌+◌, ◌-◌, ◌/◌, ◌%◌, ◌^◌, leb, eqb}
use Rattle.sliced.specs.Lane.{times_lanes, spread_lane}
use Rattle.level.specs.KeyEquation.{ones, mix_lanes, root_lanes}

-- Newton's interpolation through n shares, without division: lane i of gap is q(x) - y at share i, times something that is not zero and is
-- the same for all shares, and lane i of nodal is the product of the x - z over the points z of the n shares.
pub record Newton : Type 0 where
  pub gap : List ℕ
  pub nodal : List ℕ
  pub n : ℕ

-- the code keeps the number and the two slices apart
abbrev pub newton_of : ℕ → List ℕ → List ℕ → Newton
newton_of n gap nodal = record { gap = gap; nodal = nodal; n = n }

-- one share more: the gap of each share is made the same multiple, and that of the nodal polynomial taken off
abbrev pub taken : ℕ → List ℕ → ℕ → Newton → Newton
taken d xs i s =
    record {
      gap = mix_lanes d (spread_lane s.nodal i) s.gap (spread_lane s.gap i) s.nodal;
      nodal = times_lanes d (root_lanes xs i) s.nodal;
      n = s.n + 1;
    }

-- a share is taken in if it is trusted, unless t + 1 are in
unfoldable pub trust_lanes : ℕ → List ℕ → ℕ → ℕ → ℕ → Newton → Newton
trust_lanes d xs t w i s = cond (leb s.n t && not (eqb (w / 2 ^ i % 2) 0)) (taken d xs i s) s

-- before any share: the polynomial is zero
abbrev pub start_newton : List ℕ → Newton
start_newton ys = newton_of 0 ys ones

-- the last n of m shares, the last one first
unfoldable pub gather_lanes : ℕ → List ℕ → ℕ → ℕ → Newton → ℕ → ℕ → Newton
gather_lanes d xs t w s m zero = s
gather_lanes d xs t w s m (suc n) = trust_lanes d xs t w (m - suc n) (gather_lanes d xs t w s m n)
