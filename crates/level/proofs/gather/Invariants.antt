-- `level::gather` meets its contract: after each turn the shares passed are looked at. Assumes nothing.
use mathlib.Core.Path.{◌≡◌}
use Prim.Native.Nat.{◌-◌}
use Rattle.level.specs.Interpolation.{newton_of, gather_lanes}
use Rattle.level.proofs.gather.Given as goal

abbrev pub invariant-loop-i : goal.invariant-loop-i
invariant-loop-i l = newton_of l.n l.gap l.nodal ≡ gather_lanes l.d l.xs l.t l.trusted (newton_of l.initial.n l.initial.gap l.initial.nodal) l.m (l.m - l.i)
