-- `level::holder_set` meets its contract: after each turn it is the set of the places passed. Assumes nothing.
use mathlib.Core.Path.{◌≡◌}
use Prim.Native.Nat.{◌-◌}
use Rattle.level.specs.Shares.{holder_set}
use Rattle.level.proofs.holder_set.Given as goal

abbrev pub invariant-loop-i : goal.invariant-loop-i
invariant-loop-i l = l.w ≡ holder_set l.lanes l.hs l.i (l.m - l.i)
