-- `rounds::interpolate` meets its contract: after each turn the rows go through the shares passed. Assumes nothing.
use Prim.Native.Nat.{◌≤◌}
use Rattle.polynomial.specs.Rows.{Shaped}
use Rattle.rounds.proofs.Interpolated.{Passed}
use Rattle.rounds.proofs.interpolate.Given as goal

abbrev pub invariant-loop-i : goal.invariant-loop-i
invariant-loop-i l = Shaped l.q × Shaped l.nodal × ((h : 1 ≤ l.k) (dl : 2 ≤ l.d) (dh : l.d ≤ 6) → Passed l.k l.d h dl dh l.t l.hs l.ys l.i l.q l.nodal)
