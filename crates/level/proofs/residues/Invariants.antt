-- `level::residues` meets its contract: after each turn one row more is written. Assumes nothing.
use mathlib.Core.Path.{◌≡◌}
use Prim.Native.Nat.{suc}
use Rattle.polynomial.specs.Rows.{coefs}
use Rattle.level.proofs.ResidueRows.{written}
use Rattle.level.proofs.residues.Given as goal

abbrev pub invariant-loop-i : goal.invariant-loop-i
invariant-loop-i l = l.rest ≡ written l.k l.d (coefs l.d (suc l.t) l.p) (suc l.t) l.m l.hs l.ys l.initial.rest l.i
