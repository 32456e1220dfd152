-- `polynomial::horner` meets its contract: the loop starts at the last row, and a turn of it takes one row more. Assumes nothing.
use mathlib.Core.Path.{◌≡◌}
use lib.ListN.{length, take, drop}
use Rattle.galois.specs.Element.{point, reduce}
use Rattle.polynomial.specs.Polynomial.{value}
use Rattle.polynomial.specs.Rows.{coefs}
use Rattle.polynomial.proofs.horner.Given as goal

abbrev pub invariant-loop-i : goal.invariant-loop-i
invariant-loop-i l = (length l.r ≡ 6) × (reduce 64 (take l.d l.r) ≡ value 64 l.d (drop l.i (coefs l.d l.len l.p)) (point l.d l.x))
