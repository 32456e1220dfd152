-- `polynomial::subtract_by` meets its contract: a turn of the loop writes one row more. Assumes nothing.
use mathlib.Core.Path.{◌≡◌}
use lib.ListN.{take}
use lib.Seq.{paste}
use Rattle.polynomial.specs.Rows.{subtract_rows}
use Rattle.polynomial.proofs.subtract_by.Given as goal

abbrev pub invariant-loop-i : goal.invariant-loop-i
invariant-loop-i l = (l.p ≡ paste l.initial.p 0 (subtract_rows 64 l.d l.len l.initial.p (take l.d l.e) l.q) l.i)
