-- The loop of `number`: x is the number in the bytes from i on. Assumes nothing.
use mathlib.Core.Path.{◌≡◌}
use lib.ListN.{drop}
use Rattle.records.specs.Num.{part, le_num}
use Rattle.records.proofs.number.Given as goal

abbrev pub invariant-loop-i : goal.invariant-loop-i
invariant-loop-i l = l.x ≡ le_num (drop l.i (part l.at l.w l.bytes))
