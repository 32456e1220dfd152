-- `sliced::times_by` meets its contract: a turn of the loop takes one word more of the first factor. Assumes nothing.
use mathlib.Core.Path.{◌≡◌}
use lib.ListN.{take, drop}
use Rattle.sliced.specs.Lane.{horner}
use Rattle.sliced.proofs.times_by.Given as goal

abbrev pub invariant-loop-i : goal.invariant-loop-i
invariant-loop-i l = l.r ≡ horner l.d (drop l.i (take l.d l.a)) l.b
