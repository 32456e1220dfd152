-- `sliced::points` meets its contract: a turn of the loop packs one point more. Assumes nothing.
use mathlib.Core.Path.{◌≡◌}
use mathlib.Core.List.{map}
use lib.ListN.{take, drop}
use Rattle.galois.specs.Element.{point}
use Rattle.sliced.specs.Lane.{packed}
use Rattle.sliced.proofs.points.Given as goal

abbrev pub invariant-loop-i : goal.invariant-loop-i
invariant-loop-i l = l.r ≡ packed (map (point 6) (drop l.i (take l.m l.hs)))
