-- `sliced::slice` meets its contract: a turn of the loop packs one element more. Assumes nothing.
use mathlib.Core.Path.{◌≡◌}
use mathlib.Core.List.{map}
use lib.ListN.{length, take, drop}
use Rattle.sliced.specs.Lane.{lane, packed}
use Rattle.sliced.proofs.slice.Given as goal

abbrev pub invariant-loop-i : goal.invariant-loop-i
invariant-loop-i l = (l.r ≡ packed (map (λ y. lane 6 y l.v) (drop l.i (take l.m l.ys)))) × (length l.r ≡ 6)
