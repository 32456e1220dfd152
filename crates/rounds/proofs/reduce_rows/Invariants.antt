-- `rounds::reduce_rows` meets its contract: after j turns the first j rows are cut. Assumes nothing.
use mathlib.Core.Path.{◌≡◌}
use mathlib.Core.List.{map}
use lib.Seq.{paste}
use Rattle.galois.specs.Element.{reduce}
use Rattle.rounds.proofs.reduce_rows.Given as goal

abbrev pub invariant-loop-row : goal.invariant-loop-row
invariant-loop-row l = l.row-items ≡ paste l.initial.row-items 0 (map (reduce l.k) l.initial.row-items) l.row-index
