-- `rounds::clear_rows` meets its contract: after i turns the first i rows are zero. Assumes nothing.
use mathlib.Core.Path.{◌≡◌}
use lib.ListN.{take, replicate}
use Rattle.rounds.proofs.Rows.{zero_row}
use Rattle.rounds.proofs.clear_rows.Given as goal

abbrev pub invariant-loop-row : goal.invariant-loop-row
invariant-loop-row l = take l.row-index l.row-items ≡ replicate l.row-index zero_row
