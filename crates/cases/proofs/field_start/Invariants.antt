-- Each turn goes past a bar. Assumes nothing.
use Rattle.std.proofs.Common.{◌≡◌, ◌≤◌, length, drop}
use Rattle.cases.specs.Case.{fields_from}
use Rattle.cases.proofs.field_start.Given as goal

abbrev pub invariant-loop : goal.invariant-loop
invariant-loop l = record { within : l.at ≤ length l.line; from : drop l.at l.line ≡ fields_from l.counter l.line }
