-- Each turn reads a digit. Assumes nothing.
use Rattle.std.proofs.Common.{◌≡◌, drop}
use Rattle.cases.specs.Case.{number_from}
use Rattle.cases.proofs.number.Given as goal

abbrev pub invariant-loop-c : goal.invariant-loop-c
invariant-loop-c l = number_from l.x (drop l.c-index l.text) ≡ number_from 0 l.text
