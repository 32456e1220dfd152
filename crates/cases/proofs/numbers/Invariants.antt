-- Each turn reads a number and writes it. Assumes nothing.
use Rattle.std.proofs.Common.{◌-◌, length}
use Rattle.cases.proofs.Split.{Reading}
use Rattle.cases.proofs.numbers.Given as goal

abbrev pub invariant-loop-at : goal.invariant-loop-at
invariant-loop-at l = Reading l.text l.initial.out l.out l.at l.n

abbrev pub decreases-loop-at : goal.decreases-loop-at
decreases-loop-at l = length l.text - l.at
