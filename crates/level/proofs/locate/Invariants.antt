-- `level::locate` meets its contract: after each turn the pairs are those of the shares passed. Assumes nothing.
use Rattle.level.specs.KeyEquation.{pairs_of}
use Rattle.level.proofs.Turns.{Ran}
use Rattle.level.proofs.locate.Given as goal

abbrev pub invariant-loop-i : goal.invariant-loop-i
invariant-loop-i l = Ran l.d l.xs l.t l.m (pairs_of l.initial.g l.initial.v0 l.initial.b0 l.initial.v1 l.initial.b1) l.i (pairs_of l.g l.v0 l.b0 l.v1 l.b1)
