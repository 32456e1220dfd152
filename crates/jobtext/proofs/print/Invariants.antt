-- The pieces before the next one were written. Assumes nothing.
use Rattle.std.specs.Io.KnownBytes.{Appends}
use Rattle.exporting.specs.Export.{pieces_from}
use Rattle.jobtext.proofs.print.Given as goal

abbrev pub invariant-loop-i : goal.invariant-loop-i
invariant-loop-i g l = Appends (g.W.Write.contents l.initial.to) (g.W.Write.contents l.to) (pieces_from l.bytes 0 l.i)
