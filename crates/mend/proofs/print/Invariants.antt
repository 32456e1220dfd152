-- Before each piece the output has the places before it mended, and the pieces before it were written. Assumes nothing.
use Rattle.std.proofs.Common.{◌≡◌}
use Rattle.std.specs.Io.KnownBytes.{Appends}
use Rattle.mending.specs.Progress.{output_at}
use Rattle.mending.specs.Report.{pieces_from}
use Rattle.mend.proofs.print.Given as goal

abbrev pub invariant-loop-i : goal.invariant-loop-i
invariant-loop-i g l = record {
  mended : l.out ≡ output_at l.bytes l.i;
  given : Appends (g.W.Write.contents l.initial.to) (g.W.Write.contents l.to) (pieces_from l.bytes 0 l.i);
}
