-- The printer is one of the input at every turn, and the pieces before its own were written; a turn leaves fewer pieces. Assumes nothing.
use Rattle.std.proofs.Common.{◌≡◌, ◌-◌}
use Rattle.std.specs.Io.KnownBytes.{Appends}
use Rattle.listing.specs.Pieces.{pieces_in, pieces_from}
use Rattle.open.proofs.print.Given as goal

abbrev pub invariant-loop-size : goal.invariant-loop-size
invariant-loop-size g l = record {
  own : l.printer.bytes.now ≡ l.bytes;
  given : Appends (g.W.Write.contents l.initial.to) (g.W.Write.contents l.to) (pieces_from l.bytes 0 l.printer.next);
}

abbrev pub decreases-loop-size : goal.decreases-loop-size
decreases-loop-size g l = pieces_in l.bytes - l.printer.next
