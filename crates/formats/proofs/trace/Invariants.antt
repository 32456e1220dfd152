-- The loop of `trace` ends: each record that is read moves the cursor on. Assumes nothing.
use Rattle.std.proofs.Common.{length, ◌-◌, ◌≤◌}
use Rattle.formats.proofs.trace.Given as goal

abbrev pub invariant-loop-record : goal.invariant-loop-record
invariant-loop-record g l = l.cursor.at ≤ length l.bytes

abbrev pub decreases-loop-record : goal.decreases-loop-record
decreases-loop-record g l = length l.bytes - l.cursor.at
