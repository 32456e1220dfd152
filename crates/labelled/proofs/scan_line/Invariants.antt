-- `scan_line`: at every turn the bytes that are left give what the line gives. Assumes nothing.
use Rattle.std.proofs.Common.{◌≡◌, drop}
use Rattle.labelled.specs.Reading.{number_from, nothing, after_line}
use Rattle.labelled.proofs.scan_line.Given as goal

abbrev pub invariant-loop-i : goal.invariant-loop-i
invariant-loop-i l = (number_from l.value (drop l.i l.text) ≡ number_from nothing l.text) × (after_line (drop l.i l.text) ≡ after_line l.text)
