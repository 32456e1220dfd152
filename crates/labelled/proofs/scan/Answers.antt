-- `scan`: each line starts where the one before it ended. Assumes nothing.
use Rattle.labelled.specs.Reading.{scanned}
use Rattle.labelled.proofs.scan.Goals as goal

pub returns : goal.returns
unfolding scanned
returns c =
    rw (
      c.scan_line-thickness.ensures.value,
      c.scan_line-axis.ensures.value,
      c.scan_line-axis.ensures.rest,
      c.scan_line-cylinder.ensures.value,
      c.scan_line-cylinder.ensures.rest,
      c.scan_line-sphere.ensures.value,
      c.scan_line-sphere.ensures.rest,
      c.scan_line-number.ensures.value,
      c.scan_line-number.ensures.rest,
    )
