-- `put_fixed`: a label, a number with two decimals and the end of the line. Assumes nothing.
use Rattle.decimal.proofs.Puts.{puts-more}
use Rattle.labelled.proofs.put_fixed.Goals as goal

pub returns : goal.returns
returns c = puts-more (puts-more c.bytes.ensures c.hundredths.ensures) c.put_line_end.ensures
