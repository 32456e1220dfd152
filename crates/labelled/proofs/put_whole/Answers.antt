-- `put_whole`: a label, a whole number and the end of the line. Assumes nothing.
use Rattle.decimal.proofs.Puts.{puts-more}
use Rattle.labelled.proofs.put_whole.Goals as goal

pub returns : goal.returns
returns c = puts-more (puts-more c.bytes.ensures c.signed.ensures) c.put_line_end.ensures
