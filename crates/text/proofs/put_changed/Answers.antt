-- `put_changed`: the line, part by part. Assumes nothing.
use Rattle.text.specs.Text.{changed_line}
use Rattle.decimal.proofs.Puts.{puts-more}
use Rattle.text.proofs.put_changed.Goals as goal

pub returns : goal.returns
unfolding changed_line
returns c = puts-more (puts-more (puts-more c.decimal.ensures c.bytes.ensures) c.decimal-2.ensures) c.byte.ensures
