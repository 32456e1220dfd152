-- `put_kept`: the line, part by part. Assumes nothing.
use Rattle.text.specs.Text.{kept_line}
use Rattle.decimal.proofs.Puts.{puts-more}
use Rattle.text.proofs.put_kept.Goals as goal

pub returns : goal.returns
unfolding kept_line
returns c = puts-more (puts-more c.decimal.ensures c.byte.ensures) c.put_refused.ensures
