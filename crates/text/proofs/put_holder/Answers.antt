-- `put_holder`: the holder, a slash and the position. Assumes nothing.
use Rattle.text.specs.Text.{holder_text}
use Rattle.decimal.proofs.Puts.{puts-more}
use Rattle.text.proofs.put_holder.Goals as goal

pub returns : goal.returns
unfolding holder_text
returns c = puts-more (puts-more c.decimal.ensures c.byte.ensures) c.decimal-2.ensures
