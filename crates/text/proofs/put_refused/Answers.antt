-- `put_refused`: the line, part by part. Assumes nothing.
use Rattle.text.specs.Text.{refused_line}
use Rattle.decimal.proofs.Puts.{puts-more}
use Rattle.text.proofs.put_refused.Goals as goal

pub returns : goal.returns
unfolding refused_line
returns c = puts-more (puts-more c.bytes.ensures (rw c.from.ensures at c.decimal.ensures)) c.byte.ensures
