-- `words::in_width` meets its contract: a word has 64 bits, and those from k on are zero. Assumes nothing.
use Rattle.std.proofs.Common.{sym, ◌∙◌, arith, le-leb}
use Rattle.words.proofs.Width.{all-bits, shift-test}
use Rattle.words.proofs.in_width.Goals as goal

pub returns-then-k-ge64 : goal.returns-then-k-ge64
returns-then-k-ge64 c = le-leb 64 c.args.k c.if-k-ge64.true ∙ sym (all-bits c.args.k c.args.w c.if-k-ge64.true (omega arith))

pub returns-else-k-ge64 : goal.returns-else-k-ge64
returns-else-k-ge64 c = shift-test _ _
