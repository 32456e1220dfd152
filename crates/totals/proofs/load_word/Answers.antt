-- `load_word`: the first word of the bytes from a position on is the word there. Assumes nothing.
use mathlib.Core.Path.{◌∙◌}
use Rattle.records.proofs.Num.{le_at-from}
use Rattle.totals.proofs.load_word.Goals as goal

pub returns : goal.returns
returns c = c.word_at.ensures ∙ le_at-from 8 c.args.bytes.now c.args.at
