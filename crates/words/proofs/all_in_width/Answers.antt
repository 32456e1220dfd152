-- `words::all_in_width` meets its contract: the words seen, taken together, and the rest. Assumes nothing.
use Rattle.std.proofs.Common.{sym, ◌∙◌, arith}
use Rattle.words.proofs.Width.{none_seen, one_seen, all_seen}
use Rattle.words.proofs.all_in_width.Goals as goal

pub loop-w-init : goal.loop-w-init
loop-w-init c = none_seen c.args.k c.args.s.now

pub loop-w-preserved : goal.loop-w-preserved
loop-w-preserved c = one_seen c.args.k c.loop-w.seen c.args.s.now c.loop-w.w-index (omega arith) ∙ c.loop-w.invariant

pub returns : goal.returns
returns c = c.in_width.ensures ∙ sym (all_seen c.args.k c.loop-w.seen c.args.s.now c.loop-w.w-index (omega arith)) ∙ c.loop-w.invariant
