-- `start`: the bytes of the input go over the whole output. Assumes nothing.
use borrow.Author.Rules.{rules}
use mathlib.Core.Path.{sym, ◌∙◌}
use Rattle.mending.proofs.Report.{output-start}
use Rattle.mending.proofs.start.Goals as goal

pub returns : goal.returns
returns c = (c.accept_input.ensures, c.copy_from_slice.ensures.after ∙ sym (output-start c.args.bytes.now (λ i. (c.type_inv.bytes i).fits)))
