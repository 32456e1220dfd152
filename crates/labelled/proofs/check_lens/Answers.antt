-- `check_lens`: the ranges of the book, of which these are two. Assumes nothing.
use Rattle.std.proofs.lemmas.Result.{on_ok_weaker}
use Rattle.words.proofs.InRange.{ok-range}
use Rattle.labelled.proofs.check_lens.Goals as goal

pub returns-clause-ok : goal.returns-clause-ok
returns-clause-ok c = let r = ok-range c.args.p c.in_ok-check_params.ensures.ok in on_ok_weaker c.unless.result (λ e. (r.k-low, r.k-high)) c.unless.ensures.ok
