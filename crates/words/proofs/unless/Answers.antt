-- `words::unless` meets its contract. Assumes nothing.
use Rattle.std.proofs.Common.{sym}
use Rattle.words.specs.Refusal.{number_of}
use Rattle.words.proofs.Refusals.{unless-yes, unless-no}
use Rattle.words.proofs.unless.Goals as goal

pub returns-then-holds-clause-fault : goal.returns-then-holds-clause-fault
returns-then-holds-clause-fault c = sym (unless-yes c.args.holds (number_of c.args.refusal) c.if-holds.true)

pub returns-else-holds-clause-fault : goal.returns-else-holds-clause-fault
returns-else-holds-clause-fault c = sym (unless-no c.args.holds (number_of c.args.refusal) c.if-holds.false)
