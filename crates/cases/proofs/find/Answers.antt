use Rattle.std.proofs.Common.{sym, ◌∙◌}
use Rattle.cases.proofs.Split.{found_some, found_none}
use Rattle.cases.proofs.find.Goals as goal

pub returns-in-Some-clause-place : goal.returns-in-Some-clause-place
returns-in-Some-clause-place c = found_some c.args.b c.args.at c.args.text.now c.in-Some.i (sym c.first.ensures ∙ c.in-Some.is)

pub returns-in-None-clause-place : goal.returns-in-None-clause-place
returns-in-None-clause-place c = found_none c.args.b c.args.at c.args.text.now c.requires (sym c.first.ensures ∙ c.in-None.is)
