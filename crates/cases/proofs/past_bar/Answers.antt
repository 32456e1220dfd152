use Rattle.std.proofs.Common.{arith}
use Rattle.cases.proofs.Split.{found_after, none_after}
use Rattle.cases.proofs.past_bar.Goals as goal

pub returns-then-bar-line : goal.returns-then-bar-line
returns-then-bar-line c =
    (omega arith, none_after 124 c.args.line.now c.args.at c.find-bar.result c.find-bar.ensures.place (omega arith))

pub returns : goal.returns
returns c = (omega arith, found_after 124 c.args.line.now c.args.at c.find-bar.result c.find-bar.ensures.place)
