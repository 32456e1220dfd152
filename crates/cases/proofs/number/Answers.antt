use Rattle.std.proofs.Common.{arith, sym, ◌∙◌}
use Rattle.cases.proofs.Split.{digit-next, number-read}
use Rattle.cases.proofs.number.Goals as goal

pub loop-c-preserved : goal.loop-c-preserved
loop-c-preserved c =
    digit-next c.loop-c.x c.loop-c.c-index c.mul.result c.digit.result c.add-x.result c.args.text.now (omega arith) c.mul.ensures c.digit.ensures c.add-x.ensures
    ∙ c.loop-c.invariant

pub returns : goal.returns
returns c = sym (number-read c.loop-c.x c.loop-c.c-index c.args.text.now (omega arith)) ∙ c.loop-c.invariant
