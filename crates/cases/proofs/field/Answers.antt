use Rattle.cases.proofs.Split.{field_is}
use Rattle.cases.proofs.field.Goals as goal

pub returns : goal.returns
returns c =
    field_is c.args.i c.field_start-start.result c.find-end.result c.args.line.now c.field_start-start.ensures.1 c.find-end.ensures.place
