use Rattle.std.proofs.Common.{rules, drop}
use Rattle.cases.proofs.Split.{field_first, field_next}
use Rattle.cases.proofs.field_start.Goals as goal

pub loop-init : goal.loop-init
loop-init c = record { within = search rules; from = field_first c.args.line.now }

pub loop-preserved : goal.loop-preserved
loop-preserved c =
    let line = c.args.line.now in record {
      within = c.past_bar-at.ensures.0;
      from = field_next c.loop.counter line (drop c.loop.at line) (drop c.past_bar-at.result line) c.loop.invariant.from c.past_bar-at.ensures.1;
    }
