use Rattle.std.proofs.Common.{Ok, arith, sym, ap, ◌∙◌}
use Rattle.records.proofs.Record.{read_next_lem}
use Rattle.formats.proofs.trace.Goals as goal

pub loop-record-smaller : goal.loop-record-smaller
loop-record-smaller g c =
    let m = read_next_lem c.args.bytes.now c.loop-record.cursor.at c.in-Ok-Some.record (sym c.read.ensures.0 ∙ c.in-Ok-Some.is ∙ ap Ok c.in-Ok-Some.field-0-is) in
    omega (arith, m)

pub loop-record-preserved : goal.loop-record-preserved
loop-record-preserved g c =
    (read_next_lem c.args.bytes.now c.loop-record.cursor.at c.in-Ok-Some.record (sym c.read.ensures.0 ∙ c.in-Ok-Some.is ∙ ap Ok c.in-Ok-Some.field-0-is)).1
