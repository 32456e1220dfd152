use Rattle.std.proofs.Common.{sym, ◌∙◌}
use Rattle.mending.proofs.Report.{output-done}
use Rattle.mend.proofs.Pieces.{accepted-clear}
use Rattle.mend.proofs.mend.Goals as goal

pub save-requires : goal.save-requires
save-requires c =
    let bs = c.args.bytes.now in
    c.in-Ok.ensures.mended
    ∙ output-done bs (λ i. (c.type_inv.bytes i).fits)
    (accepted-clear c.start-accepted.result bs c.start-accepted.ensures.0 (sym c.is_ok.ensures.value ∙ c.if-is_ok.true))
