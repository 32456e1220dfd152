-- `sliced::support_by` meets its contract: the words from d on are cleared, and the rest joined. Assumes nothing.
use native.Mathlib.Omega.{arith}
use mathlib.Core.Path.{◌≡◌, ap, ◌∙◌}
use lib.ListN.{length}
use Rattle.sliced.proofs.Turns.{any_of, support-six}
use Rattle.sliced.proofs.support_by.Goals as goal

pub returns : goal.returns
returns c =
    let ha : length c.args.a ≡ 6 = omega (arith, c.well_formed) in
    ap any_of c.keep-w.ensures ∙ support-six c.args.d c.args.a ha c.requires
