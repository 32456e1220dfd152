-- `comparison::gap` meets its contract: six words, and all their bits together. Assumes nothing.
use native.Mathlib.Omega.{arith}
use mathlib.Core.Path.{◌≡◌}
use lib.ListN.{length}
use Rattle.comparison.proofs.Compared.{gap-six}
use Rattle.comparison.proofs.gap.Goals as goal

pub returns : goal.returns
returns c =
    let ha : length c.args.share ≡ 6 = omega (arith, c.well_formed) in
    let hv : length c.args.value ≡ 6 = omega (arith, c.well_formed) in
    gap-six c.args.share c.args.value ha hv
