-- `polynomial::eval` meets its contract: an array by value has its shape. Assumes nothing.
use native.Mathlib.Omega.{arith}
use mathlib.Core.Path.{◌≡◌}
use lib.ListN.{length}
use Rattle.polynomial.proofs.Shape.{shaped-good}
use Rattle.polynomial.proofs.eval.Goals as goal

pub eval_lent-requires : goal.eval_lent-requires
eval_lent-requires c =
    let h : length c.args.p ≡ 64 = omega (arith, c.well_formed) in
    ((omega arith, omega arith), (omega arith, omega arith), omega arith, shaped-good c.args.p _ h c.well_formed.1.1.0)
