-- `sharing::check_lent` meets its contract: d is not 0 when it divides. Assumes nothing.
use Rattle.std.proofs.Common.{arith}
use Rattle.words.proofs.InRange.{ok-range}
use Rattle.sharing.proofs.check_lent.Goals as goal

pub elements_ok-requires : goal.elements_ok-requires
elements_ok-requires c = omega (arith, (ok-range c.args.p c.in_ok-check_params.ensures.ok).d-low)
