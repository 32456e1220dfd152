-- `level::zero_at` meets its contract. Assumes nothing.
use Rattle.level.specs.KeyEquation.{zero_at}
use Rattle.level.proofs.zero_at.Goals as goal

pub returns : goal.returns
unfolding zero_at
returns c = rw c.support.ensures
