-- `sliced::down` meets its contract: the word is masked by none or all of its bits. Assumes nothing.
use native.Mathlib.Omega.{arith}
use mathlib.Core.Path.{ap}
use lib.Bits.{bit_xor}
use Rattle.sliced.proofs.Turns.{picked}
use Rattle.sliced.proofs.down.Goals as goal

pub returns : goal.returns
returns c = ap (bit_xor c.args.x) (picked c.args.top c.args.m c.requires (omega (arith, c.ranges.top)))
