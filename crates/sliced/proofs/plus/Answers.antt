-- `sliced::plus` meets its contract: six words. Assumes nothing.
use Rattle.std.proofs.Common.{rules}
use native.Mathlib.Omega.{arith}
use mathlib.Core.Path.{◌≡◌}
use lib.ListN.{length}
use lib.Bits.{bit_xor}
use Rattle.ring.proofs.Words.{zip-by}
use Rattle.sliced.specs.Lane.{plus_lanes}
use Rattle.sliced.proofs.plus.Goals as goal

pub returns : goal.returns
unfolding plus_lanes
returns c =
    let ha : length c.args.a ≡ 6 = omega (arith, c.well_formed) in
    let hb : length c.args.b ≡ 6 = omega (arith, c.well_formed) in
    zip-by bit_xor c.args.a c.args.b c.each_word.result ha hb c.each_word.ensures.six
    (λ j h. let p = c.each_word.ensures.each j h in search rules)
