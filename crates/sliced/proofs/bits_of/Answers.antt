-- `sliced::bits_of` meets its contract: six words. Assumes nothing.
use Rattle.std.proofs.Common.{rules}
use native.Mathlib.Omega.{arith}
use mathlib.Core.Path.{◌≡◌}
use lib.ListN.{length}
use Rattle.sliced.proofs.Turns.{lane-by}
use Rattle.sliced.proofs.bits_of.Goals as goal

pub returns : goal.returns
returns c =
    let hy : length c.args.y ≡ 6 = omega (arith, c.well_formed) in
    lane-by c.args.y c.args.v c.each_word.result hy c.each_word.ensures.six
    (λ j h. let p = c.each_word.ensures.each j h in search rules)
