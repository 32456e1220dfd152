-- `sliced::add_scaled` meets its contract: six words. Assumes nothing.
use Rattle.std.proofs.Common.{rules}
use native.Mathlib.Omega.{arith}
use mathlib.Core.Path.{◌≡◌}
use lib.ListN.{length}
use Rattle.ring.proofs.Words.{zip-by}
use Rattle.sliced.specs.Lane.{plus_lane}
use Rattle.sliced.proofs.add_scaled.Goals as goal

pub returns : goal.returns
returns c =
    let hs : length c.args.s ≡ 6 = omega (arith, c.well_formed) in
    let hb : length c.args.b ≡ 6 = omega (arith, c.well_formed) in
    zip-by (plus_lane c.args.c) c.args.s c.args.b c.each_word.result hs hb c.each_word.ensures.six
    (λ j h. let p = c.each_word.ensures.each j h in search rules)
