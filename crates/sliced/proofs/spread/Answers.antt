-- `sliced::spread` meets its contract: six words, each filled with its bit. Assumes nothing.
use Rattle.std.proofs.Common.{rules}
use native.Mathlib.Omega.{arith}
use mathlib.Core.Path.{◌≡◌}
use lib.ListN.{length}
use Prim.Native.Nat.{◌-◌, ◌*◌, ◌/◌, ◌%◌, ◌^◌}
use Rattle.sliced.specs.Lane.{spread_lane}
use Rattle.sliced.proofs.Turns.{map-by}
use Rattle.sliced.proofs.spread.Goals as goal

pub returns : goal.returns
unfolding spread_lane
returns c =
    let ha : length c.args.a ≡ 6 = omega (arith, c.well_formed) in
    map-by (λ w. w / 2 ^ c.args.i % 2 * (2 ^ 64 - 1)) c.args.a c.each_word.result ha c.each_word.ensures.six
    (λ j h. let p = c.each_word.ensures.each j h in search rules)
