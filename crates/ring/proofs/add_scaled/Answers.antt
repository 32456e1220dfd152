-- `ring::add_scaled` meets its contract: six sums with a multiple. Assumes nothing.
use Rattle.std.proofs.Common.{rules}
use native.Mathlib.Omega.{arith}
use mathlib.Core.Path.{◌≡◌}
use lib.ListN.{length}
use Rattle.galois.specs.Element.{plus_w}
use Rattle.ring.proofs.Words.{zip-by}
use Rattle.ring.proofs.add_scaled.Goals as goal

pub returns : goal.returns
returns c =
    let hs : length c.args.s ≡ 6 = omega (arith, c.well_formed) in
    let hb : length c.args.b ≡ 6 = omega (arith, c.well_formed) in
    zip-by (plus_w 64 c.args.c) c.args.s c.args.b c.each_word.result hs hb c.each_word.ensures.six
    (λ j h. let p = c.each_word.ensures.each j h in search rules)
