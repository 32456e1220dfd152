-- `ring::keep` meets its contract: six words, each there where its place is below d. Assumes nothing.
use Rattle.std.proofs.Common.{rules}
use native.Mathlib.Omega.{arith}
use mathlib.Core.Path.{◌≡◌}
use lib.ListN.{length}
use Rattle.ring.proofs.Words.{held-by}
use Rattle.ring.proofs.keep.Goals as goal

pub returns : goal.returns
returns c =
    let ha : length c.args.a ≡ 6 = omega (arith, c.well_formed) in
    held-by c.args.d c.args.a c.each_word.result c.requires ha c.each_word.ensures.six
    (λ j h. let p = c.each_word.ensures.each j h in search rules)
