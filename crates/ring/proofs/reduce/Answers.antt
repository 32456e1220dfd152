-- `ring::reduce` meets its contract: six words, each cut. Assumes nothing.
use Rattle.std.proofs.Common.{rules}
use native.Mathlib.Omega.{arith}
use mathlib.Core.Path.{◌≡◌}
use lib.ListN.{length}
use Rattle.ring.proofs.Words.{reduce-by}
use Rattle.ring.proofs.reduce.Goals as goal

pub returns : goal.returns
returns c =
    let ha : length c.args.a ≡ 6 = omega (arith, c.well_formed) in
    reduce-by c.args.k c.args.a c.each_word.result ha c.each_word.ensures.six
    (λ j h. let p = c.each_word.ensures.each j h in search rules)
