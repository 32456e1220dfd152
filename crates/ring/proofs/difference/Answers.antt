-- `ring::difference` meets its contract: six differences are the difference word by word. Assumes nothing.
use Rattle.std.proofs.Common.{rules}
use native.Mathlib.Omega.{arith}
use mathlib.Core.Path.{◌≡◌}
use lib.ListN.{length}
use Rattle.words.specs.Word.{sub_w}
use Rattle.ring.proofs.Words.{zip-by}
use Rattle.ring.proofs.difference.Goals as goal

pub returns : goal.returns
returns c =
    let ha : length c.args.a ≡ 6 = omega (arith, c.well_formed) in
    let hb : length c.args.b ≡ 6 = omega (arith, c.well_formed) in
    zip-by (sub_w c.args.k) c.args.a c.args.b c.each_word.result ha hb c.each_word.ensures.six
    (λ j h. let p = c.each_word.ensures.each j h in search rules)
