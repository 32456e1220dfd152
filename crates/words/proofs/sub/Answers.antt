-- `words::sub` meets its contract: the difference modulo 2^64, cut to k bits. Assumes nothing.
use Rattle.std.proofs.Common.{◌∙◌}
use Rattle.words.specs.Word.{sub_w}
use Rattle.words.proofs.Mod.{sub-cut}
use Rattle.words.proofs.sub.Goals as goal

pub returns : goal.returns
unfolding sub_w
returns c =
    c.low_bits.ensures
    ∙ sub-cut c.wrapping_sub_u64.result c.args.a c.args.b c.args.k 64 c.requires.1 c.wrapping_sub_u64.ensures.value
