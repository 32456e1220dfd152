-- `words::add` meets its contract: the sum modulo 2^64, cut to k bits. Assumes nothing.
use Rattle.std.proofs.Common.{◌∙◌}
use Rattle.words.specs.Word.{add_w}
use Rattle.words.proofs.Mod.{mod-narrow}
use Rattle.words.proofs.add.Goals as goal

pub returns : goal.returns
unfolding add_w
returns c = c.low_bits.ensures ∙ rw (c.wrapping_add_u64.ensures.value, mod-narrow _ c.args.k 64 c.requires.1)
