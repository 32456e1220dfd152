-- `words::mul` meets its contract: the product modulo 2^64, cut to k bits. Assumes nothing.
use Rattle.std.proofs.Common.{◌∙◌}
use Rattle.words.specs.Word.{mul_w}
use Rattle.words.proofs.Mod.{mod-narrow}
use Rattle.words.proofs.mul.Goals as goal

pub returns : goal.returns
unfolding mul_w
returns c = c.low_bits.ensures ∙ rw (c.mul64.ensures, mod-narrow _ c.args.k 64 c.requires.1)
