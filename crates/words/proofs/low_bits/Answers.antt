-- `words::low_bits` meets its contract: two shifts cut a word. Assumes nothing.
use Rattle.words.proofs.Mod.{cut}
use Rattle.words.proofs.low_bits.Goals as goal

pub returns : goal.returns
returns c = cut c.args.x c.args.k 64 c.requires.1
