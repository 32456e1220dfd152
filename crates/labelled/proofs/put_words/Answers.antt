-- `put_words`: the four words, one after another. Assumes nothing.
use Rattle.std.proofs.Common.{◌∙◌}
use Rattle.labelled.specs.Reading.{words_of}
use Rattle.labelled.proofs.Words.{sphere-in, cylinder-in, axis-in, thickness-in, four-set}
use Rattle.labelled.proofs.put_words.Goals as goal

pub word_of-requires : goal.word_of-requires
word_of-requires c = (c.requires.0, sphere-in c.args.k c.args.job c.requires.0.0 c.requires.1)

pub word_of-requires-2 : goal.word_of-requires-2
word_of-requires-2 c = (c.requires.0, cylinder-in c.args.k c.args.job c.requires.0.0 c.requires.1)

pub word_of-requires-3 : goal.word_of-requires-3
word_of-requires-3 c = (c.requires.0, axis-in c.args.k c.args.job c.requires.0.0 c.requires.1)

pub word_of-requires-4 : goal.word_of-requires-4
word_of-requires-4 c = (c.requires.0, thickness-in c.args.k c.args.job c.requires.0.0 c.requires.1)

pub returns : goal.returns
unfolding words_of
returns c =
    four-set c.args.out.now _ _ _ _ c.requires.2
    ∙ rw (c.word_of.ensures, c.word_of-2.ensures, c.word_of-3.ensures, c.word_of-4.ensures)
