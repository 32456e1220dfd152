-- The loop of `load_words_by`: the first i words are in their places. Assumes nothing.
use mathlib.Core.Path.{◌≡◌}
use lib.Seq.{paste}
use Rattle.bundle.specs.Contents.{words_from}
use Rattle.fetch.proofs.load_words_by.Given as goal

abbrev pub invariant-loop-i : goal.invariant-loop-i
invariant-loop-i l = l.words ≡ paste l.initial.words 0 (words_from 8 l.bytes l.d l.at) l.i
