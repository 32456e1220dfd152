-- `put_words`: once i words are put, those after them are left. Assumes nothing.
use lib.ListN.{drop}
use Rattle.text.specs.Text.{after_commas, joined}
use Rattle.decimal.proofs.Puts.{Rest}
use Rattle.text.proofs.Joined.{word_texts}
use Rattle.text.proofs.put_words.Given as goal

abbrev pub invariant-loop-i : goal.invariant-loop-i
invariant-loop-i l = Rest l.fn.text l.text (joined (word_texts l.k l.d l.words)) (after_commas (drop l.i (word_texts l.k l.d l.words)))
