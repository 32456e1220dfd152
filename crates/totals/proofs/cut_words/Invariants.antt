-- The loop of `cut_words`: the words passed are cut. Assumes nothing.
use mathlib.Core.Path.{◌≡◌}
use lib.Seq.{paste}
use Rattle.galois.specs.Element.{reduce}
use Rattle.totals.proofs.cut_words.Given as goal

abbrev pub invariant-loop-w : goal.invariant-loop-w
invariant-loop-w l = l.w-items ≡ paste l.initial.w-items 0 (reduce l.k l.initial.w-items) l.w-index
