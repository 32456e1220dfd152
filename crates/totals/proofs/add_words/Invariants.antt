-- The loop of `add_words`: the first j words are added where they stand, and taken together; two more a turn. Assumes nothing.
use mathlib.Core.Path.{◌≡◌}
use mathlib.Core.Bool.{◌&&◌}
use mathlib.Core.List.{List}
use Prim.Native.Nat.{ℕ, ◌+◌, ◌-◌, ◌*◌, ◌≤◌}
use lib.ListN.{length, drop}
use lib.Bits.{bit_or}
use lib.Seq.{paste}
use Rattle.words.specs.Word.{in_width, all_in_width}
use Rattle.galois.specs.Element.{Element, sum}
use Rattle.bundle.specs.Contents.{words_from}
use Rattle.totals.proofs.add_words.Given as goal

-- the first j words are added, and those seen
abbrev pub Passed : Element → List ℕ → List ℕ → ℕ → ℕ → Type 0
Passed w old new seen j = ((k : ℕ) → (in_width k seen && all_in_width k (drop j w)) ≡ all_in_width k w) × (new ≡ paste old 0 (sum 64 old w) j)

abbrev pub invariant-loop-j : goal.invariant-loop-j
invariant-loop-j l = (l.j ≤ l.d) × (l.here ≡ l.at + 8 * l.j) × Passed (words_from 8 l.bytes l.d l.at) l.initial.running l.running (bit_or l.even l.odd) l.j × (length l.running ≡ length l.initial.running)

abbrev pub decreases-loop-j : goal.decreases-loop-j
decreases-loop-j l = l.d - l.j
