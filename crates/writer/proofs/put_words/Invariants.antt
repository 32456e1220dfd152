-- The loop of `put_words`: the first i words are written. Assumes nothing.
use mathlib.Core.Path.{◌≡◌}
use Prim.Native.Nat.{ℕ}
use mathlib.Core.List.{List}
use lib.ListN.{length, take, drop}
use Rattle.writer.specs.Bytes.{words_bytes}
use Rattle.writer.proofs.Put.{Written}
use Rattle.writer.proofs.put_words.Given as goal

abbrev pub S : List ℕ → ℕ → ℕ → List ℕ
S words from d = take d (drop from words)

abbrev pub invariant-loop-i : goal.invariant-loop-i
invariant-loop-i l = (length l.out ≡ length l.initial.out) × Written l.initial.out l.at (words_bytes 8 (take l.i (S l.words l.from l.d))) l.out
