-- The loop of `negate`: the words passed are negatives. Assumes nothing.
use mathlib.Core.Path.{◌≡◌}
use mathlib.Core.List.{List}
use Prim.Native.Nat.{ℕ}
use lib.ListN.{length}
use lib.Seq.{paste}
use Rattle.galois.specs.Element.{zero_e, difference}
use Rattle.totals.proofs.negate.Given as goal

abbrev pub negatives : ℕ → List ℕ → List ℕ
negatives k ws = difference k (zero_e (length ws)) ws

abbrev pub invariant-loop-w : goal.invariant-loop-w
invariant-loop-w l = l.running ≡ paste l.initial.running 0 (negatives l.k l.initial.running) l.w-index
