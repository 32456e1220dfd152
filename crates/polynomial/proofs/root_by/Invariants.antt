-- `polynomial::root_by` meets its contract: a turn of the loop writes one row more, and keeps the row that was there for the next. Assumes nothing.
use mathlib.Core.Path.{◌≡◌}
use mathlib.Core.List.{[], ◌∷◌}
use lib.ListN.{length, get_or, replicate}
use lib.Seq.{paste}
use Rattle.galois.specs.Element.{point}
use Rattle.polynomial.specs.Rows.{root_rows}
use Rattle.polynomial.proofs.root_by.Given as goal

abbrev pub invariant-loop-i : goal.invariant-loop-i
invariant-loop-i l = (length l.below ≡ 6) × (l.below ≡ get_or (replicate 6 0 ∷ l.initial.p) l.i []) × (l.p ≡ paste l.initial.p 0 (root_rows 64 l.d l.len (point l.d l.x) l.initial.p) l.i)
