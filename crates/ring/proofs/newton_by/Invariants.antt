-- `ring::newton_by` meets its contract: a turn of the loop is a step, and doubles w. Assumes nothing.
use mathlib.Core.Path.{◌≡◌}
use mathlib.Core.List.{List}
use Prim.Native.Nat.{ℕ, ◌-◌, ◌^◌, ◌≤◌}
use lib.ListN.{take}
use Rattle.galois.specs.Element.{Element, held}
use Rattle.galois.specs.Inversion.{newtons}
use Rattle.ring.proofs.newton_by.Given as goal

-- y is n steps from start, and w has been doubled n times from one
abbrev pub Reached : ℕ → Element → Element → List ℕ → ℕ → Type 0
Reached d a start y w = (n : ℕ) × ((w ≡ 2 ^ n) × (y ≡ held d (newtons 64 d a start n)))

abbrev pub invariant-loop-w : goal.invariant-loop-w
invariant-loop-w l = (1 ≤ l.w) × Reached l.d (take l.d l.a) (take l.d l.initial.y) l.y l.w

abbrev pub decreases-loop-w : goal.decreases-loop-w
decreases-loop-w l = l.k - l.w
