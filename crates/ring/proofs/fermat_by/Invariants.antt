-- `ring::fermat_by` meets its contract: a turn of the loop is a product and a square, of which the lowest bits are looked at. Assumes nothing.
use mathlib.Core.Path.{◌≡◌}
use Prim.Native.Nat.{◌-◌}
use lib.ListN.{take}
use Rattle.galois.specs.Element.{reduce, held}
use Rattle.galois.specs.Inversion.{fermat}
use Rattle.ring.proofs.fermat_by.Given as goal

abbrev pub invariant-loop : goal.invariant-loop
invariant-loop l = reduce 1 l.y ≡ held l.d (fermat l.d (take l.d l.a) (l.counter - 2))
