-- `ring::sum_by_bits` meets its contract: a turn of the loop takes one bit more of the holder. Assumes nothing.
use mathlib.Core.Path.{◌≡◌}
use Prim.Native.Nat.{◌-◌}
use lib.ListN.{length, take}
use Rattle.galois.specs.Element.{lower, point, product}
use Rattle.galois.proofs.Rising.{power_x}
use Rattle.ring.proofs.sum_by_bits.Given as goal

abbrev pub invariant-loop-j : goal.invariant-loop-j
invariant-loop-j l = (length l.p ≡ 6)
    × (take l.d l.p ≡ power_x 64 (lower l.d) (l.j - 1) (take l.d l.initial.p))
    × (take l.d l.r ≡ product 64 (lower l.d) (take l.j (point l.d l.i)) (take l.d l.initial.p))
