-- `ring::horner_by_words` meets its contract: a turn of the loop takes one word more of the first factor. Assumes nothing.
use mathlib.Core.Path.{◌≡◌}
use lib.ListN.{length, take, drop}
use Rattle.galois.specs.Element.{lower, product}
use Rattle.ring.proofs.horner_by_words.Given as goal

abbrev pub invariant-loop-i : goal.invariant-loop-i
invariant-loop-i l = (length l.r ≡ 6) × (take l.d l.r ≡ product 64 (lower l.d) (drop l.i (take l.d l.a)) (take l.d l.b))
