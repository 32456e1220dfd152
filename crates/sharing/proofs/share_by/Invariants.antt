-- `sharing::share_by` meets its contract: a turn of the loop takes one coefficient more. Assumes nothing.
use mathlib.Core.Path.{◌≡◌}
use Rattle.galois.specs.Element.{held, point}
use Rattle.sharing.proofs.Elements.{elements_from}
use Rattle.sharing.proofs.Horner.{above}
use Rattle.sharing.proofs.share_by.Given as goal

-- the coefficients from the i-th on are in
abbrev pub invariant-loop-i : goal.invariant-loop-i
invariant-loop-i l = l.r ≡ held l.d (above 64 l.d (point l.d l.x) (elements_from l.d l.t l.coefficients l.i))
