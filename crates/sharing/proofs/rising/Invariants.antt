-- `sharing::rising` meets its contract: those that are left decide. Assumes nothing.
use mathlib.Core.Path.{◌≡◌}
use lib.ListN.{drop}
use Rattle.sharing.specs.Opening.{rising_to}
use Rattle.sharing.proofs.rising.Given as goal

abbrev pub invariant-loop-h : goal.invariant-loop-h
invariant-loop-h l = rising_to l.n 0 l.holders ≡ rising_to l.n l.prev (drop l.h-index l.holders)
