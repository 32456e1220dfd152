-- `decoder::copy_others` meets its contract: after each turn the shares kept so far stand first in the second arrays. Assumes nothing.
use mathlib.Core.Path.{◌≡◌}
use mathlib.Core.List.{◌++◌}
use Prim.Native.Nat.{ℕ, ◌-◌, ◌≤◌}
use lib.ListN.{length}
use Rattle.codewords.specs.Residue.{without}
use Rattle.level.specs.Shares.{shares_from, shares_of}
use Rattle.decoder.proofs.copy_others.Given as goal

abbrev pub invariant-loop-i : goal.invariant-loop-i
invariant-loop-i l = (l.j ≤ l.i) × (length l.holders ≡ 63) × (length l.shares ≡ 63)
    × ((d : ℕ) → shares_from d l.holders l.shares 0 l.j ++ without l.w (shares_from d l.hs l.ys l.i (l.m - l.i)) ≡ without l.w (shares_of d l.m l.hs l.ys))
