-- `decoder::drop_wrong` meets its contract: after each turn the shares kept so far stand first, and those ahead as they were. Assumes nothing.
use mathlib.Core.Path.{◌≡◌}
use mathlib.Core.List.{◌++◌}
use Prim.Native.Nat.{ℕ, ◌-◌, ◌≤◌}
use lib.ListN.{length}
use Rattle.codewords.specs.Residue.{without}
use Rattle.level.specs.Shares.{shares_from, shares_of}
use Rattle.decoder.proofs.drop_wrong.Given as goal

abbrev pub invariant-loop-i : goal.invariant-loop-i
invariant-loop-i l = (l.j ≤ l.i) × (length l.hs ≡ 63) × (length l.ys ≡ 63) × ((d : ℕ) → shares_from d l.hs l.ys l.i (l.m - l.i) ≡ shares_from d l.initial.hs l.initial.ys l.i (l.m - l.i))
    × ((d : ℕ) → shares_from d l.hs l.ys 0 l.j ++ without l.w (shares_from d l.initial.hs l.initial.ys l.i (l.m - l.i)) ≡ without l.w (shares_of d l.m l.initial.hs l.initial.ys))
