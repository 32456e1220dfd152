-- `rounds::compare` meets its contract: after each turn it has the holders and the bits of the shares passed. Assumes nothing.
use mathlib.Core.Path.{◌≡◌}
use mathlib.Core.List.{[]}
use Prim.Native.Nat.{◌-◌, ◌≤◌}
use Rattle.codewords.specs.Codeword.{differs}
use Rattle.codewords.proofs.Without.{set_of}
use Rattle.level.specs.Shares.{shares_from}
use Rattle.rounds.specs.Residues.{bits_of_all}
use Rattle.rounds.proofs.compare.Given as goal

abbrev pub invariant-loop-i : goal.invariant-loop-i
invariant-loop-i l = (l.n ≤ l.i) × (l.set ≡ set_of (differs 64 6 []) (shares_from 6 l.hs l.rest l.i (l.m - l.i))) × (l.bits ≡ bits_of_all (shares_from 6 l.hs l.rest l.i (l.m - l.i)))
