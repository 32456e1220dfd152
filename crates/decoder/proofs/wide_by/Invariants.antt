-- `decoder::wide_by` meets its contract: after each turn it has the holders of the wide shares passed. Assumes nothing.
use mathlib.Core.Path.{◌≡◌}
use Prim.Native.Nat.{◌-◌}
use Rattle.codewords.specs.Codeword.{wide}
use Rattle.codewords.proofs.Without.{set_of}
use Rattle.level.specs.Shares.{shares_from}
use Rattle.decoder.proofs.wide_by.Given as goal

abbrev pub invariant-loop-i : goal.invariant-loop-i
invariant-loop-i l = (l.set ≡ set_of (wide l.k) (shares_from l.d l.hs l.ys l.i (l.m - l.i)))
