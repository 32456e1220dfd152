-- `decoder::lowest_bits` meets its contract: after each turn it has the positions of the shares passed. Assumes nothing.
use mathlib.Core.Path.{◌≡◌}
use Prim.Native.Nat.{suc, ◌-◌}
use lib.ListN.{length}
use Rattle.polynomial.specs.Rows.{coefs}
use Rattle.codewords.specs.Codeword.{positions}
use Rattle.level.specs.Shares.{shares_from}
use Rattle.decoder.proofs.lowest_bits.Given as goal

abbrev pub invariant-loop-i : goal.invariant-loop-i
invariant-loop-i l = (length l.lowest ≡ 64)
    × (l.lowest ≡ positions l.p.k l.p.d (coefs l.p.d (suc l.p.t) l.rows) (shares_from l.p.d l.holders l.shares l.i (l.m - l.i)))
