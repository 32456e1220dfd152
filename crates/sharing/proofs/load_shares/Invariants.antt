use mathlib.Core.Path.{◌≡◌}
use lib.ListN.{length, replicate}
use lib.Seq.{paste}
use Rattle.sharing.proofs.Elements.{rows_of}
use Rattle.sharing.proofs.load_shares.Given as goal

abbrev pub invariant-loop-i : goal.invariant-loop-i
invariant-loop-i l = (length l.r ≡ 63) × (l.r ≡ paste (replicate 63 (replicate 6 0)) 0 (rows_of l.d l.m l.shares) l.i)
