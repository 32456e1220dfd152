-- `decoder::search` meets its contract: what holds before each round is `Sought`, and each round drops a share at least, so the error bound
-- falls. Assumes nothing.
use mathlib.Core.Path.{◌≡◌}
use Prim.Native.Nat.{◌≤◌}
use lib.ListN.{length}
use Rattle.polynomial.specs.Rows.{Shaped}
use Rattle.level.specs.Shares.{shares_of}
use Rattle.decoder.proofs.Rounds.{Sought}
use Rattle.decoder.proofs.search.Given as goal

abbrev pub invariant-loop-found : goal.invariant-loop-found
invariant-loop-found l = (l.count ≤ 63) × (length l.hs ≡ 63) × (length l.ys ≡ 63)
    × Sought l.k l.d l.t l.e (shares_of l.d l.m l.initial.hs l.initial.ys) l.bound l.wrong (shares_of l.d l.count l.hs l.ys)
    × Shaped l.rows

abbrev pub decreases-loop-found : goal.decreases-loop-found
decreases-loop-found l = l.bound
