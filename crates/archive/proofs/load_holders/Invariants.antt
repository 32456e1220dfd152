-- The loop of `load_holders`: the holders passed are in their places. Assumes nothing.
use mathlib.Core.Path.{◌≡◌}
use lib.ListN.{replicate}
use Rattle.bundle.specs.Bundle.{holder_of}
use Rattle.totals.proofs.Values.{filled}
use Rattle.archive.proofs.load_holders.Given as goal

abbrev pub invariant-loop-f : goal.invariant-loop-f
invariant-loop-f l = l.holders ≡ filled (holder_of l.bundle.bytes.now) l.bundle.files (replicate 63 0) l.f
