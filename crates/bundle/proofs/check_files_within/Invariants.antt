-- The loop of `check_files_within`: the files passed have no fault, and with those that may still stand they are as many as may. Assumes nothing.
use mathlib.Core.Path.{◌≡◌}
use Prim.Native.Nat.{ℕ, ◌+◌, ◌-◌}
use lib.ListN.{length}
use Rattle.bundle.proofs.Files.{FilesAt}
use Rattle.bundle.proofs.check_files_within.Given as goal

abbrev pub invariant-loop-at : goal.invariant-loop-at
invariant-loop-at l = (f : ℕ) × (FilesAt l.bytes l.start f l.at l.prev × (f + l.left ≡ l.most))

abbrev pub decreases-loop-at : goal.decreases-loop-at
decreases-loop-at l = length l.bytes - l.at
