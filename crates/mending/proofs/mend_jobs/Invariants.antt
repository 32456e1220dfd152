-- The loop of `mend_jobs`: the places passed are mended. Assumes nothing.
use Rattle.std.proofs.Common.{◌≡◌}
use Rattle.mending.specs.Progress.{mended_to}
use Rattle.mending.proofs.mend_jobs.Given as goal

abbrev pub invariant-loop-place : goal.invariant-loop-place
invariant-loop-place l = l.out ≡ mended_to l.bundle.bytes.now l.place 0
