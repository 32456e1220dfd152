-- The loop of `mend_files`: the files passed are mended at the place. Assumes nothing.
use Rattle.std.proofs.Common.{◌≡◌}
use Rattle.mending.specs.Progress.{mended_to}
use Rattle.mending.proofs.mend_files.Given as goal

abbrev pub invariant-loop-f : goal.invariant-loop-f
invariant-loop-f l = l.out ≡ mended_to l.bundle.bytes.now l.place l.f
