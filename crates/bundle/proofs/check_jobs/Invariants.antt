-- The loop of `check_jobs`: the places passed have no fault. Assumes nothing.
use Rattle.bundle.proofs.Files.{JobsAt}
use Rattle.bundle.proofs.check_jobs.Given as goal

abbrev pub invariant-loop-p : goal.invariant-loop-p
invariant-loop-p l = JobsAt l.bytes l.len l.base l.at l.p l.first l.here l.prev
