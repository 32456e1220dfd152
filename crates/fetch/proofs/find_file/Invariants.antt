-- The loop of `find_file`: no file passed is the holder's. Assumes nothing.
use Rattle.fetch.proofs.Fetch.{FindAt}
use Rattle.fetch.proofs.find_file.Given as goal

abbrev pub invariant-loop-f : goal.invariant-loop-f
invariant-loop-f l = FindAt l.bundle.bytes.now l.holder l.f l.at
