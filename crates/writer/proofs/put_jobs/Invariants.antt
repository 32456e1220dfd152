-- The loop of `put_jobs`: the first p jobs are written. Assumes nothing.
use mathlib.Core.Path.{◌≡◌}
use Prim.Native.Nat.{ℕ, ◌*◌, ◌≤◌}
use mathlib.Core.List.{List}
use lib.ListN.{length, take}
use Rattle.records.specs.Layout.{job_size}
use Rattle.records.specs.declared.Heading.{Heading}
use Rattle.writer.specs.Bytes.{jobs_bytes}
use Rattle.writer.specs.Write.{jobs_of}
use Rattle.writer.proofs.Put.{Written}
use Rattle.writer.proofs.put_jobs.Given as goal

-- where the loop stands at place p: what is written
pub record At (out₀ : List ℕ) (at : ℕ) (h : Heading) (ns ws out : List ℕ) (p : ℕ) : Type 0 where
  pub low : p ≤ length ns
  pub same : length out ≡ length out₀
  pub size : length (jobs_bytes h (take p (jobs_of h.params.d ns ws))) ≡ p * job_size h
  pub bytes : Written out₀ at (jobs_bytes h (take p (jobs_of h.params.d ns ws))) out

abbrev pub invariant-loop-p : goal.invariant-loop-p
invariant-loop-p l = At l.initial.out l.at l.h l.numbers l.words l.out l.p
