-- `check_job`: each exit is a case of the job's fault. Assumes nothing.
use mathlib.Core.Path.{sym, ◌∙◌}
use Prim.Native.Nat.{◌+◌, ◌≤◌}
use lib.ListN.{length}
use native.Mathlib.Omega.{arith}
use Rattle.records.specs.Layout.{record_size, job_kind, body_at}
use Rattle.records.proofs.Lengths.{known-job-min}
use Rattle.records.proofs.Record.{framed-frame}
use Rattle.bundle.proofs.check_job.Goals as goal
use Rattle.bundle.proofs.check_job.Goals.{In_ok-unless}

-- past the first test the job number is within the bytes
fits : (c : In_ok-unless) → body_at c.args.at + 8 ≤ length c.args.bytes.now
unfolding record_size
fits c =
    omega (
      arith,
      (framed-frame c.args.bytes.now job_kind c.args.len c.args.at (sym c.is_record.ensures ∙ c.in_ok-unless.ensures.ok)).within,
      known-job-min c.args.len c.requires.0,
    )

pub word_at-num-requires : goal.word_at-num-requires
word_at-num-requires c = omega (arith, fits c)

pub word_at-requires : goal.word_at-requires
word_at-requires c = omega (arith, fits (goal.at.word_at-requires c).In_ok-unless, c.requires)
