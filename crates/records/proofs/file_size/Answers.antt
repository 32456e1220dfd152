-- `file_size` gives the bytes of a file. Assumes nothing.
use mathlib.Core.Path.{◌≡◌, ap}
use Prim.Native.Nat.{ℕ, ◌+◌, ◌*◌, ◌≤◌}
use native.Mathlib.Omega.{arith}
use Rattle.records.specs.Layout.{record_size, job_size}
use Rattle.records.proofs.Lengths.{jobs_high, head-high}
use Rattle.records.proofs.file_size.Goals as goal
use Rattle.records.proofs.file_size.Goals.{After-job_length, After-struct_known-1}

-- the jobs' bytes
job_is : (c : After-job_length) → 4 + c.job_length.result ≡ job_size c.args.h
unfolding record_size
job_is c = ap (λ (n : ℕ). 4 + n) c.job_length.ensures

all : (c : After-struct_known-1) → c.args.h.jobs * (4 + c.job_length.result) ≤ 64000
all c =
    rw (job_is (goal.at.After-struct_known-1 c).After-job_length) (jobs_high c.args.h (omega (arith, c.requires))
    c.args.h.jobs (omega (arith, c.requires)))

pub overflow_add-result-2 : goal.overflow_add-result-2
overflow_add-result-2 c = omega (arith, all c, c.head_size.ensures, head-high c.args.h)
