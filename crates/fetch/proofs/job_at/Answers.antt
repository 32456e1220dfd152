-- `job_at`: products that do not overflow. Assumes nothing.
use mathlib.Core.Path.{◌≡◌, ap, ap₂, ◌∙◌}
use Prim.Native.Nat.{ℕ, ◌+◌, ◌*◌, ◌≤◌}
use native.Mathlib.Omega.{arith}
use Rattle.records.specs.Layout.{record_size, job_size, order_size, file_size}
use Rattle.records.proofs.Lengths.{files-high, head-high, job-high, jobs_high}
use Rattle.fetch.proofs.job_at.Goals as goal
use Rattle.fetch.proofs.job_at.Goals.{After-head_size, After-job_length}

-- where the first job stands
small : (c : After-head_size) → c.file_at.result + c.head_size.result ≤ 4100000
small c =
    rw (c.file_at.ensures, c.head_size.ensures)
    (omega (
      arith,
      head-high c.args.h,
      files-high c.args.h (omega (arith, c.requires)) (omega (arith, c.requires))
          c.args.f (omega (arith, c.requires)),
    ))

pub overflow_add-result : goal.overflow_add-result
overflow_add-result c = omega (arith, small c)

job_is : (c : After-job_length) → 4 + c.job_length.result ≡ job_size c.args.h
unfolding record_size
job_is c = ap (λ (n : ℕ). 4 + n) c.job_length.ensures

pub overflow_add-result-2 : goal.overflow_add-result-2
overflow_add-result-2 c = omega (arith, job_is c, job-high c.args.h (omega (arith, c.requires)))

jobs : (c : After-job_length) → c.args.p * (4 + c.job_length.result) ≤ 64000
jobs c =
    rw (job_is c) (jobs_high c.args.h (omega (arith, c.requires))
    c.args.p (omega (arith, c.requires)))

pub overflow_mul-result : goal.overflow_mul-result
overflow_mul-result c = omega (arith, jobs c)

pub overflow_add-result-3 : goal.overflow_add-result-3
overflow_add-result-3 c = omega (arith, jobs c, small (goal.at.overflow_add-result-3 c).After-head_size)

pub returns : goal.returns
returns c =
    ap₂ (λ (n s : ℕ). n + c.head_size.result + c.args.p * s) c.file_at.ensures (job_is c)
    ∙ ap (λ (n : ℕ). order_size + c.args.f * file_size c.args.h + n +
    c.args.p * job_size c.args.h) c.head_size.ensures
