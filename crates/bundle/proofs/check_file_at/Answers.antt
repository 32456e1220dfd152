-- `check_file_at`: the heading's fault, or else the jobs' first fault. Assumes nothing.
use mathlib.Core.Path.{sym}
use Prim.Native.Nat.{◌+◌, ◌≤◌}
use lib.ListN.{length}
use native.Mathlib.Omega.{arith}
use Rattle.records.proofs.Lengths.{known-job}
use Rattle.bundle.specs.Acceptance.{HeadingOk}
use Rattle.bundle.proofs.Headings.{Ranges, ok-ranges, heading-ok}
use Rattle.bundle.proofs.check_file_at.Goals as goal
use Rattle.bundle.proofs.check_file_at.Goals.{In_ok-h, After-job_length}

heading : (c : In_ok-h) → HeadingOk c.args.bytes.now c.args.base c.args.prev c.args.at
heading c = let a = c.args in heading-ok a.bytes.now a.base a.prev a.at (sym c.in_ok-h.ensures.fault)

ranges : (c : In_ok-h) → Ranges c.in_ok-h.h
ranges c = rw c.in_ok-h.ensures.heading (ok-ranges _ (heading c).ranges)

pub job_length-requires : goal.job_length-requires
job_length-requires c = (ranges (goal.at.job_length-requires c).In_ok-h).book.d-high

-- the heading is within the bytes
fits : (c : After-job_length) → c.args.at + c.head_size-head.result ≤ length c.args.bytes.now
fits c =
    let e = (goal.at.After-job_length c).In_ok-h in
    rw (c.head_size-head.ensures, e.in_ok-h.ensures.heading) (heading e).frame.within

pub overflow_add-base : goal.overflow_add-base
overflow_add-base c = omega (arith, fits c, c.requires, c.well_formed)

pub overflow_add-at : goal.overflow_add-at
overflow_add-at c = omega (arith, fits c, c.well_formed)

pub check_jobs-requires : goal.check_jobs-requires
check_jobs-requires c =
    let b = (ranges (goal.at.check_jobs-requires c).In_ok-h).book in (
      rw c.job_length.ensures (known-job c.in_ok-h.h b.d-low b.d-high),
      omega (arith, c.requires),
      omega (arith, fits c),
    )
