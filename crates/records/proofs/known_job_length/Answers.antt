-- `known_job_length` tests a job record's length: the tests that led to each return. Assumes nothing.
use mathlib.Core.Path.{sym}
use borrow.Author.Tests.{le-leb, leb-true}
use native.Mathlib.Omega.{arith}
use Rattle.words.proofs.Tests.{not-held, same_test}
use Rattle.records.proofs.Lengths.{job-length-yes, job-length-facts}
use Rattle.records.proofs.known_job_length.Goals as goal

pub returns-then-len-lt-JOB_LENGTH : goal.returns-then-len-lt-JOB_LENGTH
returns-then-len-lt-JOB_LENGTH c = sym (not-held _ (λ e. omega (arith, job-length-facts c.args.len e)))

pub returns-then-size-ne0 : goal.returns-then-size-ne0
returns-then-size-ne0 c = sym (not-held _ (λ e. c.if-size-ne0.true (job-length-facts c.args.len e).1))

pub returns-then-d-lt2 : goal.returns-then-d-lt2
returns-then-d-lt2 c = sym (not-held _ (λ e. omega (arith, job-length-facts c.args.len e)))

pub returns : goal.returns
returns c =
    let len = c.args.len in
    same_test _ _ (λ e. job-length-yes len (omega arith) c.if-size-ne0.false (omega arith) (leb-true _ _ e))
    (λ e. le-leb _ _ (job-length-facts len e).3)
