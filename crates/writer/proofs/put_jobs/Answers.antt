-- The loop of `put_jobs`: the first p jobs are written. Assumes nothing.
use mathlib.Core.Path.{◌≡◌, refl, sym, ap, ◌∙◌}
use Prim.Native.Nat.{ℕ, ◌+◌, ◌*◌, ◌≤◌, ◌<◌}
use native.Mathlib.Nat.{mul-le-mul_right}
use mathlib.Core.List.{List, ◌++◌}
use native.Mathlib.Omega.{arith}
use lib.ListN.{length, get_or, take, drop, length-append}
use lib.Seq.{take_all}
use Rattle.records.specs.Layout.{record_size, job_size}
use Rattle.bundle.specs.Contents.{Job}
use Rattle.records.specs.declared.Heading.{Heading}
use Rattle.records.proofs.Lengths.{job-high}
use Rattle.writer.specs.Bytes.{job_bytes, jobs_bytes}
use Rattle.writer.specs.Write.{job_of, jobs_of}
use Rattle.writer.proofs.Put.{Written, written_none, written-more, written-length, written-end}
use Rattle.writer.proofs.Fits.{job-length}
use Rattle.writer.proofs.Calls.{jobs-count, jobs-more, job-words}
use Rattle.writer.proofs.put_jobs.Invariants.{At}
use Rattle.writer.proofs.put_jobs.Goals as goal
use Rattle.writer.proofs.put_jobs.Goals.{After-job_length-size, After-put_job-arg-1}

start : (out₀ : List ℕ) (at : ℕ) (h : Heading) (ns ws : List ℕ) → at ≤ length out₀ → At out₀ at h ns ws out₀ 0
unfolding jobs_bytes
start out₀ at h ns ws l = record { low = omega arith; same = refl; size = omega arith; bytes = written_none out₀ at l }

module _ (out₀ : List ℕ) (at : ℕ) (h : Heading) (ns ws out : List ℕ) (p : ℕ) (j : At out₀ at h ns ws out p)
    (fits : at + length ns * job_size h ≤ length out₀) (words : length ns * h.params.d ≤ length ws) (l : p < length ns) where
  -- the job's bytes and its words are there
  room : at + p * job_size h + job_size h ≤ length out₀
  room = omega (arith, mul-le-mul_right (job_size h) l)

  source : p * h.params.d + h.params.d ≤ length ws
  source = omega (arith, mul-le-mul_right h.params.d l)

  more : (o : List ℕ) (here : ℕ) → here ≡ at + p * job_size h →
      o ≡ take here out ++ (job_bytes h (job_of (get_or ns p 0) (take h.params.d (drop (p * h.params.d) ws))) ++ drop (here + job_size h) out) →
      At out₀ at h ns ws o (p + 1)
  more o here f e =
      let d = h.params.d in
      let js = jobs_of d ns ws in
      let w = take d (drop (p * d) ws) in
      let b = job_bytes h (job_of (get_or ns p 0) w) in
      let n : length b ≡ job_size h = job-length h (job_of (get_or ns p 0) w) (job-words d ws (p * d) source) in
      let c : jobs_bytes h (take (p + 1) js) ≡ jobs_bytes h (take p js) ++ b = jobs-more h d ns ws p l in
      let q : Written out₀ at (jobs_bytes h (take p js) ++ b) o =
      written-more out₀ at (jobs_bytes h (take p js)) out b o here (job_size h) j.bytes (omega (arith, j.size)) (sym n) (omega (arith, room)) e in
      record {
        low = omega arith;
        same = written-length out₀ at (jobs_bytes h (take p js) ++ b) o q;
        size = ap length c ∙ length-append (jobs_bytes h (take p js)) b ∙ omega (arith, j.size);
        bytes = rw c q;
      }

pub job_length-size-requires : goal.job_length-size-requires
job_length-size-requires c = c.requires.0

size_is : (c : After-job_length-size) → 4 + c.job_length-size.result ≡ job_size c.args.h
unfolding record_size
size_is c = ap (λ (n : ℕ). 4 + n) c.job_length-size.ensures

pub overflow_add-size : goal.overflow_add-size
overflow_add-size c = omega (arith, size_is c, job-high c.args.h c.requires.0)

pub loop-p-init : goal.loop-p-init
loop-p-init c =
    let a = c.args in
    start a.out.now a.at a.h a.numbers.now a.words.now (omega (arith, c.requires))

-- the job and its words are within the lists
ahead : (c : After-put_job-arg-1) → let a = c.args in
    let p = c.loop-p.p in
    (a.at + p * (4 + c.job_length-size.result) + job_size a.h ≤ length a.out.now) ×
    (p * a.h.params.d + a.h.params.d ≤ length a.words.now)
ahead c =
    let a = c.args in
    let l = c.loop-p in
    let f = c.requires in
    let t = c.loop-p-test.true in
    rw (size_is (goal.at.After-put_job-arg-1 c).After-job_length-size) (
      room a.out.now a.at a.h a.numbers.now a.words.now l.out l.p l.invariant f.1 f.2 t,
      source a.out.now a.at a.h a.numbers.now a.words.now l.out l.p l.invariant f.1 f.2 t,
    )

pub overflow_mul-p : goal.overflow_mul-p
overflow_mul-p c = omega (arith, (ahead c).0, c.well_formed)

pub overflow_add-at : goal.overflow_add-at
overflow_add-at c = omega (arith, (ahead c).0, c.well_formed)

pub overflow_mul-p-in-loop-p : goal.overflow_mul-p-in-loop-p
overflow_mul-p-in-loop-p c = omega (arith, (ahead (goal.at.overflow_mul-p-in-loop-p c).After-put_job-arg-1).1, c.well_formed)

pub put_job-requires : goal.put_job-requires
put_job-requires c =
    let h = ahead (goal.at.put_job-requires c).After-put_job-arg-1 in
    (c.requires.0, omega (arith, h.0, c.loop-p.invariant.same), h.1)

pub loop-p-preserved : goal.loop-p-preserved
loop-p-preserved c =
    let a = c.args in
    let l = c.loop-p in
    let f = c.requires in
    more a.out.now a.at a.h a.numbers.now a.words.now l.out l.p l.invariant f.1 f.2
    c.loop-p-test.true c.put_job.new.out _
    (ap (λ (n : ℕ). a.at + l.p * n) (size_is (goal.at.loop-p-preserved c).After-job_length-size)) c.put_job.ensures

pub shape_of-out : goal.shape_of-out
shape_of-out c = c.loop-p.invariant.same

pub returns : goal.returns
returns c =
    let a = c.args in
    let l = c.loop-p in
    let js = jobs_of a.h.params.d a.numbers.now a.words.now in
    let z : l.p ≡ length a.numbers.now = omega (arith, c.loop-p-test.false, l.invariant.low) in
    let k : take l.p js ≡ js = take_all l.p js (omega (arith, jobs-count a.h.params.d a.numbers.now a.words.now)) in
    written-end a.out.now a.at (jobs_bytes a.h js) l.out (length a.numbers.now * job_size a.h) (rw k at l.invariant.bytes)
    (ap (λ (x : List Job). length (jobs_bytes a.h x)) (sym k) ∙ l.invariant.size ∙ ap (λ (n : ℕ). n * job_size a.h) z)
