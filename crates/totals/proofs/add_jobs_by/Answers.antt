-- The loop of `add_jobs_by`: the jobs passed are added, and their words taken together. Assumes nothing.
use native.Mathlib.Omega.{arith}
use native.Mathlib.Nat.{mul-le-mul_right}
use mathlib.Core.Path.{◌≡◌, refl, ◌∙◌}
use Prim.Native.Nat.{ℕ, ◌+◌, ◌*◌, ◌≤◌, ◌<◌}
use lib.Bits.{bit_or}
use lib.ListN.{length}
use Rattle.words.specs.Word.{all_in_width}
use Rattle.galois.specs.Element.{Element}
use Rattle.bundle.proofs.Contents.{words_count}
use Rattle.totals.proofs.Added.{added_none, added_more, added-rest}
use Rattle.totals.proofs.Words.{none_seen, more-seen, lanes}
use Rattle.totals.proofs.Runs.{job_words}
use Rattle.totals.proofs.add_jobs_by.Goals as goal
use Rattle.totals.proofs.add_jobs_by.Goals.{Start}

-- the words of each job
abbrev jobs : Start → ℕ → Element
jobs s = let a = s.args in job_words a.bytes.now a.d a.at a.size

long : (s : Start) (i : ℕ) → length (jobs s i) ≡ s.args.d
long s i = let a = s.args in words_count 8 a.bytes.now a.d (a.at + i * a.size)

-- a job that is read is followed by another, or by the end
next : (s : Start) (p : ℕ) → p < s.args.count → p * s.args.size + s.args.size ≤ s.args.count * s.args.size
next s p h = omega (arith, mul-le-mul_right s.args.size h)

pub loop-init : goal.loop-init
loop-init c =
    let s = (goal.at.loop-init c).Start in
    (omega arith, λ k. none_seen k (λ i. all_in_width k (jobs s i)), λ k h. added_none s.args.d s.args.running.now (jobs s) k, refl)

pub add_words-seen-requires : goal.add_words-seen-requires
add_words-seen-requires c =
    let l = c.loop in
    let s = (goal.at.add_words-seen-requires c).Start in
    (omega (arith, next s l.counter c.loop-test.true), omega arith)

pub overflow_add-here : goal.overflow_add-here
overflow_add-here c =
    let l = c.loop in
    let s = (goal.at.overflow_add-here c).Start in
    omega (arith, next s l.counter c.loop-test.true)

pub loop-preserved : goal.loop-preserved
loop-preserved c =
    let l = c.loop in
    let s = (goal.at.loop-preserved c).Start in
    let a = s.args in
    let w = c.add_words-seen in
    let y = w.new.running in
    let u : a.d ≤ length l.running = omega arith in
    let e = rw l.invariant.0 at w.ensures in (
      omega arith,
      λ k.
          lanes k l.even l.odd w.result.even w.result.odd
          ∙ more-seen k (bit_or l.even l.odd) _ (λ i. all_in_width k (jobs s i)) l.counter (l.invariant.1 k) (e.0 k),
      λ k h. added_more a.d a.running.now (jobs s) l.counter (long s l.counter) l.running y u e.1 k h (l.invariant.2 k h),
      added-rest a.d a.running.now (jobs s) l.counter (long s l.counter) l.running y u e.1 l.invariant.3,
    )

pub returns : goal.returns
returns c =
    let l = c.loop in
    let e : l.counter ≡ c.args.count = omega arith in
    (λ k. rw e at (l.invariant.1 k), λ k h. rw e at (l.invariant.2 k h), l.invariant.3)
