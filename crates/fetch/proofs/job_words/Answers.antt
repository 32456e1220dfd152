-- `job_words`: the words of the job that stands there. Assumes nothing.
use mathlib.Core.Path.{ap, ap₂, ◌∙◌}
use Prim.Native.Nat.{ℕ, ◌+◌, ◌*◌, ◌≤◌, ◌<◌}
use native.Mathlib.Omega.{arith}
use mathlib.Core.List.{List, ◌++◌}
use lib.ListN.{length, drop, replicate}
use Rattle.records.specs.Layout.{word_size, job_len_of}
use Rattle.records.specs.declared.Heading.{Heading}
use Rattle.bundle.specs.Bundle.{files_of}
use Rattle.bundle.specs.Contents.{words_from, words_of}
use Rattle.bundle.proofs.Bundles.{bundle-ok, ranges-of}
use Rattle.fetch.proofs.Places.{job-asks, job-spot, job-fits}
use Rattle.fetch.proofs.job_words.Goals as goal
use Rattle.fetch.proofs.job_words.Goals.{After-job_at, Start}

low : (c : Start) → c.args.f < files_of c.args.bundle.now.bytes.now
low c = omega (arith, c.requires, c.args.bundle.now.counted)

-- the words are within the bytes, and are the job's
within : (c : After-job_at) → c.job_at.result + 6 + 8 + 8 * c.args.bundle.now.heading.params.d ≤ length c.args.bundle.now.bytes.now
unfolding job_len_of word_size
within c =
    let b = c.args.bundle.now in
    omega (
      arith,
      job-fits b.bytes.now b.sound b.heading b.headed c.args.f (low (goal.at.After-job_at c).Start) c.args.p c.job_at.result c.requires.1 c.job_at.ensures,
    )

pub job_at-requires : goal.job_at-requires
job_at-requires c =
    let b = c.args.bundle.now in
    job-asks b.bytes.now b.sound b.heading b.headed c.args.f (low (goal.at.job_at-requires c).Start) c.args.p (omega (arith, c.requires.1))

pub overflow_add-at : goal.overflow_add-at
overflow_add-at c = omega (arith, within c, c.well_formed)

pub overflow_add-at-2 : goal.overflow_add-at-2
overflow_add-at-2 c = omega (arith, within c, c.well_formed)

pub load_words-requires : goal.load_words-requires
load_words-requires c =
    let b = c.args.bundle.now in
    let r = (ranges-of b.bytes.now (bundle-ok b.bytes.now b.sound) b.heading b.headed).book in
    ((r.d-low, r.d-high), omega (arith, within (goal.at.load_words-requires c).After-job_at))

pub returns : goal.returns
unfolding words_of word_size
returns c =
    let b = c.args.bundle.now in
    c.load_words.ensures
    ∙ ap (λ (x : List ℕ). x ++ drop b.heading.params.d (replicate 6 0))
    (ap₂ (λ (n at : ℕ). words_from 8 b.bytes.now n (at + 6 + 8)) (ap (λ (h : Heading). h.params.d) b.headed)
    (job-spot b.bytes.now b.sound b.heading b.headed c.args.f (low (goal.at.returns c).Start) c.args.p c.job_at.result c.requires.1 c.job_at.ensures))
