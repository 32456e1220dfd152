-- `add_run`: the contract of `add_jobs`, of the jobs of the run; the words are then cut. Assumes nothing.
use native.Mathlib.Omega.{arith}
use mathlib.Core.Path.{◌≡◌, refl, sym, ap, ◌∙◌}
use mathlib.Core.List.{List, ◌++◌}
use Prim.Native.Nat.{ℕ, ◌+◌, ◌-◌, ◌*◌, ◌≤◌, ◌<◌}
use lib.ListN.{length, take, drop}
use Rattle.words.specs.Word.{in_width, all_in_width}
use Rattle.words.proofs.InRange.{InRange}
use Rattle.galois.specs.Element.{sum, reduce}
use Rattle.records.specs.Layout.{record_size, head_size, job_size, file_size, order_size}
use Rattle.bundle.specs.Bundle.{files_of}
use Rattle.bundle.proofs.Bundles.{bundle-ok, ranges-of}
use Rattle.fetch.proofs.Places.{job-asks}
use Rattle.totals.specs.Values.{every}
use Rattle.totals.specs.Total.{sum_to, run_total, run_in_width, added_to}
use Rattle.totals.proofs.Runs.{job_words, run-within, run-told}
use Rattle.totals.proofs.add_run.Goals as goal
use Rattle.totals.proofs.add_run.Goals.{After-add_jobs-seen, After-job_at, After-job_length-size, Start}

abbrev bs : Start → List ℕ
bs s = s.args.bundle.now.bytes.now

abbrev old : Start → List ℕ
old s = s.args.running.now

filed : (s : Start) → s.args.f < files_of (bs s)
filed s = rw (sym s.args.bundle.now.counted) s.requires.0

book : (s : Start) → InRange s.args.bundle.now.heading.params
book s = (ranges-of (bs s) (bundle-ok (bs s) s.args.bundle.now.sound) s.args.bundle.now.heading s.args.bundle.now.headed).book

-- the run ends where the jobs do, at the latest
ends : (s : Start) → s.args.a + (s.args.b - s.args.a) ≤ s.args.bundle.now.heading.jobs
ends s = omega (arith, s.requires.1, s.requires.2)

-- where the words of the first job stand
start : (c : After-job_at) → let h = c.args.bundle.now.heading in
    c.job_at.result + 6 + 8 ≡ order_size + c.args.f * file_size h + head_size h + c.args.a * job_size h + 6 + 8
start c = ap (λ (x : ℕ). x + 6 + 8) c.job_at.ensures

near : (c : After-job_at) → c.job_at.result ≤ length (bs (goal.at.After-job_at c).Start) + 62
near c =
    let s = (goal.at.After-job_at c).Start in
    let h = s.args.bundle.now.heading in
    let w = run-within (bs s) s.args.bundle.now.sound h s.args.bundle.now.headed s.args.f s.args.a (s.args.b - s.args.a) (c.job_at.result + 6 + 8) (job_size h)
    h.params.d (filed s) (ends s) (start c) refl refl in
    omega (arith, w.0, w.1)

-- what is told of the words seen and of the list that was lent
abbrev S : After-job_length-size → Start
S c = (goal.at.After-job_length-size c).Start

abbrev Told : After-job_length-size → ℕ → List ℕ → Type 0
Told c r y =
    let s = (goal.at.After-job_length-size c).Start in
    let k = s.args.bundle.now.heading.params.k in
    let d = s.args.bundle.now.heading.params.d in
    let n = s.args.b - s.args.a in
    (in_width k r ≡ run_in_width (bs s) s.args.f s.args.a n)
    × (reduce k (take d y) ++ drop d y ≡ added_to k (old s) (run_total (bs s) s.args.f s.args.a n)) × (length y ≡ length (old s))

-- what is asked of `add_jobs` at a d, and what it then tells
apart : (c : After-job_length-size) → 4 + c.job_length-size.result ≡ job_size c.args.bundle.now.heading
unfolding record_size
apart c = ap (λ (x : ℕ). 4 + x) c.job_length-size.ensures

module _ (c : After-job_length-size) (d : ℕ) (same : (S c).args.bundle.now.heading.params.d ≡ d) where
  abbrev at : ℕ
  at = c.job_at.result + 6 + 8

  abbrev size : ℕ
  size = 4 + c.job_length-size.result

  abbrev count : ℕ
  count = (S c).args.b - (S c).args.a

  within : (size ≤ 62) × (at + count * size + 8 * d ≤ length (bs (S c)) + size) × (d ≤ length (old (S c)))
  within =
      let s = S c in
      let w = run-within (bs s) s.args.bundle.now.sound s.args.bundle.now.heading s.args.bundle.now.headed s.args.f s.args.a count at size d (filed s) (ends s)
      (start (goal.at.After-job_length-size c).After-job_at) (apart c) same in
      (w.0, w.1, omega (arith, same, s.requires.3))

  told : (r : ℕ) (y : List ℕ) → ((k : ℕ) → in_width k r ≡ every (λ i. all_in_width k (job_words (bs (S c)) d at size i)) count)
      × ((k : ℕ) → k ≤ 64 → reduce k (take d y) ≡ sum k (old (S c)) (sum_to k d (job_words (bs (S c)) d at size) count))
      × (drop d y ≡ drop d (old (S c))) → length y ≡ length (old (S c)) → Told c r y
  told r y q l =
      let s = S c in
      let t = run-told (bs s) s.args.bundle.now.sound s.args.bundle.now.heading s.args.bundle.now.headed s.args.f s.args.a count at size d (filed s) (ends s)
      (start (goal.at.After-job_length-size c).After-job_at) (apart c) same r (old s) y q in
      (t.0, t.1, l)

summed : (c : After-add_jobs-seen) → Told (goal.at.After-add_jobs-seen c).After-job_length-size c.add_jobs-seen.result c.add_jobs-seen.new.running
summed c =
    told (goal.at.After-add_jobs-seen c).After-job_length-size c.args.bundle.now.heading.params.d refl _ _ c.add_jobs-seen.ensures c.add_jobs-seen.auto.running

pub cut_words-requires : goal.cut_words-requires
cut_words-requires c =
    let s = (goal.at.cut_words-requires c).Start in
    (((book s).k-low, (book s).k-high), omega (arith, s.requires.3, (summed (goal.at.cut_words-requires c).After-add_jobs-seen).2))

pub shape_of-running : goal.shape_of-running
shape_of-running c = c.cut_words.auto.running ∙ (summed (goal.at.shape_of-running c).After-add_jobs-seen).2

pub returns : goal.returns
returns c =
    let m = summed (goal.at.returns c).After-add_jobs-seen in
    (m.0, c.cut_words.ensures ∙ m.1)

pub job_at-requires : goal.job_at-requires
job_at-requires c = let s = (goal.at.job_at-requires c).Start in
    job-asks (bs s) s.args.bundle.now.sound s.args.bundle.now.heading s.args.bundle.now.headed s.args.f (filed s) s.args.a (omega (arith, ends s))

pub overflow_add-at : goal.overflow_add-at
overflow_add-at c = omega (arith, near c, c.well_formed)

pub overflow_add-at-2 : goal.overflow_add-at-2
overflow_add-at-2 c = omega (arith, near c, c.well_formed)

pub job_length-size-requires : goal.job_length-size-requires
job_length-size-requires c = (book (goal.at.job_length-size-requires c).Start).d-high

pub overflow_add-size : goal.overflow_add-size
overflow_add-size c = omega (arith, (within c c.args.bundle.now.heading.params.d refl).0)

pub add_jobs-seen-requires : goal.add_jobs-seen-requires
add_jobs-seen-requires c =
    let r = book (goal.at.add_jobs-seen-requires c).Start in
    let w = within (goal.at.add_jobs-seen-requires c).After-job_length-size c.args.bundle.now.heading.params.d refl in
    ((r.d-low, r.d-high), w.0, w.1, w.2)
