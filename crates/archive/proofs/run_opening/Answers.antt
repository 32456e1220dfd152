-- `run_opening`: a wide word, or the totals of the run in each file, and what they open to. Assumes nothing.
use borrow.Author.Rules.{rules}
use Rattle.std.specs.Result.{IsErrAnd}
use mathlib.Core.Path.{◌≡◌, sym, ap, ap₂, ◌∙◌}
use mathlib.Core.List.{List}
use Prim.Native.Nat.{ℕ, ◌-◌}
use lib.ListN.{length, drop}
use Rattle.galois.specs.Element.{Element}
use Rattle.polynomial.specs.Rows.{Rows}
use Rattle.codewords.specs.Opening.{wrong_of, answer_to}
use Rattle.level.specs.Shares.{shares_of}
use Rattle.bundle.specs.Bundle.{params_of, allowance_of}
use Rattle.totals.specs.Total.{run_total}
use Rattle.totals.proofs.Runs.{total-length}
use Rattle.archive.specs.Archive.{shares_over}
use Rattle.archive.proofs.Loaded.{arrays, loaded, loaded-sized, loaded-width, loaded-length, run_refused, run-answers}
use Rattle.archive.proofs.Shares.{total-element}
use Rattle.archive.proofs.run_opening.Goals as goal
use Rattle.archive.proofs.run_opening.Goals.{After-load_run-seen, Start}

abbrev bs : Start → List ℕ
bs s = s.args.bundle.now.bytes.now

-- the words of each file's share
abbrev words : Start → ℕ → Element
words s f = run_total (bs s) f s.args.a (s.args.b - s.args.a)

long : (s : Start) (f : ℕ) → length (words s f) ≡ (params_of (bs s)).d
long s f = total-length (bs s) f s.args.a (s.args.b - s.args.a)

-- the rows that the loader leaves
abbrev rest : Start → Rows
rest s = drop s.args.bundle.now.files s.args.shares.now

abbrev rows : After-load_run-seen → Rows
rows c = c.load_run-seen.new.shares

-- the shares that it leaves
stands : (l : After-load_run-seen) → let s = (goal.at.After-load_run-seen l).Start in
    shares_of s.args.bundle.now.heading.params.d s.args.bundle.now.files s.args.holders.now (rows l) ≡ shares_over (bs s) s.args.a (s.args.b - s.args.a)
stands l =
    let s = (goal.at.After-load_run-seen l).Start in
    arrays (bs s) s.args.bundle.now.heading s.args.bundle.now.headed s.args.bundle.now.files s.args.bundle.now.counted s.args.holders.now (rows l) s.requires.2
    ∙ loaded (bs s) s.args.bundle.now.heading s.args.bundle.now.headed s.args.bundle.now.files s.args.bundle.now.counted (words s) (long s) (rows l) (rest s) l.load_run-seen.ensures.1

pub returns-in_err-unless : goal.returns-in_err-unless
returns-in_err-unless c =
    let l = (goal.at.returns-in_err-unless c).After-load_run-seen in
    let s = (goal.at.After-load_run-seen l).Start in
    let p = s.args.bundle.now.heading.params in
    let x = c.in_err-unless in
    let r = c.from_residual.result in
    let h : IsErrAnd r (λ y. y ≡ x.field-0.0) = search rules in
    let t = run_refused (bs s) s.args.a (s.args.b - s.args.a) r x.field-0.0 h c.in_width.result x.ensures.fault
    (c.in_width.ensures ∙ l.load_run-seen.ensures.0) p.k p.d p.t s.args.rows.now (shares_over (bs s) s.args.a (s.args.b - s.args.a)) in
    record { opening = t.0; wrong = t.1; shares = stands l; shaped = s.requires.4 }

pub decode_files-requires : goal.decode_files-requires
decode_files-requires c =
    let l = (goal.at.decode_files-requires c).After-load_run-seen in
    let s = (goal.at.After-load_run-seen l).Start in
    let h = s.args.bundle.now.heading in
    let r = l.load_run-seen in (
      s.requires.2,
      loaded-sized (bs s) h s.args.bundle.now.headed s.args.bundle.now.files s.args.bundle.now.counted (words s) (long s) (rows l) (rest s) r.ensures.1,
      λ x. loaded-width (bs s) h s.args.bundle.now.headed s.args.bundle.now.files s.args.bundle.now.counted (words s) (long s) (rows l) (rest s) r.ensures.1
          (λ f u. total-element (bs s) f s.args.a (s.args.b - s.args.a)),
      loaded-length (bs s) h s.args.bundle.now.headed s.args.bundle.now.files s.args.bundle.now.counted _ (rows l) s.args.shares.now s.args.bundle.now.sound s.requires.3 r.ensures.1,
      s.requires.4,
    )

pub returns : goal.returns
returns c =
    let l = (goal.at.returns c).After-load_run-seen in
    let s = (goal.at.After-load_run-seen l).Start in
    let h = s.args.bundle.now.heading in
    let d = c.decode_files.ensures in
    let same = loaded (bs s) h s.args.bundle.now.headed s.args.bundle.now.files s.args.bundle.now.counted (words s) (long s) (rows l) (rest s) l.load_run-seen.ensures.1 in
    let o = ap (answer_to (params_of (bs s)) (allowance_of (bs s))) same
    ∙ sym (run-answers (bs s) s.args.a (s.args.b - s.args.a)
    (sym l.load_run-seen.ensures.0 ∙ sym c.in_width.ensures ∙ c.in_ok-unless.ensures.ok)) in
    record { opening = d.opening ∙ o; wrong = d.wrong ∙ ap₂ (wrong_of h.params.k h.params.d) same o; shares = stands l; shaped = d.shaped }
