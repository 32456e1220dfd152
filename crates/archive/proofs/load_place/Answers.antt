-- The loop of `load_place`: the rows passed are the words of the files' jobs, which are taken together. Assumes nothing.
use native.Mathlib.Omega.{arith}
use mathlib.Core.Path.{◌≡◌, sym, ap, ◌∙◌}
use mathlib.Core.Bool.{Bool}
use Prim.Native.Nat.{ℕ, ◌≤◌, ◌<◌}
use lib.ListN.{length}
use Rattle.words.specs.Word.{all_in_width}
use Rattle.galois.specs.Element.{Element, held}
use Rattle.galois.proofs.Held.{held-length}
use Rattle.records.specs.declared.Heading.{Heading}
use Rattle.bundle.specs.Bundle.{params_of, files_of}
use Rattle.bundle.specs.Contents.{words_of}
use Rattle.bundle.proofs.Bundles.{bundle-ok, ranges-of, files-most}
use Rattle.totals.specs.Values.{every}
use Rattle.totals.proofs.Values.{values-start, values-next, values-done}
use Rattle.totals.proofs.Words.{words_length, padded, padded-width, none_seen, more-seen, together, six-width}
use Rattle.archive.proofs.load_place.Goals as goal
use Rattle.archive.proofs.load_place.Goals.{After-job_words-w, At-loop-f, Start}

few : (s : Start) → s.args.bundle.now.files ≤ 63
few s = omega (arith, s.args.bundle.now.counted, files-most s.args.bundle.now.bytes.now (bundle-ok s.args.bundle.now.bytes.now s.args.bundle.now.sound))

-- the test of one file, and its row
abbrev test : Start → ℕ → Bool
test s g = all_in_width (params_of s.args.bundle.now.bytes.now).k (words_of s.args.bundle.now.bytes.now g s.args.place)

abbrev row : Start → ℕ → Element
row s g = held s.args.bundle.now.heading.params.d (words_of s.args.bundle.now.bytes.now g s.args.place)

pub loop-f-init : goal.loop-f-init
loop-f-init c =
    let s = (goal.at.loop-f-init c).Start in
    (none_seen s.args.bundle.now.heading.params.k (test s), values-start (row s) s.args.bundle.now.files s.args.shares.now)

-- the row that it writes is there
here : (c : After-job_words-w) → c.loop-f.f < 63
here c = omega (arith, few (goal.at.After-job_words-w c).Start, c.loop-f-test.true)

pub offset_bounds-shares-f : goal.offset_bounds-shares-f
offset_bounds-shares-f c = omega (arith, here c)

pub bounds-shares-f : goal.bounds-shares-f
bounds-shares-f c = here c

pub loop-f-preserved : goal.loop-f-preserved
loop-f-preserved c =
    let l = (goal.at.loop-f-preserved c).At-loop-f in
    let s = (goal.at.At-loop-f l).Start in
    let a = s.args in
    let bs = a.bundle.now.bytes.now in
    let e = words_of bs l.loop-f.f a.place in
    let w = c.job_words-w in
    let hd = (ranges-of bs (bundle-ok bs s.args.bundle.now.sound) a.bundle.now.heading s.args.bundle.now.headed).book.d-high in
    let long : length e ≡ a.bundle.now.heading.params.d = words_length bs l.loop-f.f a.place ∙ ap (λ (x : Heading). x.params.d) (sym s.args.bundle.now.headed) in
    let held-words : w.result ≡ held a.bundle.now.heading.params.d e = w.ensures ∙ padded a.bundle.now.heading.params.d e long in
    let six : length w.result ≡ 6 = ap length held-words ∙ held-length a.bundle.now.heading.params.d e long hd in (
      more-seen a.bundle.now.heading.params.k l.loop-f.seen (together w.result) (test s) l.loop-f.f l.loop-f.invariant.0
          (six-width a.bundle.now.heading.params.k w.result six
          ∙ ap (all_in_width a.bundle.now.heading.params.k) w.ensures
          ∙ padded-width a.bundle.now.heading.params.k a.bundle.now.heading.params.d e hd
          ∙ ap (λ (x : Heading). all_in_width x.params.k e) s.args.bundle.now.headed),
      values-next (row s) a.bundle.now.files a.shares.now l.loop-f.shares l.loop-f.f w.result l.loop-f.invariant.1 c.loop-f-test.true
          (omega (arith, few s, s.requires.1)) held-words,
    )

pub returns : goal.returns
returns c =
    let l = (goal.at.returns c).At-loop-f in
    let s = (goal.at.At-loop-f l).Start in
    let e : l.loop-f.f ≡ s.args.bundle.now.files = omega arith in
    let n : l.loop-f.f ≡ files_of s.args.bundle.now.bytes.now = e ∙ s.args.bundle.now.counted in (
      l.loop-f.invariant.0 ∙ ap (every (test s)) n,
      values-done (row s) s.args.bundle.now.files s.args.shares.now l.loop-f.shares l.loop-f.f l.loop-f.invariant.1 e,
    )
