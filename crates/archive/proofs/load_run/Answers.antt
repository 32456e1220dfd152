-- The loop of `load_run`: the rows passed are the files' totals, and their words are taken together. Assumes nothing.
use native.Mathlib.Omega.{arith}
use mathlib.Core.Path.{◌≡◌, ap, ◌∙◌}
use mathlib.Core.Bool.{Bool}
use mathlib.Core.List.{List, []}
use Prim.Native.Nat.{ℕ, ◌-◌, ◌≤◌, ◌<◌}
use lib.ListN.{length, get_or, set, length-set}
use lib.Seq.{get_or-set_same, set-set}
use Rattle.galois.specs.Element.{Element, zero_e, held}
use Rattle.bundle.specs.Bundle.{files_of}
use Rattle.bundle.proofs.Bundles.{bundle-ok, ranges-of, files-most}
use Rattle.totals.specs.Total.{run_total, run_in_width, added_to}
use Rattle.totals.specs.Values.{every}
use Rattle.totals.proofs.Values.{values-start, values-next, values-done}
use Rattle.totals.proofs.Words.{none_seen, more-seen}
use Rattle.totals.proofs.Runs.{run-held}
use Rattle.archive.proofs.load_run.Goals as goal
use Rattle.archive.proofs.load_run.Goals.{At-loop-f, In-loop-f, Start}

few : (s : Start) → s.args.bundle.now.files ≤ 63
few s = omega (arith, s.args.bundle.now.counted, files-most s.args.bundle.now.bytes.now (bundle-ok s.args.bundle.now.bytes.now s.args.bundle.now.sound))

-- the test of one file, and its row
abbrev run : Start → ℕ → Bool
run s g = run_in_width s.args.bundle.now.bytes.now g s.args.a (s.args.b - s.args.a)

abbrev row : Start → ℕ → Element
row s g = held s.args.bundle.now.heading.params.d (run_total s.args.bundle.now.bytes.now g s.args.a (s.args.b - s.args.a))

pub loop-f-init : goal.loop-f-init
loop-f-init c =
    let s = (goal.at.loop-f-init c).Start in
    (s.requires.2, none_seen s.args.bundle.now.heading.params.k (run s), values-start (row s) s.args.bundle.now.files s.args.shares.now)

-- the row that is lent is there, and of zeros
here : (c : In-loop-f) → c.loop-f.f < 63
here c = omega (arith, few (goal.at.In-loop-f c).Start, c.loop-f-test.true)

pub offset_bounds-shares-f : goal.offset_bounds-shares-f
offset_bounds-shares-f c = omega (arith, here c)

pub bounds-shares-f : goal.bounds-shares-f
bounds-shares-f c = here c

pub offset_bounds-shares-f-in-loop-f : goal.offset_bounds-shares-f-in-loop-f
offset_bounds-shares-f-in-loop-f c = omega (arith, here c)

pub bounds-shares-f-in-loop-f : goal.bounds-shares-f-in-loop-f
bounds-shares-f-in-loop-f c = here c

zeros : (c : In-loop-f) → let l = c.loop-f in get_or (set l.shares l.f (zero_e 6)) l.f [] ≡ zero_e 6
zeros c = let l = c.loop-f in get_or-set_same l.shares l.f (zero_e 6) [] (omega (arith, l.invariant.0, here c))

book : (s : Start) → s.args.bundle.now.heading.params.d ≤ 6
book s = let bs = s.args.bundle.now.bytes.now in (ranges-of bs (bundle-ok bs s.args.bundle.now.sound) s.args.bundle.now.heading s.args.bundle.now.headed).book.d-high

pub add_run-seen-requires : goal.add_run-seen-requires
add_run-seen-requires c =
    let i = (goal.at.add_run-seen-requires c).In-loop-f in
    let s = (goal.at.In-loop-f i).Start in
    (i.loop-f-test.true, s.requires.0, s.requires.1, rw (zeros i) (book s))

pub loop-f-preserved : goal.loop-f-preserved
loop-f-preserved c =
    let i = (goal.at.loop-f-preserved c).In-loop-f in
    let l = i.loop-f in
    let s = (goal.at.In-loop-f i).Start in
    let a = s.args in
    let r = c.add_run-seen in
    let v = r.new.running in
    let e : set (set l.shares l.f (zero_e 6)) l.f v ≡ set l.shares l.f v = set-set l.shares l.f (zero_e 6) v in
    let q : v ≡ row s l.f =
    r.ensures.1
    ∙ ap (λ (x : List ℕ). added_to a.bundle.now.heading.params.k x (run_total a.bundle.now.bytes.now l.f a.a (a.b - a.a))) (zeros i)
    ∙ run-held a.bundle.now.bytes.now a.bundle.now.heading s.args.bundle.now.headed l.f a.a (a.b - a.a) (book s) in (
      ap length e ∙ length-set l.shares l.f v ∙ l.invariant.0,
      more-seen a.bundle.now.heading.params.k l.seen r.result (run s) l.f l.invariant.1 r.ensures.0,
      e ∙ values-next (row s) a.bundle.now.files a.shares.now l.shares l.f v l.invariant.2 i.loop-f-test.true (omega (arith, few s, s.requires.2)) q,
    )

pub returns : goal.returns
returns c =
    let l = (goal.at.returns c).At-loop-f in
    let s = (goal.at.At-loop-f l).Start in
    let e : l.loop-f.f ≡ s.args.bundle.now.files = omega arith in
    let n : l.loop-f.f ≡ files_of s.args.bundle.now.bytes.now = e ∙ s.args.bundle.now.counted in (
      l.loop-f.invariant.1 ∙ ap (every (run s)) n,
      values-done (row s) s.args.bundle.now.files s.args.shares.now l.loop-f.shares l.loop-f.f l.loop-f.invariant.2 e,
    )
