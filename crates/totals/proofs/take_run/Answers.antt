-- `take_run`: the negative of the lent element, with the run's total added, is the negative of what is left. Assumes nothing.
use mathlib.Core.List.{List}
use Prim.Native.Nat.{ℕ, ◌-◌, ◌≤◌}
use Rattle.bundle.proofs.Bundles.{bundle-ok, ranges-of}
use Rattle.totals.proofs.Runs.{run-taken}
use Rattle.totals.proofs.take_run.Goals as goal
use Rattle.totals.proofs.take_run.Goals.{After-add_run, After-negate, Start}

abbrev bs : Start → List ℕ
bs s = s.args.bundle.now.bytes.now

bits : (s : Start) → let k = s.args.bundle.now.heading.params.k in (1 ≤ k) × (k ≤ 64)
bits s =
    let b = (ranges-of (bs s) (bundle-ok (bs s) s.args.bundle.now.sound) s.args.bundle.now.heading s.args.bundle.now.headed).book in
    (b.k-low, b.k-high)

pub returns : goal.returns
returns c =
    let q = (goal.at.returns c).After-add_run in
    let p = (goal.at.After-add_run q).After-negate in
    let s = (goal.at.After-negate p).Start in
    run-taken (bs s) s.args.bundle.now.heading s.args.bundle.now.headed s.args.f s.args.a (s.args.b - s.args.a) s.args.running.now _ _ _ s.requires.3
    p.negate.auto.running q.add_run.auto.running p.negate.ensures q.add_run.ensures.1 c.negate-2.ensures

pub negate-requires : goal.negate-requires
negate-requires c = bits (goal.at.negate-requires c).Start

pub negate-requires-2 : goal.negate-requires-2
negate-requires-2 c = bits (goal.at.negate-requires-2 c).Start
