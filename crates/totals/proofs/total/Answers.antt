-- `total`: the words of the run are stored where nothing declines. Assumes nothing.
use mathlib.Core.Path.{◌≡◌, sym, ap, ◌∙◌}
use Prim.Native.Nat.{◌-◌}
use native.Mathlib.Omega.{arith}
use lib.ListN.{length}
use Rattle.words.proofs.InRange.{InRange}
use Rattle.words.proofs.Refusals.{unless-yes}
use Rattle.bundle.specs.Bundle.{bundle_heading}
use Rattle.bundle.proofs.Bundles.{bundle-ok, ranges-of}
use Rattle.totals.proofs.Runs.{run-stored}
use Rattle.totals.proofs.Totals.{Found, total-tested, total-done}
use Rattle.totals.proofs.total.Goals as goal
use Rattle.totals.proofs.total.Goals.{In_ok-bundle, Start}

book : (c : In_ok-bundle) → InRange c.in_ok-bundle.field-0.bundle.heading.params
book c = let b = c.in_ok-bundle.field-0.bundle in (ranges-of b.bytes.now (bundle-ok b.bytes.now b.sound) b.heading b.headed).book

pub add_run-seen-requires : goal.add_run-seen-requires
add_run-seen-requires c =
    let q = c.in_ok-bundle.ensures.found in
    (q.2, q.4, q.5, (book (goal.at.add_run-seen-requires c).In_ok-bundle).d-high)

pub store-requires : goal.store-requires
store-requires c =
    let b = book (goal.at.store-requires c).In_ok-bundle in
    ((b.d-low, b.d-high), omega (arith, c.in_ok-bundle.ensures.found.3))

pub returns : goal.returns
returns c =
    let l = c.in_ok-bundle.field-0 in
    let q = c.in_ok-bundle.ensures.found in
    let a = c.args in
    let h = l.bundle.heading in
    let e : h ≡ bundle_heading a.bytes.now = l.bundle.headed ∙ ap bundle_heading q.0 in
    let r = rw q.0 at c.add_run-seen.ensures in
    let g : Found a.bytes.now a.holder a.a a.b (length a.out.now) h l.file =
    record { asked = sym c.in_ok-bundle.ensures.fault; heading = e; file = q.1; output = q.3 } in
    total-done a.bytes.now a.holder a.a a.b a.out.now g
    (total-tested a.bytes.now a.holder a.a a.b (length a.out.now) g c.add_run-seen.result c.in_width.result c.in_width.ensures r.0
    ∙ unless-yes _ 3 c.in_ok-unless.ensures.ok) _
    (run-stored a.bytes.now h e l.file a.a (a.b - a.a) a.out.now _ _ (book (goal.at.returns c).In_ok-bundle).d-high q.3 r.1 c.store.ensures)
