-- `add_total`: a wide word of the element declines, and one of the run, after which the run is taken off again. Assumes nothing.
use mathlib.Core.Path.{◌≡◌, sym, ap, ◌∙◌}
use native.Mathlib.Omega.{arith}
use lib.ListN.{length}
use Rattle.words.specs.Refusal.{unless, number_of, fault_in}
use Rattle.words.proofs.Refusals.{unless-yes, unless-no, number-some, refusals}
use Rattle.bundle.specs.Bundle.{bundle_heading}
use Rattle.totals.specs.Total.{total_fault}
use Rattle.totals.proofs.Totals.{Found, total-tested}
use Rattle.totals.proofs.AddTotals.{add_wide, add-undone, add_done}
use Rattle.totals.proofs.add_total.Goals as goal
use Rattle.totals.proofs.add_total.Goals.{After-in_width, In_ok-bundle, Start}

found : (c : In_ok-bundle) → let a = c.args in let l = c.in_ok-bundle.field-0 in
    Found a.bytes.now a.holder a.a a.b (length a.running.now) l.bundle.heading l.file
found c =
    let b = c.in_ok-bundle.field-0.bundle in
    let q = c.in_ok-bundle.ensures.found in
    record { asked = sym c.in_ok-bundle.ensures.fault; heading = b.headed ∙ ap bundle_heading q.0; file = q.1; output = q.3 }

pub returns-in_err-check_width : goal.returns-in_err-check_width
returns-in_err-check_width c =
    let a = c.args in
    let x = c.in_err-check_width in
    let r = c.from_residual-in_err-check_width in
    let t = add_wide a.bytes.now a.holder a.a a.b a.running.now (found (goal.at.returns-in_err-check_width c).In_ok-bundle) (number_of x.field-0.0)
    x.ensures.fault (number-some x.field-0.0) in
    let f : fault_in r.result ≡ number_of x.field-0.0 = grind (arith, refusals) in (f ∙ t.0, t.1)

-- the number of the total by what is tested
tested : (c : After-in_width) → let a = c.args in
    total_fault a.bytes.now a.holder a.a a.b (length a.running.now) ≡ unless c.in_width.result 3
tested c =
    let a = c.args in
    let r = rw c.in_ok-bundle.ensures.found.0 at c.add_run-seen.ensures in
    total-tested a.bytes.now a.holder a.a a.b (length a.running.now) (found (goal.at.After-in_width c).In_ok-bundle) c.add_run-seen.result c.in_width.result
    c.in_width.ensures r.0

pub returns-then-not-in_width : goal.returns-then-not-in_width
returns-then-not-in_width c =
    let a = c.args in
    let r = rw c.in_ok-bundle.ensures.found.0 at c.add_run-seen.ensures in
    add-undone a.bytes.now a.holder a.a a.b a.running.now (found (goal.at.returns-then-not-in_width c).In_ok-bundle) c.in_ok-check_width.ensures.ok _ r.1
    (tested (goal.at.returns-then-not-in_width c).After-in_width ∙ unless-no _ 3 c.if-not-in_width.true) _
    (rw c.in_ok-bundle.ensures.found.0 at c.take_run.ensures)

pub returns : goal.returns
returns c =
    let a = c.args in
    let r = rw c.in_ok-bundle.ensures.found.0 at c.add_run-seen.ensures in
    add_done a.bytes.now a.holder a.a a.b a.running.now (found (goal.at.returns c).In_ok-bundle) c.in_ok-check_width.ensures.ok _ r.1
    (tested (goal.at.returns c).After-in_width ∙ unless-yes _ 3 c.if-not-in_width.false)
