-- `scan_line`: at every turn the bytes that are left give what the line gives. Assumes nothing.
use Rattle.std.proofs.Common.{◌≡◌, length, sym, ◌∙◌, add-one, arith}
use Rattle.labelled.proofs.Steps.{left-whole, number-end, after-end, number-stop, after_stop, number_step, after-step}
use Rattle.labelled.proofs.scan_line.Goals as goal

pub returns-then-c-eq10-clause-value : goal.returns-then-c-eq10-clause-value
returns-then-c-eq10-clause-value c =
    sym (number-stop c.args.text.now c.loop-i.i c.loop-i-test.true c.loop-i.value c.if-c-eq10.true) ∙ c.loop-i.invariant.0

pub returns-then-c-eq10-clause-rest : goal.returns-then-c-eq10-clause-rest
returns-then-c-eq10-clause-rest c =
    let text = c.args.text.now in
    left-whole text _ ∙ rw (add-one c.loop-i.i) (sym (after_stop text c.loop-i.i c.loop-i-test.true c.if-c-eq10.true) ∙ c.loop-i.invariant.1)

pub loop-i-preserved : goal.loop-i-preserved
loop-i-preserved c =
    let text = c.args.text.now in
    let i = c.loop-i.i in (
      rw (c.go_on-value.ensures, add-one i) (sym (number_step text i c.loop-i-test.true c.loop-i.value c.if-c-eq10.false) ∙ c.loop-i.invariant.0),
      rw (add-one i) (sym (after-step text i c.loop-i-test.true c.if-c-eq10.false) ∙ c.loop-i.invariant.1),
    )

pub returns-clause-value : goal.returns-clause-value
returns-clause-value c = sym (number-end c.args.text.now c.loop-i.i c.loop-i.value (omega arith)) ∙ c.loop-i.invariant.0

pub returns-clause-rest : goal.returns-clause-rest
returns-clause-rest c =
    let text = c.args.text.now in
    let e : length text ≡ c.loop-i.i = omega arith in
    left-whole text _ ∙ rw e (sym (after-end text c.loop-i.i (omega arith)) ∙ c.loop-i.invariant.1)
