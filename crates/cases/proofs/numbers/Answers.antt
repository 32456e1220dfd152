use Rattle.std.proofs.Common.{arith}
use Rattle.cases.proofs.Split.{reading-next, text-read, output-full, reading-done}
use Rattle.cases.proofs.numbers.Goals as goal

pub returns-then-n-out-clause-value : goal.returns-then-n-out-clause-value
returns-then-n-out-clause-value c =
    let l = c.loop-at in
    reading-done c.args.text.now c.args.out.now l.out l.at l.n l.invariant
    (output-full c.args.text.now c.args.out.now l.out l.at l.n l.invariant (omega arith))

pub loop-at-preserved : goal.loop-at-preserved
loop-at-preserved c =
    let l = c.loop-at in
    reading-next c.args.text.now c.args.out.now l.out l.at l.n l.invariant c.find-end.result c.number.result
    (omega arith) (omega arith) c.find-end.ensures.within c.find-end.ensures.place c.number.ensures

pub returns-clause-value : goal.returns-clause-value
returns-clause-value c =
    let l = c.loop-at in
    reading-done c.args.text.now c.args.out.now l.out l.at l.n l.invariant
    (text-read c.args.text.now c.args.out.now l.out l.at l.n l.invariant (omega arith))
