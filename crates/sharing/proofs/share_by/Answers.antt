-- `sharing::share_by` meets its contract: a turn of the loop takes one coefficient more. Assumes nothing.
use native.Mathlib.Omega.{arith}
use mathlib.Core.Path.{◌≡◌, ◌∙◌}
use Rattle.galois.specs.Element.{point}
use Rattle.galois.proofs.Points.{length-point}
use Rattle.sharing.proofs.Horner.{horner-start, horner-turn, horner-end}
use Rattle.sharing.proofs.share_by.Goals as goal
use Rattle.sharing.proofs.share_by.Goals.{At-loop-i}

pub loop-i-init : goal.loop-i-init
loop-i-init c =
    let d = c.args.d in
    let x = c.args.x in
    horner-start 64 d (omega arith) (omega arith) (point d x) (length-point d x) c.args.t c.args.coefficients.now c.requires.3

pub loop-i-preserved : goal.loop-i-preserved
loop-i-preserved c =
    let l = (goal.at.loop-i-preserved c).At-loop-i in
    let d = l.args.d in
    let x = l.args.x in
    c.product_by_point-r.ensures
    ∙ rw (c.sum-s.ensures, c.load.ensures)
    (horner-turn 64 d (omega arith) (omega arith) (point d x) (length-point d x) l.args.t l.args.coefficients.now l.requires.3
    l.loop-i.r l.loop-i.i (omega arith) (omega arith) l.loop-i.invariant)

pub returns : goal.returns
returns c =
    let l = (goal.at.returns c).At-loop-i in
    let d = l.args.d in
    let x = l.args.x in
    let e : l.loop-i.i ≡ 0 = omega arith in
    c.sum.ensures
    ∙ rw c.load-2.ensures
    (horner-end 64 d (omega arith) (omega arith) (point d x) (length-point d x) l.args.t l.args.coefficients.now l.requires.3
    l.args.secret.now l.loop-i.r l.requires.2 (rw e at l.loop-i.invariant))
