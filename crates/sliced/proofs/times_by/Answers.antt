-- `sliced::times_by` meets its contract: a turn of the loop takes one word more of the first factor. Assumes nothing.
use native.Mathlib.Omega.{arith}
use mathlib.Core.Path.{◌≡◌, ◌∙◌, ap}
use lib.ListN.{length, take}
use Rattle.galois.specs.Element.{held}
use Rattle.sliced.specs.Lane.{horner, times_lanes}
use Rattle.sliced.proofs.Turns.{horner-start, horner-turn}
use Rattle.sliced.proofs.times_by.Goals as goal
use Rattle.sliced.proofs.times_by.Goals.{At-loop-i}

pub loop-i-init : goal.loop-i-init
loop-i-init c = horner-start c.args.d c.args.a c.args.b

pub loop-i-preserved : goal.loop-i-preserved
loop-i-preserved c =
    let l = (goal.at.loop-i-preserved c).At-loop-i in
    let a = l.args in
    let ha : length a.a ≡ 6 = omega (arith, l.well_formed) in
    rw (c.add_scaled-r.ensures, c.shift-s.ensures, l.requires.1, l.loop-i.invariant)
    (horner-turn a.d a.a a.b l.loop-i.i (omega arith) (omega arith) (omega arith))

pub returns : goal.returns
unfolding times_lanes
returns c =
    let l = (goal.at.returns c).At-loop-i in
    let e : l.loop-i.i ≡ 0 = omega arith in
    let q : l.loop-i.r ≡ horner l.args.d (take l.args.d l.args.a) l.args.b = rw e at l.loop-i.invariant in
    c.keep.ensures ∙ ap (held l.args.d) q
