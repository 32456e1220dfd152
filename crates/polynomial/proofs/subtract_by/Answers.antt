-- `polynomial::subtract_by` meets its contract: a turn of the loop writes one row more. Assumes nothing.
use native.Mathlib.Omega.{arith}
use mathlib.Core.Path.{◌≡◌, ◌∙◌}
use mathlib.Core.List.{[]}
use lib.ListN.{length, take, get_or}
use Rattle.polynomial.specs.Rows.{less_multiple}
use Rattle.polynomial.proofs.Shape.{shaped-length, shaped_row}
use Rattle.polynomial.proofs.Change.{change-paste}
use Rattle.polynomial.proofs.Turns.{subtract-turn}
use Rattle.polynomial.proofs.subtract_by.Goals as goal
use Rattle.polynomial.proofs.subtract_by.Goals.{At-loop-i}

pub loop-i-preserved : goal.loop-i-preserved
loop-i-preserved c =
    let l = (goal.at.loop-i-preserved c).At-loop-i in
    let d = l.args.d in
    let p = l.args.p.now in
    let q = l.args.q.now in
    let i = l.loop-i.i in
    let hp : length p ≡ 64 = shaped-length p l.requires.2 in
    let hq : length q ≡ 64 = shaped-length q l.requires.3 in
    let rp : length (get_or p i []) ≡ 6 = shaped_row p i l.requires.2 (omega arith) in
    let rq : length (get_or q i []) ≡ 6 = shaped_row q i l.requires.3 (omega arith) in
    rw (c.keep.ensures, c.difference.ensures, c.product-v.ensures)
    (subtract-turn 64 d (omega arith) (omega arith) l.args.len p (take d l.args.e) q l.loop-i.p i
    (omega arith) (omega arith) (omega arith) rp rq l.loop-i.invariant)

pub returns : goal.returns
returns c =
    let l = (goal.at.returns c).At-loop-i in
    let d = l.args.d in
    let e : l.loop-i.i ≡ l.args.len = omega arith in
    rw e at l.loop-i.invariant ∙ change-paste (less_multiple 64 d (take d l.args.e)) l.args.len l.args.q.now l.args.p.now
