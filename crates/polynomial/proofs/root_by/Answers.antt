-- `polynomial::root_by` meets its contract: a turn of the loop writes one row more, and keeps the row that was there for the next. Assumes nothing.
use Rattle.polynomial.proofs.Shape.{shaped-length, shaped_row}
use Rattle.words.proofs.Fill.{fill-ahead}
use native.Mathlib.Omega.{arith}
use mathlib.Core.Path.{◌≡◌, ap, ◌∙◌}
use mathlib.Core.List.{[], ◌∷◌}
use native.Mathlib.Numerals.{add-one}
use lib.ListN.{length, get_or, replicate}
use Rattle.galois.specs.Element.{point}
use Rattle.polynomial.specs.Rows.{less_times, root_rows}
use Rattle.polynomial.proofs.Change.{length-change, change-paste}
use Rattle.polynomial.proofs.Turns.{root-turn}
use Rattle.polynomial.proofs.root_by.Goals as goal
use Rattle.polynomial.proofs.root_by.Goals.{At-loop-i}

pub loop-i-preserved : goal.loop-i-preserved
loop-i-preserved c =
    let l = (goal.at.loop-i-preserved c).At-loop-i in
    let d = l.args.d in
    let n = l.args.len in
    let x = point l.args.d l.args.x in
    let p = l.args.p.now in
    let i = l.loop-i.i in
    let hp : length p ≡ 64 = shaped-length p l.requires.2 in
    let hs : length (root_rows 64 d n x p) ≡ length p = length-change (less_times 64 d x) n (replicate 6 0 ∷ p) p in
    let rp : length (get_or p i []) ≡ 6 = shaped_row p i l.requires.2 (omega arith) in
    let ahead : get_or l.loop-i.p i [] ≡ get_or p i [] = fill-ahead p (root_rows 64 d n x p) l.loop-i.p i [] l.loop-i.invariant.2 (omega arith) in (
      ap length ahead ∙ rp,
      rw add-one ahead,
      rw (c.keep.ensures, c.difference.ensures, c.product_by_point-v.ensures)
          (root-turn 64 d (omega arith) (omega arith) n x p l.loop-i.p l.loop-i.below i
          (omega arith) (omega arith) rp l.loop-i.invariant.0 l.loop-i.invariant.1 l.loop-i.invariant.2),
    )

pub returns : goal.returns
returns c =
    let l = (goal.at.returns c).At-loop-i in
    let p = l.args.p.now in
    let e : l.loop-i.i ≡ l.args.len = omega arith in
    rw e at l.loop-i.invariant.2
    ∙ change-paste (less_times 64 l.args.d (point l.args.d l.args.x)) l.args.len (replicate 6 0 ∷ p) p
