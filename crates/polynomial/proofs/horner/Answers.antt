-- `polynomial::horner` meets its contract: the loop starts at the last row, and a turn of it takes one row more. Assumes nothing.
use Rattle.polynomial.proofs.Shape.{shaped-length, shaped_row}
use native.Mathlib.Omega.{arith}
use mathlib.Core.Path.{◌≡◌}
use mathlib.Core.List.{[]}
use Prim.Native.Nat.{◌-◌}
use lib.ListN.{length, take, get_or}
use Rattle.galois.specs.Element.{point, reduce}
use Rattle.galois.proofs.Held.{word_good}
use Rattle.galois.proofs.Points.{length-point}
use Rattle.polynomial.specs.Polynomial.{value}
use Rattle.polynomial.specs.Rows.{coefs}
use Rattle.polynomial.proofs.Turns.{eval-none, eval-start, eval-turn, eval-end, eval-length}
use Rattle.polynomial.proofs.horner.Goals as goal
use Rattle.polynomial.proofs.horner.Goals.{At-loop-i}

pub returns-then-len-eq0 : goal.returns-then-len-eq0
returns-then-len-eq0 c =
    let d = c.args.d in
    let p = c.args.p.now in
    let hp : length p ≡ 64 = shaped-length p c.requires.2 in
    eval-none 64 d (omega arith) (omega arith) c.args.len p (omega arith) (point d c.args.x) c.if-len-eq0.true

pub loop-i-init : goal.loop-i-init
loop-i-init c =
    let d = c.args.d in
    let n = c.args.len in
    let p = c.args.p.now in
    let hp : length p ≡ 64 = shaped-length p c.requires.2 in
    let hl : length (get_or p (n - 1) []) ≡ 6 = shaped_row p (n - 1) c.requires.2 (omega arith) in (
      hl,
      eval-start 64 d (omega arith) (omega arith) n p (omega arith) (point d c.args.x) (length-point d c.args.x) (omega arith) hl,
    )

pub loop-i-preserved : goal.loop-i-preserved
loop-i-preserved c =
    let l = (goal.at.loop-i-preserved c).At-loop-i in
    let d = l.args.d in
    let n = l.args.len in
    let p = l.args.p.now in
    let x = point l.args.d l.args.x in
    let r = l.loop-i.r in
    let i = l.loop-i.i in
    let hp : length p ≡ 64 = shaped-length p l.requires.2 in
    let ha : length (get_or p (i - 1) []) ≡ 6 = shaped_row p (i - 1) l.requires.2 (omega arith) in (
      rw (c.sum-r.ensures, c.product_by_point-s.ensures)
          (eval-length 64 d (omega arith) (omega arith) n p (omega arith) x (get_or p (i - 1) []) r ha l.loop-i.invariant.0),
      rw (c.sum-r.ensures, c.product_by_point-s.ensures)
          (eval-turn 64 d (omega arith) (omega arith) n p (omega arith) x (length-point d l.args.x) r i
          l.loop-i.invariant.0 (omega arith) (omega arith) l.loop-i.invariant.1),
    )

pub returns : goal.returns
returns c =
    let l = (goal.at.returns c).At-loop-i in
    let d = l.args.d in
    let p = l.args.p.now in
    let v = value 64 d (coefs d l.args.len p) (point d l.args.x) in
    let hp : length p ≡ 64 = shaped-length p l.requires.2 in
    let e : l.loop-i.i ≡ 0 = omega arith in
    let q : reduce 64 (take d l.loop-i.r) ≡ v = rw e at l.loop-i.invariant.1 in
    eval-end 64 d (omega arith) (omega arith) l.args.len p (omega arith) (point d l.args.x) c.keep.result l.loop-i.r v
    c.keep.ensures (word_good c.keep.result _ c.keep.type_inv) l.loop-i.invariant.0 q
