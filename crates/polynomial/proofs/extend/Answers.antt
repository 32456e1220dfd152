-- `polynomial::extend` meets its contract: the calls of Newton's step, in words of 64 bits, are the step at k bits once the words are cut.
-- Assumes nothing.
use native.Mathlib.Omega.{arith}
use mathlib.Core.Path.{◌≡◌}
use Prim.Native.Nat.{◌+◌}
use lib.ListN.{length, take}
use lib.Seq.{length-take-le}
use Rattle.galois.specs.Element.{point}
use Rattle.galois.proofs.Points.{length-point}
use Rattle.polynomial.specs.Rows.{subtract_rows}
use Rattle.polynomial.proofs.OverRing.{value-length}
use Rattle.polynomial.proofs.Shape.{shaped-all}
use Rattle.polynomial.proofs.Turns.{excess_by, extend-calls, subtract-shaped, root-shaped}
use Rattle.polynomial.proofs.Narrow.{extend-narrow, root-narrow}
use Rattle.polynomial.proofs.extend.Goals as goal

pub returns : goal.returns
returns c =
    let k = c.args.k in
    let d = c.args.d in
    let n = c.args.len in
    let q = c.args.q.now in
    let l = c.args.nodal.now in
    let x = point d c.args.x in
    let y = take d c.args.y in
    let hy : length c.args.y ≡ 6 = omega (arith, c.well_formed) in
    let ly : length y ≡ d = length-take-le d c.args.y (omega arith) in
    let lx : length x ≡ d = length-point d c.args.x in
    let aq = shaped-all q c.requires.3 in
    let al = shaped-all l c.requires.4 in
    let e = excess_by k 64 d n q l x y in
    let r : c.subtract_multiple.new.p ≡ subtract_rows 64 d (n + 1) q e l =
    extend-calls 64 d (omega arith) (omega arith) k n q l _ x c.args.y _ _ _ _ _
    (value-length 64 d (omega arith) (omega arith) n q x aq lx) (value-length 64 d (omega arith) (omega arith) (n + 1) l x al lx)
    c.eval64-v.ensures c.eval64-w.ensures
    c.inverse_of-i.ensures c.difference.ensures c.product-c.ensures c.subtract_multiple.ensures in (
      rw r (extend-narrow {j = k} (omega arith) d (omega arith) (omega arith) n q l x y aq al lx ly),
      rw c.root.ensures (root-narrow {j = k} (omega arith) d (omega arith) (omega arith) (n + 2) x l lx al),
      rw r (subtract-shaped 64 d (omega arith) (omega arith) (n + 1) q e l c.requires.3 c.requires.4),
      rw c.root.ensures (root-shaped 64 d (omega arith) (omega arith) (n + 2) x l c.requires.4),
    )
