-- `ring::product_by_point` meets its contract: the product in 64 bits, cut to k. Assumes nothing.
use native.Mathlib.Omega.{arith}
use mathlib.Core.Path.{◌≡◌, ◌∙◌}
use lib.ListN.{length, take}
use lib.Seq.{length-take-le}
use Rattle.galois.specs.Element.{point}
use Rattle.galois.proofs.Points.{length-point}
use Rattle.galois.proofs.Narrow.{narrow-product}
use Rattle.ring.proofs.product_by_point.Goals as goal

pub returns : goal.returns
returns c =
    let k = c.args.k in
    let d = c.args.d in
    let h₆ : length c.args.a ≡ 6 = omega (arith, c.well_formed) in
    c.reduce.ensures
    ∙ rw c.product64_by_point.ensures
    (narrow-product {j = k} (omega arith) d (omega arith) (omega arith) (point d c.args.i) (take d c.args.a)
    (length-point d c.args.i) (length-take-le d c.args.a (omega arith)))
