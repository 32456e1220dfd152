-- `ring::product` meets its contract: the product in 64 bits, cut to k. Assumes nothing.
use native.Mathlib.Omega.{arith}
use mathlib.Core.Path.{◌≡◌, ◌∙◌}
use lib.ListN.{length, take}
use lib.Seq.{length-take-le}
use Rattle.galois.proofs.Narrow.{narrow-product}
use Rattle.ring.proofs.product.Goals as goal

pub returns : goal.returns
returns c =
    let k = c.args.k in
    let d = c.args.d in
    let h₅ : length c.args.a ≡ 6 = omega (arith, c.well_formed) in
    let h₆ : length c.args.b ≡ 6 = omega (arith, c.well_formed) in
    c.reduce.ensures
    ∙ rw c.product64.ensures
    (narrow-product {j = k} (omega arith) d (omega arith) (omega arith) (take d c.args.a) (take d c.args.b)
    (length-take-le d c.args.a (omega arith)) (length-take-le d c.args.b (omega arith)))
