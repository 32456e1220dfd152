-- `arithmetic::store_product_by` meets its contract: the product of what was loaded is stored. Assumes nothing.
use native.Mathlib.Omega.{arith}
use mathlib.Core.Path.{◌≡◌, sym, ◌∙◌}
use lib.ListN.{length}
use Rattle.galois.specs.Element.{product, lower, held}
use Rattle.galois.proofs.Table.{length-lower}
use Rattle.galois.proofs.Lists.{length-product}
use Rattle.galois.proofs.Held.{held-take}
use Rattle.ring.proofs.Stored.{stored}
use Rattle.arithmetic.proofs.store_product_by.Goals as goal

pub returns : goal.returns
returns c =
    let k = c.args.k in
    let d = c.args.d in
    let x = c.args.a.now in
    let y = c.args.b.now in
    let hx : length x ≡ d = c.requires.2 in
    let hy : length y ≡ d = c.requires.3 in
    let w = product k (lower d) x y in
    let hl : length (lower d) ≡ d = length-lower d (omega arith) (omega arith) in
    let hw : length w ≡ d = length-product k (lower d) x y (hy ∙ sym hl) ∙ hl in
    let v : c.product.result ≡ held d w =
    c.product.ensures
    ∙ rw (
      c.load-x.ensures,
      c.load-y.ensures,
      held-take d x hx,
      held-take d y hy,
    ) in
    c.store.ensures ∙ stored d c.args.out.now _ w c.requires.4 v hw
