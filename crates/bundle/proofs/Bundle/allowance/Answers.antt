-- `Bundle::allowance`: the byte of the body of the order. Assumes nothing.
use mathlib.Core.Path.{◌∙◌}
use native.Mathlib.Omega.{arith}
use Rattle.bundle.proofs.Bundles.{bundle-ok, order-within}
use Rattle.bundle.proofs.Contents.{one_byte}
use Rattle.bundle.proofs.Bundle.allowance.Goals as goal

pub number-requires : goal.number-requires
number-requires c =
    let b = c.args.self.now in
    (omega arith, omega (arith, order-within b.bytes.now (bundle-ok b.bytes.now b.sound)))

pub returns : goal.returns
returns c =
    let b = c.args.self.now in
    c.number.ensures ∙ one_byte b.bytes.now 6 (order-within b.bytes.now (bundle-ok b.bytes.now b.sound))
