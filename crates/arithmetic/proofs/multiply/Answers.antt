-- `arithmetic::multiply` meets its contract: a refusal leaves the output, and otherwise it holds the product. Assumes nothing.
use Rattle.words.proofs.InRange.{ok-range}
use Rattle.arithmetic.proofs.multiply.Goals as goal

pub store_product-requires : goal.store_product-requires
store_product-requires c =
    let k = c.in_ok-check_operands.ensures.ok in
    let r = ok-range c.args.p k.0 in
    ((r.k-low, r.k-high), (r.d-low, r.d-high), k.1, k.2, k.3)
