-- `arithmetic::invert` meets its contract: a refusal leaves the output, and otherwise the inverse is stored. Assumes nothing.
use Rattle.std.proofs.Common.{◌≡◌, sym, ◌∙◌, length, arith}
use Rattle.words.proofs.InRange.{ok-range}
use Rattle.words.proofs.Refusals.{refusals}
use Rattle.galois.specs.Element.{inverse, held}
use Rattle.galois.proofs.Inverse.{length-inverse}
use Rattle.galois.proofs.Held.{held-take}
use Rattle.arithmetic.proofs.Calls.{one-operand, wrote}
use Rattle.arithmetic.proofs.invert.Goals as goal

pub returns-in_err-check_operands : goal.returns-in_err-check_operands
returns-in_err-check_operands c =
    let e = one-operand c.args.p c.args.a.now (length c.args.out.now) in
    (grind (arith, refusals), grind (arith, refusals))

pub load-x-requires : goal.load-x-requires
load-x-requires c = let k = c.in_ok-check_operands.ensures.ok in let r = ok-range c.args.p k.0 in ((r.d-low, r.d-high), omega arith)

pub inverse_of-requires : goal.inverse_of-requires
inverse_of-requires c = let r = ok-range c.args.p c.in_ok-check_operands.ensures.ok.0 in ((r.k-low, r.k-high), (r.d-low, r.d-high))

pub store-requires : goal.store-requires
store-requires c = let k = c.in_ok-check_operands.ensures.ok in let r = ok-range c.args.p k.0 in ((r.d-low, r.d-high), omega arith)

pub returns : goal.returns
returns c =
    let k = c.in_ok-check_operands.ensures.ok in
    let d = c.args.p.d in
    let x = c.args.a.now in
    let w = inverse c.args.p.k d x in
    let v : c.inverse_of.result ≡ held d w = c.inverse_of.ensures ∙ rw (c.load-x.ensures, held-take d x k.1) in
    let z = one-operand c.args.p x (length c.args.out.now) in
    wrote _ c.args.out.now w d _ _ (sym z ∙ sym c.in_ok-check_operands.ensures.fault) k.3 (length-inverse c.args.p.k d x) v c.store.ensures
