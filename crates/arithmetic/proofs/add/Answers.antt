-- `arithmetic::add` meets its contract: a refusal leaves the output, and otherwise the sum is stored. Assumes nothing.
use Rattle.std.proofs.Common.{◌≡◌, sym, ◌∙◌, length, arith}
use Rattle.words.specs.Word.{add_w}
use Rattle.words.proofs.InRange.{ok-range}
use Rattle.galois.specs.Element.{sum, held}
use Rattle.galois.proofs.Lists.{length-zip}
use Rattle.galois.proofs.Held.{sum-held}
use Rattle.arithmetic.proofs.Calls.{wrote}
use Rattle.arithmetic.proofs.add.Goals as goal

pub load-x-requires : goal.load-x-requires
load-x-requires c = let k = c.in_ok-check_operands.ensures.ok in let r = ok-range c.args.p k.0 in ((r.d-low, r.d-high), omega arith)

pub load-y-requires : goal.load-y-requires
load-y-requires c = let k = c.in_ok-check_operands.ensures.ok in let r = ok-range c.args.p k.0 in ((r.d-low, r.d-high), omega arith)

pub sum-requires : goal.sum-requires
sum-requires c = let r = ok-range c.args.p c.in_ok-check_operands.ensures.ok.0 in (r.k-low, r.k-high)

pub store-requires : goal.store-requires
store-requires c = let k = c.in_ok-check_operands.ensures.ok in let r = ok-range c.args.p k.0 in ((r.d-low, r.d-high), omega arith)

pub returns : goal.returns
returns c =
    let k = c.in_ok-check_operands.ensures.ok in
    let d = c.args.p.d in
    let x = c.args.a.now in
    let y = c.args.b.now in
    let w = sum c.args.p.k x y in
    let v : c.sum.result ≡ held d w =
    c.sum.ensures
    ∙ rw (c.load-x.ensures, c.load-y.ensures)
    (sum-held c.args.p.k d x y k.1 k.2 (ok-range c.args.p k.0).d-high) in
    let hw : length w ≡ d = length-zip (add_w c.args.p.k) x y (k.1 ∙ sym k.2) ∙ k.2 in
    wrote _ c.args.out.now w d _ _ (sym c.in_ok-check_operands.ensures.fault) k.3 hw v c.store.ensures
