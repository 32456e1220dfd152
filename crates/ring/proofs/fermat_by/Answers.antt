-- `ring::fermat_by` meets its contract: a turn of the loop is a product and a square, of which the lowest bits are looked at. Assumes nothing.
use native.Mathlib.Omega.{arith}
use mathlib.Core.Path.{◌≡◌, sym, ap, ◌∙◌}
use Prim.Native.Nat.{suc, ◌+◌, ◌-◌}
use lib.ListN.{length, take}
use lib.Seq.{length-take-le}
use Rattle.galois.specs.Element.{product, lower, reduce}
use Rattle.galois.proofs.Table.{length-lower}
use Rattle.galois.proofs.Lists.{length-product}
use Rattle.galois.proofs.Inverse.{fermat-start, fermat-turn}
use Rattle.galois.proofs.Held.{held-take}
use Rattle.ring.proofs.fermat_by.Goals as goal
use Rattle.ring.proofs.fermat_by.Goals.{At-loop}

pub loop-init : goal.loop-init
loop-init c =
    let d = c.args.d in
    let h₆ : length c.args.a ≡ 6 = omega (arith, c.well_formed) in
    ap (reduce 1) c.product64-y.ensures
    ∙ fermat-start d (omega arith) (omega arith) (take d c.args.a) (length-take-le d c.args.a (omega arith))

pub loop-preserved : goal.loop-preserved
loop-preserved c =
    let l = (goal.at.loop-preserved c).At-loop in
    let d = l.args.d in
    let a = take d l.args.a in
    let i = l.loop.counter in
    let h₆ : length l.args.a ≡ 6 = omega (arith, l.well_formed) in
    let ha : length a ≡ d = length-take-le d l.args.a (omega arith) in
    let hl : length (lower d) ≡ d = length-lower d (omega arith) (omega arith) in
    let p = product 64 (lower d) (take d l.loop.y) a in
    let hp : length p ≡ d = length-product 64 (lower d) (take d l.loop.y) a (ha ∙ sym hl) ∙ hl in
    let ez : take d c.product64-z.result ≡ p = ap (take d) c.product64-z.ensures ∙ held-take d p hp in
    let en : i + 1 - 2 ≡ suc (i - 2) = omega arith in
    rw (c.product64-y-in-loop.ensures, en)
    (fermat-turn d (omega arith) (omega arith) a l.loop.y ha (i - 2) l.loop.invariant (take d c.product64-z.result) ez)
