-- `ring::newton_by` meets its contract: a turn of the loop is a step, and doubles w. Assumes nothing.
use borrow.Author.Rules.{rules}
use native.Mathlib.Omega.{arith}
use mathlib.Core.Path.{◌≡◌, refl, sym, ap, ◌∙◌}
use Prim.Native.Nat.{suc, ◌+◌, ◌^◌}
use native.Mathlib.Nat.{pow-suc}
use lib.ListN.{length, take}
use lib.Seq.{length-take-le}
use Rattle.words.specs.Word.{sub_w}
use Rattle.galois.specs.Element.{product, lower, difference, held}
use Rattle.galois.specs.Inversion.{newton, newtons, two_e}
use Rattle.galois.proofs.Table.{length-lower}
use Rattle.galois.proofs.Lists.{length-product, length-zip, product-comm}
use Rattle.galois.proofs.Inverse.{length_two, length-newtons}
use Rattle.galois.proofs.Held.{held-take, held_same, const-held, difference-held}
use Rattle.ring.proofs.newton_by.Goals as goal
use Rattle.ring.proofs.newton_by.Goals.{At-loop-w}

pub loop-w-init : goal.loop-w-init
unfolding newtons
loop-w-init c =
    let d = c.args.d in
    let start = c.args.start in
    let h₆ : length start ≡ 6 = omega (arith, c.well_formed) in
    (search rules, (0, (refl, c.requires.2 ∙ held_same d start (take d start) refl (length-take-le d start (omega arith)))))

pub loop-w-preserved : goal.loop-w-preserved
unfolding newtons newton
loop-w-preserved c =
    let l = (goal.at.loop-w-preserved c).At-loop-w in
    let d = l.args.d in
    let n = l.loop-w.invariant.1.0 in
    let a = take d l.args.a in
    let start = take d l.args.start in
    let x = newtons 64 d a start n in
    let h₃ : length l.args.a ≡ 6 = omega (arith, l.well_formed) in
    let h₄ : length l.args.start ≡ 6 = omega (arith, l.well_formed) in
    let ha : length a ≡ d = length-take-le d l.args.a (omega arith) in
    let hs : length start ≡ d = length-take-le d l.args.start (omega arith) in
    let hx : length x ≡ d = length-newtons d (omega arith) (omega arith) 64 a start ha hs n in
    let hl : length (lower d) ≡ d = length-lower d (omega arith) (omega arith) in
    let b = product 64 (lower d) a x in
    let hb : length b ≡ d = length-product 64 (lower d) a x (hx ∙ sym hl) ∙ hl in
    let q = difference 64 (two_e d) b in
    let hq : length q ≡ d = length-zip (sub_w 64) (two_e d) b (length_two d ∙ sym hb) ∙ hb in
    let ex : take d l.loop-w.y ≡ x = ap (take d) l.loop-w.invariant.1.1.1 ∙ held-take d x hx in
    let eb : c.product64.result ≡ held d b = c.product64.ensures ∙ rw ex in
    let eq : take d c.difference-q.result ≡ q =
    ap (take d)
    (c.difference-q.ensures
    ∙ rw (eb, ← const-held 2 d (omega arith) (omega arith)) (difference-held 64 d (two_e d) b (length_two d) hb (omega arith)))
    ∙ held-take d q hq in
    let r : l.loop-w.w ≡ 2 ^ n = l.loop-w.invariant.1.1.0 in
    let t : l.loop-w.w + l.loop-w.w ≡ 2 ^ suc n = omega (arith, pow-suc 2 n, r) in
    (omega arith, (suc n, (t, c.product64-z.ensures ∙ rw (ex, eq) (ap (held d) (product-comm 64 d (lower d) hl q x hq hx)))))
