-- `ring::inverse_of` meets its contract: the chain of squares modulo two, then as many steps as reach k bits, cut to k. Assumes nothing.
use native.Mathlib.Omega.{arith}
use mathlib.Core.Path.{◌≡◌, ap, ◌∙◌}
use Prim.Native.Nat.{◌-◌}
use lib.ListN.{length, take}
use lib.Seq.{length-take-le}
use Rattle.galois.specs.Element.{reduce, held}
use Rattle.galois.specs.Inversion.{fermat, newtons}
use Rattle.galois.proofs.Field.{length-fermat}
use Rattle.galois.proofs.Inverse.{length-newtons, inverse-computed}
use Rattle.galois.proofs.Held.{held-take}
use Rattle.galois.proofs.Narrow.{reduce-held}
use Rattle.ring.proofs.inverse_of.Goals as goal
use Rattle.ring.proofs.inverse_of.Goals.{After-newton64}

pub returns : goal.returns
returns c =
    let m = (goal.at.returns c).After-newton64 in
    let k = m.args.k in
    let d = m.args.d in
    let n = m.newton64.ensures.0 in
    let h₆ : length m.args.a ≡ 6 = omega (arith, m.well_formed) in
    let a = take d m.args.a in
    let ha : length a ≡ d = length-take-le d m.args.a (omega arith) in
    let y = fermat d a (d - 2) in
    let hy : length y ≡ d = length-fermat d (omega arith) (omega arith) a ha (d - 2) in
    let ey : take d m.reduce.result ≡ y =
    ap (take d) (m.reduce.ensures ∙ m.fermat64.ensures) ∙ held-take d y hy in
    let x = newtons 64 d a y n in
    let hx : length x ≡ d = length-newtons d (omega arith) (omega arith) 64 a y ha hy n in
    let ex : m.newton64.result ≡ held d x = m.newton64.ensures.1.1 ∙ rw ey in
    c.reduce-2.ensures ∙ ap (reduce k) ex ∙ reduce-held k d x hx (omega arith)
    ∙ ap (held d) (inverse-computed d (omega arith) (omega arith) k 64 (omega arith) (omega arith) a ha n m.newton64.ensures.1.0)
