-- `level::residue` meets its contract. Assumes nothing.
use native.Mathlib.Omega.{arith}
use mathlib.Core.Path.{◌≡◌, ◌∙◌, ap}
use Prim.Native.Nat.{suc, ◌+◌}
use lib.ListN.{length}
use Rattle.galois.specs.Element.{held, point}
use Rattle.polynomial.specs.Polynomial.{value}
use Rattle.polynomial.specs.Rows.{Shaped, coefs}
use Rattle.polynomial.proofs.Shape.{shaped-good}
use Rattle.level.proofs.ResidueRows.{residue-by}
use Rattle.level.proofs.residue.Goals as goal
use Rattle.level.proofs.residue.Goals.{Start}

shaped : (s : Start) → Shaped s.args.p
shaped s = let h : length s.args.p ≡ 64 = omega (arith, s.well_formed) in shaped-good s.args.p _ h s.well_formed.1.1.0

pub returns : goal.returns
returns c =
    let s = (goal.at.returns c).Start in
    let a = s.args in
    let h : length a.y ≡ 6 = omega (arith, s.well_formed) in
    let n : a.t + 1 ≡ suc a.t = omega arith in
    c.keep.ensures
    ∙ ap (held a.d) c.difference.ensures
    ∙ residue-by a.k a.d (omega arith) (omega arith) (suc a.t) a.p (shaped s) a.x a.y c.eval-v.result h
    (c.eval-v.ensures ∙ ap (λ l. held a.d (value a.k a.d (coefs a.d l a.p) (point a.d a.x))) n)
