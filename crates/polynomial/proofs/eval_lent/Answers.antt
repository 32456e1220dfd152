-- `polynomial::eval_lent` meets its contract: the value in 64 bits, cut to k. Assumes nothing.
use native.Mathlib.Omega.{arith}
use mathlib.Core.Path.{◌∙◌}
use Rattle.galois.specs.Element.{point}
use Rattle.galois.proofs.Points.{length-point}
use Rattle.polynomial.proofs.Shape.{shaped-all}
use Rattle.polynomial.proofs.OverRing.{narrow-value}
use Rattle.polynomial.proofs.eval_lent.Goals as goal

pub returns : goal.returns
returns c =
    let d = c.args.d in
    let p = c.args.p.now in
    c.reduce.ensures
    ∙ rw c.eval64.ensures
    (narrow-value {j = c.args.k} (omega arith) d (omega arith) (omega arith) c.args.len p (point d c.args.x) (shaped-all p c.requires.3)
    (length-point d c.args.x))
