-- `level::residues` meets its contract: after each turn one row more is written. Assumes nothing.
use native.Mathlib.Omega.{arith}
use mathlib.Core.Path.{◌≡◌, ◌∙◌, ap}
use Prim.Native.Nat.{suc, ◌+◌}
use Rattle.polynomial.specs.Rows.{coefs}
use Rattle.level.proofs.ResidueRows.{written, rest-start, rest-turn, rest_end}
use Rattle.level.proofs.residues.Goals as goal

pub loop-i-init : goal.loop-i-init
loop-i-init c =
    let a = c.args in
    let p = coefs a.d (suc a.t) a.p in
    let e : suc a.t ≡ a.t + 1 = omega arith in
    rest-start a.k a.d p (suc a.t) a.m a.hs.now a.ys.now a.rest.now (omega arith) (omega arith)
    ∙ ap (written a.k a.d p (suc a.t) a.m a.hs.now a.ys.now a.rest.now) e

pub loop-i-preserved : goal.loop-i-preserved
loop-i-preserved c =
    let a = c.args in
    let p = coefs a.d (suc a.t) a.p in
    rest-turn a.k a.d p (suc a.t) a.m a.hs.now a.ys.now a.rest.now (omega arith) (omega arith) c.loop-i.i
    (omega arith) (omega arith) c.loop-i.rest c.loop-i.invariant _ c.residue.ensures

pub returns : goal.returns
returns c =
    let a = c.args in
    let p = coefs a.d (suc a.t) a.p in
    rest_end a.k a.d p (suc a.t) a.m a.hs.now a.ys.now a.rest.now (omega arith) (omega arith) c.loop-i.i
    (omega arith) c.loop-i.rest c.loop-i.invariant
