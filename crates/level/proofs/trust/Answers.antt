-- `level::trust` meets its contract, at its three ends. Assumes nothing.
use native.Mathlib.Omega.{arith}
use borrow.Author.Tests.{ne_eqb}
use mathlib.Core.Path.{◌∙◌}
use Prim.Native.Nat.{◌+◌}
use Rattle.level.specs.Interpolation.{Newton, newton_of}
use Rattle.level.proofs.Turns.{turned, trust-late, trust-out, trust-in}
use Rattle.level.proofs.trust.Goals as goal
use Rattle.level.proofs.trust.Goals.{After-plus-w, After-spread, After-spread-c, After-spread-e, Else-trusted-i-eq0, Start}

-- the interpolation at entry
abbrev entered : Start → Newton
entered s = let a = s.args in newton_of a.n a.gap.now a.nodal.now

pub returns-then-t-n : goal.returns-then-t-n
returns-then-t-n c =
    let s = (goal.at.returns-then-t-n c).Start in
    let a = s.args in
    trust-late a.d a.xs a.t a.trusted a.i (entered s) c.if-t-n.true

pub returns-then-trusted-i-eq0 : goal.returns-then-trusted-i-eq0
returns-then-trusted-i-eq0 c =
    let s = (goal.at.returns-then-trusted-i-eq0 c).Start in
    let a = s.args in
    trust-out a.d a.xs a.t a.trusted a.i (entered s) (omega (arith, c.if-t-n.false)) c.if-trusted-i-eq0.true

pub returns : goal.returns
returns c =
    let e = (goal.at.returns c).After-spread-e in
    let v = (goal.at.After-spread-e e).After-spread-c in
    let w = (goal.at.After-spread-c v).After-plus-w in
    let x = (goal.at.After-plus-w w).After-spread in
    let t = (goal.at.After-spread x).Else-trusted-i-eq0 in
    let s = (goal.at.Else-trusted-i-eq0 t).Start in
    let a = s.args in
    let at = turned a.d a.xs a.i a.nodal.now a.gap.now x.spread.ensures w.plus-w.ensures in
    let h = at v.spread-c.ensures e.spread-e.ensures a.nodal.now a.gap.now _ _ c.turn.ensures in
    (λ j. newton_of (a.n + 1) (h.1 j) (h.0 j))
    ∙ trust-in a.d a.xs a.t a.trusted a.i (entered s) (omega (arith, t.if-t-n.false)) (ne_eqb _ 0 t.if-trusted-i-eq0.false)
