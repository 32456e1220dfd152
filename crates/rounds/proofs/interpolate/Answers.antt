-- `rounds::interpolate` meets its contract: after each turn the rows go through the shares passed. Assumes nothing.
use native.Mathlib.Omega.{arith}
use mathlib.Core.Path.{refl}
use Prim.Native.Nat.{suc}
use lib.ListN.{set}
use Rattle.algebra.proofs.Shares.{all_map}
use Rattle.level.specs.Shares.{shares_of}
use Rattle.rounds.proofs.Rows.{one_row, shaped-set, clear-one}
use Rattle.rounds.proofs.Interpolated.{interpolate-start, interpolate-turn, interpolate-end}
use Rattle.rounds.proofs.interpolate.Goals as goal
use Rattle.rounds.proofs.interpolate.Goals.{At-loop-i, In-loop-i}

pub loop-i-init : goal.loop-i-init
loop-i-init c =
    let a = c.args in
    let n = c.clear_rows.new.p in
    let e = c.clear_rows.ensures in (
      c.requires.5,
      shaped-set n 0 one_row e.1 (omega arith) refl,
      λ h dl dh. interpolate-start a.k a.d h dl dh a.t a.hs.now a.ys.now a.q.now (set n 0 one_row) c.requires.6
          (clear-one n a.t e.0),
    )

pub loop-i-preserved : goal.loop-i-preserved
loop-i-preserved c =
    let l = (goal.at.loop-i-preserved c).In-loop-i in
    let a = l.args in
    let w = all_map (λ x w. w.0) (shares_of a.d (suc a.t) a.hs.now a.ys.now) l.requires.4 in
    let e = c.extend.ensures in (
      e.2,
      e.3,
      λ h dl dh. interpolate-turn a.k a.d h dl dh a.t a.hs.now a.ys.now w l.loop-i.i (omega arith) (omega arith)
          l.loop-i.q l.loop-i.nodal c.extend.new.q c.extend.new.nodal (l.loop-i.invariant.2 h dl dh) e.0 e.1,
    )

pub returns : goal.returns
returns c =
    let l = (goal.at.returns c).At-loop-i in
    let a = l.args in
    let p = l.requires in
    let e = c.reduce_rows.ensures in (
      interpolate-end a.k a.d p.0.0 p.1.0 p.1.1 a.t a.hs.now a.ys.now p.3 p.4 l.loop-i.i (omega arith)
          l.loop-i.q l.loop-i.nodal c.reduce_rows.new.q (l.loop-i.invariant.2 p.0.0 p.1.0 p.1.1) e.0,
      e.1,
      l.loop-i.invariant.1,
    )
