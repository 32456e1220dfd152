-- `level::raise` meets its contract: a turn for each of the pairs' two slices. Assumes nothing.
use Rattle.level.proofs.Turns.{turned}
use Rattle.level.proofs.raise.Goals as goal
use Rattle.level.proofs.raise.Goals.{After-plus-w, After-spread-c, After-spread-e, After-turn}

pub returns : goal.returns
returns c =
    let t = (goal.at.returns c).After-turn in
    let e = (goal.at.After-turn t).After-spread-e in
    let v = (goal.at.After-spread-e e).After-spread-c in
    let w = (goal.at.After-spread-c v).After-plus-w in
    let a = w.args in
    let at = turned a.d a.xs a.i a.vp.now a.vo.now w.spread.ensures w.plus-w.ensures in
    let by = at v.spread-c.ensures e.spread-e.ensures in
    let x = by a.vp.now a.vo.now _ _ t.turn.ensures in
    let y = by a.bp.now a.bo.now _ _ c.turn-2.ensures in
    (x.0, y.0, x.1, y.1)
