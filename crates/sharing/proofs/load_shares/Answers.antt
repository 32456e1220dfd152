-- `sharing::load_shares` meets its contract: after i turns the first i rows hold their shares. Assumes nothing.
use native.Mathlib.Omega.{arith}
use mathlib.Core.Path.{◌≡◌, refl, sym, ap, ◌∙◌}
use mathlib.Core.List.{[], map}
use lib.ListN.{length, take, replicate, length-set}
use lib.Seq.{paste-zero}
use Rattle.words.proofs.Fill.{fill-next}
use Rattle.sharing.proofs.Elements.{rows_of, rows-length, row_at, rows_back}
use Rattle.sharing.proofs.Loaded.{front}
use Rattle.sharing.proofs.load_shares.Goals as goal
use Rattle.sharing.proofs.load_shares.Goals.{At-loop-i}

pub loop-i-init : goal.loop-i-init
loop-i-init c = (refl, paste-zero (replicate 63 (replicate 6 0)) 0 (rows_of c.args.d c.args.m c.args.shares.now))

pub loop-i-preserved : goal.loop-i-preserved
loop-i-preserved c =
    let l = (goal.at.loop-i-preserved c).At-loop-i in
    let d = l.args.d in
    let m = l.args.m in
    let r = rows_of d m l.args.shares.now in
    let hr : length r ≡ m = rows-length d m l.args.shares.now in (
      simp length-set l.loop-i.invariant.0,
      fill-next (replicate 63 (replicate 6 0)) r l.loop-i.r l.loop-i.i [] c.load.result l.loop-i.invariant.1 (omega arith) (omega arith)
          (c.load.ensures ∙ sym (row_at d m l.args.shares.now l.loop-i.i (omega arith))),
    )

pub returns : goal.returns
returns c =
    let l = (goal.at.returns c).At-loop-i in
    let d = l.args.d in
    let m = l.args.m in
    let ws = l.args.shares.now in
    let e : l.loop-i.i ≡ m = omega arith in
    ap (map (take d)) (front (replicate 63 (replicate 6 0)) (rows_of d m ws) l.loop-i.r m (rw e at l.loop-i.invariant.1) (rows-length d m ws))
    ∙ rows_back d m ws (omega arith)
