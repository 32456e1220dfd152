-- `decoder::copy_others` meets its contract: after each turn the shares kept so far stand first in the second arrays. Assumes nothing.
use native.Mathlib.Omega.{arith}
use mathlib.Core.Path.{refl, ◌∙◌}
use mathlib.Core.List.{[]}
use Prim.Native.Nat.{◌≤◌, ◌<◌}
use lib.ListN.{get_or, length-set}
use Rattle.codewords.specs.Residue.{without}
use Rattle.level.specs.Shares.{shares_of}
use Rattle.decoder.proofs.Dropped.{copy_start, copy-turn, drop-end}
use Rattle.decoder.proofs.copy_others.Goals as goal
use Rattle.decoder.proofs.copy_others.Goals.{At-loop-i}

pub loop-i-init : goal.loop-i-init
loop-i-init c =
    let a = c.args in
    (omega arith, c.requires.3, c.requires.4, λ d. copy_start d a.w a.hs.now a.ys.now a.m a.holders.now a.shares.now)

-- a holder's bit is one of a word's
range : (l : At-loop-i) → l.loop-i.i < l.args.m →
    (1 ≤ get_or l.args.hs.now l.loop-i.i 0) × (get_or l.args.hs.now l.loop-i.i 0 ≤ 63)
range l h = l.requires.5 l.loop-i.i h

pub overflow_sub-j : goal.overflow_sub-j
overflow_sub-j c = (range (goal.at.overflow_sub-j c).At-loop-i (omega arith)).0

pub loop-i-preserved : goal.loop-i-preserved
loop-i-preserved c =
    let a = c.args in
    let hs = a.hs.now in
    let ys = a.ys.now in
    let i = c.loop-i.i in
    let j = c.loop-i.j in (
      omega arith,
      length-set c.loop-i.holders j (get_or hs i 0) ∙ c.loop-i.invariant.1,
      length-set c.loop-i.shares j (get_or ys i []) ∙ c.loop-i.invariant.2,
      λ d. copy-turn d a.w hs ys a.m i (omega arith) c.loop-i.holders c.loop-i.shares j (get_or hs i 0) (get_or ys i []) refl (omega arith)
          (omega arith) (without a.w (shares_of d a.m hs ys)) (c.loop-i.invariant.3 d),
    )

pub returns : goal.returns
returns c =
    let a = c.args in (
      λ d. drop-end d a.w a.hs.now a.ys.now c.loop-i.i a.m (omega arith) (shares_of d c.loop-i.j c.loop-i.holders c.loop-i.shares)
          (without a.w (shares_of d a.m a.hs.now a.ys.now)) (c.loop-i.invariant.3 d),
      omega arith,
      c.loop-i.invariant.1,
      c.loop-i.invariant.2,
    )
