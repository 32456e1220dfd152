-- `decoder::drop_wrong` meets its contract: after each turn the shares kept so far stand first, and those ahead as they were. Assumes nothing.
use native.Mathlib.Omega.{arith}
use mathlib.Core.Path.{refl, ◌∙◌}
use mathlib.Core.List.{[]}
use Prim.Native.Nat.{◌≤◌, ◌<◌}
use lib.ListN.{get_or, length-set}
use Rattle.codewords.specs.Residue.{without}
use Rattle.level.specs.Shares.{shares_of}
use Rattle.decoder.proofs.Dropped.{drop-start, holder-range, drop-same, drop-turn, drop-end}
use Rattle.decoder.proofs.drop_wrong.Goals as goal
use Rattle.decoder.proofs.drop_wrong.Goals.{At-loop-i}

pub loop-i-init : goal.loop-i-init
loop-i-init c =
    let a = c.args in
    (omega arith, c.requires.1, c.requires.2, λ d. refl, λ d. drop-start d a.w a.hs.now a.ys.now a.m)

-- a holder's bit is one of a word's
range : (l : At-loop-i) → l.loop-i.i < l.args.m →
    (1 ≤ get_or l.loop-i.hs l.loop-i.i 0) × (get_or l.loop-i.hs l.loop-i.i 0 ≤ 63)
range l h =
    let a = l.args in
    holder-range 0 a.w a.hs.now a.ys.now a.m l.loop-i.hs l.loop-i.ys l.loop-i.i h (l.loop-i.invariant.3 0)
    (l.requires.3 l.loop-i.i h)

pub overflow_sub-j : goal.overflow_sub-j
overflow_sub-j c =
    let l = (goal.at.overflow_sub-j c).At-loop-i in
    (range l (omega arith)).0

pub overflow_shr-j : goal.overflow_shr-j
overflow_shr-j c =
    let l = (goal.at.overflow_shr-j c).At-loop-i in
    omega (arith, (range l (omega arith)).1)

pub loop-i-preserved : goal.loop-i-preserved
loop-i-preserved c =
    let l = (goal.at.loop-i-preserved c).At-loop-i in
    let a = l.args in
    let hs = l.loop-i.hs in
    let ys = l.loop-i.ys in
    let i = l.loop-i.i in
    let j = l.loop-i.j in
    let h : i < a.m = omega arith in (
      omega arith,
      length-set hs j (get_or hs i 0) ∙ l.loop-i.invariant.1,
      length-set ys j (get_or ys i []) ∙ l.loop-i.invariant.2,
      λ d. drop-same d a.w a.hs.now a.ys.now a.m hs ys i h (l.loop-i.invariant.3 d) j l.loop-i.invariant.0,
      λ d. drop-turn d a.w a.hs.now a.ys.now a.m hs ys i h (l.loop-i.invariant.3 d) j l.loop-i.invariant.0 (omega arith) (omega arith)
          (without a.w (shares_of d a.m a.hs.now a.ys.now)) (l.loop-i.invariant.4 d),
    )

pub returns : goal.returns
returns c =
    let l = (goal.at.returns c).At-loop-i in
    let a = l.args in (
      λ d. drop-end d a.w a.hs.now a.ys.now l.loop-i.i a.m (omega arith) (shares_of d l.loop-i.j l.loop-i.hs l.loop-i.ys)
          (without a.w (shares_of d a.m a.hs.now a.ys.now)) (l.loop-i.invariant.4 d),
      omega arith,
      l.loop-i.invariant.1,
      l.loop-i.invariant.2,
    )
