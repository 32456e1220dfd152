-- `ring::horner_by_words` meets its contract: a turn of the loop takes one word more of the first factor. Assumes nothing.
use native.Mathlib.Omega.{arith}
use mathlib.Core.Path.{◌≡◌, refl, sym}
use Prim.Native.Nat.{◌-◌}
use lib.ListN.{length, take, get_or}
use lib.Seq.{length-take-le, get_or-take}
use Rattle.galois.specs.Element.{down_w, plus_w}
use Rattle.galois.proofs.Horner.{turn, turn-length, no-turn}
use Rattle.ring.proofs.horner_by_words.Goals as goal
use Rattle.ring.proofs.horner_by_words.Goals.{At-loop-i}

pub loop-i-init : goal.loop-i-init
loop-i-init c =
    let d = c.args.d in
    let h₆ : length c.args.a ≡ 6 = omega (arith, c.well_formed) in
    let ha : length (take d c.args.a) ≡ d = length-take-le d c.args.a (omega arith) in
    (refl, no-turn 64 d (take c.args.d c.args.a) (take d c.args.b) (omega arith) (omega arith) ha)

pub loop-i-preserved : goal.loop-i-preserved
loop-i-preserved c =
    let l = (goal.at.loop-i-preserved c).At-loop-i in
    let d = l.args.d in
    let i = l.loop-i.i in
    let r = l.loop-i.r in
    let low = l.args.low in
    let a = (take l.args.d l.args.a) in
    let b = l.args.b in
    let hb : length b ≡ 6 = omega (arith, l.well_formed) in
    let hl : length low ≡ 6 = omega (arith, l.well_formed) in
    let h₆ : length l.args.a ≡ 6 = omega (arith, l.well_formed) in
    let ha : length a ≡ d = length-take-le d l.args.a (omega arith) in
    let c₁ = get_or l.args.a (i - 1) 0 in (
      rw (c.add_scaled-r.ensures, c.shift-s.ensures) (turn-length (plus_w 64 c₁) (down_w 64 (get_or r (d - 1) 0)) r low b l.loop-i.invariant.0 hl hb),
      rw (c.add_scaled-r.ensures, c.shift-s.ensures, l.requires.1)
          (turn 64 d r a b i c₁ (omega arith) (omega arith) (omega arith) (omega arith) (omega arith)
          (sym (get_or-take d l.args.a (i - 1) 0 (omega arith))) l.loop-i.invariant.1),
    )
