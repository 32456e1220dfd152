-- `ring::sum_by_bits` meets its contract: a turn of the loop takes one bit more of the holder. Assumes nothing.
use native.Mathlib.Omega.{arith}
use mathlib.Core.Path.{◌≡◌, refl, ◌∙◌, sym, ap}
use Prim.Native.Nat.{ℕ, ◌+◌, ◌-◌, ◌/◌, ◌%◌, ◌^◌}
use native.Mathlib.Nat.{div-one, le_of_eq}
use native.Mathlib.Numerals.{add-one}
use lib.ListN.{length, take, get_or}
use lib.Seq.{length-take-le, take_all}
use Rattle.galois.specs.Element.{down_w, lower, point, product}
use Rattle.galois.proofs.Table.{length-lower}
use Rattle.galois.proofs.Lists.{length-product}
use Rattle.galois.proofs.Zip.{zip-shifted}
use Rattle.galois.proofs.Held.{held_same}
use Rattle.galois.proofs.Bits.{point_at}
use Rattle.galois.proofs.Points.{length-point}
use Rattle.galois.proofs.Rising.{power_x, power-next, rise, rise-first}
use Rattle.ring.proofs.sum_by_bits.Goals as goal
use Rattle.ring.proofs.sum_by_bits.Goals.{At-loop-j}

pub loop-j-init : goal.loop-j-init
unfolding power_x
loop-j-init c =
    let d = c.args.d in
    let i = c.args.i in
    let a = c.args.a in
    let ha : length a ≡ 6 = omega (arith, c.well_formed) in
    let hp : length (point d i) ≡ d = length-point d i in
    let e : i % 2 ≡ get_or (point d i) 0 0 = sym (point_at d i 0 (omega arith) ∙ ap (λ (y : ℕ). y % 2) (div-one i)) in (
      ha,
      refl,
      rw c.add_scaled-r.ensures (rise-first 64 d (point d i) a (i % 2) (omega arith) (omega arith) (omega arith) (omega arith) e),
    )

pub loop-j-preserved : goal.loop-j-preserved
loop-j-preserved c =
    let l = (goal.at.loop-j-preserved c).At-loop-j in
    let d = l.args.d in
    let i = l.args.i in
    let j = l.loop-j.j in
    let p = l.loop-j.p in
    let q = c.shift-q.result in
    let b = take l.args.d l.args.a in
    let low = l.args.low in
    let hl : length low ≡ 6 = omega (arith, l.well_formed) in
    let ha : length l.args.a ≡ 6 = omega (arith, l.well_formed) in
    let hb : length b ≡ d = length-take-le d l.args.a (omega arith) in
    let hp : length (point d i) ≡ d = length-point d i in
    let e : j + 1 - 1 ≡ j = omega arith in
    let x : take d q ≡ power_x 64 (lower d) j b =
    rw (c.shift-q.ensures, l.requires.1) (power-next 64 d p b j (omega arith) (omega arith) (omega arith) (omega arith) l.loop-j.invariant.1) in (
      rw c.shift-q.ensures (ap length (zip-shifted (down_w 64 (get_or p (d - 1) 0)) p low l.loop-j.invariant.0 hl)),
      rw e x,
      rw (c.add_picked-s.ensures, add-one)
          (rise 64 d l.loop-j.r q (point d i) b j (i / 2 ^ j % 2) (omega arith) (omega arith) hb (omega arith)
          (sym (point_at d i j (omega arith))) x l.loop-j.invariant.2),
    )

pub returns : goal.returns
returns c =
    let l = (goal.at.returns c).At-loop-j in
    let d = l.args.d in
    let b = take l.args.d l.args.a in
    let ha : length l.args.a ≡ 6 = omega (arith, l.well_formed) in
    let hb : length b ≡ d = length-take-le d l.args.a (omega arith) in
    let hl : length (lower d) ≡ d = length-lower d (omega arith) (omega arith) in
    let e : l.loop-j.j ≡ d = omega arith in
    let a = point d l.args.i in
    let p = product 64 (lower d) a b in
    let q : take d l.loop-j.r ≡ p = rw (e, take_all d a (le_of_eq (length-point d l.args.i))) at l.loop-j.invariant.2 in
    let hp : length p ≡ d = length-product 64 (lower d) a b (hb ∙ sym hl) ∙ hl in
    c.keep.ensures ∙ held_same d l.loop-j.r p q hp
