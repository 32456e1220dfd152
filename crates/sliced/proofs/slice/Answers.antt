-- `sliced::slice` meets its contract: a turn of the loop packs one element more. Assumes nothing.
use native.Mathlib.Omega.{arith}
use mathlib.Core.Path.{◌≡◌, refl}
use mathlib.Core.List.{[]}
use Rattle.sliced.specs.Lane.{lane, slice_of}
use Rattle.sliced.proofs.Lanes.{lane-bits}
use Rattle.sliced.proofs.Turns.{packed_start, packed-turn, packed-room}
use Rattle.sliced.proofs.slice.Goals as goal

pub loop-i-init : goal.loop-i-init
loop-i-init c = (packed_start (λ y. lane 6 y c.args.v) c.args.ys.now c.args.m, refl)

pub prepend-s-requires : goal.prepend-s-requires
prepend-s-requires c =
    let a = c.args in (
      rw c.bits_of.ensures (lane-bits 6 _ a.v),
      rw c.loop-i.invariant.0 (packed-room (λ y. lane 6 y a.v) a.ys.now a.m (λ y. lane-bits 6 y a.v) (omega arith) c.loop-i.i),
    )

pub loop-i-preserved : goal.loop-i-preserved
loop-i-preserved c =
    let a = c.args in (
      rw (c.prepend-s.ensures.0, c.bits_of.ensures, c.loop-i.invariant.0)
          (packed-turn (λ y. lane 6 y a.v) a.ys.now a.m [] c.loop-i.i (omega arith) (omega arith) (omega arith)),
      c.prepend-s.ensures.1,
    )

pub returns : goal.returns
unfolding slice_of
returns c =
    let e : c.loop-i.i ≡ 0 = omega arith in
    (rw e at c.loop-i.invariant.0, c.loop-i.invariant.1)
