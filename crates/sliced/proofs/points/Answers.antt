-- `sliced::points` meets its contract: a turn of the loop packs one point more. Assumes nothing.
use native.Mathlib.Omega.{arith}
use mathlib.Core.Path.{◌≡◌}
use Rattle.galois.specs.Element.{point}
use Rattle.sliced.specs.Lane.{points_of}
use Rattle.sliced.proofs.Lanes.{point-bits}
use Rattle.sliced.proofs.Turns.{packed_start, packed-turn, packed-room}
use Rattle.sliced.proofs.points.Goals as goal

pub loop-i-init : goal.loop-i-init
loop-i-init c = packed_start (point 6) c.args.hs.now c.args.m

pub prepend-s-requires : goal.prepend-s-requires
prepend-s-requires c =
    let a = c.args in (
      rw c.point.ensures (point-bits 6 _),
      rw c.loop-i.invariant (packed-room (point 6) a.hs.now a.m (point-bits 6) (omega arith) c.loop-i.i),
    )

pub loop-i-preserved : goal.loop-i-preserved
loop-i-preserved c =
    let a = c.args in
    rw (c.prepend-s.ensures.0, c.point.ensures, c.loop-i.invariant)
    (packed-turn (point 6) a.hs.now a.m 0 c.loop-i.i (omega arith) (omega arith) (omega arith))

pub returns : goal.returns
unfolding points_of
returns c =
    let e : c.loop-i.i ≡ 0 = omega arith in
    rw e at c.loop-i.invariant
