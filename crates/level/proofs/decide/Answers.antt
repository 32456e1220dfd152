-- `level::decide` meets its contract: the lanes are the shares of one bit, and the verdict is the codeword's. Assumes nothing.
use native.Mathlib.Omega.{arith}
use lib.Count.{ones-le}
use Rattle.level.proofs.Decision.{rows-length, numbered, holders-length, decides-few, decides-found, decides-none}
use Rattle.level.proofs.decide.Goals as goal

pub slice-y-requires : goal.slice-y-requires
slice-y-requires c =
    let a = c.args in (
      omega arith,
      omega arith,
      rows-length a.d (omega arith) (omega arith) a.v a.t a.e a.m a.hs.now a.rest.now (omega arith) c.requires.4 c.requires.5
          c.requires.6,
    )

pub points-x-requires : goal.points-x-requires
points-x-requires c =
    let a = c.args in (
      omega arith,
      holders-length a.d (omega arith) (omega arith) a.v a.t a.e a.m a.hs.now a.rest.now (omega arith) c.requires.4 c.requires.5
          c.requires.6,
    )

pub returns-then-n-t : goal.returns-then-n-t
returns-then-n-t c =
    let a = c.args in
    let r = decides-few a.d (omega arith) (omega arith) a.v a.t a.e a.m a.hs.now a.rest.now (omega arith) c.requires.4 c.requires.5
    c.requires.6 _ c.slice-y.ensures.0 c.slice-y.ensures.1 _ c.points-x.ensures _ c.locate-trusted.ensures _ _
    c.gather-n.ensures c.if-n-t.true in
    record { level = r.0; number = r.1 }

pub holder_set-wrong-requires : goal.holder_set-wrong-requires
holder_set-wrong-requires c =
    let a = c.args in (
      omega arith,
      numbered a.d (omega arith) (omega arith) a.v a.t a.e a.m a.hs.now a.rest.now (omega arith) c.requires.4 c.requires.5
          c.requires.6,
    )

pub overflow_cast-wrong : goal.overflow_cast-wrong
overflow_cast-wrong c = omega (arith, ones-le 64 c.holder_set-wrong.result (omega arith))

pub returns-then-wrong-e : goal.returns-then-wrong-e
returns-then-wrong-e c =
    let a = c.args in
    let r = decides-found a.d (omega arith) (omega arith) a.v a.t a.e a.m a.hs.now a.rest.now (omega arith) c.requires.4 c.requires.5
    c.requires.6 _ c.slice-y.ensures.0 c.slice-y.ensures.1 _ c.points-x.ensures _ c.locate-trusted.ensures _ _
    c.gather-n.ensures (omega (arith, c.if-n-t.false)) _
    c.support.ensures _ c.holder_set-wrong.ensures c.if-wrong-e.true in
    record { level = r.0; number = r.1 }

pub returns : goal.returns
returns c =
    let a = c.args in
    let r = decides-none a.d (omega arith) (omega arith) a.v a.t a.e a.m a.hs.now a.rest.now (omega arith) c.requires.4 c.requires.5
    c.requires.6 _ c.slice-y.ensures.0 c.slice-y.ensures.1 _ c.points-x.ensures _ c.locate-trusted.ensures _ _
    c.gather-n.ensures (omega (arith, c.if-n-t.false)) _
    c.support.ensures _ c.holder_set-wrong.ensures (omega (arith, c.if-wrong-e.false)) in
    record { level = r.0; number = r.1 }
