-- The loop of `put_bytes`: the first i bytes are written. Assumes nothing.
use mathlib.Core.Path.{◌≡◌, refl, ◌∙◌}
use Prim.Native.Nat.{◌+◌}
use mathlib.Core.List.{append_assoc}
use native.Mathlib.Omega.{arith}
use lib.ListN.{length, get_or, take, drop, length-set}
use lib.Seq.{paste-zero}
use Rattle.words.proofs.Fill.{fill_more, fill-within}
use Rattle.writer.proofs.put_bytes.Goals as goal

pub loop-i-init : goal.loop-i-init
loop-i-init c = (paste-zero c.args.out.now c.args.at c.args.bytes.now, refl)

pub loop-i-preserved : goal.loop-i-preserved
loop-i-preserved c =
    let a = c.args in
    let l = c.loop-i in (
      fill_more a.out.now a.bytes.now l.out a.at l.i 0 (get_or a.bytes.now l.i 0) l.invariant.0 (omega arith) (omega arith)
          refl,
      length-set l.out (a.at + l.i) (get_or a.bytes.now l.i 0) ∙ l.invariant.1,
    )

pub returns : goal.returns
returns c =
    let a = c.args in
    let l = c.loop-i in
    let d = a.out.now in
    let s = a.bytes.now in
    let z : l.i ≡ length s = omega (arith, c.loop-i-test.false, l.auto.i-end) in
    fill-within d s l.out a.at (length s) (rw z at l.invariant.0) refl ∙ append_assoc (take a.at d) s (drop (a.at + length s) d)
