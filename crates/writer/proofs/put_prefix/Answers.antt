-- `put_prefix`: two numbers, one after the other. Assumes nothing.
use Prim.Native.Nat.{◌+◌}
use mathlib.Core.List.{[], ◌++◌}
use native.Mathlib.Omega.{arith}
use Rattle.records.specs.Num.{le_bytes}
use Rattle.records.proofs.Num.{length-le_bytes}
use Rattle.writer.proofs.Put.{written_none, written-number, written-end, prefix-length}
use Rattle.writer.proofs.put_prefix.Goals as goal

pub returns : goal.returns
returns c =
    let a = c.args in
    let d = a.out.now in
    let p = c.requires in
    let l = le_bytes 4 a.len in
    let k = le_bytes 2 a.kind in
    let n = length-le_bytes 4 a.len in
    let w₁ = written-number d a.at [] d c.put_number.new.out a.at 4 a.len
    (written_none d a.at (omega arith)) (omega arith) (omega arith)
    c.put_number.ensures in
    let w₂ = written-number d a.at l c.put_number.new.out
    c.put_number-2.new.out (a.at + 4) 2 a.kind w₁ (omega arith) (omega arith)
    c.put_number-2.ensures in
    written-end d a.at (l ++ k) c.put_number-2.new.out 6 w₂ (prefix-length a.len a.kind)
