-- `put_order`: its pieces, one after another. Assumes nothing.
use mathlib.Core.Path.{◌≡◌, refl, sym}
use Prim.Native.Nat.{◌<◌}
use mathlib.Core.List.{[], ◌∷◌, ◌++◌}
use native.Mathlib.Omega.{arith}
use lib.ListN.{length}
use Rattle.records.specs.Num.{le_bytes}
use Rattle.records.specs.Layout.{order_size, order_len, order_kind}
use Rattle.writer.specs.Bytes.{order_bytes}
use Rattle.writer.proofs.Put.{Written, written_none, written-more, written_byte, written-end, prefix-length}
use Rattle.writer.proofs.Fits.{order-length}
use Rattle.writer.proofs.Calls.{order-pieces}
use Rattle.writer.proofs.put_order.Goals as goal

pub returns : goal.returns
returns c =
    let a = c.args in
    let d = a.out.now in
    let g = c.requires in
    let s = le_bytes 4 order_len ++ le_bytes 2 order_kind in
    let o₁ = c.put_prefix.new.out in
    let o₂ = c.put_number.new.out in
    let m : length s ≡ 6 = prefix-length order_len order_kind in
    let b : a.e < 256 = omega arith in
    let w₁ : Written d 0 s o₁ = written-more d 0 [] d s o₁ 0 6 (written_none d 0 (omega arith)) refl (sym m) (omega arith)
    c.put_prefix.ensures in
    let w₂ : Written d 0 (s ++ (a.e ∷ [])) o₂ = written_byte d 0 s o₁ o₂ 6 a.e w₁ (omega arith) (omega arith) b
    c.put_number.ensures in
    written-end d 0 (order_bytes a.e) o₂ order_size (rw (order-pieces a.e) at w₂) (order-length a.e)
