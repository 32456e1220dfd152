-- `write_bundle`: the order and then the files, where nothing declines. Assumes nothing.
use mathlib.Core.Path.{◌≡◌, refl, sym, ◌∙◌}
use Prim.Native.Nat.{◌+◌}
use mathlib.Core.List.{[], ◌++◌}
use native.Mathlib.Omega.{arith}
use lib.ListN.{length, length-append}
use Rattle.words.proofs.Refusals.{first-none, kept-none}
use Rattle.records.specs.Layout.{order_size}
use Rattle.bundle.specs.Bundle.{files_fault}
use Rattle.writer.specs.Bytes.{order_bytes}
use Rattle.writer.specs.Write.{bundle_write_fault}
use Rattle.writer.proofs.Put.{Written, written_none, written-more, written_all}
use Rattle.writer.proofs.Fits.{order-length}
use Rattle.writer.proofs.Orders.{bundle_write}
use Rattle.writer.proofs.write_bundle.Goals as goal

pub returns : goal.returns
returns c =
    let x = c.args.e in
    let fs = c.args.files.now in
    let d = c.args.out.now in
    let n : length d ≡ order_size + length fs = c.in_ok-check_length.ensures.ok in
    let e : bundle_write_fault x fs (length d) ≡ 0 =
    bundle_write x fs (length d) ∙ first-none (files_fault fs 0) _ (sym c.in_ok-check_files.ensures) ∙ sym c.in_ok-check_length.ensures.fault in
    let m = order-length x in
    let o₁ = c.put_order.new.out in
    let o₂ = c.put_bytes.new.out in
    let w₁ : Written d 0 (order_bytes x) o₁ =
    written-more d 0 [] d (order_bytes x) o₁ 0 order_size (written_none d 0 (omega arith)) refl (sym m) (omega arith) c.put_order.ensures in
    let w₂ : Written d 0 (order_bytes x ++ fs) o₂ =
    written-more d 0 (order_bytes x) o₁ fs o₂ order_size (length fs) w₁ (omega arith) refl (omega arith) c.put_bytes.ensures in
    let t : length (order_bytes x ++ fs) ≡ length d = length-append (order_bytes x) fs ∙ omega arith in
    (sym e, written_all d (order_bytes x ++ fs) o₂ w₂ t ∙ sym (kept-none _ d _ e))
