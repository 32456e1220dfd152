-- A bundle is its order and then files: its fault is that of the files alone. Assumes nothing.
use mathlib.Core.Path.{◌≡◌, sym, ap, ◌∙◌}
use Prim.Native.Nat.{ℕ, ◌+◌}
use native.Mathlib.Omega.{arith}
use mathlib.Core.List.{List, [], ◌∷◌, ◌++◌}
use mathlib.Core.Bool.{true}
use lib.ListN.{length, get_or, drop}
use lib.Seq.{drop_at}
use lib.Dec.{lit<}
use Rattle.records.specs.Num.{Bytes}
use Rattle.records.specs.Layout.{body_at, order_kind, order_len, order_size}
use Rattle.records.specs.Record.{framed}
use Rattle.bundle.specs.Bundle.{files_fault, bundle_fault}
use Rattle.bundle.specs.Contents.{bundle_from}
use Rattle.records.proofs.Record.{frame-framed}
use Rattle.bundle.proofs.Files.{bundle-files}
use Rattle.writer.specs.Bytes.{order_bytes, files_bytes, bundle_bytes}
use Rattle.writer.specs.Write.{bundle_write_fault}
use Rattle.words.specs.Refusal.{first}
use Rattle.words.specs.Faults.{length_fault}
use Rattle.writer.proofs.Holds.{holds-all, left, rec-frame}
use Rattle.writer.proofs.Fits.{order-length}
use Rattle.writer.proofs.Encode.{bundle_written}
use Rattle.writer.proofs.Shift.{files-shift}

module _ (e : ℕ) (files : List ℕ) where
  order-framed : framed (order_bytes e ++ files) order_kind order_len 0 ≡ true
  unfolding order_bytes
  order-framed =
      let bs = order_bytes e ++ files in
      frame-framed bs order_kind order_len 0 (rec-frame bs 0 order_kind (e ∷ []) (lit< tt) (lit< tt) (left (order_bytes e) files (holds-all bs)))

  pub order-fault : bundle_fault (order_bytes e ++ files) ≡ files_fault files 0
  order-fault =
      let z : order_size ≡ length (order_bytes e) + 0 = omega (arith, order-length e) in
      bundle-files (order_bytes e ++ files) order-framed
      ∙ ap (files_fault (order_bytes e ++ files)) z ∙ files-shift (order_bytes e) files 0

-- so is the fault of a call that writes one
pub bundle_write : (e : ℕ) (files : List ℕ) (size : ℕ) → bundle_write_fault e files size ≡ first (files_fault files 0) (length_fault (order_size + length files) size)
unfolding bundle_write_fault
bundle_write e files size = ap (λ (f : ℕ). first f (length_fault (order_size + length files) size)) (order-fault e files)

-- every accepted bundle is its order and the bytes after it, so the bundle writer writes it
pub bundle-rewritten : (bs : List ℕ) → Bytes bs → bundle_fault bs ≡ 0 → order_bytes (get_or bs (body_at 0) 0) ++ drop order_size bs ≡ bs
unfolding bundle_bytes bundle_from
bundle-rewritten bs b e =
    let o = order_bytes (get_or bs (body_at 0) 0) in
    let fs = files_bytes (bundle_from bs).files in
    let w : o ++ fs ≡ bs = bundle_written bs b e in
    ap (λ (l : List ℕ). o ++ drop order_size l) (sym w) ∙ ap (λ (l : List ℕ). o ++ l) (drop_at o fs order_size (order-length (get_or bs (body_at 0) 0)))
    ∙ w
