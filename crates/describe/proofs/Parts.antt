-- The part of a file: a heading of its holder stands at its start, it is within the bytes, and the parts of all files are all that stands after
-- the order. Assumes nothing.
use mathlib.Core.Path.{◌≡◌, refl}
use Prim.Native.Nat.{ℕ, suc, ◌+◌, ◌≤◌}
use native.Mathlib.Omega.{arith}
use mathlib.Core.List.{List}
use lib.ListN.{length, get_or}
use Rattle.records.specs.Layout.{head_kind, head_len, order_size}
use Rattle.records.specs.Record.{Frame, heading_of}
use Rattle.bundle.specs.Bundle.{bundle_fault, files_of, place_at}
use Rattle.bundle.proofs.Bundles.{bundle-ok, file-at, file-within}
use Rattle.describe.specs.Describe.{file_part_of, file_part_fault}
use Rattle.describe.proofs.Told.{parted}

module _ (bs : List ℕ) (f n : ℕ) (e : file_part_fault bs f n ≡ 0) where
  pub part-within : let w = file_part_of bs f in get_or w 1 0 + get_or w 2 0 ≤ length bs
  unfolding file_part_of
  part-within = let k = parted bs f n e in file-within bs order_size (bundle-ok bs k.0).files f k.2

  pub part-heading : let w = file_part_of bs f in let h = heading_of bs (get_or w 1 0) in
      Frame bs (head_kind h) (head_len h) (get_or w 1 0) × (h.holder ≡ get_or w 0 0)
  unfolding file_part_of
  part-heading = let k = parted bs f n e in ((file-at bs order_size (bundle-ok bs k.0).files f k.2).heading.frame, refl)

-- the words of the part: holder, offset, length. The first starts after the order, each where the one before ends, and the last ends where the
-- bytes do
module _ (bs : List ℕ) where
  pub parts-start : get_or (file_part_of bs 0) 1 0 ≡ order_size
  unfolding file_part_of place_at
  parts-start = omega arith

  pub parts_next : (f : ℕ) → let w = file_part_of bs f in get_or (file_part_of bs (suc f)) 1 0 ≡ get_or w 1 0 + get_or w 2 0
  unfolding file_part_of place_at
  parts_next f = omega arith

  pub parts-end : bundle_fault bs ≡ 0 → get_or (file_part_of bs (files_of bs)) 1 0 ≡ length bs
  unfolding file_part_of
  parts-end z = (bundle-ok bs z).files.ends
