-- Each file that `yikes_file` tells of, cut out of the bundle, is one that `yikes_check_file` accepts, with the same heading and jobs. Assumes
-- nothing.
use mathlib.Core.Path.{◌≡◌}
use Prim.Native.Nat.{ℕ}
use mathlib.Core.List.{List}
use lib.ListN.{get_or}
use Rattle.records.specs.Num.{Bytes, part}
use Rattle.bundle.specs.Bundle.{file_fault}
use Rattle.bundle.specs.Contents.{file_from, bundle_from}
use Rattle.writer.specs.ByPlace.{file_no}
use Rattle.writer.proofs.ByPlace.{file-cut}
use Rattle.describe.specs.Describe.{file_part_of, file_part_fault}
use Rattle.describe.proofs.Told.{parted}

pub part-checked : (bs : List ℕ) → Bytes bs → (f n : ℕ) → file_part_fault bs f n ≡ 0 →
    let cut = part (get_or (file_part_of bs f) 1 0) (get_or (file_part_of bs f) 2 0) bs in
    (file_fault cut ≡ 0) × (file_from cut 0 ≡ file_no (bundle_from bs) f)
unfolding file_part_of
part-checked bs b f n e = let k = parted bs f n e in file-cut bs k.0 b f k.2
