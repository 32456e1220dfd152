-- `file_part`: the three words, where nothing declines. Assumes nothing.
use mathlib.Core.Path.{◌≡◌, sym, ap, ◌∙◌}
use Prim.Native.Nat.{ℕ, ◌≤◌, ◌<◌}
use mathlib.Core.List.{List}
use native.Mathlib.Omega.{arith}
use lib.ListN.{length}
use Rattle.words.specs.Faults.{length_fault}
use Rattle.words.proofs.Refusals.{first-none}
use Rattle.bundle.specs.Bundle.{bundle_fault, files_of}
use Rattle.bundle.proofs.Bundles.{bundle-ok, file-place}
use Rattle.fetch.proofs.Places.{file-asks}
use Rattle.describe.specs.Describe.{file_part_of, index_fault, file_part_fault}
use Rattle.describe.proofs.Told.{succeeded, part-is}
use Rattle.describe.proofs.file_part.Goals as goal
use Rattle.describe.proofs.file_part.Goals.{In_ok-check_index}

asked : (c : In_ok-check_index) → let h = c.in_ok-bundle.bundle.heading in (h.params.d ≤ 6) × (h.jobs ≤ 1000) × (c.args.index ≤ 63)
asked c =
    let b = c.in_ok-bundle.bundle in
    let l : c.args.index < files_of b.bytes.now = omega (arith, c.in_ok-check_index.ensures.ok, b.counted) in
    file-asks b.bytes.now b.sound b.heading b.headed c.args.index l

pub file_at-requires : goal.file_at-requires
file_at-requires c = asked (goal.at.file_at-requires c).In_ok-check_index

pub file_size-requires : goal.file_size-requires
file_size-requires c = let t = asked (goal.at.file_size-requires c).In_ok-check_index in (t.0, t.1)

pub returns : goal.returns
unfolding file_part_fault
returns c =
    let a = c.args in
    let b = c.in_ok-bundle.bundle in
    let e = c.in_ok-bundle.ensures.bundle in
    let n = length a.part.now in
    succeeded (file_part_fault a.bytes.now a.index n) a.part.now (file_part_of a.bytes.now a.index) c.copy_from_slice.new.self
    (first-none (bundle_fault a.bytes.now) _ (sym c.in_ok-bundle.ensures.fault)
    ∙ first-none (length_fault 3 n) _ (sym c.in_ok-check_length.ensures.fault)
    ∙ ap (λ (files : ℕ). index_fault files a.index) (sym (b.counted ∙ ap files_of e))
    ∙ sym c.in_ok-check_index.ensures.fault)
    (c.copy_from_slice.ensures.after
    ∙ part-is b.bytes.now b.heading b.headed c.file_size.result c.file_size.ensures a.index c.file_holder.result c.file_at.result c.file_holder.ensures
    (c.file_at.ensures ∙ sym (file-place b.bytes.now (bundle-ok b.bytes.now b.sound) b.heading a.index b.headed))
    ∙ ap (λ (bs : List ℕ). file_part_of bs a.index) e)
