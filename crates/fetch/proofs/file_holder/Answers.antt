-- `file_holder`: the file is within the bytes of the bundle. Assumes nothing.
use mathlib.Core.Path.{◌≡◌, sym, ap, ◌∙◌}
use Prim.Native.Nat.{ℕ, ◌<◌}
use native.Mathlib.Omega.{arith}
use Rattle.records.specs.Record.{heading_of}
use Rattle.records.specs.declared.Heading.{Heading}
use Rattle.bundle.specs.Bundle.{file_at, files_of}
use Rattle.bundle.proofs.Bundles.{bundle-ok, heading-within, file-place}
use Rattle.fetch.proofs.Places.{file-asks}
use Rattle.fetch.proofs.file_holder.Goals as goal
use Rattle.fetch.proofs.file_holder.Goals.{After-file_at, Start}

low : (c : Start) → c.args.f < files_of c.args.bundle.now.bytes.now
low c = omega (arith, c.requires, c.args.bundle.now.counted)

pub file_at-requires : goal.file_at-requires
file_at-requires c = let b = c.args.bundle.now in file-asks b.bytes.now b.sound b.heading b.headed c.args.f (low (goal.at.file_at-requires c).Start)

place : (c : After-file_at) → c.file_at.result ≡ file_at c.args.bundle.now.bytes.now c.args.f
place c =
    let b = c.args.bundle.now in
    c.file_at.ensures ∙ sym (file-place b.bytes.now (bundle-ok b.bytes.now b.sound) b.heading c.args.f b.headed)

pub heading_at-found-requires : goal.heading_at-found-requires
heading_at-found-requires c =
    let b = c.args.bundle.now in
    rw (place c) (heading-within b.bytes.now (bundle-ok b.bytes.now b.sound) c.args.f (low (goal.at.heading_at-found-requires c).Start))

pub returns : goal.returns
returns c =
    ap (λ (h : Heading). h.holder) c.heading_at-found.ensures
    ∙ ap (λ (at : ℕ). (heading_of c.args.bundle.now.bytes.now at).holder) (place (goal.at.returns c).After-file_at)
