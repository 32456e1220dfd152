-- The loop of `load_holders`: the holders passed are in their places. Assumes nothing.
use native.Mathlib.Omega.{arith}
use mathlib.Core.Path.{◌≡◌, ap, ◌∙◌}
use mathlib.Core.List.{◌++◌}
use Prim.Native.Nat.{ℕ, ◌≤◌}
use lib.ListN.{length, drop, replicate, length-replicate}
use Rattle.bundle.specs.Bundle.{holder_of}
use Rattle.bundle.proofs.Bundles.{bundle-ok, files-most}
use Rattle.totals.specs.Values.{values_from}
use Rattle.totals.proofs.Values.{values-start, values-next, values-done}
use Rattle.archive.proofs.load_holders.Goals as goal
use Rattle.archive.proofs.load_holders.Goals.{Start}

few : (s : Start) → s.args.bundle.now.files ≤ 63
few s = omega (arith, s.args.bundle.now.counted, files-most s.args.bundle.now.bytes.now (bundle-ok s.args.bundle.now.bytes.now s.args.bundle.now.sound))

room : (s : Start) → s.args.bundle.now.files ≤ length {A = ℕ} (replicate 63 0)
room s = rw (length-replicate {A = ℕ} 63 0) (few s)

pub loop-f-init : goal.loop-f-init
loop-f-init c = values-start (holder_of c.args.bundle.now.bytes.now) c.args.bundle.now.files (replicate 63 0)

pub offset_bounds-holders-f : goal.offset_bounds-holders-f
offset_bounds-holders-f c = omega (arith, few (goal.at.offset_bounds-holders-f c).Start)

pub bounds-holders-f : goal.bounds-holders-f
bounds-holders-f c = omega (arith, few (goal.at.bounds-holders-f c).Start)

pub loop-f-preserved : goal.loop-f-preserved
loop-f-preserved c =
    let s = (goal.at.loop-f-preserved c).Start in
    values-next (holder_of s.args.bundle.now.bytes.now) s.args.bundle.now.files (replicate 63 0) c.loop-f.holders c.loop-f.f c.file_holder.result
    c.loop-f.invariant (omega arith) (room s) c.file_holder.ensures

pub returns : goal.returns
returns c =
    let e : c.loop-f.f ≡ c.args.bundle.now.files = omega arith in
    values-done (holder_of c.args.bundle.now.bytes.now) c.args.bundle.now.files (replicate 63 0) c.loop-f.holders c.loop-f.f c.loop-f.invariant e
    ∙ ap (λ m. values_from (holder_of c.args.bundle.now.bytes.now) 0 m ++ drop m (replicate 63 0)) c.args.bundle.now.counted
