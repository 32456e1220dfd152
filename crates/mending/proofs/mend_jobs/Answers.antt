-- The loop of `mend_jobs`: the places passed are mended. Assumes nothing.
use borrow.Author.Rules.{rules}
use mathlib.Core.Path.{◌≡◌, ap, ◌∙◌}
use Prim.Native.Nat.{ℕ}
use native.Mathlib.Omega.{arith}
use Rattle.records.specs.declared.Heading.{Heading}
use Rattle.bundle.specs.Bundle.{bundle_heading}
use Rattle.mending.specs.Progress.{mended_to}
use Rattle.mending.proofs.Mended.{mended-done}
use Rattle.mending.proofs.mend_jobs.Goals as goal

pub returns : goal.returns
returns c =
    let b = c.args.bundle.now in
    let bs = b.bytes.now in
    let j : b.heading.jobs ≡ (bundle_heading bs).jobs = ap (λ (h : Heading). h.jobs) b.headed in
    let e : c.loop-place.place ≡ (bundle_heading bs).jobs = omega (arith, j, c.loop-place-test.false, c.loop-place.auto.place-end) in
    c.loop-place.invariant ∙ ap (λ (p : ℕ). mended_to bs p 0) e ∙ mended-done bs b.sound c.requires.0
