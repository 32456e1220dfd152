-- The loop of `mend_files`: the files passed are mended at the place. Assumes nothing.
use borrow.Author.Rules.{rules}
use mathlib.Core.Path.{◌≡◌, ap, ◌∙◌}
use native.Mathlib.Omega.{arith}
use Rattle.bundle.specs.Bundle.{files_of}
use Rattle.mending.specs.Progress.{mended_to}
use Rattle.mending.proofs.Mended.{mended-turn}
use Rattle.mending.proofs.mend_files.Goals as goal

pub returns : goal.returns
returns c =
    let b = c.args.bundle.now in
    let bs = b.bytes.now in
    let e : c.loop-f.f ≡ files_of bs = omega (arith, b.counted, c.loop-f-test.false, c.loop-f.auto.f-end) in
    c.loop-f.invariant ∙ ap (mended_to bs c.args.place) e ∙ mended-turn bs b.sound c.requires.0 c.args.place
