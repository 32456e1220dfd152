-- The loop of `load_run`: the rows passed are the files' totals, and their words are taken together. Assumes nothing.
use mathlib.Core.Path.{◌≡◌}
use Prim.Native.Nat.{◌-◌}
use lib.ListN.{length}
use Rattle.words.specs.Word.{in_width}
use Rattle.galois.specs.Element.{held}
use Rattle.totals.specs.Total.{run_total, run_in_width}
use Rattle.totals.specs.Values.{every}
use Rattle.totals.proofs.Values.{filled}
use Rattle.archive.proofs.load_run.Given as goal

abbrev pub invariant-loop-f : goal.invariant-loop-f
invariant-loop-f l = (length l.shares ≡ 63) × (in_width l.bundle.heading.params.k l.seen ≡ every (λ g. run_in_width l.bundle.bytes.now g l.a (l.b - l.a)) l.f)
    × (l.shares ≡ filled (λ g. held l.bundle.heading.params.d (run_total l.bundle.bytes.now g l.a (l.b - l.a))) l.bundle.files l.initial.shares l.f)
