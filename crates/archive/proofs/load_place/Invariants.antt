-- The loop of `load_place`: the rows passed are the words of the files' jobs, which are taken together. Assumes nothing.
use mathlib.Core.Path.{◌≡◌}
use Rattle.words.specs.Word.{in_width, all_in_width}
use Rattle.galois.specs.Element.{held}
use Rattle.bundle.specs.Bundle.{params_of}
use Rattle.bundle.specs.Contents.{words_of}
use Rattle.totals.specs.Values.{every}
use Rattle.totals.proofs.Values.{filled}
use Rattle.archive.proofs.load_place.Given as goal

abbrev pub invariant-loop-f : goal.invariant-loop-f
invariant-loop-f l = (in_width l.bundle.heading.params.k l.seen ≡ every (λ g. all_in_width (params_of l.bundle.bytes.now).k (words_of l.bundle.bytes.now g l.place)) l.f)
    × (l.shares ≡ filled (λ g. held l.bundle.heading.params.d (words_of l.bundle.bytes.now g l.place)) l.bundle.files l.initial.shares l.f)
