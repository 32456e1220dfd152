-- `sliced::point` meets its contract: word j is bit j. Assumes nothing.
use Rattle.std.proofs.Common.{rules}
use mathlib.Core.Path.{◌≡◌, sym, ◌∙◌}
use Prim.Native.Nat.{◌/◌, ◌%◌, ◌^◌}
use lib.ListN.{get_or}
use Rattle.galois.specs.Element.{point}
use Rattle.galois.proofs.Bits.{point_at}
use Rattle.galois.proofs.Points.{length-point}
use Rattle.galois.proofs.Zip.{six-words}
use Rattle.ring.proofs.Words.{six-by}
use Rattle.sliced.proofs.point.Goals as goal

pub returns : goal.returns
returns c =
    let i = c.args.i in
    six-by (λ j. get_or (point 6 i) j 0) c.each_word.result c.each_word.ensures.six
    (λ j h. let p = c.each_word.ensures.each j h in
    let e : get_or c.each_word.result j 0 ≡ i / 2 ^ j % 2 = search rules in
    e ∙ sym (point_at 6 i j h))
    ∙ sym (six-words (point 6 i) (length-point 6 i))
