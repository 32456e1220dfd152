-- `sliced::shift` meets its contract: six words one place up. Assumes nothing.
use Rattle.std.proofs.Common.{rules}
use native.Mathlib.Omega.{arith}
use mathlib.Core.Path.{◌≡◌, sym, ◌∙◌}
use mathlib.Core.List.{[], ◌∷◌}
use Prim.Native.Nat.{◌-◌, ◌≤◌}
use lib.ListN.{length, get_or}
use Rattle.galois.proofs.Zip.{zip-shifted}
use Rattle.ring.proofs.Words.{six-by}
use Rattle.sliced.specs.Lane.{down_lane}
use Rattle.sliced.proofs.Lanes.{low_bit}
use Rattle.sliced.proofs.shift.Goals as goal

-- the modulus's coefficients are 0 and 1
pub each_word-requires : goal.each_word-requires
each_word-requires c =
    let hl : length c.args.low ≡ 6 = omega (arith, c.well_formed) in
    λ j h. let p : get_or c.args.low j 0 ≤ 1 = low_bit c.args.d c.args.low c.requires.1 c.requires.0.1 j (omega arith) in search rules

pub returns : goal.returns
returns c =
    let r = c.args.r in
    let low = c.args.low in
    let top = get_or r (c.args.d - 1) 0 in
    let up = 0 ∷ get_or r 0 0 ∷ get_or r 1 0 ∷ get_or r 2 0 ∷ get_or r 3 0 ∷ get_or r 4 0 ∷ [] in
    let hl : length low ≡ 6 = omega (arith, c.well_formed) in
    let hr : length r ≡ 6 = omega (arith, c.well_formed) in
    six-by (λ j. down_lane top (get_or up j 0) (get_or low j 0)) c.each_word.result c.each_word.ensures.six
    (λ j h. let p = c.each_word.ensures.each j h in search rules)
    ∙ sym (zip-shifted (down_lane top) r low hr hl)
