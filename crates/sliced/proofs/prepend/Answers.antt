-- `sliced::prepend` meets its contract: a bit under each of six words. Assumes nothing.
use Rattle.std.proofs.Common.{rules}
use native.Mathlib.Omega.{arith}
use mathlib.Core.Path.{◌≡◌}
use Prim.Native.Nat.{ℕ, ◌^◌, ◌≤◌, ◌<◌}
use native.Mathlib.Nat.{le_of_suc-le-suc}
use lib.ListN.{length, get_or}
use Rattle.words.proofs.Width.{width-at}
use Rattle.ring.proofs.Words.{zip-by}
use Rattle.sliced.specs.Lane.{under}
use Rattle.sliced.proofs.prepend.Goals as goal
use Rattle.sliced.proofs.prepend.Goals.{Start}

-- bits, and words with room for one more
fit : (s : Start) (j : ℕ) → j < 6 → (get_or s.args.e j 0 ≤ 1) × (get_or s.args.r j 0 < 2 ^ 63)
fit s j h =
    let he : length s.args.e ≡ 6 = omega (arith, s.well_formed) in
    let hr : length s.args.r ≡ 6 = omega (arith, s.well_formed) in
    (le_of_suc-le-suc (width-at 1 s.args.e j s.requires.0 (omega arith)), width-at 63 s.args.r j s.requires.1 (omega arith))

pub each_word-requires : goal.each_word-requires
each_word-requires c =
    let s = (goal.at.each_word-requires c).Start in
    let he : length s.args.e ≡ 6 = omega (arith, s.well_formed) in
    let hr : length s.args.r ≡ 6 = omega (arith, s.well_formed) in
    λ j h. let p = fit s j h in search rules

pub returns : goal.returns
returns c =
    let s = (goal.at.returns c).Start in
    let he : length s.args.e ≡ 6 = omega (arith, s.well_formed) in
    let hr : length s.args.r ≡ 6 = omega (arith, s.well_formed) in (
      zip-by under s.args.e s.args.r c.each_word.result he hr c.each_word.ensures.six
          (λ j h. let p = c.each_word.ensures.each j h in search rules),
      c.each_word.ensures.six,
    )
