-- The shares that have a wide word: more of them than the bound leave no codeword (`too_many`); if not, the search can leave them out
-- (`wide-left-out`). Assumes nothing.
use mathlib.Core.Path.{◌≡◌}
use mathlib.Core.List.{List}
use mathlib.Core.Option.{none}
use Prim.Native.Nat.{ℕ, suc, ◌+◌, ◌*◌, ◌≤◌, ◌<◌}
use lib.Count.{ones}
use lib.ListN.{length}
use Rattle.codewords.specs.Codeword.{Share, wide_set, codeword}
use Rattle.codewords.specs.WellFormed.{Holders}
use Rattle.codewords.proofs.Unique.{none-codeword}
use Rattle.codewords.proofs.Wide.{wide-few, wide-none, wide_enough, others-in-width, wide-codeword, wide-error-set}
use Rattle.level.specs.Shares.{Sized}
use Rattle.decoder.specs.LeftOut.{LeftOut}

module _ (d : ℕ) (dl : 2 ≤ d) (dh : d ≤ 6) (k t e : ℕ) (ss : List Share) (a : Holders d ss) (m : suc t + 2 * e ≤ length ss)
    (u : ℕ) (v : u ≡ wide_set k ss) where
  pub few_ones : ones u ≤ length ss
  few_ones = rw v (wide-few d dl dh k t ss a)

  pub too_many : e < ones u → codeword k d t e ss ≡ none
  too_many h = none-codeword k d t e ss (wide-none d dl dh k t ss a e (rw (← v) h))

  pub wide-left-out : Sized d ss → ones u ≤ e → LeftOut k d t e ss u
  wide-left-out s n =
      let few : ones (wide_set k ss) ≤ e = rw (← v) n in
      record {
        few = n;
        width = rw v (others-in-width d dl dh k t ss a s);
        enough = rw v (wide_enough d dl dh k t ss a e m few);
        same = rw v (wide-codeword d dl dh k t ss a e m few);
        both = rw v (wide-error-set d dl dh k t ss a e m few);
      }
