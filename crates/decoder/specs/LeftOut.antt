-- Internal: shares that are known to be wrong and are left out of the search, paper 01: "Shares found wrong at one level are dropped at the
-- next". Assumes nothing.
use Rattle.std.specs.Prelude.{◌≡◌, List, ℕ, suc, ◌+◌, ◌*◌, ◌-◌, ◌≤◌, length}
use Rattle.std.proofs.Math.Option.{some}
use Rattle.std.specs.Int.Count.{ones}
use Rattle.codewords.specs.Codeword.{Share, Polynomial, error_set, codeword}
use Rattle.codewords.specs.Residue.{without}
use Rattle.codewords.specs.WellFormed.{InWidth}

-- The search among ss with the error bound e may leave out the shares of the holders in u, if it lowers the bound by as many: the bound allows
-- that; the others are in width and enough; they have the codeword that ss have; and its error set among ss is u with that among the others.
pub record LeftOut (k d t e : ℕ) (ss : List Share) (u : ℕ) : Type 0 where
  pub few : ones u ≤ e
  pub width : InWidth k d (without u ss)
  pub enough : suc t + 2 * (e - ones u) ≤ length (without u ss)
  pub same : codeword k d t e ss ≡ codeword k d t (e - ones u) (without u ss)
  pub both : (p : Polynomial) → codeword k d t e ss ≡ some p → error_set k d p ss ≡ u + error_set k d p (without u ss)
