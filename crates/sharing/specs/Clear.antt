-- What the theorem on opening lent shares speaks of: that none of the refusals ahead of 5 applies, and demand 3 of the call by what it returned.
-- Assumes nothing.
use Rattle.std.specs.Prelude.{ℕ, ◌*◌, ◌≡◌, true, List, length}
use Rattle.words.specs.Params.{params_ok}
use Rattle.words.specs.declared.Params.{Params}
use Rattle.codewords.specs.Demand.{Outputs, Returned, Tells, TellsWide, TellsLowest}
use Rattle.codewords.specs.Opening.{lowest_room}
use Rattle.sharing.specs.Opening.{lent, rising_to, opening}

-- none of 1, 2, 4 applies to the shares ws of the holders hs, lent with outputs of n and of w words and of l bytes
pub record LentClear (p : Params) (hs ws : List ℕ) (n w l : ℕ) : Type 0 where
  pub params : params_ok p ≡ true
  pub words_length : length ws ≡ length hs * p.d
  pub output : n ≡ p.d
  pub wrong_output : w ≡ 1
  pub lowest_output : l ≡ lowest_room
  pub rising : rising_to p.n 0 hs ≡ true

-- the contract of `open_shares`: lent these shares, the error bound e and the outputs old, it returned the number r and left the outputs new
abbrev pub SharesReturned : Params → List ℕ → List ℕ → ℕ → Outputs → ℕ → Outputs → Type 0
SharesReturned p hs ws e old = Returned p (lent p.d hs ws) (opening p hs ws e (length old.job) (length old.wrong) (length old.lowest)) old

-- what that tells: "Where shares are lent, m counts the lent ones and e is lent with them."
abbrev pub SharesTell : Params → List ℕ → List ℕ → ℕ → Outputs → ℕ → Outputs → Type 0
SharesTell p hs ws e old = Tells p e (lent p.d hs ws) (LentClear p hs ws (length old.job) (length old.wrong) (length old.lowest)) old

-- and of lent shares with a wide word
abbrev pub SharesTellWide : Params → List ℕ → List ℕ → ℕ → Outputs → ℕ → Outputs → Type 0
SharesTellWide p hs ws e old = TellsWide p e (lent p.d hs ws) (LentClear p hs ws (length old.job) (length old.wrong) (length old.lowest))

-- and of the lowest bits at which they differ (paper 02, K4)
abbrev pub SharesTellLowest : Params → List ℕ → List ℕ → ℕ → ℕ → Outputs → Type 0
SharesTellLowest p hs ws e = TellsLowest p e (lent p.d hs ws)
