-- Internal: what decoding asks of shares, paper 01, "When a call declines". Assumes nothing.
use Rattle.std.specs.Prelude.{List, ℕ, ◌≤◌, Result}
use Rattle.std.specs.declared.result.Result.TheVariants.{Ok, Err}
use Rattle.algebra.specs.Shares.{All}
use Rattle.codewords.specs.Codeword.{Share}
use Rattle.codewords.specs.WellFormed.{Rising}
use Rattle.words.specs.declared.Refusal.{Refusal}

-- the refusal "a holder is outside 1 to n, holders do not strictly rise" does not apply
abbrev pub Ordered : ℕ → List Share → Type 0
Ordered n ss = All (λ (s : Share). (1 ≤ s.holder) × (s.holder ≤ n)) ss × Rising ss

-- the wrong holders that an outcome gives: none where it is a refusal
abbrev pub wrong_in : Result ℕ Refusal → ℕ
wrong_in (Ok w) = w
wrong_in (Err r) = 0
