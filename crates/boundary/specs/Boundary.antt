-- What the exported calls add to the calls below them: parameters lent as four numbers. Assumes nothing.
use Rattle.std.specs.Prelude.{ℕ}
use Rattle.words.specs.declared.Params.{Params}

-- "A book is four numbers"
abbrev pub params : ℕ → ℕ → ℕ → ℕ → Params
params k d n t = record { k = k; d = d; n = n; t = t }
