-- Internal: what one level of decoding gives: the set of the wrong holders, if there is a codeword within the error bound. Assumes nothing.
use Rattle.std.specs.Prelude.{List, ℕ, Option}
use Rattle.std.specs.declared.option.Option.TheVariants.{Some, None}
use Rattle.std.proofs.Math.Option.{Option as Perhaps, none, some}
use Rattle.words.specs.Refusal.{NO_CODEWORD}
use Rattle.polynomial.specs.Polynomial.{Polynomial}
use Rattle.codewords.specs.Codeword.{Share, error_set}

-- "no codeword", or "the set of wrong holders", those whose shares differ from it
unfoldable pub level_of : ℕ → List Share → Perhaps Polynomial → Option ℕ
unfolding error_set
level_of d ss none = None
level_of d ss (some p) = Some (error_set 1 d p ss)

-- the paper's number of each answer, 0 for a codeword: "no codeword" is 6
unfoldable pub level_fault : Option ℕ → ℕ
level_fault (Some w) = 0
level_fault None = NO_CODEWORD
