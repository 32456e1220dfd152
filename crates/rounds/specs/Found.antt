-- Internal: what one level of the search gives, paper 01: "a decoder over the field treats the lowest bits of what remains". Assumes nothing.
use Rattle.std.specs.Prelude.{true, false, cond, List, map, ℕ, leb, Option}
use Rattle.std.specs.declared.option.Option.TheVariants.{Some, None}
use Rattle.std.specs.Int.Count.{count_trailing_zeros}
use Rattle.words.specs.Refusal.{NO_CODEWORD}
use Rattle.polynomial.specs.Polynomial.{Polynomial}
use Rattle.codewords.specs.Codeword.{Share, errors, error_set, codeword}
use Rattle.codewords.specs.Opening.{fault_of, from_codeword}
use Rattle.codewords.specs.Residue.{left, at_bit}
use Rattle.level.specs.Level.{level_of}
use Rattle.rounds.specs.Residues.{bits_of_all}
use Rattle.rounds.specs.declared.Found.{Found}

-- the lowest bit at which any share differs from p
abbrev pub lowest_bit : ℕ → ℕ → Polynomial → List Share → ℕ
lowest_bit k d p ss = count_trailing_zeros 64 (bits_of_all (map (left k d p) ss))

-- the holders that the field decoder names, which need not be all that differ from p; or "a level has no answer"
abbrev pub named : Option ℕ → Option Found
named (Some w) = Some (record { wrong = w; all = false })
named None = None

-- the field decoder's answer, of shares of one bit
abbrev pub field_found : ℕ → ℕ → ℕ → List Share → Option Found
field_found d t e bs = named (level_of d bs (codeword 1 d t e bs))

-- all that differ from p, if they are e or fewer: then p is the codeword; if not, the field decoder's answer at the lowest bit that differs
unfoldable pub level_found : ℕ → ℕ → ℕ → ℕ → Polynomial → List Share → Option Found
level_found k d t e p ss =
    cond (leb (errors k d p ss) e) (Some (record { wrong = error_set k d p ss; all = true })) (field_found d t e (map (at_bit k d p (lowest_bit k d p ss)) ss))

-- the paper's number of each answer, 0 for wrong holders: "no codeword" is 6
unfoldable pub found_fault : Option Found → ℕ
found_fault (Some f) = 0
found_fault None = NO_CODEWORD

-- the number of one level: that of the field decoder, if more than e differ from p
unfoldable pub round_fault : ℕ → ℕ → ℕ → ℕ → Polynomial → List Share → ℕ
round_fault k d t e p ss =
    cond (leb (errors k d p ss) e) 0 (fault_of (from_codeword (codeword 1 d t e (map (at_bit k d p (lowest_bit k d p ss)) ss))))
