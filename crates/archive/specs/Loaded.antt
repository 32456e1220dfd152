-- Internal: the shares of all files as the code holds them, the words in rows, and what they open to. Assumes nothing.
use Rattle.std.specs.Prelude.{Bool, List, [], ◌++◌, ℕ, take, drop, get_or, replicate}
use Rattle.words.specs.Word.{all_in_width}
use Rattle.polynomial.specs.Rows.{Rows}
use Rattle.codewords.specs.Codeword.{Share}
use Rattle.codewords.specs.Opening.{Opening, answer_to}
use Rattle.bundle.specs.Bundle.{params_of, allowance_of, files_of, holder_of}
use Rattle.bundle.specs.Contents.{words_of}
use Rattle.totals.specs.Values.{values_from, every}
use Rattle.archive.specs.Archive.{shares_by}

abbrev pub holders_in : List ℕ → List ℕ
holders_in bs = values_from (holder_of bs) 0 (files_of bs) ++ drop (files_of bs) (replicate 63 0)

abbrev pub shares_in : List ℕ → Rows → List Share
shares_in bs rows = shares_by bs (λ f. take (params_of bs).d (get_or rows f []))

abbrev pub opening_of : List ℕ → Rows → Opening
opening_of bs rows = answer_to (params_of bs) (allowance_of bs) (shares_in bs rows)

-- no word of the job at a place is wide, in any file
abbrev pub place_in_width : List ℕ → ℕ → Bool
place_in_width bs p = every (λ f. all_in_width (params_of bs).k (words_of bs f p)) (files_of bs)
