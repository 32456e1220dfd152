-- What the program `mend` prints, paper 02, K2, and the pieces in which it is written. Assumes nothing.
use Rattle.std.specs.Prelude.{ℕ, zero, suc, List, [], ◌++◌}
use Rattle.words.specs.Refusal.{kept}
use Rattle.words.specs.declared.Params.{Params}
use Rattle.codewords.specs.Codeword.{Share, error_set}
use Rattle.codewords.specs.Opening.{Opening, declines, opens}
use Rattle.bundle.specs.Bundle.{num_of, job_at, params_of, bundle_heading}
use Rattle.archive.specs.Archive.{shares_at, place_opening}
use Rattle.text.specs.Text.{holders, refused_line, changed_lines, kept_line}
use Rattle.listing.specs.Listing.{input_fault, unless_refused}

-- "prints each changed place as `10 holder 3`, by job and then by holder. A job that answers 5 or 6 keeps its bytes and is printed as `11 refused 6`":
-- the lines of a job by its shares and what they open to
abbrev pub changes_by : Params → List Share → ℕ → Opening → List ℕ
changes_by p ss number (declines c) = kept_line number c
changes_by p ss number (opens q) = changed_lines number (holders (error_set p.k p.d q ss))

-- those of the job at a place of a bundle that has no fault
unfoldable pub changes_at : List ℕ → ℕ → List ℕ
changes_at bs p = changes_by (params_of bs) (shares_at bs p) (num_of bs (job_at bs 0 p)) (place_opening bs p)

-- of the n places from p on
unfoldable pub changes_from : List ℕ → ℕ → ℕ → List ℕ
unfolding changes_at
changes_from bs p zero = []
changes_from bs p (suc n) = changes_at bs p ++ changes_from bs (suc p) n

-- "A declined bundle prints as in `open`": all that is printed for an input
unfoldable pub report_of : List ℕ → List ℕ
unfolding changes_from input_fault
report_of bs = unless_refused (input_fault bs) (changes_from bs 0 (bundle_heading bs).jobs)

-- ---- in pieces: `refused N`, or the lines of a place a piece, which may be none

abbrev pub piece_by : ℕ → List ℕ → ℕ → List ℕ
piece_by zero bs i = changes_at bs i
piece_by (suc c) bs i = refused_line (suc c)

unfoldable pub report_piece : List ℕ → ℕ → List ℕ
report_piece bs i = piece_by (input_fault bs) bs i

-- how many there are
unfoldable pub report_pieces : List ℕ → ℕ
report_pieces bs = kept (input_fault bs) 1 (bundle_heading bs).jobs

-- the n pieces from i on, one after another
unfoldable pub pieces_from : List ℕ → ℕ → ℕ → List ℕ
unfolding report_piece
pieces_from bs i zero = []
pieces_from bs i (suc n) = report_piece bs i ++ pieces_from bs (suc i) n
