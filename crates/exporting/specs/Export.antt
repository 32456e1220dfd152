-- What the program `jobtext` prints, the text of every job of a bundle that opens (paper 02, K6), and the pieces in which it is written. Assumes
-- nothing.
use Rattle.std.specs.Prelude.{ℕ, zero, suc, List, [], ◌++◌, eqb, get_or}
use Rattle.words.specs.Refusal.{first, unless, kept, PARAMETERS}
use Rattle.words.specs.declared.Params.{Params}
use Rattle.codewords.specs.Opening.{Opening, declines, opens}
use Rattle.bundle.specs.Bundle.{num_of, job_at, params_of, bundle_heading}
use Rattle.archive.specs.Archive.{place_opening}
use Rattle.text.specs.Text.{refused_line, kept_line}
use Rattle.labelled.specs.JobText.{text_of}
use Rattle.listing.specs.Listing.{input_fault, unless_refused}

-- the text of a job that opens, or a line with the number, `10 refused 6`
abbrev pub export_by : Params → ℕ → Opening → List ℕ
export_by p number (declines c) = kept_line number c
export_by p number (opens q) = text_of p.k number (get_or q 0 [])

-- that of the job at a place of a bundle that has no fault
unfoldable pub export_at : List ℕ → ℕ → List ℕ
export_at bs p = export_by (params_of bs) (num_of bs (job_at bs 0 p)) (place_opening bs p)

-- of the n places from p on
unfoldable pub exports_from : List ℕ → ℕ → ℕ → List ℕ
unfolding export_at
exports_from bs p zero = []
exports_from bs p (suc n) = export_at bs p ++ exports_from bs (suc p) n

-- "Only books with d 4 have this text, others give 1": after what `open` declines an input with
unfoldable pub export_fault : List ℕ → ℕ
export_fault bs = first (input_fault bs) (unless (eqb (params_of bs).d 4) PARAMETERS)

-- all that is printed for an input
unfoldable pub export_of : List ℕ → List ℕ
unfolding exports_from export_fault
export_of bs = unless_refused (export_fault bs) (exports_from bs 0 (bundle_heading bs).jobs)

-- ---- in pieces: `refused N`, or the text of a place a piece

abbrev pub piece_by : ℕ → List ℕ → ℕ → List ℕ
piece_by zero bs i = export_at bs i
piece_by (suc c) bs i = refused_line (suc c)

unfoldable pub export_piece : List ℕ → ℕ → List ℕ
export_piece bs i = piece_by (export_fault bs) bs i

-- how many there are
unfoldable pub export_pieces : List ℕ → ℕ
export_pieces bs = kept (export_fault bs) 1 (bundle_heading bs).jobs

-- the n pieces from i on, one after another
unfoldable pub pieces_from : List ℕ → ℕ → ℕ → List ℕ
unfolding export_piece
pieces_from bs i zero = []
pieces_from bs i (suc n) = export_piece bs i ++ pieces_from bs (suc i) n
