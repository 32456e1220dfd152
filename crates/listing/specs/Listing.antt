-- The listing of a bundle, paper 01, "The opened bundle". Assumes nothing.
use Rattle.std.specs.Prelude.{ℕ, zero, suc, List, [], ◌++◌, map, leb, length, get_or}
use Rattle.words.specs.Faults.{length_fault}
use Rattle.words.specs.Refusal.{first, unless, LENGTH}
use Rattle.words.specs.Signed.{signed_of}
use Rattle.words.specs.declared.Params.{Params}
use Rattle.codewords.specs.Codeword.{Share, error_set, positions}
use Rattle.codewords.specs.Opening.{Opening, declines, opens}
use Rattle.bundle.specs.Bundle.{num_of, job_at, params_of, bundle_heading, bundle_fault}
use Rattle.fetch.specs.Fetch.{place_fault}
use Rattle.archive.specs.Archive.{shares_at, place_opening}
use Rattle.text.specs.Text.{line_room, head_line, refused_line, open_line, declined_line}

-- "Each job has a line: job number; `open` or the number 3, 5 or 6; wrong holders [..]; the signed words", and paper 02, K1: "Opening one job no longer
-- gives 3", and K4: "the listing prints the holder, a slash and the position". The line of a job by its shares and what they open to
abbrev pub line_by : Params → List Share → ℕ → Opening → List ℕ
line_by p ss number (declines c) = declined_line number c
line_by p ss number (opens q) =
    open_line number (error_set p.k p.d q ss) (positions p.k p.d q ss) (map (signed_of p.k) (get_or q 0 []))

-- the line of the job at a place of a bundle that has no fault
unfoldable pub line_of : List ℕ → ℕ → List ℕ
line_of bs p = line_by (params_of bs) (shares_at bs p) (num_of bs (job_at bs 0 p)) (place_opening bs p)

-- one line into a buffer of n bytes, and its length into an output of w words, which declines as the calls on a bundle do: 2 where there is not
-- one word or a line may not fit, and then 9
unfoldable pub line_fault : List ℕ → ℕ → ℕ → ℕ → ℕ
line_fault bs p n w =
    first (bundle_fault bs) (first (length_fault 1 w) (first (unless (leb line_room n) LENGTH) (place_fault (bundle_heading bs) p)))

-- the lines of the n places from p on
unfoldable pub lines_from : List ℕ → ℕ → ℕ → List ℕ
unfolding line_of
lines_from bs p zero = []
lines_from bs p (suc n) = line_of bs p ++ lines_from bs (suc p) n

-- "the program's input exceeds 65,536 bytes" (2); "Input that is too long gives 2 before any record is looked at."
abbrev pub most_input : ℕ
most_input = 65536

unfoldable pub input_fault : List ℕ → ℕ
input_fault bs = first (unless (leb (length bs) most_input) LENGTH) (bundle_fault bs)

-- "A declined bundle prints only `refused N`, N being the number."
abbrev pub unless_refused : ℕ → List ℕ → List ℕ
unless_refused zero text = text
unless_refused (suc c) text = refused_line (suc c)

-- "The first is `job state wrong words`. Each job has a line": all that is printed for an input
unfoldable pub listing_of : List ℕ → List ℕ
unfolding lines_from input_fault
listing_of bs = unless_refused (input_fault bs) (head_line ++ lines_from bs 0 (bundle_heading bs).jobs)
