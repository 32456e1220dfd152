-- Openings from a bundle, by place and by run, paper 01, "When a call declines": each call first reads it all; "Then come [..] 2, 9, 3, 5, 6.", of which
-- 3 is left to runs by paper 02, K1.
-- What is said of a place, a run and their shares is of a bundle that has no fault. Assumes nothing.
use Rattle.std.specs.Prelude.{ℕ, ◌-◌, Bool, List}
use Rattle.words.specs.Faults.{length_fault}
use Rattle.words.specs.Refusal.{first, unless, WIDE_WORD}
use Rattle.galois.specs.Element.{Element}
use Rattle.codewords.specs.Codeword.{Share}
use Rattle.codewords.specs.Opening.{Opening, lowest_room, answer_to, unless_fault}
use Rattle.bundle.specs.Bundle.{bundle_heading, bundle_fault, params_of, allowance_of, files_of, holder_of}
use Rattle.bundle.specs.Contents.{words_of}
use Rattle.fetch.specs.Fetch.{place_fault, run_fault}
use Rattle.totals.specs.Total.{run_total, run_in_width}
use Rattle.totals.specs.Values.{values_from, every}

-- ---- shares

-- one share for each file, under the file's holder, with words that are given by file
abbrev pub share_by : List ℕ → (ℕ → Element) → ℕ → Share
share_by bs w f = record { holder = holder_of bs f; words = w f }

abbrev pub shares_by : List ℕ → (ℕ → Element) → List Share
shares_by bs w = values_from (share_by bs w) 0 (files_of bs)

-- "The shares present for a job of a bundle are the d words of that job in each of its files, under the file's holder"
abbrev pub shares_at : List ℕ → ℕ → List Share
shares_at bs p = shares_by bs (λ f. words_of bs f p)

-- "To open a run, each file's shares over it are added and the sums opened as one job's shares"
abbrev pub shares_over : List ℕ → ℕ → ℕ → List Share
shares_over bs a n = shares_by bs (λ f. run_total bs f a n)

-- ---- opening shares of a bundle, with its e

-- the job at a place: "Opening one job no longer gives 3" (paper 02, K1)
unfoldable pub place_opening : List ℕ → ℕ → Opening
place_opening bs p = answer_to (params_of bs) (allowance_of bs) (shares_at bs p)

-- the words of the n places from a on, of all files: "A wide word counts only in the [..] run opened or added."
abbrev pub files_in_width : List ℕ → ℕ → ℕ → Bool
files_in_width bs a n = every (λ f. run_in_width bs f a n) (files_of bs)

-- the run of n places from a on: "the sums opened as one job's shares, with the bundle's e", after 3
unfoldable pub run_opening : List ℕ → ℕ → ℕ → Opening
run_opening bs a n = unless_fault (unless (files_in_width bs a n) WIDE_WORD) (answer_to (params_of bs) (allowance_of bs) (shares_over bs a n))

-- ---- the calls, with an output of n words for the job, one of w for the wrong holders, and one of l bytes for their positions

-- an output of any other length is 2
unfoldable pub outputs_fault : ℕ → ℕ → ℕ → ℕ → ℕ
outputs_fault d n w l = first (length_fault d n) (first (length_fault 1 w) (length_fault lowest_room l))

-- the refusals ahead of an opening: the bundle's, 2, and c, that of the place or the run
unfoldable pub opening_fault : List ℕ → ℕ → ℕ → ℕ → ℕ → ℕ
unfolding outputs_fault
opening_fault bs n w l c = first (bundle_fault bs) (first (outputs_fault (params_of bs).d n w l) c)

-- opening the job at a place
unfoldable pub open_place : List ℕ → ℕ → ℕ → ℕ → ℕ → Opening
unfolding place_opening opening_fault
open_place bs p n w l = unless_fault (opening_fault bs n w l (place_fault (bundle_heading bs) p)) (place_opening bs p)

-- opening a run
unfoldable pub open_run : List ℕ → ℕ → ℕ → ℕ → ℕ → ℕ → Opening
unfolding run_opening opening_fault
open_run bs a b n w l = unless_fault (opening_fault bs n w l (run_fault (bundle_heading bs) a b)) (run_opening bs a (b - a))
