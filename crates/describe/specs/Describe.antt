-- What a caller must know of a bundle, in words: the bundle at large, a job's number, a file's part of the bytes, and a read by a cursor. The
-- refusals come in paper 01's order, "A call on a file or bundle first reads it all [..] Then come [..] 2, 9". Assumes nothing.
use Rattle.std.specs.Prelude.{ℕ, List, [], ◌∷◌, ltb, Result}
use Rattle.std.specs.declared.option.Option.{Option}
use Rattle.std.specs.declared.option.Option.TheVariants.{None, Some}
use Rattle.std.specs.declared.result.Result.TheVariants.{Ok, Err}
use Rattle.words.specs.Refusal.{first, unless, OUT_OF_RANGE}
use Rattle.words.specs.declared.Refusal.{Refusal}
use Rattle.words.specs.Faults.{length_fault}
use Rattle.records.specs.Layout.{file_size}
use Rattle.records.specs.Record.{read_at, cursor_fault}
use Rattle.records.specs.declared.Heading.{Heading}
use Rattle.records.specs.declared.RawRecord.{RawRecord}
use Rattle.bundle.specs.Bundle.{num_of, job_at, bundle_heading, bundle_fault, files_of, file_at, holder_of, allowance_of}
use Rattle.fetch.specs.Fetch.{place_fault}

-- ---- the bundle at large

-- "exactly nine words: e, k, d, n, t, archive, jobs, files, bytes a file", by the allowance, the first heading and the number of files
abbrev pub about_by : ℕ → Heading → ℕ → List ℕ
about_by e h files =
    e ∷ h.params.k ∷ h.params.d ∷ h.params.n ∷ h.params.t ∷ h.archive ∷ h.jobs ∷ files ∷ file_size h ∷ []

unfoldable pub about_of : List ℕ → List ℕ
about_of bs = about_by (allowance_of bs) (bundle_heading bs) (files_of bs)

-- "the bundle's numbers, then 2", with an output of n words
unfoldable pub describe_fault : List ℕ → ℕ → ℕ
describe_fault bs n = first (bundle_fault bs) (length_fault 9 n)

-- ---- a job's number

-- "exactly one word": the number that the job at a place has in every file
unfoldable pub number_of : List ℕ → ℕ → List ℕ
number_of bs p = num_of bs (job_at bs 0 p) ∷ []

-- "the bundle's, 2, 9"
unfoldable pub number_fault : List ℕ → ℕ → ℕ → ℕ
number_fault bs p n = first (bundle_fault bs) (first (length_fault 1 n) (place_fault (bundle_heading bs) p))

-- ---- a file

-- "exactly three words: holder, offset, length of file `index` (0-based)"
unfoldable pub file_part_of : List ℕ → ℕ → List ℕ
file_part_of bs f = holder_of bs f ∷ file_at bs f ∷ file_size (bundle_heading bs) ∷ []

-- "9 for an index that is not there", of so many files
unfoldable pub index_fault : ℕ → ℕ → ℕ
index_fault files f = unless (ltb f files) OUT_OF_RANGE

-- "the bundle's, 2, then 9 for an index that is not there"
unfoldable pub file_part_fault : List ℕ → ℕ → ℕ → ℕ
file_part_fault bs f n = first (bundle_fault bs) (first (length_fault 3 n) (index_fault (files_of bs) f))

-- ---- a read

-- "exactly four words: what it is, 0 a record or 1 the end; kind; where the body starts; its length", and "at the end the words are 1, 0, the
-- cursor, 0": of each answer of a read at a cursor. A refusal is told by its number, and by no words.
abbrev pub step_by : ℕ → Result (Option RawRecord) Refusal → List ℕ
step_by at (Ok (Some r)) = 0 ∷ r.kind ∷ r.start ∷ r.len ∷ []
step_by at (Ok None) = 1 ∷ 0 ∷ at ∷ 0 ∷ []
step_by at (Err e) = []

unfoldable pub step_of : List ℕ → ℕ → List ℕ
step_of bs at = step_by at (read_at bs at)

-- "2, then 7", with an output of n words
unfoldable pub step_fault : List ℕ → ℕ → ℕ → ℕ
step_fault bs at n = first (length_fault 4 n) (cursor_fault bs at)
