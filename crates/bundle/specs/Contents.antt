-- What stands in the bytes of a file or a bundle that has no fault. Assumes nothing.
use Rattle.std.specs.Prelude.{ℕ, zero, suc, ◌+◌, List, [], ◌∷◌}
use Rattle.records.specs.Num.{le_at}
use Rattle.records.specs.Layout.{words_at, word_size, head_size, job_size, order_size, file_size}
use Rattle.records.specs.Record.{heading_of}
use Rattle.bundle.specs.Bundle.{num_of, job_at, bundle_heading, params_of, files_of, allowance_of}
use Rattle.records.specs.declared.Heading.{Heading}

-- "job number (8 bytes), then d words"
pub record Job : Type 0 where
  pub num : ℕ
  pub words : List ℕ

-- "A file is a heading and its J jobs"
pub record File : Type 0 where
  pub heading : Heading
  pub jobs : List Job

-- "A bundle is one order and then one file or more"; "order [..]: the allowance e, one byte"
pub record Bundle : Type 0 where
  pub allowance : ℕ
  pub files : List File

-- n words of w bytes from a position
unfoldable pub words_from : ℕ → List ℕ → ℕ → ℕ → List ℕ
words_from w bs zero at = []
words_from w bs (suc n) at = le_at w bs at ∷ words_from w bs n (at + w)

-- the job at a position, n jobs from a position, and the file at a position
unfoldable pub job_from : Heading → List ℕ → ℕ → Job
job_from h bs at = record { num = num_of bs at; words = words_from (word_size h) bs h.params.d (words_at at) }

unfoldable pub jobs_from : Heading → List ℕ → ℕ → ℕ → List Job
jobs_from h bs zero at = []
jobs_from h bs (suc n) at = job_from h bs at ∷ jobs_from h bs n (at + job_size h)

unfoldable pub file_from : List ℕ → ℕ → File
file_from bs at = let h = heading_of bs at in record { heading = h; jobs = jobs_from h bs h.jobs (at + head_size h) }

-- n files of some bytes each, from a position
unfoldable pub files_from : List ℕ → ℕ → ℕ → ℕ → List File
files_from bs size zero at = []
files_from bs size (suc n) at = file_from bs at ∷ files_from bs size n (at + size)

unfoldable pub bundle_from : List ℕ → Bundle
bundle_from bs =
    record {
      allowance = allowance_of bs;
      files = files_from bs (file_size (bundle_heading bs)) (files_of bs) order_size;
    }

-- the words of job p of file f of a bundle that has no fault
unfoldable pub words_of : List ℕ → ℕ → ℕ → List ℕ
words_of bs f p = words_from (word_size (bundle_heading bs)) bs (params_of bs).d (words_at (job_at bs f p))
