-- The bytes of records, files and bundles, paper 01, "Bytes of a file". Assumes nothing.
use Rattle.std.specs.Prelude.{ℕ, ◌+◌, List, [], ◌∷◌, ◌++◌, length}
use Rattle.records.specs.Num.{le_bytes}
use Rattle.records.specs.Layout.{head_kind, word_size, job_kind, order_kind}
use Rattle.bundle.specs.Contents.{Job, File, Bundle}
use Rattle.records.specs.declared.Heading.{Heading}

-- "a 4-byte length, then a 2-byte kind, then a body, all little-endian. The length counts kind and body."
unfoldable pub record_bytes : ℕ → List ℕ → List ℕ
record_bytes kind body = le_bytes 4 (2 + length body) ++ (le_bytes 2 kind ++ body)

-- "k, d, n, t, holder (a byte each), archive number (8 bytes), job count J (4 bytes)"
unfoldable pub heading_body : Heading → List ℕ
heading_body h =
    h.params.k ∷ h.params.d ∷ h.params.n ∷ h.params.t ∷ h.holder ∷ (le_bytes 8 h.archive ++ le_bytes 4 h.jobs)

unfoldable pub heading_bytes : Heading → List ℕ
heading_bytes h = record_bytes (head_kind h) (heading_body h)

-- "job number (8 bytes), then d words", of w bytes each
unfoldable pub words_bytes : ℕ → List ℕ → List ℕ
words_bytes w [] = []
words_bytes w (x ∷ xs) = le_bytes w x ++ words_bytes w xs

unfoldable pub job_body : Heading → Job → List ℕ
job_body h j = le_bytes 8 j.num ++ words_bytes (word_size h) j.words

unfoldable pub job_bytes : Heading → Job → List ℕ
job_bytes h j = record_bytes job_kind (job_body h j)

unfoldable pub jobs_bytes : Heading → List Job → List ℕ
jobs_bytes h [] = []
jobs_bytes h (j ∷ js) = job_bytes h j ++ jobs_bytes h js

-- "A file is a heading and its J jobs"
unfoldable pub file_bytes : File → List ℕ
file_bytes f = heading_bytes f.heading ++ jobs_bytes f.heading f.jobs

unfoldable pub files_bytes : List File → List ℕ
files_bytes [] = []
files_bytes (f ∷ fs) = file_bytes f ++ files_bytes fs

-- "order [..]: the allowance e, one byte"
unfoldable pub order_bytes : ℕ → List ℕ
order_bytes e = record_bytes order_kind (e ∷ [])

-- "A bundle is one order and then one file or more"
unfoldable pub bundle_bytes : Bundle → List ℕ
bundle_bytes b = order_bytes b.allowance ++ files_bytes b.files
