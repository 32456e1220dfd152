-- The calls of the writer: what each declines, and what it writes. Paper 01, "When a call declines". Assumes nothing.
use Rattle.std.specs.Prelude.{ℕ, ◌+◌, ◌*◌, List, [], ◌∷◌, ◌++◌, Bool, true, ◌&&◌, length, take, drop, ltb, eqb}
use Rattle.words.specs.Refusal.{first, unless, PARAMETERS, LENGTH, HOLDER, MALFORMED}
use Rattle.words.specs.Faults.{length_fault, width_fault}
use Rattle.words.specs.declared.Params.{Params}
use Rattle.records.specs.Layout.{file_size, order_size}
use Rattle.bundle.specs.Bundle.{ranges_ok, holder_ok, bundle_fault}
use Rattle.bundle.specs.Contents.{Job, File}
use Rattle.records.specs.declared.Heading.{Heading}
use Rattle.writer.specs.Bytes.{order_bytes}

-- a file's contents from lent lists: the heading, and the jobs with their numbers and d words each
unfoldable pub heading_for : Params → ℕ → ℕ → ℕ → Heading
heading_for p holder archive jobs = record { params = p; holder = holder; archive = archive; jobs = jobs }

abbrev pub job_of : ℕ → List ℕ → Job
job_of n ws = record { num = n; words = ws }

unfoldable pub jobs_of : ℕ → List ℕ → List ℕ → List Job
jobs_of d [] ws = []
jobs_of d (n ∷ ns) ws = job_of n (take d ws) ∷ jobs_of d ns (drop d ws)

unfoldable pub file_for : Params → ℕ → ℕ → List ℕ → List ℕ → File
file_for p holder archive ns ws = record { heading = heading_for p holder archive (length ns); jobs = jobs_of p.d ns ws }

-- the lent lists that a file's jobs come from: their numbers, and all their words
abbrev pub numbers_in : List Job → List ℕ
numbers_in [] = []
numbers_in (j ∷ js) = j.num ∷ numbers_in js

unfoldable pub words_in : List Job → List ℕ
words_in [] = []
words_in (j ∷ js) = j.words ++ words_in js

-- "job numbers strictly rising"
unfoldable pub rising : List ℕ → Bool
rising [] = true
rising (x ∷ []) = true
rising (x ∷ y ∷ ns) = ltb x y && rising (y ∷ ns)

-- "Order outside files: 1, 2, 4, 7, 3": the lengths of the lent words and output, the holder "outside 1 to n", the numbers, the words
unfoldable pub sizes_ok : Heading → ℕ → ℕ → Bool
sizes_ok h count size = eqb count (h.jobs * h.params.d) && eqb size (file_size h)

unfoldable pub write_fault : Heading → List ℕ → List ℕ → ℕ → ℕ
write_fault h ns ws size =
    first (unless (ranges_ok h) PARAMETERS)
    (first (unless (sizes_ok h (length ws) size) LENGTH)
    (first (unless (holder_ok 0 h) HOLDER) (first (unless (rising ns) MALFORMED) (width_fault h.params.k ws))))

-- a call with lent numbers and words, J being how many numbers are lent
abbrev pub file_write_fault : Params → ℕ → ℕ → List ℕ → List ℕ → List ℕ → ℕ
file_write_fault p holder archive ns ws out = write_fault (heading_for p holder archive (length ns)) ns ws (length out)

-- an order has its one length
unfoldable pub order_fault : ℕ → ℕ
order_fault size = length_fault order_size size

-- a bundle is made of an order and files that stand one after another; first come the faults of the bundle that would be written
unfoldable pub bundle_write_fault : ℕ → List ℕ → ℕ → ℕ
bundle_write_fault e files size =
    first (bundle_fault (order_bytes e ++ files)) (length_fault (order_size + length files) size)
