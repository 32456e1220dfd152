-- A file and a bundle: where each record stands, and the first fault. Paper 01, "Bytes of a file" and "When a call declines".
--
-- Every record before the first fault has the length that the first heading fixes, so each stands at a position that is computed. A fault of a
-- record is a test of the bytes at that position, and the fault of a file or a bundle is the first of its records' faults: "the first fault in
-- byte order counts". Assumes nothing.
use Rattle.std.specs.Prelude.{ℕ, zero, suc, ◌+◌, ◌-◌, ◌*◌, ◌/◌, List, Bool, cond, ◌&&◌, ◌||◌, length, get_or, leb, ltb, eqb}
use Rattle.words.specs.Refusal.{first, unless, first_of, PARAMETERS, HOLDER, MALFORMED, MISMATCHED}
use Rattle.words.specs.Params.{params_ok}
use Rattle.words.specs.declared.Params.{Params}
use Rattle.records.specs.Num.{le_at}
use Rattle.records.specs.Layout.{body_at, record_size, head_kind, head_len, head_size, job_kind, job_len, job_size, order_kind, order_len, order_size, file_size}
use Rattle.records.specs.Record.{framed, heading_of}
use Rattle.records.specs.declared.Heading.{Heading}

-- "1 | k, d, n, t or J is outside its range", J being "0 to 1,000"
abbrev pub most_jobs : ℕ
most_jobs = 1000

unfoldable pub ranges_ok : Heading → Bool
ranges_ok h = params_ok h.params && leb h.jobs most_jobs

-- "a holder is outside 1 to n, holders do not strictly rise": after a file of the holder prev, or 0 for none
unfoldable pub holder_ok : ℕ → Heading → Bool
holder_ok prev h = ltb prev h.holder && leb h.holder h.params.n

-- "Files belong together if their books, archive numbers, job counts [..] are equal"
unfoldable pub same_params : Params → Params → Bool
same_params a b = eqb a.k b.k && (eqb a.d b.d && (eqb a.n b.n && eqb a.t b.t))

unfoldable pub belongs : Heading → Heading → Bool
belongs a b = same_params a.params b.params && (eqb a.archive b.archive && eqb a.jobs b.jobs)

-- "job number (8 bytes)", of the job whose record is at a position
unfoldable pub num_of : List ℕ → ℕ → ℕ
num_of bs at = le_at 8 bs (body_at at)

-- "inside one heading the order is 7, 1, 4, 8": the heading at a position, where the first file's heading is at base
unfoldable pub heading_fault : List ℕ → ℕ → ℕ → ℕ → ℕ
heading_fault bs base prev at =
    let h = heading_of bs at in
    first (unless (framed bs (head_kind h) (head_len h) at) MALFORMED)
    (first (unless (ranges_ok h) PARAMETERS)
    (first (unless (holder_ok prev h) HOLDER) (unless (belongs (heading_of bs base) h) MISMATCHED)))

-- "inside one job 7, 8": the job record at a position, of length len and of place p, after a job of number prev; this place's record is at base in
-- the first file. Job numbers are "strictly rising" (7), and equal "place by place" (8).
unfoldable pub job_fault_at : List ℕ → ℕ → ℕ → ℕ → ℕ → ℕ → ℕ
job_fault_at bs len base prev p at =
    first (unless (framed bs job_kind len at && (eqb p 0 || ltb prev (num_of bs at))) MALFORMED)
    (unless (eqb (num_of bs base) (num_of bs at)) MISMATCHED)

-- the number of the job before place p, of the jobs whose records begin at a position
unfoldable pub prev_num : List ℕ → ℕ → ℕ → ℕ → ℕ
prev_num bs len at zero = 0
prev_num bs len at (suc p) = num_of bs (at + p * record_size len)

-- the fault of place p, where the job records begin at a position, and at base in the first file
unfoldable pub job_fault : List ℕ → ℕ → ℕ → ℕ → ℕ → ℕ
job_fault bs len base at p = job_fault_at bs len (base + p * record_size len) (prev_num bs len at p) p (at + p * record_size len)

-- "A file is a heading and its J jobs": the first fault of the file at a position
unfoldable pub file_fault_at : List ℕ → ℕ → ℕ → ℕ → ℕ
file_fault_at bs base prev at =
    let h = heading_of bs at in
    first (heading_fault bs base prev at) (first_of (job_fault bs (job_len h) (base + head_size h) (at + head_size h)) h.jobs)

-- the first fault of bytes that should be one file: "bytes follow where a file must end" is the last
unfoldable pub file_fault : List ℕ → ℕ
file_fault bs = first (file_fault_at bs 0 0 0) (unless (eqb (length bs) (file_size (heading_of bs 0))) MALFORMED)

-- files that stand one after another from a position: where file f stands, the holder of the file before it, and how many there are if there is no
-- fault
unfoldable pub place_at : List ℕ → ℕ → ℕ → ℕ
place_at bs start f = start + f * file_size (heading_of bs start)

unfoldable pub prev_holder : List ℕ → ℕ → ℕ → ℕ
prev_holder bs start zero = 0
prev_holder bs start (suc f) = (heading_of bs (place_at bs start f)).holder

unfoldable pub files_in : List ℕ → ℕ → ℕ
files_in bs start = (length bs - start) / file_size (heading_of bs start)

-- the first fault of file f, where the bytes have not ended before it
unfoldable pub fault_of_file : List ℕ → ℕ → ℕ → ℕ
fault_of_file bs start f = cond (ltb (place_at bs start f) (length bs)) (file_fault_at bs start (prev_holder bs start f) (place_at bs start f)) 0

-- "one file or more, holders strictly rising"
unfoldable pub files_fault : List ℕ → ℕ → ℕ
files_fault bs start = first (unless (ltb start (length bs)) MALFORMED) (first_of (fault_of_file bs start) (length bs))

-- "A bundle is one order and then one file or more": the first fault of bytes that should be a bundle
unfoldable pub bundle_fault : List ℕ → ℕ
bundle_fault bs = first (unless (framed bs order_kind order_len 0) MALFORMED) (files_fault bs order_size)

-- of a bundle that has no fault: its first heading, its number of files, where file f and its job p stand, the holder of file f
abbrev pub bundle_heading : List ℕ → Heading
bundle_heading bs = heading_of bs order_size

abbrev pub params_of : List ℕ → Params
params_of bs = (bundle_heading bs).params

abbrev pub files_of : List ℕ → ℕ
files_of bs = files_in bs order_size

abbrev pub file_at : List ℕ → ℕ → ℕ
file_at bs f = place_at bs order_size f

unfoldable pub job_at : List ℕ → ℕ → ℕ → ℕ
job_at bs f p = file_at bs f + head_size (bundle_heading bs) + p * job_size (bundle_heading bs)

abbrev pub holder_of : List ℕ → ℕ → ℕ
holder_of bs f = (heading_of bs (file_at bs f)).holder

-- "e is the order's allowance", "one byte"
abbrev pub allowance_of : List ℕ → ℕ
allowance_of bs = get_or bs (body_at 0) 0
