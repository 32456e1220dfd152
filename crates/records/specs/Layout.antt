-- Kinds and sizes of records, paper 01, "Bytes of a file": the one place where they are numbers. Assumes nothing.
use Rattle.std.specs.Prelude.{ℕ, ◌+◌, ◌-◌, ◌*◌, Bool, ◌&&◌, ◌||◌, eqb}
use Rattle.records.specs.declared.Heading.{Heading}

-- "a 4-byte length, then a 2-byte kind, then a body": where the kind and the body of the record at a position stand
abbrev pub kind_place : ℕ → ℕ
kind_place at = at + 4

abbrev pub body_at : ℕ → ℕ
body_at at = at + 6

-- "The length counts kind and body": the bytes of a whole record, and of its body
unfoldable pub record_size : ℕ → ℕ
record_size len = 4 + len

unfoldable pub body_size : ℕ → ℕ
body_size len = len - 2

-- "Kind 1, heading, length 19"
abbrev pub plain_kind : ℕ
plain_kind = 1

abbrev pub plain_len : ℕ
plain_len = 19

unfoldable pub head_kind : Heading → ℕ
head_kind h = plain_kind

unfoldable pub head_len : Heading → ℕ
head_len h = plain_len

abbrev pub head_size : Heading → ℕ
head_size h = record_size (head_len h)

-- "job number (8 bytes), then d words of 8 bytes": where the words of the job record at a position stand, and the bytes of one
abbrev pub words_at : ℕ → ℕ
words_at at = body_at at + 8

unfoldable pub word_size : Heading → ℕ
word_size h = 8

-- "Kind 2, job, length 10 + 8d", by the bytes of a word
abbrev pub job_kind : ℕ
job_kind = 2

unfoldable pub job_len_of : ℕ → ℕ → ℕ
job_len_of w d = 10 + w * d

abbrev pub job_len : Heading → ℕ
job_len h = job_len_of (word_size h) h.params.d

abbrev pub job_size : Heading → ℕ
job_size h = record_size (job_len h)

-- "Kind 16, order, length 3"
abbrev pub order_kind : ℕ
order_kind = 16

abbrev pub order_len : ℕ
order_len = 3

abbrev pub order_size : ℕ
order_size = 7

-- "A file is a heading and its J jobs": its bytes
unfoldable pub file_size : Heading → ℕ
file_size h = head_size h + h.jobs * job_size h

-- a length that a job record has in some book
unfoldable pub job_len_known : ℕ → Bool
unfolding job_len_of
job_len_known len =
    eqb len (job_len_of 8 2) || (eqb len (job_len_of 8 3) || (eqb len (job_len_of 8 4) || (eqb len (job_len_of 8 5) || eqb len (job_len_of 8 6))))

-- a kind, and a length that it has in some book
unfoldable pub known : ℕ → ℕ → Bool
known kind len =
    eqb kind plain_kind && eqb len plain_len || (eqb kind job_kind && job_len_known len || eqb kind order_kind && eqb len order_len)
