-- The text of the listing as bytes, paper 01, "The opened bundle", and paper 02, K4; and of the report of `mend`, paper 02, K2. Assumes nothing.
use Rattle.std.specs.Prelude.{ℕ, zero, suc, ◌-◌, ◌/◌, ◌%◌, cond, List, [], ◌∷◌, ◌++◌, map, eqb, take, get_or}
use Rattle.words.specs.declared.Signed.{Signed}
use Rattle.words.specs.Signed.{signed_of}
use Rattle.decimal.specs.Decimal.{ascii, decimal, signed_text}

-- "joined by commas, or `-`"
unfoldable pub after_commas : List (List ℕ) → List ℕ
after_commas [] = []
after_commas (text ∷ texts) = ascii "," ++ text ++ after_commas texts

unfoldable pub joined : List (List ℕ) → List ℕ
unfolding after_commas
joined [] = ascii "-"
joined (text ∷ texts) = text ++ after_commas texts

-- "a set held as a 64-bit number, bit i − 1 for holder i": the holders from i on, n of them, of a set whose lowest bit stands for i
unfoldable pub holders_from : ℕ → ℕ → ℕ → List ℕ
holders_from i zero set = []
holders_from i (suc n) set = cond (eqb (set % 2) 1) (i ∷ []) [] ++ holders_from (suc i) n (set / 2)

-- "wrong holders rising"
unfoldable pub holders : ℕ → List ℕ
unfolding holders_from
holders set = holders_from 1 64 set

-- "the listing prints the holder, a slash and the position" (paper 02, K4) of the lowest bit that differs, entry h - 1 for holder h
unfoldable pub holder_text : List ℕ → ℕ → List ℕ
unfolding decimal
holder_text lowest h = decimal h ++ ascii "/" ++ decimal (get_or lowest (h - 1) 0)

abbrev pub holders_text : List ℕ → ℕ → List ℕ
holders_text lowest set = joined (map (holder_text lowest) (holders set))

abbrev pub words_text : List Signed → List ℕ
words_text words = joined (map signed_text words)

-- the signed readings of the first d words
abbrev pub readings : ℕ → ℕ → List ℕ → List Signed
readings k d words = map (signed_of k) (take d words)

-- what every line fits into, of words of 128 bits (paper 02, K13) as well
abbrev pub line_room : ℕ
line_room = 1024

-- "The first is `job state wrong words`."
abbrev pub head_line : List ℕ
head_line = ascii "job state wrong words\n"

-- "A declined bundle prints only `refused N`, N being the number."
unfoldable pub refused_line : ℕ → List ℕ
unfolding decimal
refused_line n = ascii "refused " ++ decimal n ++ ascii "\n"

-- "job number; `open` or the number 3, 5 or 6; wrong holders rising, joined by commas, or `-`; the signed words, joined by commas, or `-`"; 3 no longer
-- occurs (paper 02, K1)
unfoldable pub job_line : ℕ → List ℕ → List ℕ → List ℕ → List ℕ
unfolding decimal
job_line number state wrong words = decimal number ++ ascii " " ++ state ++ ascii " " ++ wrong ++ ascii " " ++ words ++ ascii "\n"

-- a job that opened: "10 open 3/2 -3,2"
unfoldable pub open_line : ℕ → ℕ → List ℕ → List Signed → List ℕ
unfolding decimal signed_text joined holders holder_text job_line
open_line number wrong lowest words = job_line number (ascii "open") (holders_text lowest wrong) (words_text words)

-- and one that did not, with `-` twice: "11 6 - -"
unfoldable pub declined_line : ℕ → ℕ → List ℕ
unfolding decimal joined job_line
declined_line number state = job_line number (decimal state) (joined []) (joined [])

-- ---- the report of `mend`, paper 02, K2

-- what the lines of one job fit into: 64 at most, of 31 bytes at most
abbrev pub report_room : ℕ
report_room = 2048

-- "prints each changed place as `10 holder 3`"
unfoldable pub changed_line : ℕ → ℕ → List ℕ
unfolding decimal
changed_line number holder = decimal number ++ ascii " holder " ++ decimal holder ++ ascii "\n"

-- the changed places of a job, by its number and the holders
unfoldable pub changed_lines : ℕ → List ℕ → List ℕ
unfolding changed_line
changed_lines number [] = []
changed_lines number (h ∷ hs) = changed_line number h ++ changed_lines number hs

-- "A job that answers 5 or 6 keeps its bytes and is printed as `11 refused 6`."
unfoldable pub kept_line : ℕ → ℕ → List ℕ
unfolding decimal refused_line
kept_line number n = decimal number ++ ascii " " ++ refused_line n
