-- Reading job text, paper 02, K6: "Text that export would not write is declined". So the numbers are looked for without any rule, and what they are
-- written as is compared with the text; that this accepts the texts of jobs, and no other, is proved in proofs/. Assumes nothing.
use Rattle.std.specs.Prelude.{ℕ, ◌+◌, ◌-◌, ◌*◌, ◌%◌, ◌^◌, Bool, true, false, cond, ◌&&◌, List, [], ◌∷◌, ◌==◌, nat_le, nat_lt}
use Rattle.words.specs.declared.Signed.{Signed}
use Rattle.labelled.specs.declared.LensJob.{LensJob}
use Rattle.labelled.specs.JobText.{lines_of}

-- a number goes on by a byte: a digit, a minus sign, or one that is passed over
unfoldable pub goes_on : Signed → ℕ → Signed
goes_on s c =
    cond (nat_le 48 c && nat_le c 57) (record { negative = s.negative; magnitude = (s.magnitude * 10 + (c - 48)) % 2 ^ 64 })
    (cond (c == 45) (record { negative = true; magnitude = s.magnitude }) s)

-- the number in the bytes up to a line feed, after what stood before them
unfoldable pub number_from : Signed → List ℕ → Signed
unfolding goes_on
number_from s [] = s
number_from s (c ∷ cs) = cond (c == 10) s (number_from (goes_on s c) cs)

abbrev pub nothing : Signed
nothing = record { negative = false; magnitude = 0 }

-- the bytes after the first line feed
unfoldable pub after_line : List ℕ → List ℕ
after_line [] = []
after_line (c ∷ cs) = cond (c == 10) cs (after_line cs)

abbrev pub scanned_by : List ℕ → List ℕ → List ℕ → List ℕ → List ℕ → LensJob
scanned_by a b c d e =
    record {
      number = (number_from nothing a).magnitude;
      sphere = number_from nothing b;
      cylinder = number_from nothing c;
      axis = number_from nothing d;
      thickness = number_from nothing e;
    }

-- the numbers in the first five lines
unfoldable pub scanned : List ℕ → LensJob
unfolding number_from after_line
scanned text =
    scanned_by text (after_line text) (after_line (after_line text)) (after_line (after_line (after_line text)))
    (after_line (after_line (after_line (after_line text))))

-- the book's signed range: from 0 to 2^(k - 1) - 1, or with a sign from 1 to 2^(k - 1)
unfoldable pub in_range : ℕ → Signed → Bool
in_range k s = cond s.negative (nat_le 1 s.magnitude && nat_le s.magnitude (2 ^ (k - 1))) (nat_lt s.magnitude (2 ^ (k - 1)))

unfoldable pub job_in_range : ℕ → LensJob → Bool
unfolding in_range
job_in_range k j = in_range k j.sphere && (in_range k j.cylinder && (in_range k j.axis && in_range k j.thickness))

-- whether two texts are the same, byte for byte
unfoldable pub same_text : List ℕ → List ℕ → Bool
same_text [] [] = true
same_text [] (d ∷ ds) = false
same_text (c ∷ cs) [] = false
same_text (c ∷ cs) (d ∷ ds) = c == d && same_text cs ds

-- whether a text is a job's: the text of numbers that are in their ranges
unfoldable pub is_text_of : ℕ → List ℕ → LensJob → Bool
unfolding job_in_range same_text lines_of
is_text_of k text j = job_in_range k j && same_text text (lines_of j)

abbrev pub is_text : ℕ → List ℕ → Bool
is_text k text = is_text_of k text (scanned text)

-- the word of a number in range: w means w, or w - 2^k
unfoldable pub word_of : ℕ → Signed → ℕ
word_of k s = cond s.negative (2 ^ k - s.magnitude) s.magnitude

unfoldable pub words_of : ℕ → LensJob → List ℕ
unfolding word_of
words_of k j = word_of k j.sphere ∷ word_of k j.cylinder ∷ word_of k j.axis ∷ word_of k j.thickness ∷ []
