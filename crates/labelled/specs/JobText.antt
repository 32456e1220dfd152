-- The text of a lens job, paper 02, K6. Assumes nothing.
use Rattle.std.specs.Prelude.{◌≡◌, ℕ, ◌^◌, ◌<◌, true, List, ◌++◌, length, slice_index}
use Rattle.words.specs.Signed.{signed_of}
use Rattle.words.specs.Word.{all_in_width}
use Rattle.decimal.specs.Decimal.{ascii, decimal, signed_text, hundredths_text}
use Rattle.labelled.specs.declared.LensJob.{LensJob}

-- "labelled lines [..] each ended by CR LF"
abbrev pub line_with : List ℕ → List ℕ → List ℕ
line_with label value = label ++ value ++ ascii "\r\n"

-- "Write and read one lens job as five lines, each ended by CR LF, in this order: `JOB=`, `SPH=`, `CYL=`, `AX=`, `CTHICK=`. Job and axis are whole
-- numbers; the other three have exactly two decimals."
unfoldable pub lines_of : LensJob → List ℕ
unfolding decimal signed_text hundredths_text
lines_of j =
    line_with (ascii "JOB=") (decimal j.number)
    ++ line_with (ascii "SPH=") (hundredths_text j.sphere)
    ++ line_with (ascii "CYL=") (hundredths_text j.cylinder)
    ++ line_with (ascii "AX=") (signed_text j.axis)
    ++ line_with (ascii "CTHICK=") (hundredths_text j.thickness)

-- "a job's words are sphere and cylinder in hundredths of a dioptre, axis in degrees and thickness in hundredths of a millimetre" (paper 01), each in
-- its signed reading
unfoldable pub lens_job : ℕ → ℕ → List ℕ → LensJob
lens_job k number words =
    record {
      number = number;
      sphere = signed_of k (slice_index words 0);
      cylinder = signed_of k (slice_index words 1);
      axis = signed_of k (slice_index words 2);
      thickness = signed_of k (slice_index words 3);
    }

-- the text of a job by its number and its four words
unfoldable pub text_of : ℕ → ℕ → List ℕ → List ℕ
unfolding lines_of lens_job
text_of k number words = lines_of (lens_job k number words)

-- a job that has a text in a book of k bits: "the job number's range being 0 to 2^64 − 1", and four words in width
pub record IsJob (k number : ℕ) (words : List ℕ) : Type 0 where
  pub number_fits : number < 2 ^ 64
  pub four : length words ≡ 4
  pub narrow : all_in_width k words ≡ true

-- a text that is written for some job
pub record SomeText (k : ℕ) (text : List ℕ) : Type 0 where
  pub number : ℕ
  pub words : List ℕ
  pub job : IsJob k number words
  pub text_is : text ≡ text_of k number words

-- what every text fits into
abbrev pub text_room : ℕ
text_room = 160
