-- The calls for job text, paper 02, K6: what each declines with, and what its contract says. Assumes nothing.
use Rattle.std.specs.Prelude.{◌≡◌, ℕ, List, [], ◌∷◌, length, ◌==◌}
use Rattle.words.specs.declared.Params.{Params}
use Rattle.words.specs.Faults.{params_fault, length_fault, width_fault}
use Rattle.words.specs.Refusal.{first, unless, kept, PARAMETERS, TEXT}
use Rattle.labelled.specs.JobText.{text_of, IsJob}
use Rattle.labelled.specs.Reading.{scanned, is_text, words_of}

-- "Only books with d 4 have this text, others give 1."
unfoldable pub lens_fault : Params → ℕ
lens_fault p = first (params_fault p) (unless (p.d == 4) PARAMETERS)

-- four words, in width
unfoldable pub words_fault : ℕ → List ℕ → ℕ
words_fault k words = first (length_fault 4 (length words)) (width_fault k words)

-- the length of a text into an output of n words: 1, 2, 3
unfoldable pub size_fault : Params → List ℕ → ℕ → ℕ
unfolding lens_fault words_fault
size_fault p words n = first (lens_fault p) (first (length_fault 1 n) (words_fault p.k words))

-- "Writing gives 3 before 2 for the output only, since its length depends on the words.": an output of n bytes
unfoldable pub write_fault : Params → ℕ → List ℕ → ℕ → ℕ
unfolding lens_fault words_fault text_of
write_fault p number words n = first (lens_fault p) (first (words_fault p.k words) (length_fault (length (text_of p.k number words)) n))

-- "11 text, for any other, missing or further line or a number outside the book's signed range [..]; it follows 2": outputs of n and of w words
unfoldable pub read_fault : Params → List ℕ → ℕ → ℕ → ℕ
unfolding lens_fault scanned
read_fault p text n w = first (lens_fault p) (first (length_fault 1 n) (first (length_fault 4 w) (unless (is_text p.k text) TEXT)))

-- ---- what the contracts of the calls say: each returns the number r, and leaves what is named where old was lent

pub record SizeReturned (p : Params) (number : ℕ) (words old : List ℕ) (r : ℕ) (size : List ℕ) : Type 0 where
  pub fault : r ≡ size_fault p words (length old)
  pub output : size ≡ kept (size_fault p words (length old)) old (length (text_of p.k number words) ∷ [])

pub record WriteReturned (p : Params) (number : ℕ) (words old : List ℕ) (r : ℕ) (out : List ℕ) : Type 0 where
  pub fault : r ≡ write_fault p number words (length old)
  pub output : out ≡ kept (write_fault p number words (length old)) old (text_of p.k number words)

pub record ReadReturned (p : Params) (text old_number old_words : List ℕ) (r : ℕ) (number words : List ℕ) : Type 0 where
  pub fault : r ≡ read_fault p text (length old_number) (length old_words)
  pub number_left : number ≡ kept (read_fault p text (length old_number) (length old_words)) old_number ((scanned text).number ∷ [])
  pub words_left : words ≡ kept (read_fault p text (length old_number) (length old_words)) old_words (words_of p.k (scanned text))

-- what was read: one number and four words of a job whose text it is
pub record ReadAs (k : ℕ) (text number words : List ℕ) : Type 0 where
  pub value : ℕ
  pub single : number ≡ value ∷ []
  pub job : IsJob k value words
  pub text_is : text ≡ text_of k value words
