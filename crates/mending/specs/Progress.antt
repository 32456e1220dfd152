-- A bundle on the way to being mended, place by place and in each place file by file, and the output of `mend` with it. Assumes nothing.
use Rattle.std.specs.Prelude.{ℕ, Bool, cond, ◌&&◌, ◌||◌, List, ltb, eqb}
use Rattle.words.specs.Refusal.{kept}
use Rattle.galois.specs.Element.{Element}
use Rattle.bundle.specs.Contents.{words_of}
use Rattle.listing.specs.Listing.{input_fault}
use Rattle.mending.specs.Mended.{reworded, mended_words}

-- whether job q of file g comes before job p of file f
abbrev pub before : ℕ → ℕ → ℕ → ℕ → Bool
before p f g q = ltb q p || (eqb q p && ltb g f)

-- the words of job q of file g where the jobs before job p of file f are mended
unfoldable pub words_to : List ℕ → ℕ → ℕ → ℕ → ℕ → Element
words_to bs p f g q = cond (before p f g q) (mended_words bs g q) (words_of bs g q)

-- the bytes of the bundle then
unfoldable pub mended_to : List ℕ → ℕ → ℕ → List ℕ
mended_to bs p f = reworded bs (words_to bs p f)

-- the output of the program before piece i of its report: an input's bytes, the places before i mended where it is accepted
unfoldable pub output_at : List ℕ → ℕ → List ℕ
output_at bs i = kept (input_fault bs) bs (mended_to bs i 0)
