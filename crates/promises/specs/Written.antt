-- What the theorems over the calls speak of: jobs that are dealt, files that are written of their shares, or of other words, the bundle that is
-- written of these files, and words that the files have later. What is asked of each step is that its call returned 0. Assumes nothing.
use Rattle.std.specs.Prelude.{◌≡◌, ℕ, ◌+◌, ◌-◌, ◌*◌, ◌^◌, ◌≤◌, ◌<◌, Bool, true, List, [], ◌∷◌, ◌++◌, length, get_or, take, drop}
use Rattle.algebra.specs.Shares.{All}
use Rattle.words.specs.Params.{params_ok}
use Rattle.words.specs.Word.{all_in_width}
use Rattle.words.specs.declared.Params.{Params}
use Rattle.galois.specs.Element.{Element}
use Rattle.comparison.specs.Comparison.{apart}
use Rattle.codewords.specs.Codeword.{Polynomial, when}
use Rattle.sharing.specs.Dealing.{dealing, dealt}
use Rattle.sharing.specs.Dealt.{Dealable, Job}
use Rattle.sharing.specs.Opening.{rising_to}
use Rattle.bundle.specs.Bundle.{most_jobs}
use Rattle.bundle.specs.Contents.{File}
use Rattle.writer.specs.Bytes.{files_bytes, order_bytes}
use Rattle.writer.specs.Fits.{Words64}
use Rattle.writer.specs.Write.{file_for, rising, file_write_fault, bundle_write_fault}
use Rattle.totals.specs.Total.{sum_to}
use Rattle.totals.specs.Values.{every}
use Rattle.archive.specs.Dealt.{sum_polys}

-- ---- jobs

-- the call of dealing returned 0 for a job, and the polynomial that it deals
abbrev pub Deals : Params → Job → Type 0
Deals p j = Dealable p j.secret j.coefficients

abbrev pub dealing_of : Params → Job → Polynomial
dealing_of p j = dealing p j.secret j.coefficients

-- "Holder i's share is the value at point i": holder h's d words of the output of dealing
abbrev pub share_of : Params → Job → ℕ → Element
share_of p j h = take p.d (drop ((h - 1) * p.d) (dealt p j.secret j.coefficients))

-- holder h's shares of several jobs, one after another, as the file writer is lent them
unfoldable pub shares_of : Params → List Job → ℕ → List ℕ
shares_of p [] h = []
shares_of p (j ∷ js) h = share_of p j h ++ shares_of p js h

-- the job at a place: "Places count from 0."
abbrev pub at_place : List Job → ℕ → Job
at_place js i = get_or js i (record { secret = []; coefficients = [] })

-- the jobs from a place on
abbrev pub from_place : List Job → ℕ → ℕ → Job
from_place js x i = at_place js (x + i)

-- the sum of the jobs j 0, .., j (n - 1), and of the polynomials that deal them
abbrev pub sum_secret : Params → (ℕ → Job) → ℕ → Element
sum_secret p j n = sum_to p.k p.d (λ i. (j i).secret) n

abbrev pub sum_dealing : Params → (ℕ → Job) → ℕ → Polynomial
sum_dealing p j n = sum_polys p.k p.d p.t (λ i. dealing_of p (j i)) n

-- ---- files

-- An archive as the calls are lent it: its parameters, its number, the numbers of its jobs, the holders whose files are bundled, the words of
-- each holder's file, and the allowance.
pub record Archive : Type 0 where
  pub params : Params
  pub number : ℕ
  pub numbers : List ℕ
  pub holders : List ℕ
  pub words : ℕ → List ℕ
  pub allowance : ℕ

-- the d words of the job at place i of holder h's file
abbrev pub words_in : Archive → ℕ → ℕ → Element
words_in a i h = take a.params.d (drop (i * a.params.d) (a.words h))

-- the files of holders, and the bytes that the file writer writes of them, one file after another
abbrev pub file_with : Archive → ℕ → File
file_with a h = file_for a.params h a.number a.numbers (a.words h)

abbrev pub files_with : Archive → List ℕ → List File
files_with a [] = []
files_with a (h ∷ hs) = file_with a h ∷ files_with a hs

abbrev pub written_files : Archive → List ℕ
written_files a = files_bytes (files_with a a.holders)

-- the bytes that the bundle writer writes of these
abbrev pub written_bundle : Archive → List ℕ
written_bundle a = order_bytes a.allowance ++ written_files a

-- the file writer returned 0 for a holder, with an output of some length
pub record FileWritten (a : Archive) (h : ℕ) : Type 0 where
  pub out : List ℕ
  pub no_fault : file_write_fault a.params h a.number a.numbers (a.words h) out ≡ 0

-- The calls of the writers returned 0. The numbers are of 64 bits, as those lent to a call are.
pub record Written (a : Archive) : Type 0 where
  pub number_fits : a.number < 2 ^ 64
  pub numbers_fit : Words64 a.numbers
  pub files : All (FileWritten a) a.holders
  pub size : ℕ
  pub bundle : bundle_write_fault a.allowance (written_files a) size ≡ 0

-- The archive is in the ranges of paper 01 but for its words: its parameters, J "0 to 1,000", "job numbers strictly rising", "one file or more,
-- holders strictly rising", and in each file d words for each job.
pub record WellFormed (a : Archive) : Type 0 where
  pub number_fits : a.number < 2 ^ 64
  pub numbers_fit : Words64 a.numbers
  pub params_in_range : params_ok a.params ≡ true
  pub jobs_high : length a.numbers ≤ most_jobs
  pub numbers_rise : rising a.numbers ≡ true
  pub some_holder : 1 ≤ length a.holders
  pub holders_rise : rising_to a.params.n 0 a.holders ≡ true
  pub words_count : All (λ h. length (a.words h) ≡ length a.numbers * a.params.d) a.holders

-- the words are in width, as the file writer asks
pub record InRanges (a : Archive) : Type 0 where
  pub well_formed : WellFormed a
  pub words_width : All (λ h. all_in_width a.params.k (a.words h) ≡ true) a.holders

-- the words are of 64 bits, wide ones too, as those that stand in files are
pub record Stored (a : Archive) : Type 0 where
  pub well_formed : WellFormed a
  pub words_fit : All (λ h. Words64 (a.words h)) a.holders

-- the files are t + 1 + 2e or more
abbrev pub EnoughFiles : Archive → Type 0
EnoughFiles a = a.params.t + 1 + 2 * a.allowance ≤ length a.holders

-- no word is wide at the n places from x on, in any file
abbrev pub in_width_over : Archive → ℕ → ℕ → Bool
in_width_over a x n =
    every (λ f. every (λ i. all_in_width a.params.k (words_in a (x + i) (get_or a.holders f 0))) n) (length a.holders)

-- each holder's file has its shares of the jobs, and nothing else
abbrev pub HoldsShares : Archive → List Job → Type 0
HoldsShares a js = All (λ h. a.words h ≡ shares_of a.params js h) a.holders

-- ---- what is changed

-- the archive with other words in its files: then `written_bundle` is its bundle with these words, and otherwise as it was written
abbrev pub with_words : Archive → (ℕ → List ℕ) → Archive
with_words a ws =
    record {
      params = a.params;
      number = a.number;
      numbers = a.numbers;
      holders = a.holders;
      words = ws;
      allowance = a.allowance;
    }

-- words that files may have later: as many as were written, and any of 64 bits
pub record Changed (a : Archive) (ws : ℕ → List ℕ) : Type 0 where
  pub words_count : All (λ h. length (ws h) ≡ length (a.words h)) a.holders
  pub words_fit : All (λ h. Words64 (ws h)) a.holders

-- the set of the holders whose words are not those that they should be, bit h - 1 for holder h
unfoldable pub changed_holders : (ℕ → Element) → (ℕ → Element) → List ℕ → ℕ
changed_holders should is [] = 0
changed_holders should is (h ∷ hs) = when (apart (is h) (should h)) (2 ^ (h - 1)) + changed_holders should is hs

-- those whose files have other words than their shares of the jobs
abbrev pub changed_anywhere : Archive → List Job → ℕ
changed_anywhere a js = changed_holders (shares_of a.params js) a.words a.holders

-- at a place: those who have something else than their share of a job
abbrev pub changed_at : Archive → Job → ℕ → ℕ
changed_at a j i = changed_holders (share_of a.params j) (words_in a i) a.holders

-- over the n places from x on: those whose total is another than that of their shares of the jobs j 0, .., j (n - 1)
abbrev pub changed_over : Archive → (ℕ → Job) → ℕ → ℕ → ℕ
changed_over a j x n =
    changed_holders (λ h. sum_to a.params.k a.params.d (λ i. share_of a.params (j i) h) n)
    (λ h. sum_to a.params.k a.params.d (λ i. words_in a (x + i) h) n) a.holders
