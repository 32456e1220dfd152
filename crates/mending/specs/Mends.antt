-- What a call of `yikes_mend` that returned 0 wrote, paper 02, K2. Assumes nothing.
use Rattle.std.specs.Prelude.{◌≡◌, ℕ, ◌+◌, ◌≤◌, ◌<◌, List, [], ◌∷◌, ◌↔◌, length, get_or}
use Rattle.words.specs.Refusal.{kept}
use Rattle.records.specs.Num.{part}
use Rattle.records.specs.Layout.{words_at, job_size, file_size}
use Rattle.records.specs.Record.{heading_of}
use Rattle.galois.specs.Element.{point}
use Rattle.codewords.specs.Codeword.{Polynomial, value}
use Rattle.codewords.specs.Demand.{bit_for}
use Rattle.codewords.specs.Opening.{opens, fault_of, wrong_into}
use Rattle.bundle.specs.Bundle.{num_of, bundle_fault, bundle_heading, params_of, files_of, file_at, job_at, holder_of, allowance_of}
use Rattle.bundle.specs.Contents.{file_from, words_of}
use Rattle.writer.specs.Fits.{Rewritten}
use Rattle.archive.specs.Archive.{shares_at, place_opening, open_place}
use Rattle.mending.specs.Mended.{wrong_at, mended, mend_fault}

-- what the contract of the call says: it returns the number r, and leaves out where old was lent
pub record MendReturned (bs old : List ℕ) (r : ℕ) (out : List ℕ) : Type 0 where
  pub fault : r ≡ mend_fault bs (length old)
  pub output : out ≡ kept (mend_fault bs (length old)) old (mended bs)

-- opening the job at place p, the call names the holder of file f
abbrev pub NamedAt : List ℕ → ℕ → ℕ → Type 0
NamedAt bs f p = bit_for (holder_of bs f) (wrong_at bs p) ≡ 1

-- byte i is one of the words of job p of file f
pub record InWords (bs : List ℕ) (f p i : ℕ) : Type 0 where
  pub low : words_at (job_at bs f p) ≤ i
  pub high : i < job_at bs f p + job_size (bundle_heading bs)

-- every job of the bundle opens
abbrev pub AllOpen : List ℕ → Type 0
AllOpen bs = (p : ℕ) → p < (bundle_heading bs).jobs → fault_of (place_opening bs p) ≡ 0

-- file f of a bundle, as its bytes stand there
abbrev pub file_cut : List ℕ → ℕ → List ℕ
file_cut bs f = part (file_at bs f) (file_size (bundle_heading bs)) bs

-- out is the bundle bs mended
pub record Mends (bs out : List ℕ) : Type 0 where
  -- it is accepted, with the same order, headings and job numbers, each in its place
  pub accepted : bundle_fault out ≡ 0
  pub size : length out ≡ length bs
  pub order : allowance_of out ≡ allowance_of bs
  pub files : files_of out ≡ files_of bs
  pub headings : (f : ℕ) → f < files_of bs → heading_of out (file_at out f) ≡ heading_of bs (file_at bs f)
  pub numbers : (f p : ℕ) → f < files_of bs → p < (bundle_heading bs).jobs → num_of out (job_at out f p) ≡ num_of bs (job_at bs f p)
  -- "No other byte differs."
  pub outside : (i : ℕ) → ((f p : ℕ) → f < files_of bs → p < (bundle_heading bs).jobs → InWords bs f p i → NamedAt bs f p → ⊥) →
      get_or out i 0 ≡ get_or bs i 0
  pub replaced : (f p : ℕ) → f < files_of bs → p < (bundle_heading bs).jobs → (words_of out f p ≡ words_of bs f p → ⊥) ↔ NamedAt bs f p
  -- "every wrong share replaced by its polynomial's value": so each share of a job that opens is the value there
  pub values : (f p : ℕ) (q : Polynomial) → f < files_of bs → p < (bundle_heading bs).jobs → place_opening bs p ≡ opens q →
      words_of out f p ≡ value (params_of bs).k (params_of bs).d q (point (params_of bs).d (holder_of bs f))
  -- "A job that answers 5 or 6 keeps its bytes"
  pub keeps : (f p : ℕ) → f < files_of bs → p < (bundle_heading bs).jobs → (fault_of (place_opening bs p) ≡ 0 → ⊥) →
      part (job_at bs f p) (job_size (bundle_heading bs)) out ≡ part (job_at bs f p) (job_size (bundle_heading bs)) bs
  -- "Opening the mended bundle gives the same words and names nobody wrong in the opened jobs", and the same number in the others: of the call that
  -- opens the job at place p into outputs of n words, of w, and of l bytes
  pub answers : (p n w l : ℕ) → open_place out p n w l ≡ open_place bs p n w l
  pub nobody : (p n w l : ℕ) (q : Polynomial) (old : List ℕ) → open_place out p n w l ≡ opens q →
      wrong_into (params_of out).k (params_of out).d (shares_at out p) old (open_place out p n w l) ≡ 0 ∷ []
  -- mending it again changes nothing
  pub again : mended out ≡ out
  -- each of its files is one that the file writer would write, where every job opened
  pub written : AllOpen bs → (f : ℕ) → f < files_of bs → Rewritten (file_from (file_cut out f) 0) (file_cut out f)
