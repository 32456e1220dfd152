-- Values that can be written: files of jobs in their ranges, and bundles of files that belong together. Paper 01, "Bytes of a file". Assumes
-- nothing.
use Rattle.std.specs.Prelude.{◌≡◌, ℕ, suc, ◌^◌, ◌≤◌, ◌<◌, List, [], ◌∷◌, true, length, get_or}
use Rattle.records.specs.Layout.{word_size}
use Rattle.bundle.specs.Bundle.{ranges_ok}
use Rattle.bundle.specs.Acceptance.{Same}
use Rattle.bundle.specs.Contents.{Job, File}
use Rattle.records.specs.declared.Heading.{Heading}
use Rattle.writer.specs.Bytes.{file_bytes}
use Rattle.writer.specs.Write.{heading_for, file_for, numbers_in, words_in, write_fault}

-- every element is a number of 64 bits, as a lent slice's are
abbrev pub Words64 : List ℕ → Type 0
Words64 l = (i : ℕ) → get_or l i 0 < 2 ^ 64

-- "job number (8 bytes), then d words": a job whose number and words fit their bytes
pub record JobFits (h : Heading) (j : Job) : Type 0 where
  pub num_fits : j.num < 256 ^ 8
  pub words_count : length j.words ≡ h.params.d
  pub words_fit : (i : ℕ) → i < h.params.d → get_or j.words i 0 < 256 ^ word_size h

pub data AllFit (h : Heading) : List Job → Type 0 where
  no_job : AllFit h []
  a_job : {j : Job} {js : List Job} → JobFits h j → AllFit h js → AllFit h (j ∷ js)

-- "A file is a heading and its J jobs", "job numbers strictly rising": a file that can be written
pub record FileFits (f : File) : Type 0 where
  pub ranges : ranges_ok f.heading ≡ true
  pub low : 1 ≤ f.heading.holder
  pub high : f.heading.holder ≤ f.heading.params.n
  pub archive_fits : f.heading.archive < 256 ^ 8
  pub count : length f.jobs ≡ f.heading.jobs
  pub fit : AllFit f.heading f.jobs
  pub rising : (p : ℕ) → suc p < length f.jobs → get_or (numbers_in f.jobs) p 0 < get_or (numbers_in f.jobs) (suc p) 0

-- files that belong together with a heading and have these job numbers, holders rising from above prev
pub data Chain (h : Heading) (ns : List ℕ) : ℕ → List File → Type 0 where
  done : {prev : ℕ} → Chain h ns prev []
  next : {prev : ℕ} {f : File} {fs : List File} → FileFits f → prev < f.heading.holder → Same h f.heading → numbers_in f.jobs ≡ ns →
      Chain h ns f.heading.holder fs → Chain h ns prev (f ∷ fs)

-- "one file or more, holders strictly rising": the files of a bundle that can be written, each belonging with the first
abbrev pub BundleFits : List File → Type 0
BundleFits [] = ⊥
BundleFits (f ∷ fs) = Chain f.heading (numbers_in f.jobs) 0 (f ∷ fs)

-- the file writer, lent the contents of a file, declines nothing and writes these bytes
pub record Rewritten (f : File) (bs : List ℕ) : Type 0 where
  pub fault : write_fault (heading_for f.heading.params f.heading.holder f.heading.archive (length (numbers_in f.jobs)))
      (numbers_in f.jobs) (words_in f.jobs) (length bs) ≡ 0
  pub bytes : file_bytes (file_for f.heading.params f.heading.holder f.heading.archive (numbers_in f.jobs) (words_in f.jobs)) ≡ bs
