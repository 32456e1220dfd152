-- Mending a bundle, paper 02, K2: what its bytes become, and what the call declines. Assumes nothing.
use Rattle.std.specs.Prelude.{ℕ, suc, cond, List, [], ◌∷◌, length}
use Rattle.words.specs.Faults.{length_fault}
use Rattle.words.specs.Refusal.{first}
use Rattle.words.specs.declared.Params.{Params}
use Rattle.galois.specs.Element.{Element, point}
use Rattle.codewords.specs.Codeword.{Share, value, differs}
use Rattle.codewords.specs.Opening.{Opening, declines, opens, wrong_of}
use Rattle.bundle.specs.Bundle.{bundle_fault, params_of}
use Rattle.bundle.specs.Contents.{Job, File, Bundle, bundle_from, words_of}
use Rattle.writer.specs.Bytes.{bundle_bytes}
use Rattle.archive.specs.Archive.{share_by, shares_at, place_opening}

-- ---- a bundle with other words, its order, headings and job numbers as they are

-- jobs with words that are given by place, from place p on
unfoldable pub reword_jobs : (ℕ → Element) → ℕ → List Job → List Job
reword_jobs w p [] = []
reword_jobs w p (j ∷ js) = record { num = j.num; words = w p } ∷ reword_jobs w (suc p) js

-- files with words that are given by file and place, from file f on
unfoldable pub reword_files : (ℕ → ℕ → Element) → ℕ → List File → List File
unfolding reword_jobs
reword_files w f [] = []
reword_files w f (g ∷ gs) = record { heading = g.heading; jobs = reword_jobs (w f) 0 g.jobs } ∷ reword_files w (suc f) gs

unfoldable pub reword_bundle : Bundle → (ℕ → ℕ → Element) → Bundle
unfolding reword_files
reword_bundle b w = record { allowance = b.allowance; files = reword_files w 0 b.files }

-- the bytes of a bundle that has no fault, with other words in it
abbrev pub reworded : List ℕ → (ℕ → ℕ → Element) → List ℕ
reworded bs w = bundle_bytes (reword_bundle (bundle_from bs) w)

-- ---- which words are replaced

-- the wrong holders of the job at a place, as a set: none where it does not open
abbrev pub wrong_at : List ℕ → ℕ → ℕ
wrong_at bs p = wrong_of (params_of bs).k (params_of bs).d (shares_at bs p) (place_opening bs p)

-- "every wrong share replaced by its polynomial's value"; "A job that answers 5 or 6 keeps its bytes": the words of a share, by what the job opens to
abbrev pub words_by : Params → Share → Opening → Element
words_by p s (declines c) = s.words
words_by p s (opens q) = cond (differs p.k p.d q s) (value p.k p.d q (point p.d s.holder)) s.words

-- those of job p of file f
unfoldable pub mended_words : List ℕ → ℕ → ℕ → Element
mended_words bs f p = words_by (params_of bs) (share_by bs (λ g. words_of bs g p) f) (place_opening bs p)

-- "write the bundle with every wrong share replaced by its polynomial's value": the bytes of a bundle that has no fault, mended
unfoldable pub mended : List ℕ → List ℕ
unfolding reword_bundle mended_words
mended bs = reworded bs (mended_words bs)

-- "Given a bundle and an output of the same length": the bundle's number, then 2 for an output of n bytes
unfoldable pub mend_fault : List ℕ → ℕ → ℕ
mend_fault bs n = first (bundle_fault bs) (length_fault (length bs) n)
