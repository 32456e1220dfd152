-- How many bytes values have that can be written. Assumes nothing.
use mathlib.Core.Path.{◌≡◌, ap, ap₂, ◌∙◌}
use Prim.Native.Nat.{ℕ, ◌+◌, ◌*◌}
use native.Mathlib.Omega.{arith}
use mathlib.Core.List.{List, [], ◌∷◌, ◌++◌}
use lib.ListN.{length, length-append}
use Rattle.records.specs.Num.{le_bytes}
use Rattle.records.specs.Layout.{record_size, head_len, head_size, word_size, job_kind, head_kind, job_len_of, job_len, job_size, file_size, order_kind}
use Rattle.records.specs.Layout.{order_size}
use Rattle.bundle.specs.Contents.{Job, File}
use Rattle.records.specs.declared.Heading.{Heading}
use Rattle.records.proofs.Num.{length-le_bytes}
use Rattle.writer.specs.Bytes.{heading_body, heading_bytes, words_bytes, job_body, job_bytes, jobs_bytes, file_bytes, order_bytes}
use Rattle.writer.specs.Fits.{AllFit, a_job, FileFits}
use Rattle.writer.proofs.Holds.{record-length}

pub heading-body-length : (h : Heading) → 2 + length (heading_body h) ≡ head_len h
unfolding heading_body head_len
heading-body-length h =
    let n : length (le_bytes 8 h.archive ++ le_bytes 4 h.jobs) ≡ 12 =
    length-append (le_bytes 8 h.archive) (le_bytes 4 h.jobs) ∙ ap₂ ◌+◌ (length-le_bytes 8 h.archive) (length-le_bytes 4 h.jobs) in
    omega arith

pub heading-length : (h : Heading) → length (heading_bytes h) ≡ head_size h
unfolding heading_bytes
heading-length h = record-length (head_kind h) (heading_body h) ∙ ap record_size (heading-body-length h)

pub words_length : (w : ℕ) (ws : List ℕ) → length (words_bytes w ws) ≡ w * length ws
unfolding words_bytes
words_length w [] = omega arith
words_length w (x ∷ ws) =
    length-append (le_bytes w x) (words_bytes w ws) ∙ ap₂ ◌+◌ (length-le_bytes w x) (words_length w ws) ∙ omega arith

module _ (h : Heading) (j : Job) (c : length j.words ≡ h.params.d) where
  pub job-body-length : 2 + length (job_body h j) ≡ job_len h
  unfolding job_body job_len_of
  job-body-length =
      let n = length-append (le_bytes 8 j.num) (words_bytes (word_size h) j.words) ∙ ap₂ ◌+◌ (length-le_bytes 8 j.num)
      (words_length (word_size h) j.words ∙ ap (λ (n : ℕ). word_size h * n) c) in
      omega (arith, n)

  pub job-length : length (job_bytes h j) ≡ job_size h
  unfolding job_bytes
  job-length = record-length job_kind (job_body h j) ∙ ap record_size job-body-length

pub jobs-length : (h : Heading) (js : List Job) → AllFit h js → length (jobs_bytes h js) ≡ length js * job_size h
unfolding jobs_bytes
jobs-length h [] a = omega arith
jobs-length h (j ∷ js) (a_job f a) =
    length-append (job_bytes h j) (jobs_bytes h js) ∙ ap₂ ◌+◌ (job-length h j f.words_count) (jobs-length h js a) ∙ omega arith

pub file-length : (f : File) → FileFits f → length (file_bytes f) ≡ file_size f.heading
unfolding file_bytes file_size
file-length f w =
    length-append (heading_bytes f.heading) (jobs_bytes f.heading f.jobs)
    ∙ ap₂ ◌+◌ (heading-length f.heading) (jobs-length f.heading f.jobs w.fit ∙ ap (λ (n : ℕ). n * job_size f.heading) w.count)

pub order-length : (e : ℕ) → length (order_bytes e) ≡ order_size
unfolding order_bytes record_size
order-length e = record-length order_kind (e ∷ [])
