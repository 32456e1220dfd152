-- What the calls read of a bundle, by file and place, and what stands there. Assumes nothing.
use Rattle.std.specs.Prelude.{◌≡◌, ℕ, ◌<◌, List, [], length, get_or}
use Rattle.records.specs.Num.{Bytes, part}
use Rattle.records.specs.Layout.{body_at, body_size, job_len}
use Rattle.bundle.specs.Bundle.{num_of, bundle_fault, bundle_heading, params_of, files_of, job_at, holder_of, allowance_of}
use Rattle.bundle.specs.Contents.{Job, File, Bundle, words_of}
use Rattle.records.specs.declared.Heading.{Heading}
use Rattle.writer.specs.Bytes.{job_body}
use Rattle.writer.specs.Write.{job_of}

-- what stands past the last file
abbrev pub no_heading : Heading
no_heading = record { params = record { k = 0; d = 0; n = 0; t = 0 }; holder = 0; archive = 0; jobs = 0 }

-- file f of a bundle, and job p of a file: "Places count from 0."
abbrev pub file_no : Bundle → ℕ → File
file_no b f = get_or b.files f (record { heading = no_heading; jobs = [] })

abbrev pub job_no : File → ℕ → Job
job_no g p = get_or g.jobs p (job_of 0 [])

-- bytes are accepted, and all that the calls read of them is as it stands in the bundle b
pub record ReadsAs (bs : List ℕ) (b : Bundle) : Type 0 where
  pub no_fault : bundle_fault bs ≡ 0
  pub allowance : allowance_of bs ≡ b.allowance
  pub files : files_of bs ≡ length b.files
  pub params : (f : ℕ) → f < files_of bs → params_of bs ≡ (file_no b f).heading.params
  pub jobs : (f : ℕ) → f < files_of bs → (bundle_heading bs).jobs ≡ length (file_no b f).jobs
  pub holder : (f : ℕ) → f < files_of bs → holder_of bs f ≡ (file_no b f).heading.holder
  pub number : (f p : ℕ) → f < files_of bs → p < (bundle_heading bs).jobs → num_of bs (job_at bs f p) ≡ (job_no (file_no b f) p).num
  pub words : (f p : ℕ) → f < files_of bs → p < (bundle_heading bs).jobs → words_of bs f p ≡ (job_no (file_no b f) p).words
  pub body : Bytes bs → (f p : ℕ) → f < files_of bs → p < (bundle_heading bs).jobs →
      part (body_at (job_at bs f p)) (body_size (job_len (bundle_heading bs))) bs ≡ job_body (bundle_heading bs) (job_no (file_no b f) p)
