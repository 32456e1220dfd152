-- What acceptance means: the tests of `Bundle` as facts about a heading, a file, and files one after another. Paper 01, "Bytes of a file" and
-- "When a call declines". Assumes nothing.
use Rattle.std.specs.Prelude.{◌≡◌, ℕ, ◌+◌, ◌≤◌, ◌<◌, List, true, length}
use Rattle.records.specs.Layout.{head_kind, head_len, head_size, job_len, file_size, order_kind, order_len, order_size}
use Rattle.records.specs.Record.{Frame, heading_of}
use Rattle.records.specs.declared.Heading.{Heading}
use Rattle.bundle.specs.Bundle.{ranges_ok, job_fault, file_fault_at, place_at, prev_holder, files_in}

-- "Files belong together if their books, archive numbers, job counts [..] are equal": headings that differ in the holder alone
pub record Same (a b : Heading) : Type 0 where
  pub params_is : a.params ≡ b.params
  pub archive_is : a.archive ≡ b.archive
  pub jobs_is : a.jobs ≡ b.jobs

-- a heading that is accepted at a position, after a file of the holder prev, or 0 for none, where the first file's heading is at base: a whole
-- record, in its ranges, of a higher holder that is n at most, and belonging with the first
pub record HeadingOk (bs : List ℕ) (base prev at : ℕ) : Type 0 where
  pub frame : Frame bs (head_kind (heading_of bs at)) (head_len (heading_of bs at)) at
  pub ranges : ranges_ok (heading_of bs at) ≡ true
  pub rises : prev < (heading_of bs at).holder
  pub within : (heading_of bs at).holder ≤ (heading_of bs at).params.n
  pub same : Same (heading_of bs base) (heading_of bs at)

-- "A file is a heading and its J jobs": a file that is accepted at a position, all of it within the bytes
pub record FileOk (bs : List ℕ) (base prev at : ℕ) : Type 0 where
  pub heading : HeadingOk bs base prev at
  pub jobs : (p : ℕ) → p < (heading_of bs at).jobs →
      job_fault bs (job_len (heading_of bs at)) (base + head_size (heading_of bs at)) (at + head_size (heading_of bs at)) p ≡ 0
  pub within : at + file_size (heading_of bs at) ≤ length bs

-- "one file or more, holders strictly rising", and no bytes after the last: files that are accepted one after another from a position
pub record FilesOk (bs : List ℕ) (start : ℕ) : Type 0 where
  pub some : 1 ≤ files_in bs start
  pub ends : place_at bs start (files_in bs start) ≡ length bs
  pub none : (f : ℕ) → f < files_in bs start → file_fault_at bs start (prev_holder bs start f) (place_at bs start f) ≡ 0

-- "A bundle is one order and then one file or more"
pub record BundleOk (bs : List ℕ) : Type 0 where
  pub order : Frame bs order_kind order_len 0
  pub files : FilesOk bs order_size
