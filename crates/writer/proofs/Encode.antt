-- Accepted bytes are what the writer writes of what stands in them. Assumes nothing.
use mathlib.Core.Path.{◌≡◌, refl, sym, ap, ap₂, ◌∙◌}
use Prim.Native.Nat.{ℕ, zero, suc, ◌+◌, ◌-◌, ◌*◌, ◌≤◌, ◌<◌}
use native.Mathlib.Omega.{arith}
use native.Mathlib.Numerals.{add-one}
use mathlib.Core.List.{List, [], ◌∷◌, ◌++◌}
use lib.ListN.{length, get_or}
use lib.Seq.{drop-cons}
use lib.Dec.{lit<}
use borrow.Author.Tests.{eqb-true}
use Rattle.words.proofs.Refusals.{first-left, first-right, unless-held}
use Rattle.records.specs.Num.{Bytes, part, le_bytes}
use Rattle.records.specs.Layout.{body_at, words_at, record_size, body_size, head_kind, head_len, head_size, word_size, job_kind, job_len_of, job_len, job_size}
use Rattle.records.specs.Layout.{file_size, order_kind, order_len, order_size}
use Rattle.records.specs.Record.{len_at, kind_at, Frame, heading_of}
use Rattle.bundle.specs.Bundle.{num_of, job_fault, prev_num, file_fault_at, file_fault, place_at, files_of, prev_holder, bundle_heading, bundle_fault}
use Rattle.bundle.specs.Contents.{words_from, job_from, jobs_from, file_from, files_from, bundle_from}
use Rattle.records.specs.declared.Heading.{Heading}
use Rattle.records.proofs.Num.{part-split, part_length, part-all, le_bytes-le_at}
use Rattle.bundle.proofs.Headings.{same-file, job-ok}
use Rattle.bundle.proofs.Files.{file-ok}
use Rattle.bundle.proofs.Bundles.{bundle-ok, same_at}
use Rattle.writer.specs.Bytes.{record_bytes, heading_body, heading_bytes, words_bytes, job_body, job_bytes, jobs_bytes, file_bytes, files_bytes}
use Rattle.writer.specs.Bytes.{order_bytes, bundle_bytes}

-- two parts that follow each other
join : (bs : List ℕ) (a m b n k : ℕ) → b ≡ a + m → k ≡ m + n → part a m bs ++ part b n bs ≡ part a k bs
join bs a m b n k e f = rw (e, f) (sym (part-split bs a m n))

-- one byte, and the part after it
byte : (bs : List ℕ) (a b n : ℕ) → a < length bs → b ≡ a + 1 → get_or bs a 0 ∷ part b n bs ≡ part a (suc n) bs
unfolding part
byte bs a b n h e = rw (e, add-one, drop-cons bs a 0 h)

none : (bs : List ℕ) (a : ℕ) → [] ≡ part a 0 bs
unfolding part
none bs a = refl

module _ (bs : List ℕ) (b : Bytes bs) where
  -- a framed record is the record of its kind and its body
  rec : (kind len at : ℕ) (body : List ℕ) → Frame bs kind len at → 2 ≤ len → body ≡ part (body_at at) (body_size len) bs →
      record_bytes kind body ≡ part at (record_size len) bs
  unfolding record_bytes len_at kind_at record_size body_size
  rec kind len at body f h e =
      let w = f.within in
      let n : length body ≡ len - 2 = ap length e ∙ part_length bs (body_at at) (len - 2) (omega arith) in
      let l : le_bytes 4 (2 + length body) ≡ part at 4 bs =
      ap (le_bytes 4) (let z : 2 + length body ≡ len = omega arith in z ∙ sym f.len_is) ∙ le_bytes-le_at 4 bs at b (omega arith) in
      let k : le_bytes 2 kind ≡ part (at + 4) 2 bs =
      ap (le_bytes 2) (sym f.kind_is) ∙ le_bytes-le_at 2 bs (at + 4) b (omega arith) in
      ap₂ ◌++◌ l (ap₂ ◌++◌ k e ∙ join bs (at + 4) 2 (body_at at) (len - 2) len (omega arith) (omega arith))
      ∙ join bs at 4 (at + 4) len (4 + len) refl refl

  heading : (at : ℕ) → let h = heading_of bs at in Frame bs (head_kind h) (head_len h) at → heading_bytes h ≡ part at (head_size h) bs
  unfolding heading_bytes heading_body heading_of head_kind head_len record_size body_size
  heading at f =
      let w = f.within in
      rec (head_kind (heading_of bs at)) (head_len (heading_of bs at)) at _ f (omega arith)
      (ap (λ (r : List ℕ). get_or bs (at + 6) 0 ∷ get_or bs (at + 6 + 1) 0 ∷ get_or bs (at + 6 + 2) 0 ∷ get_or bs (at + 6 + 3) 0 ∷ get_or bs (at + 6 + 4) 0 ∷ r)
      (ap₂ ◌++◌ (le_bytes-le_at 8 bs (at + 6 + 5) b (omega arith)) (le_bytes-le_at 4 bs (at + 6 + 5 + 8) b (omega arith))
      ∙ join bs (at + 6 + 5) 8 (at + 6 + 5 + 8) 4 12 (omega arith) refl)
      ∙ ap (λ (r : List ℕ). get_or bs (at + 6) 0 ∷ get_or bs (at + 6 + 1) 0 ∷ get_or bs (at + 6 + 2) 0 ∷ get_or bs (at + 6 + 3) 0 ∷ r)
      (byte bs (at + 6 + 4) (at + 6 + 5) 12 (omega arith) (omega arith))
      ∙ ap (λ (r : List ℕ). get_or bs (at + 6) 0 ∷ get_or bs (at + 6 + 1) 0 ∷ get_or bs (at + 6 + 2) 0 ∷ r)
      (byte bs (at + 6 + 3) (at + 6 + 4) 13 (omega arith) (omega arith))
      ∙ ap (λ (r : List ℕ). get_or bs (at + 6) 0 ∷ get_or bs (at + 6 + 1) 0 ∷ r) (byte bs (at + 6 + 2) (at + 6 + 3) 14 (omega arith) (omega arith))
      ∙ ap (λ (r : List ℕ). get_or bs (at + 6) 0 ∷ r) (byte bs (at + 6 + 1) (at + 6 + 2) 15 (omega arith) (omega arith))
      ∙ byte bs (at + 6) (at + 6 + 1) 16 (omega arith) (omega arith))

  words : (w n at : ℕ) → at + w * n ≤ length bs → words_bytes w (words_from w bs n at) ≡ part at (w * n) bs
  unfolding words_bytes words_from
  words w zero at h = none bs at ∙ ap (λ (k : ℕ). part at k bs) (let z : 0 ≡ w * 0 = omega arith in z)
  words w (suc n) at h =
      ap₂ ◌++◌ (le_bytes-le_at w bs at b (omega arith)) (words w n (at + w) (omega arith))
      ∙ join bs at w (at + w) (w * n) (w * suc n) refl (omega arith)

  pub job-part : (h : Heading) (at : ℕ) → Frame bs job_kind (job_len h) at → job_body h (job_from h bs at) ≡ part (body_at at) (body_size (job_len h)) bs
  unfolding job_body job_from job_len_of record_size body_size num_of
  job-part h at f =
      let w = f.within in
      let d = h.params.d in
      ap₂ ◌++◌ (le_bytes-le_at 8 bs (body_at at) b (omega arith)) (words (word_size h) d (words_at at) (omega arith))
      ∙ join bs (body_at at) 8 (words_at at) (word_size h * d) (10 + word_size h * d - 2) (omega arith) (omega arith)

  job : (h : Heading) (at : ℕ) → Frame bs job_kind (job_len h) at → job_bytes h (job_from h bs at) ≡ part at (job_size h) bs
  unfolding job_bytes job_len_of
  job h at f = rec job_kind (job_len h) at (job_body h (job_from h bs at)) f (omega arith) (job-part h at f)

  jobs : (h : Heading) (n at : ℕ) → ((p : ℕ) → p < n → Frame bs job_kind (job_len h) (at + p * job_size h)) →
      jobs_bytes h (jobs_from h bs n at) ≡ part at (n * job_size h) bs
  unfolding jobs_bytes jobs_from
  jobs h zero at f = none bs at ∙ ap (λ (k : ℕ). part at k bs) (let z : 0 ≡ 0 * job_size h = omega arith in z)
  jobs h (suc n) at f =
      ap₂ ◌++◌ (job h at (rw (let z : at ≡ at + 0 * job_size h = omega arith in z) (f 0 (omega arith))))
      (jobs h n (at + job_size h) (λ p l. rw (let z : at + job_size h + p * job_size h ≡ at + (p + 1) * job_size h = omega arith in z)
      (f (p + 1) (omega arith))))
      ∙ join bs at (job_size h) (at + job_size h) (n * job_size h) (suc n * job_size h) refl (omega arith)

  -- a file with no fault
  pub file-part : (base prev at : ℕ) → file_fault_at bs base prev at ≡ 0 → file_bytes (file_from bs at) ≡ part at (file_size (heading_of bs at)) bs
  unfolding file_bytes file_from file_size job_fault
  file-part base prev at e =
      let k = file-ok bs base prev at e in
      let h = heading_of bs at in
      let s = head_size h in
      ap₂ ◌++◌ (heading at k.heading.frame)
      (jobs h h.jobs (at + s)
      (λ p l. (job-ok bs (job_len h) (base + s + p * job_size h) (prev_num bs (job_len h) (at + s) p) p (at + s + p * job_size h) (k.jobs p l)).frame))
      ∙ join bs at s (at + s) _ _ refl refl

  files : (size n at : ℕ) → ((f : ℕ) → f < n → file_bytes (file_from bs (at + f * size)) ≡ part (at + f * size) size bs) →
      files_bytes (files_from bs size n at) ≡ part at (n * size) bs
  unfolding files_bytes files_from
  files size zero at f = none bs at ∙ ap (λ (k : ℕ). part at k bs) (let z : 0 ≡ 0 * size = omega arith in z)
  files size (suc n) at f =
      let z : at + 0 * size ≡ at = omega arith in
      ap₂ ◌++◌ (rw z at (f 0 (omega arith)))
      (files size n (at + size) (λ g h. rw (let q : at + size + g * size ≡ at + (g + 1) * size = omega arith in q) (f (g + 1) (omega arith))))
      ∙ join bs at size (at + size) (n * size) (suc n * size) refl (omega arith)

  order : Frame bs order_kind order_len 0 → order_bytes (get_or bs (body_at 0) 0) ≡ part 0 order_size bs
  unfolding order_bytes record_size body_size
  order f =
      let w = f.within in
      rec order_kind order_len 0 _ f (omega arith)
      (ap (λ (r : List ℕ). get_or bs (body_at 0) 0 ∷ r) (none bs order_size) ∙ byte bs (body_at 0) order_size 0 (omega arith) refl)

  -- an accepted file is what the writer writes of it
  pub file-written : file_fault bs ≡ 0 → file_bytes (file_from bs 0) ≡ bs
  unfolding file_fault
  file-written e =
      let s = file_size (heading_of bs 0) in
      let l : length bs ≡ s = eqb-true (length bs) s (unless-held _ 7 (lit< tt) (first-right (file_fault_at bs 0 0 0) _ e)) in
      file-part 0 0 0 (first-left (file_fault_at bs 0 0 0) _ e) ∙ ap (λ (n : ℕ). part 0 n bs) (sym l) ∙ part-all bs

  -- an accepted bundle is what the writer writes of it
  pub bundle_written : bundle_fault bs ≡ 0 → bundle_bytes (bundle_from bs) ≡ bs
  unfolding bundle_bytes bundle_from place_at
  bundle_written e =
      let a = bundle-ok bs e in
      let h = bundle_heading bs in
      let s = file_size h in
      ap₂ ◌++◌ (order a.order)
      (files s (files_of bs) order_size
      (λ f l. file-part order_size (prev_holder bs order_size f) (order_size + f * s) (a.files.none f l)
      ∙ ap (λ (n : ℕ). part (order_size + f * s) n bs) (sym (same-file h (heading_of bs (order_size + f * s)) (same_at bs order_size a.files f l)))))
      ∙ join bs 0 order_size order_size (files_of bs * s) (length bs) refl (sym a.files.ends) ∙ part-all bs
