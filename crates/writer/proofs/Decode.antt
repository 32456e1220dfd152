-- Reading what was written gives what was written. Assumes nothing.
use mathlib.Core.Path.{◌≡◌, refl, sym, ap, ap₂, subst, ◌∙◌}
use Prim.Native.Nat.{ℕ, zero, suc, ◌+◌, ◌*◌, ◌^◌, ◌≤◌, ◌<◌}
use native.Mathlib.Omega.{arith}
use mathlib.Core.List.{List, [], ◌∷◌, ◌++◌}
use mathlib.Core.Bool.{true, ◌||◌, or-true}
use lib.ListN.{length, get_or, length-append}
use lib.Dec.{lit<, eqb, ltb}
use borrow.Author.Tests.{lt-ltb, eq-eqb}
use Rattle.words.specs.Refusal.{first_of}
use Rattle.words.proofs.Refusals.{first-none, unless-yes, first_of-zero}
use Rattle.records.specs.Num.{le_bytes}
use Rattle.records.specs.Layout.{body_at, words_at, record_size, head_kind, head_len, head_size, word_size, job_kind, job_len, job_size, file_size}
use Rattle.records.specs.Layout.{order_kind, order_len, order_size}
use Rattle.records.specs.Record.{Frame, heading_of}
use Rattle.bundle.specs.Bundle.{num_of, job_fault, prev_num, file_fault_at, file_fault, bundle_fault, files_of, bundle_heading}
use Rattle.bundle.specs.Acceptance.{Same, HeadingOk}
use Rattle.bundle.specs.Contents.{Job, File, Bundle, words_from, job_from, jobs_from, file_from, files_from, bundle_from}
use Rattle.records.specs.declared.Heading.{Heading}
use Rattle.records.proofs.Num.{length-le_bytes}
use Rattle.records.proofs.Lengths.{head-low, file-low, job-high}
use Rattle.records.proofs.Record.{frame-framed}
use Rattle.bundle.proofs.Headings.{Ranges, ok-ranges, same_self, same-file, same_head, same-job, ok-heading, ok-job}
use Rattle.bundle.proofs.Files.{FilesAt, files-start, files-next, files-none, files-count, files-some, bundle-files}
use Rattle.writer.specs.Bytes.{heading_body, heading_bytes, words_bytes, job_body, job_bytes, jobs_bytes, file_bytes, files_bytes}
use Rattle.writer.specs.Bytes.{order_bytes, bundle_bytes}
use Rattle.writer.specs.Write.{numbers_in}
use Rattle.writer.specs.Fits.{JobFits, AllFit, a_job, FileFits, Chain, next, BundleFits}
use Rattle.writer.proofs.Holds.{Holds, holds-all, left, right, tail, head, within, num-is, move, rec-body, rec-frame}
use Rattle.writer.proofs.Fits.{heading-body-length, heading-length, job-body-length, job-length, file-length, order-length}

-- ---- a heading

module _ (bs : List ℕ) (at : ℕ) (h : Heading) (a : h.archive < 256 ^ 8) (n : h.jobs < 256 ^ 4) (q : Holds bs at (heading_bytes h)) where
  small : 2 + length (heading_body h) < 256 ^ 4
  unfolding head_len
  small = omega (arith, heading-body-length h)

  kind : head_kind h < 256 ^ 2
  unfolding head_kind
  kind = lit< tt

  heading-frame : Frame bs (head_kind h) (head_len h) at
  unfolding heading_bytes
  heading-frame = rw (heading-body-length h) at (rec-frame bs at (head_kind h) (heading_body h) kind small q)

  heading-is : heading_of bs at ≡ h
  unfolding heading_bytes heading_body heading_of
  heading-is =
      let b₀ = rec-body bs at (head_kind h) (heading_body h) kind small q in
      let b₁ = tail b₀ in
      let b₂ = move _ (body_at at + 2) (omega arith) (tail b₁) in
      let b₃ = move _ (body_at at + 3) (omega arith) (tail b₂) in
      let b₄ = move _ (body_at at + 4) (omega arith) (tail b₃) in
      let b₅ = move _ (body_at at + 5) (omega arith) (tail b₄) in
      let b₆ = move _ (body_at at + 5 + 8) (omega (arith, length-le_bytes 8 h.archive)) (right (le_bytes 8 h.archive) (le_bytes 4 h.jobs) b₅) in
      let e₀ = head b₀ in
      let e₁ = head b₁ in
      let e₂ = head b₂ in
      let e₃ = head b₃ in
      let e₄ = head b₄ in
      let e₅ = num-is 8 h.archive a (left (le_bytes 8 h.archive) (le_bytes 4 h.jobs) b₅) in
      let e₆ = num-is 4 h.jobs n b₆ in
      λ i. record { params = record { k = e₀ i; d = e₁ i; n = e₂ i; t = e₃ i }; holder = e₄ i; archive = e₅ i; jobs = e₆ i }

-- ---- jobs

words_are : (w : ℕ) (bs : List ℕ) (at : ℕ) (ws : List ℕ) → ((i : ℕ) → i < length ws → get_or ws i 0 < 256 ^ w) → Holds bs at (words_bytes w ws) →
    words_from w bs (length ws) at ≡ ws
unfolding words_bytes words_from
words_are w bs at [] f h = refl
words_are w bs at (x ∷ ws) f h =
    ap₂ ◌∷◌ (num-is w x (f 0 (omega arith)) (left (le_bytes w x) (words_bytes w ws) h))
    (words_are w bs (at + w) ws (λ i l. f (suc i) (omega arith))
    (move _ (at + w) (ap (λ (n : ℕ). at + n) (length-le_bytes w x)) (right (le_bytes w x) (words_bytes w ws) h)))

module _ (h : Heading) (s : h.params.d ≤ 6) (j : Job) (f : JobFits h j) (bs : List ℕ) (at : ℕ) (q : Holds bs at (job_bytes h j)) where
  body-small : 2 + length (job_body h j) < 256 ^ 4
  unfolding record_size
  body-small = omega (arith, job-body-length h j f.words_count, job-high h s)

  job-frame : Frame bs job_kind (job_len h) at
  unfolding job_bytes
  job-frame = rw (job-body-length h j f.words_count) at (rec-frame bs at job_kind (job_body h j) (lit< tt) body-small q)

  body : Holds bs (body_at at) (le_bytes 8 j.num ++ words_bytes (word_size h) j.words)
  unfolding job_bytes job_body
  body = rec-body bs at job_kind (job_body h j) (lit< tt) body-small q

  job-num : num_of bs at ≡ j.num
  unfolding num_of
  job-num = num-is 8 j.num f.num_fits (left (le_bytes 8 j.num) (words_bytes (word_size h) j.words) body)

  job_is : job_from h bs at ≡ j
  unfolding job_from
  job_is =
      let w = words_are (word_size h) bs (words_at at) j.words (λ i l. f.words_fit i (omega (arith, f.words_count)))
      (move _ (words_at at) (omega (arith, length-le_bytes 8 j.num)) (right (le_bytes 8 j.num) (words_bytes (word_size h) j.words) body)) in
      let e : words_from (word_size h) bs h.params.d (words_at at) ≡ j.words =
      ap (λ (n : ℕ). words_from (word_size h) bs n (words_at at)) (sym f.words_count) ∙ w in
      let n = job-num in
      λ i. record { num = n i; words = e i }

module _ (bs : List ℕ) (h : Heading) (s : h.params.d ≤ 6) where
  jobs-next : (at : ℕ) (j : Job) (js : List Job) → JobFits h j → Holds bs at (job_bytes h j ++ jobs_bytes h js) → Holds bs (at + job_size h)
      (jobs_bytes h js)
  jobs-next at j js f q =
      move _ (at + job_size h) (ap (λ (n : ℕ). at + n) (job-length h j f.words_count)) (right (job_bytes h j) (jobs_bytes h js) q)

  jobs-are : (at : ℕ) (js : List Job) → AllFit h js → Holds bs at (jobs_bytes h js) → jobs_from h bs (length js) at ≡ js
  unfolding jobs_bytes jobs_from
  jobs-are at [] a q = refl
  jobs-are at (j ∷ js) (a_job f a) q =
      ap₂ ◌∷◌ (job_is h s j f bs at (left (job_bytes h j) (jobs_bytes h js) q)) (jobs-are (at + job_size h) js a (jobs-next at j js f q))

  jobs-frame : (at : ℕ) (js : List Job) → AllFit h js → Holds bs at (jobs_bytes h js) → (p : ℕ) → p < length js →
      Frame bs job_kind (job_len h) (at + p * job_size h)
  unfolding jobs_bytes
  jobs-frame at [] a q p l = absurd (omega arith)
  jobs-frame at (j ∷ js) (a_job f a) q zero l =
      let z : at + 0 * job_size h ≡ at = omega arith in
      rw z (job-frame h s j f bs at (left (job_bytes h j) (jobs_bytes h js) q))
  jobs-frame at (j ∷ js) (a_job f a) q (suc p) l =
      let z : at + suc p * job_size h ≡ at + job_size h + p * job_size h = omega arith in
      rw z (jobs-frame (at + job_size h) js a (jobs-next at j js f q) p (omega arith))

  jobs-num : (at : ℕ) (js : List Job) → AllFit h js → Holds bs at (jobs_bytes h js) → (p : ℕ) → p < length js →
      num_of bs (at + p * job_size h) ≡ get_or (numbers_in js) p 0
  unfolding jobs_bytes
  jobs-num at [] a q p l = absurd (omega arith)
  jobs-num at (j ∷ js) (a_job f a) q zero l =
      let z : at + 0 * job_size h ≡ at = omega arith in
      rw z (job-num h s j f bs at (left (job_bytes h j) (jobs_bytes h js) q))
  jobs-num at (j ∷ js) (a_job f a) q (suc p) l =
      let z : at + suc p * job_size h ≡ at + job_size h + p * job_size h = omega arith in
      rw z (jobs-num (at + job_size h) js a (jobs-next at j js f q) p (omega arith))

-- ---- a file

module _ (f : File) (w : FileFits f) (bs : List ℕ) (at : ℕ) (q : Holds bs at (file_bytes f)) where
  top : Holds bs at (heading_bytes f.heading)
  unfolding file_bytes
  top = left (heading_bytes f.heading) (jobs_bytes f.heading f.jobs) q

  ranges : Ranges f.heading
  ranges = ok-ranges f.heading w.ranges

  count_fits : f.heading.jobs < 256 ^ 4
  count_fits = omega (arith, ranges.jobs_high)

  pub file-heading : heading_of bs at ≡ f.heading
  file-heading = heading-is bs at f.heading w.archive_fits count_fits top

  file-frame : Frame bs (head_kind f.heading) (head_len f.heading) at
  file-frame = heading-frame bs at f.heading w.archive_fits count_fits top

  file-jobs : Holds bs (at + head_size f.heading) (jobs_bytes f.heading f.jobs)
  unfolding file_bytes
  file-jobs =
      move _ (at + head_size f.heading) (ap (λ (n : ℕ). at + n) (heading-length f.heading))
      (right (heading_bytes f.heading) (jobs_bytes f.heading f.jobs) q)

  pub file-is : file_from bs at ≡ f
  unfolding file_from
  file-is =
      let e = file-heading in
      let j : jobs_from (heading_of bs at) bs (heading_of bs at).jobs (at + head_size (heading_of bs at)) ≡ f.jobs =
      ap (λ (x : Heading). jobs_from x bs x.jobs (at + head_size x)) e
      ∙ ap (λ (n : ℕ). jobs_from f.heading bs n (at + head_size f.heading)) (sym w.count)
      ∙ jobs-are bs f.heading ranges.book.d-high (at + head_size f.heading) f.jobs w.fit file-jobs in
      λ i. record { heading = e i; jobs = j i }

  num-at : (p : ℕ) → p < length f.jobs → num_of bs (at + head_size f.heading + p * job_size f.heading) ≡ get_or (numbers_in f.jobs) p 0
  num-at p l = jobs-num bs f.heading ranges.book.d-high (at + head_size f.heading) f.jobs w.fit file-jobs p l

  -- its job numbers rise
  rises-at : (p : ℕ) → p < length f.jobs → let h = f.heading in
      (eqb p 0 || ltb (prev_num bs (job_len h) (at + head_size h) p) (num_of bs (at + head_size h + p * job_size h))) ≡ true
  unfolding prev_num
  rises-at zero l = refl
  rises-at (suc p) l =
      let h = f.heading in
      rw (lt-ltb (num_of bs (at + head_size h + p * job_size h)) (num_of bs (at + head_size h + suc p * job_size h))
      (rw (num-at p (omega arith), num-at (suc p) l) (w.rising p l)))
      (or-true (eqb (suc p) 0))

  -- and it has no fault, after a lower holder, where it belongs with the file at base
  module _ (base prev : ℕ) (l : prev < f.heading.holder) (same : Same (heading_of bs base) f.heading)
      (nums-same : (p : ℕ) → p < length f.jobs → num_of bs (base + head_size f.heading + p * job_size f.heading) ≡ get_or (numbers_in f.jobs)
      p 0) where
    file-heading-ok : HeadingOk bs base prev at
    file-heading-ok =
        record {
          frame = rw file-heading file-frame;
          ranges = rw file-heading w.ranges;
          rises = rw file-heading l;
          within = rw file-heading w.high;
          same = rw file-heading same;
        }

    file-job-ok : (p : ℕ) → p < length f.jobs → let h = f.heading in job_fault bs (job_len h) (base + head_size h) (at + head_size h) p ≡ 0
    unfolding job_fault
    file-job-ok p m =
        let h = f.heading in
        let s = head_size h in
        ok-job bs (job_len h) (base + s + p * job_size h) (prev_num bs (job_len h) (at + s) p) p (at + s + p * job_size h)
        (record {
          frame = jobs-frame bs h ranges.book.d-high (at + s) f.jobs w.fit file-jobs p m;
          rises = rises-at p m;
          same = nums-same p m ∙ sym (num-at p m);
        })

    pub file-no-fault : file_fault_at bs base prev at ≡ 0
    unfolding file_fault_at
    file-no-fault =
        let h = f.heading in
        first-none _ _ (ok-heading bs base prev at file-heading-ok)
        ∙ ap (λ (x : Heading). first_of (job_fault bs (job_len x) (base + head_size x) (at + head_size x)) x.jobs) file-heading
        ∙ first_of-zero (job_fault bs (job_len h) (base + head_size h) (at + head_size h)) h.jobs (λ p m. file-job-ok p (omega (arith, w.count)))

-- a file that was written is accepted, and read it is the same file
pub file-read : (f : File) → FileFits f → (file_fault (file_bytes f) ≡ 0) × (file_from (file_bytes f) 0 ≡ f)
unfolding file_fault
file-read f w =
    let bs = file_bytes f in
    let q = holds-all bs in
    let e = file-heading f w bs 0 q in
    let s : length bs ≡ file_size (heading_of bs 0) = file-length f w ∙ sym (ap file_size e) in
    let z : file_fault_at bs 0 0 0 ≡ 0 =
    file-no-fault f w bs 0 q 0 0 (omega (arith, w.low)) (rw e (same_self f.heading)) (λ p l. num-at f w bs 0 q p l) in
    (first-none (file_fault_at bs 0 0 0) _ z ∙ unless-yes _ 7 (eq-eqb _ _ s), file-is f w bs 0 q)

-- ---- a bundle

-- the bytes of files that belong with the one at start
module _ (bs : List ℕ) (start : ℕ) (h : Heading) (ns : List ℕ) (hd : heading_of bs start ≡ h)
    (num : (p : ℕ) → p < h.jobs → num_of bs (start + head_size h + p * job_size h) ≡ get_or ns p 0) where
  chain-none : (at prev : ℕ) (g : File) → FileFits g → prev < g.heading.holder → Same h g.heading → numbers_in g.jobs ≡ ns →
      Holds bs at (file_bytes g) → file_fault_at bs start prev at ≡ 0
  chain-none at prev g w l s n q =
      file-no-fault g w bs at q start prev l (rw hd s)
      (λ p m. rw (← same_head h g.heading s, ← same-job h g.heading s, n) (num p (omega (arith, w.count, s.jobs_is))))

  chain-size : (g : File) → FileFits g → Same h g.heading → length (file_bytes g) ≡ file_size h
  chain-size g w s = file-length g w ∙ sym (same-file h g.heading s)

  chain-rest : (at : ℕ) (g : File) (fs : List File) → FileFits g → Same h g.heading → Holds bs at (file_bytes g ++ files_bytes fs) →
      Holds bs (at + file_size h) (files_bytes fs)
  chain-rest at g fs w s q =
      move _ (at + file_size h) (ap (λ (n : ℕ). at + n) (chain-size g w s)) (right (file_bytes g) (files_bytes fs) q)

  chain-files : (at prev : ℕ) (fs : List File) → Chain h ns prev fs → Holds bs at (files_bytes fs) → files_from bs (file_size h) (length fs) at ≡ fs
  unfolding files_bytes files_from
  chain-files at prev [] c q = refl
  chain-files at prev (g ∷ fs) (next w l s n c) q =
      ap₂ ◌∷◌ (file-is g w bs at (left (file_bytes g) (files_bytes fs) q))
      (chain-files (at + file_size h) g.heading.holder fs c (chain-rest at g fs w s q))

  chain-walk : (at prev f : ℕ) (fs : List File) → Chain h ns prev fs → FilesAt bs start f at prev → Holds bs at (files_bytes fs) →
      at + length (files_bytes fs) ≡ length bs → (n : ℕ) × (p : ℕ) × FilesAt bs start n (length bs) p × (n ≡ f + length fs)
  unfolding files_bytes
  chain-walk at prev f [] c j q e =
      let z : at ≡ length bs = omega arith in
      (f, prev, rw z at j, omega arith)
  chain-walk at prev f (g ∷ fs) (next w l s n c) j q e =
      let lg = length-append (file_bytes g) (files_bytes fs) in
      let sz = chain-size g w s in
      let u = head-low h in
      let v = file-low h in
      let z = chain-none at prev g w l s n (left (file_bytes g) (files_bytes fs) q) in
      let hg = file-heading g w bs at (left (file_bytes g) (files_bytes fs) q) in
      let size : file_size (heading_of bs at) ≡ file_size h = ap file_size hg ∙ sym (same-file h g.heading s) in
      let k : FilesAt bs start (f + 1) (at + file_size h) g.heading.holder = rw (size, hg) at (files-next bs start f at prev j (omega arith) z) in
      let r = chain-walk (at + file_size h) g.heading.holder (f + 1) fs c k (chain-rest at g fs w s q) (omega arith) in
      (r.0, r.1, r.2, omega (arith, r.3))

module _ (b : Bundle) (f : File) (fs : List File) (e : b.files ≡ f ∷ fs) (c : Chain f.heading (numbers_in f.jobs) 0 (f ∷ fs)) where
  bs : List ℕ
  bs = bundle_bytes b

  order : Holds bs 0 (order_bytes b.allowance)
  unfolding bs bundle_bytes
  order = left (order_bytes b.allowance) (files_bytes b.files) (holds-all bs)

  after-order : Holds bs order_size (files_bytes b.files)
  unfolding bs bundle_bytes
  after-order = move _ order_size (omega (arith, order-length b.allowance))
      (right (order_bytes b.allowance) (files_bytes b.files) (holds-all bs))

  files : Holds bs order_size (files_bytes (f ∷ fs))
  files = subst (λ (l : List File). Holds bs order_size (files_bytes l)) e after-order

  total : order_size + length (files_bytes (f ∷ fs)) ≡ length bs
  unfolding bs bundle_bytes
  total =
      sym (length-append (order_bytes b.allowance) (files_bytes b.files)
      ∙ ap₂ ◌+◌ (order-length b.allowance) (ap (λ (l : List File). length (files_bytes l)) e))

  first_fits : FileFits f
  first_fits = elim c [ next w l s n r ↦ w ]

  first-file : Holds bs order_size (file_bytes f)
  unfolding files_bytes
  first-file = left (file_bytes f) (files_bytes fs) files

  first-heading : heading_of bs order_size ≡ f.heading
  first-heading = file-heading f first_fits bs order_size first-file

  first-num : (p : ℕ) → p < f.heading.jobs → num_of bs (order_size + head_size f.heading + p * job_size f.heading) ≡ get_or (numbers_in f.jobs)
      p 0
  first-num p l = num-at f first_fits bs order_size first-file p (omega (arith, first_fits.count))

  long : order_size < length bs
  long = omega (arith, within first-file, file-length f first_fits, head-low f.heading, file-low f.heading)

  walked : (n : ℕ) × (p : ℕ) × FilesAt bs order_size n (length bs) p × (n ≡ 0 + length (f ∷ fs))
  walked =
      chain-walk bs order_size f.heading (numbers_in f.jobs) first-heading first-num order_size 0 0 (f ∷ fs) c
      (files-start bs order_size (omega (arith, long))) files total

  order-frame : Frame bs order_kind order_len 0
  unfolding order_bytes
  order-frame = rec-frame bs 0 order_kind (b.allowance ∷ []) (lit< tt) (lit< tt) order

  allowance-is : get_or bs (body_at 0) 0 ≡ b.allowance
  unfolding order_bytes
  allowance-is = head (rec-body bs 0 order_kind (b.allowance ∷ []) (lit< tt) (lit< tt) order)

  bundle-some : (bundle_fault bs ≡ 0) × (bundle_from bs ≡ b)
  unfolding bundle_from
  bundle-some =
      let w = walked in
      let n : files_of bs ≡ length (f ∷ fs) = files-count bs order_size w.0 (length bs) w.1 w.2 (omega arith) ∙ w.3 ∙ omega arith in
      let a = allowance-is in
      let g : files_from bs (file_size (bundle_heading bs)) (files_of bs) order_size ≡ b.files =
      ap₂ (λ (x y : ℕ). files_from bs x y order_size) (ap file_size first-heading) n
      ∙ chain-files bs order_size f.heading (numbers_in f.jobs) first-heading first-num order_size 0 (f ∷ fs) c files ∙ sym e in (
        bundle-files bs (frame-framed bs order_kind order_len 0 order-frame) ∙ files-some bs order_size long
            ∙ files-none bs order_size w.0 (length bs) w.1 w.2 (omega arith),
        λ i. record { allowance = a i; files = g i },
      )

-- a bundle that was written is accepted, and read it is the same bundle
pub bundle-read : (b : Bundle) → BundleFits b.files → (bundle_fault (bundle_bytes b) ≡ 0) × (bundle_from (bundle_bytes b) ≡ b)
unfolding bs
bundle-read b w = go b.files refl w
  where
    go : (fs : List File) → b.files ≡ fs → BundleFits fs → (bundle_fault (bundle_bytes b) ≡ 0) × (bundle_from (bundle_bytes b) ≡ b)
    go [] e x = absurd x
    go (f ∷ fs) e x = bundle-some b f fs e x
