-- A run of one file: where its jobs stand in the bundle, so that what a pass over them sees and adds is the run's (`run-told`); how many words its
-- total has; and what is left of it where it is added, stored or taken off (`run-added` and the laws after it). Assumes nothing.
use mathlib.Core.Path.{◌≡◌, sym, ap, ap₂, ◌∙◌}
use mathlib.Core.Bool.{true}
use mathlib.Core.List.{List, ◌++◌}
use Prim.Native.Nat.{ℕ, ◌+◌, ◌-◌, ◌*◌, ◌≤◌, ◌<◌}
use native.Mathlib.Nat.{mul-le-mul_right}
use native.Mathlib.Omega.{arith}
use lib.ListN.{length, take, drop}
use Rattle.words.specs.Word.{in_width, all_in_width}
use Rattle.galois.specs.Element.{Element, sum, difference, zero_e, held, reduce}
use Rattle.ring.proofs.Stored.{stored}
use Rattle.records.specs.Layout.{record_size, word_size, words_at, job_len_of, job_size, head_size, order_size, file_size}
use Rattle.records.specs.declared.Heading.{Heading}
use Rattle.bundle.specs.Bundle.{bundle_fault, bundle_heading, params_of, files_of, place_at, job_at}
use Rattle.bundle.specs.Contents.{words_from, words_of}
use Rattle.bundle.proofs.Contents.{words_count}
use Rattle.bundle.proofs.Bundles.{bundle-ok, ranges-of, job-place, file-within}
use Rattle.totals.specs.Values.{every}
use Rattle.totals.specs.Total.{sum_to, run_total, run_in_width, added_to}
use Rattle.totals.proofs.Values.{every-none, every-same}
use Rattle.totals.proofs.Sums.{sum-length, sum-width, sum_same}
use Rattle.totals.proofs.Added.{added-whole, added-zeros, negative-added, taken-off}
use Rattle.totals.proofs.Words.{words_length}

-- ---- the jobs of file f of a bundle from place a on, by its first heading

-- the words of jobs that stand some bytes apart
abbrev pub job_words : List ℕ → ℕ → ℕ → ℕ → ℕ → Element
job_words bs d at size i = words_from 8 bs d (at + i * size)

module _ (bs : List ℕ) (z : bundle_fault bs ≡ 0) (h : Heading) (e : h ≡ bundle_heading bs) (f a n at size d : ℕ) (l : f < files_of bs)
    (u : a + n ≤ h.jobs) (from : at ≡ order_size + f * file_size h + head_size h + a * job_size h + 6 + 8) (apart : size ≡ job_size h)
    (same : h.params.d ≡ d) where
  high : d ≤ 6
  high = omega (arith, same, (ranges-of bs (bundle-ok bs z) h e).book.d-high)

  -- they are within the bytes; where there are none, `at` may be past the last job
  pub run-within : (size ≤ 62) × (at + n * size + 8 * d ≤ length bs + size)
  unfolding record_size job_len_of word_size place_at file_size
  run-within =
      let w : order_size + f * file_size h + file_size h ≤ length bs = rw e (file-within bs order_size (bundle-ok bs z).files f l) in
      let p : n * size ≡ n * job_size h = rw apart in
      (omega (arith, high), omega (arith, p, w, mul-le-mul_right (job_size h) u))

  jobs-at : (i : ℕ) → job_words bs d at size i ≡ words_of bs f (a + i)
  unfolding words_of word_size
  jobs-at i =
      let p : at + i * size ≡ words_at (job_at bs f (a + i)) = rw (from, apart, job-place bs (bundle-ok bs z) h f (a + i) e) (omega arith) in
      ap₂ (words_from 8 bs) (sym same ∙ ap (λ (x : Heading). x.params.d) e) p

  long : (i : ℕ) → length (job_words bs d at size i) ≡ d
  long i = words_count 8 bs d (at + i * size)

  -- what is seen and added is the run's: x is the lent list, y what the pass leaves, r the words seen together
  pub run-told : (r : ℕ) (x y : List ℕ) → ((k : ℕ) → in_width k r ≡ every (λ i. all_in_width k (job_words bs d at size i)) n)
      × ((k : ℕ) → k ≤ 64 → reduce k (take d y) ≡ sum k x (sum_to k d (job_words bs d at size) n)) × (drop d y ≡ drop d x) →
      (in_width h.params.k r ≡ run_in_width bs f a n)
      × (reduce h.params.k (take h.params.d y) ++ drop h.params.d y ≡ added_to h.params.k x (run_total bs f a n))
  run-told r x y q =
      let k = h.params.k in
      let s = job_words bs d at size in
      let w : ℕ → Element = λ i. words_of bs f (a + i) in
      let kh : k ≤ 64 = (ranges-of bs (bundle-ok bs z) h e).book.k-high in
      let t : sum_to k d s n ≡ run_total bs f a n =
      sum_same k d s w n (λ i m. jobs-at i)
      ∙ ap (λ (x : ℕ). sum_to k x w n) (sym same)
      ∙ ap (λ (x : Heading). sum_to x.params.k x.params.d w n) e in
      let l : length (run_total bs f a n) ≡ d = ap length (sym t) ∙ sum-length k d s n (λ i m. long i) in (
        q.0 k
            ∙ every-same (λ i. all_in_width k (s i)) (λ i. all_in_width k (w i)) n (λ i m. ap (all_in_width k) (jobs-at i))
            ∙ ap (λ (x : Heading). every (λ i. all_in_width x.params.k (w i)) n) e,
        ap (λ (x : ℕ). reduce k (take x y) ++ drop x y) same
            ∙ ap₂ ◌++◌ (q.1 k kh ∙ ap (sum k x) t) (q.2 ∙ ap (λ (z : ℕ). drop z x) (sym l)),
      )

-- ---- the total

pub total-length : (bs : List ℕ) (f a n : ℕ) → length (run_total bs f a n) ≡ (params_of bs).d
total-length bs f a n = sum-length (params_of bs).k (params_of bs).d (λ i. words_of bs f (a + i)) n (λ i l. words_length bs f (a + i))

-- by a heading that is the bundle's: added to as many words, stored where it was added to zeros, and taken off
module _ (bs : List ℕ) (h : Heading) (e : h ≡ bundle_heading bs) (f a n : ℕ) where
  abbrev k : ℕ
  k = h.params.k

  abbrev t : Element
  t = run_total bs f a n

  run_length : length t ≡ h.params.d
  run_length = total-length bs f a n ∙ ap (λ (x : Heading). x.params.d) (sym e)

  pub run-added : (ws x : List ℕ) → length ws ≡ h.params.d → x ≡ added_to h.params.k ws (run_total bs f a n) →
      x ≡ sum h.params.k ws (run_total bs f a n)
  run-added ws x l q = q ∙ added-whole k ws t (l ∙ sym run_length)

  pub run-held : h.params.d ≤ 6 → added_to h.params.k (zero_e 6) (run_total bs f a n) ≡ held h.params.d (run_total bs f a n)
  run-held u =
      added-zeros k h.params.d t u run_length (rw e (sum-width (params_of bs).k (params_of bs).d (λ i. words_of bs f (a + i)) n))

  pub run-stored : (out x y : List ℕ) → h.params.d ≤ 6 → length out ≡ h.params.d → x ≡ added_to h.params.k (zero_e 6) (run_total bs f a n) →
      y ≡ take 0 out ++ take h.params.d x ++ drop (0 + h.params.d) out → y ≡ run_total bs f a n
  run-stored out x y u l q r = r ∙ stored h.params.d out x t l (q ∙ run-held u) run_length

  pub run-undone : (ws x y : List ℕ) → length ws ≡ h.params.d → all_in_width h.params.k ws ≡ true →
      x ≡ added_to h.params.k ws (run_total bs f a n) → y ≡ difference h.params.k x (run_total bs f a n) → y ≡ ws
  run-undone ws x y l w q r =
      r ∙ ap (λ (x : List ℕ). difference k x t) (run-added ws x l q) ∙ taken-off k ws t (l ∙ sym run_length) w

  -- by the pass that adds: x is the negative of the words, y that with the run added, z the negative of y
  pub run-taken : (ws x y z : List ℕ) → length ws ≡ h.params.d → length x ≡ length ws → length y ≡ length x →
      x ≡ difference h.params.k (zero_e (length ws)) ws → y ≡ added_to h.params.k x (run_total bs f a n) →
      z ≡ difference h.params.k (zero_e (length y)) y → z ≡ difference h.params.k ws (run_total bs f a n)
  run-taken ws x y z l m o p q r =
      r
      ∙ ap₂ (λ (i : ℕ) (w : List ℕ). difference k (zero_e i) w) (o ∙ m ∙ l)
      (run-added x y (m ∙ l) q ∙ ap (λ (w : List ℕ). sum k w t) (p ∙ ap (λ (i : ℕ). difference k (zero_e i) ws) l))
      ∙ negative-added k h.params.d ws t l run_length

-- an empty run is in width
pub width-start : (bs : List ℕ) (f a : ℕ) → run_in_width bs f a (a - a) ≡ true
width-start bs f a =
    let z : a - a ≡ 0 = omega arith in
    rw z (every-none (λ i. all_in_width (params_of bs).k (words_of bs f (a + i))))
