-- Laws of the writer's lists: numbers that rise, words and jobs one by one, and each case of the fault. Assumes nothing.
use mathlib.Core.Path.{◌≡◌, refl, sym, ap, ap₂, ◌∙◌}
use Prim.Native.Nat.{ℕ, zero, suc, ◌+◌, ◌*◌, ◌≤◌, ◌<◌}
use native.Mathlib.Nat.{not-suc-le-zero}
use native.Mathlib.Numerals.{add-one}
use native.Mathlib.Omega.{arith}
use mathlib.Core.List.{List, [], ◌∷◌, ◌++◌, append_assoc, append-nil}
use mathlib.Core.Bool.{Bool, true, false}
use lib.ListN.{length, get_or, take, drop, length-drop, length-append}
use lib.Seq.{take-suc, length-take-le, drop-drop}
use lib.Dec.{ltb, eqb, lit<}
use borrow.Author.Tests.{lt-ltb, ltb-true, eq-eqb, eqb-true}
use Rattle.std.specs.List.{IsAllAdjacentAnswer}
use Rattle.words.specs.Refusal.{first, unless}
use Rattle.words.specs.Faults.{width_fault}
use Rattle.words.specs.Word.{all_in_width}
use Rattle.words.proofs.Tests.{and_left, and_right, and_both, and_yes, not-held, true-false}
use Rattle.words.proofs.Refusals.{pass, stop, first-left, first-right, unless-held, unless-yes}
use Rattle.records.specs.Num.{le_bytes}
use Rattle.records.specs.Layout.{head_kind, head_len, word_size, job_kind, job_len, job_size, file_size, order_kind, order_len}
use Rattle.bundle.specs.Bundle.{ranges_ok, holder_ok}
use Rattle.bundle.specs.Contents.{Job}
use Rattle.records.specs.declared.Heading.{Heading}
use Rattle.writer.specs.Bytes.{record_bytes, heading_body, heading_bytes, words_bytes, job_body, job_bytes, jobs_bytes, order_bytes}
use Rattle.writer.specs.Write.{rising, job_of, jobs_of, sizes_ok, write_fault}
use Rattle.writer.proofs.Fits.{heading-body-length, job-body-length, job-length}

-- ---- numbers that rise

pub rising-at : (ns : List ℕ) (p : ℕ) → rising ns ≡ true → suc p < length ns → get_or ns p 0 < get_or ns (suc p) 0
unfolding rising
rising-at [] p e l = absurd (not-suc-le-zero l)
rising-at (x ∷ []) p e l = absurd (omega arith)
rising-at (x ∷ y ∷ ns) zero e l = ltb-true x y (and_left (ltb x y) _ e)
rising-at (x ∷ y ∷ ns) (suc p) e l = rising-at (y ∷ ns) p (and_right (ltb x y) _ e) (omega arith)

pub at-rising : (ns : List ℕ) → ((p : ℕ) → suc p < length ns → get_or ns p 0 < get_or ns (suc p) 0) → rising ns ≡ true
unfolding rising
at-rising [] f = refl
at-rising (x ∷ []) f = refl
at-rising (x ∷ y ∷ ns) f =
    and_yes (ltb x y) (rising (y ∷ ns)) (lt-ltb x y (f 0 (omega arith))) (at-rising (y ∷ ns) (λ p l. f (suc p) (omega arith)))

-- what a test of all neighbours answers
pub rising-told : (ns : List ℕ) (r : Bool) → IsAllAdjacentAnswer (λ x y b. b ≡ ltb x y) ns r → r ≡ rising ns
rising-told ns true h = sym (at-rising ns (λ p l. ltb-true _ _ (sym (rw add-one at (h p 0 (omega arith))))))
rising-told ns false h =
    sym (not-held (rising ns) (λ e. true-false (sym (lt-ltb _ _ (rising-at ns h.0 e (omega (arith, h.1)))) ∙ sym (rw add-one at (h.2 0)))))

-- ---- words one by one

words_append : (w : ℕ) (xs ys : List ℕ) → words_bytes w (xs ++ ys) ≡ words_bytes w xs ++ words_bytes w ys
unfolding words_bytes
words_append w [] ys = refl
words_append w (x ∷ xs) ys = ap (λ (l : List ℕ). le_bytes w x ++ l) (words_append w xs ys) ∙ sym
    (append_assoc (le_bytes w x) (words_bytes w xs) (words_bytes w ys))

pub words_more : (w : ℕ) (ws : List ℕ) (i : ℕ) → i < length ws → words_bytes w (take (i + 1) ws) ≡ words_bytes w (take i ws) ++ le_bytes w (get_or ws i 0)
unfolding words_bytes
words_more w ws i h =
    rw add-one
    (ap (words_bytes w) (take-suc ws i 0 h) ∙ words_append w (take i ws) (get_or ws i 0 ∷ [])
    ∙ ap (λ (l : List ℕ). words_bytes w (take i ws) ++ l) (append-nil (le_bytes w (get_or ws i 0))))

-- ---- the pieces of a heading and of a job

pub heading-pieces : (h : Heading) → let p = h.params in
    ((((le_bytes 4 (head_len h) ++ le_bytes 2 (head_kind h)) ++ (p.k ∷ p.d ∷ p.n ∷ p.t ∷ [])) ++ (h.holder ∷ [])) ++ le_bytes 8 h.archive) ++
    le_bytes 4 h.jobs
    ≡ heading_bytes h
unfolding heading_bytes record_bytes heading_body
heading-pieces h = simp append_assoc (ap (λ (n : ℕ). le_bytes 4 n ++ (le_bytes 2 (head_kind h) ++ heading_body h)) (sym (heading-body-length h)))

pub job-pieces : (h : Heading) (n : ℕ) (ws : List ℕ) → length ws ≡ h.params.d →
    ((le_bytes 4 (job_len h) ++ le_bytes 2 job_kind) ++ le_bytes 8 n) ++ words_bytes 8 ws ≡ job_bytes h (job_of n ws)
unfolding job_bytes record_bytes job_body word_size
job-pieces h n ws c =
    simp append_assoc (ap (λ (m : ℕ). le_bytes 4 m ++ (le_bytes 2 job_kind ++ job_body h (job_of n ws))) (sym (job-body-length h (job_of n ws) c)))

-- ---- jobs one by one

jobs-append : (h : Heading) (xs ys : List Job) → jobs_bytes h (xs ++ ys) ≡ jobs_bytes h xs ++ jobs_bytes h ys
unfolding jobs_bytes
jobs-append h [] ys = refl
jobs-append h (x ∷ xs) ys = ap (λ (l : List ℕ). job_bytes h x ++ l) (jobs-append h xs ys) ∙ sym
    (append_assoc (job_bytes h x) (jobs_bytes h xs) (jobs_bytes h ys))

pub jobs-count : (d : ℕ) (ns ws : List ℕ) → length (jobs_of d ns ws) ≡ length ns
unfolding jobs_of
jobs-count d [] ws = refl
jobs-count d (n ∷ ns) ws = ap suc (jobs-count d ns (drop d ws))

-- job p of lent lists
pub jobs-at : (d : ℕ) (ns ws : List ℕ) (p : ℕ) (z : Job) → p < length ns → get_or (jobs_of d ns ws) p z ≡ job_of (get_or ns p 0) (take d (drop (p * d) ws))
unfolding jobs_of
jobs-at d [] ws p z l = absurd (not-suc-le-zero l)
jobs-at d (n ∷ ns) ws zero z l =
    let e : 0 * d ≡ 0 = omega arith in
    rw e
jobs-at d (n ∷ ns) ws (suc p) z l =
    let e : d + p * d ≡ suc p * d = omega arith in
    jobs-at d ns (drop d ws) p z (omega arith)
    ∙ ap (λ (r : List ℕ). job_of (get_or ns p 0) (take d r)) (drop-drop (p * d) d ws ∙ ap (λ (m : ℕ). drop m ws) e)

pub jobs-more : (h : Heading) (d : ℕ) (ns ws : List ℕ) (p : ℕ) → p < length ns →
    jobs_bytes h (take (p + 1) (jobs_of d ns ws)) ≡ jobs_bytes h (take p (jobs_of d ns ws)) ++ job_bytes h (job_of (get_or ns p 0) (take d (drop (p * d) ws)))
unfolding jobs_bytes
jobs-more h d ns ws p l =
    let z = job_of 0 [] in
    let js = jobs_of d ns ws in
    let l' : p < length js = omega (arith, jobs-count d ns ws) in
    rw add-one
    (ap (jobs_bytes h) (take-suc js p z l') ∙ jobs-append h (take p js) (get_or js p z ∷ [])
    ∙ ap (λ (x : List ℕ). jobs_bytes h (take p js) ++ x) (append-nil (job_bytes h (get_or js p z)) ∙ ap (job_bytes h) (jobs-at d ns ws p z l)))

-- the words of job p
pub job-words : (d : ℕ) (ws : List ℕ) (from : ℕ) → from + d ≤ length ws → length (take d (drop from ws)) ≡ d
job-words d ws from h = length-take-le d (drop from ws) (rw length-drop (omega arith))

-- ---- the fault of a call of the file writer, case by case

module _ (h : Heading) (ns ws : List ℕ) (size : ℕ) where
  pub write-1 : ranges_ok h ≡ false → write_fault h ns ws size ≡ 1
  unfolding write_fault
  write-1 e = stop (ranges_ok h) 1 _ (lit< tt) e

  pub write-rest : ranges_ok h ≡ true → write_fault h ns ws size ≡
      first (unless (sizes_ok h (length ws) size) 2) (first (unless (holder_ok 0 h) 4) (first (unless (rising ns) 7) (width_fault h.params.k ws)))
  unfolding write_fault
  write-rest a = pass (ranges_ok h) 1 _ a

-- what a call that writes says of its lists
pub record Writable (h : Heading) (ns ws : List ℕ) (size : ℕ) : Type 0 where
  pub ranges : ranges_ok h ≡ true
  pub count : length ws ≡ h.jobs * h.params.d
  pub room : size ≡ file_size h
  pub holder : holder_ok 0 h ≡ true
  pub rises : rising ns ≡ true
  pub width : all_in_width h.params.k ws ≡ true

module _ (h : Heading) (ns ws : List ℕ) (size : ℕ) where
  pub writable : write_fault h ns ws size ≡ 0 → Writable h ns ws size
  unfolding write_fault sizes_ok width_fault
  writable e₁ =
      let e₂ = first-right (unless (ranges_ok h) 1) _ e₁ in
      let e₃ = first-right (unless (sizes_ok h (length ws) size) 2) _ e₂ in
      let e₄ = first-right (unless (holder_ok 0 h) 4) _ e₃ in
      let s = unless-held (sizes_ok h (length ws) size) 2 (lit< tt) (first-left (unless (sizes_ok h (length ws) size) 2) _ e₂) in
      record {
        ranges = unless-held (ranges_ok h) 1 (lit< tt) (first-left (unless (ranges_ok h) 1) _ e₁);
        count = eqb-true _ _ (and_left (eqb (length ws) (h.jobs * h.params.d)) _ s);
        room = eqb-true _ _ (and_right (eqb (length ws) (h.jobs * h.params.d)) _ s);
        holder = unless-held (holder_ok 0 h) 4 (lit< tt) (first-left (unless (holder_ok 0 h) 4) _ e₃);
        rises = unless-held (rising ns) 7 (lit< tt) (first-left (unless (rising ns) 7) _ e₄);
        width = unless-held (all_in_width h.params.k ws) 3 (lit< tt) (first-right (unless (rising ns) 7) _ e₄);
      }

  pub writes : Writable h ns ws size → write_fault h ns ws size ≡ 0
  unfolding sizes_ok width_fault
  writes w =
      write-rest h ns ws size w.ranges
      ∙ pass (sizes_ok h (length ws) size) 2 _ (and_both _ _ (eq-eqb _ _ w.count) (eq-eqb _ _ w.room))
      ∙ pass (holder_ok 0 h) 4 _ w.holder
      ∙ pass (rising ns) 7 _ w.rises
      ∙ unless-yes (all_in_width h.params.k ws) 3 w.width

-- the bytes of jobs from lent lists
pub jobs-bytes : (h : Heading) (ns ws : List ℕ) → length ns * h.params.d ≤ length ws →
    length (jobs_bytes h (jobs_of h.params.d ns ws)) ≡ length ns * job_size h
unfolding jobs_bytes jobs_of
jobs-bytes h [] ws l = omega arith
jobs-bytes h (n ∷ ns) ws l =
    let d = h.params.d in
    let j = job_of n (take d ws) in
    let r = jobs_bytes h (jobs_of d ns (drop d ws)) in
    let c : length (take d ws) ≡ d = length-take-le d ws (omega arith) in
    let k : length ns * d ≤ length (drop d ws) = rw length-drop (omega arith) in
    length-append (job_bytes h j) r ∙ ap₂ ◌+◌ (job-length h j c) (jobs-bytes h ns (drop d ws) k) ∙ omega arith

-- ---- the pieces of an order

pub order-pieces : (e : ℕ) → (le_bytes 4 order_len ++ le_bytes 2 order_kind) ++ (e ∷ []) ≡ order_bytes e
unfolding order_bytes record_bytes
order-pieces e = append_assoc (le_bytes 4 order_len) (le_bytes 2 order_kind) (e ∷ [])
