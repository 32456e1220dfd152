-- Two bundles that differ in their words alone: the bytes of one job's words written over the other's make it that one (`put-words`), and bytes
-- outside the words that differ are equal (`outside-words`). Assumes nothing.
use mathlib.Core.Path.{◌≡◌, refl, sym, ap, ap₂, ◌∙◌}
use Prim.Native.Nat.{ℕ, zero, suc, ◌+◌, ◌-◌, ◌*◌, ◌≤◌, ◌<◌}
use native.Mathlib.Omega.{arith}
use native.Mathlib.Decide.{dec_le}
use mathlib.Core.List.{List, [], ◌∷◌, ◌++◌}
use lib.ListN.{length, get_or, take, drop, length-append, length-drop, take-append-drop, get_or-append}
use lib.Seq.{length-take-le, get_or-take, get_or-drop, get_or-append-add, drop-drop, ext_get_or}
use Rattle.words.specs.declared.Params.{Params}
use Rattle.records.specs.Num.{Bytes, le_bytes}
use Rattle.records.specs.Layout.{body_at, words_at, record_size, body_size, head_size, word_size, job_kind, job_len_of, job_len, job_size, file_size, order_size}
use Rattle.records.specs.declared.Heading.{Heading}
use Rattle.records.proofs.Num.{length-le_bytes, part-get_or}
use Rattle.galois.specs.Element.{Element}
use Rattle.bundle.specs.Bundle.{bundle_fault, bundle_heading, files_of, file_at, place_at, job_at}
use Rattle.bundle.specs.Acceptance.{Same}
use Rattle.bundle.specs.Contents.{Job, File, file_from, files_from, bundle_from, words_of}
use Rattle.bundle.proofs.Headings.{same_head, same-job}
use Rattle.bundle.proofs.Bundles.{bundle-ok, same_at, job-within}
use Rattle.bundle.proofs.Contents.{jobs-count}
use Rattle.writer.specs.Bytes.{record_bytes, heading_bytes, words_bytes, job_body, job_bytes, jobs_bytes, file_bytes, files_bytes, order_bytes, bundle_bytes}
use Rattle.writer.specs.ByPlace.{file_no, job_no}
use Rattle.writer.proofs.Fits.{heading-length, words_length, job-body-length, job-length, order-length}
use Rattle.writer.proofs.ByPlace.{accepted-reads}
use Rattle.mending.specs.Mended.{reword_jobs, reword_files, reword_bundle, reworded}
use Rattle.mending.proofs.Words.{Fitting, reworded-accepted, reworded-bytes, reworded-length, reworded-files, reworded-first, reworded-words}

-- ---- lists of bytes

after : (a c : List ℕ) (n k : ℕ) → length a ≡ n → get_or (a ++ c) (n + k) 0 ≡ get_or c k 0
after a c n k l = rw (sym l) (get_or-append-add a c k 0)

-- two lists of two parts, the first parts equally long, have the same byte if the parts it is in have
both : (a b c d : List ℕ) (n i : ℕ) → length a ≡ n → length b ≡ n → (i < n → get_or a i 0 ≡ get_or b i 0) →
    ((k : ℕ) → i ≡ n + k → get_or c k 0 ≡ get_or d k 0) → get_or (a ++ c) i 0 ≡ get_or (b ++ d) i 0
both a b c d n i la lb x y =
    elim (dec_le (suc i) n) [
      | yes l ↦ get_or-append a c 0 i (omega arith) ∙ x l ∙ sym (get_or-append b d 0 i (omega arith))
      | no l ↦ (let e : i ≡ n + (i - n) = omega arith in
          ap (λ (m : ℕ). get_or (a ++ c) m 0) e
          ∙ after a c n (i - n) la
          ∙ y (i - n) e
          ∙ sym (after b d n (i - n) lb)
          ∙ ap (λ (m : ℕ). get_or (b ++ d) m 0) (sym e))
    ]

-- x with s written from at on is y, if s stands there in y and x is y everywhere else
module _ (at n : ℕ) (s x y : List ℕ) (l : length s ≡ n) (fits : at + n ≤ length x) (e : length x ≡ length y)
    (there : (k : ℕ) → k < n → get_or s k 0 ≡ get_or y (at + k) 0) (else : (i : ℕ) → (at ≤ i → i < at + n → ⊥) → get_or x i 0 ≡ get_or y i 0) where
  over-same : take at x ++ (s ++ drop (at + n) x) ≡ y
  over-same =
      let lx : length (take at x) ≡ at = length-take-le at x (omega arith) in
      let ly : length (take at y) ≡ at = length-take-le at y (omega arith) in
      let ls : length (take n (drop at y)) ≡ n = length-take-le n (drop at y) (omega (arith, length-drop at y)) in
      let before : take at x ≡ take at y =
      ext_get_or 0 (take at x) (take at y) (lx ∙ sym ly)
      (λ i h. get_or-take at x i 0 (omega arith) ∙ else i (λ p q. omega arith) ∙ sym (get_or-take at y i 0 (omega arith))) in
      let here : s ≡ take n (drop at y) =
      ext_get_or 0 s (take n (drop at y)) (l ∙ sym ls)
      (λ k h. there k (omega arith) ∙ sym (get_or-take n (drop at y) k 0 (omega arith) ∙ get_or-drop at y k 0)) in
      let behind : drop (at + n) x ≡ drop (at + n) y =
      ext_get_or 0 (drop (at + n) x) (drop (at + n) y) (omega (arith, length-drop (at + n) x, length-drop (at + n) y))
      (λ k h. get_or-drop (at + n) x k 0 ∙ else (at + n + k) (λ p q. omega arith) ∙ sym (get_or-drop (at + n) y k 0)) in
      ap₂ ◌++◌ before (ap₂ ◌++◌ here (behind ∙ sym (drop-drop n at y)) ∙ take-append-drop n (drop at y)) ∙ take-append-drop at y

-- ---- a job, and jobs one after another

job-same : (h : Heading) (num : ℕ) (x y : Element) (i : ℕ) → length x ≡ h.params.d → length y ≡ h.params.d → (words_at 0 ≤ i → x ≡ y) →
    get_or (job_bytes h (record { num = num; words = x })) i 0 ≡ get_or (job_bytes h (record { num = num; words = y })) i 0
unfolding job_bytes record_bytes job_body
job-same h num x y i lx ly e =
    let jx : Job = record { num = num; words = x } in
    let jy : Job = record { num = num; words = y } in
    both (le_bytes 4 (2 + length (job_body h jx))) (le_bytes 4 (2 + length (job_body h jy))) _ _ 4 i (length-le_bytes 4 _) (length-le_bytes 4 _)
    (λ l. ap (λ (m : ℕ). get_or (le_bytes 4 m) i 0) (job-body-length h jx lx ∙ sym (job-body-length h jy ly)))
    (λ k p. both (le_bytes 2 job_kind) (le_bytes 2 job_kind) _ _ 2 k (length-le_bytes 2 _) (length-le_bytes 2 _) (λ l. refl)
    (λ m q. both (le_bytes 8 num) (le_bytes 8 num) _ _ 8 m (length-le_bytes 8 _) (length-le_bytes 8 _) (λ l. refl)
    (λ n r. ap (λ (ws : List ℕ). get_or (words_bytes (word_size h) ws) n 0) (e (omega arith)))))

-- as many words as a heading says, for n places
abbrev Counts : Heading → ℕ → (ℕ → Element) → Type 0
Counts h n x = (q : ℕ) → q < n → length (x q) ≡ h.params.d

module _ (h : Heading) (n : ℕ) (x : ℕ → Element) (cx : Counts h n x) where
  jobs-length : (js : List Job) (p : ℕ) → p + length js ≡ n → length (jobs_bytes h (reword_jobs x p js)) ≡ length js * job_size h
  unfolding jobs_bytes reword_jobs
  jobs-length [] p e = omega arith
  jobs-length (j ∷ js) p e =
      let c : Job = record { num = j.num; words = x p } in
      length-append (job_bytes h c) (jobs_bytes h (reword_jobs x (suc p) js))
      ∙ ap₂ ◌+◌ (job-length h c (cx p (omega arith))) (jobs-length js (suc p) (omega arith))
      ∙ omega arith

  module _ (y : ℕ → Element) (cy : Counts h n y) (i : ℕ)
      (s : (q : ℕ) → q < n → words_at (q * job_size h) ≤ i → i < q * job_size h + job_size h → x q ≡ y q) where
    jobs-same : (js : List Job) (p k : ℕ) → p + length js ≡ n → i ≡ p * job_size h + k →
        get_or (jobs_bytes h (reword_jobs x p js)) k 0 ≡ get_or (jobs_bytes h (reword_jobs y p js)) k 0
    unfolding jobs_bytes reword_jobs
    jobs-same [] p k e a = refl
    jobs-same (j ∷ js) p k e a =
        let l : p < n = omega arith in
        both (job_bytes h (record { num = j.num; words = x p })) (job_bytes h (record { num = j.num; words = y p })) _ _ (job_size h) k
        (job-length h _ (cx p l)) (job-length h _ (cy p l))
        (λ m. job-same h j.num (x p) (y p) k (cx p l) (cy p l) (λ o. s p l (omega arith) (omega arith)))
        (λ m o. jobs-same js (suc p) m (omega arith) (omega arith))

-- ---- a file, with given words in its jobs

module _ (a : Heading) (g : File) (s : Same a g.heading) (c : length g.jobs ≡ a.jobs) where
  abbrev filled : (ℕ → Element) → File
  filled x = record { heading = g.heading; jobs = reword_jobs x 0 g.jobs }

  own : (x : ℕ → Element) → Counts a a.jobs x → Counts g.heading a.jobs x
  own x cx q l = cx q l ∙ ap (λ (p : Params). p.d) s.params_is

  filled-length : (x : ℕ → Element) → Counts a a.jobs x → length (file_bytes (filled x)) ≡ file_size a
  unfolding file_bytes file_size
  filled-length x cx =
      let h = g.heading in
      length-append (heading_bytes h) (jobs_bytes h (reword_jobs x 0 g.jobs))
      ∙ ap₂ ◌+◌ (heading-length h ∙ sym (same_head a h s)) (jobs-length h a.jobs x (own x cx) g.jobs 0 (omega arith)
      ∙ ap₂ (λ (m o : ℕ). m * record_size o) c (sym (same-job a h s)))

  filled-same : (x y : ℕ → Element) → Counts a a.jobs x → Counts a a.jobs y → (i : ℕ) →
      ((q : ℕ) → q < a.jobs → words_at (head_size a + q * job_size a) ≤ i → i < head_size a + q * job_size a + job_size a → x q ≡ y q) →
      get_or (file_bytes (filled x)) i 0 ≡ get_or (file_bytes (filled y)) i 0
  unfolding file_bytes
  filled-same x y cx cy i e =
      let h = g.heading in
      let z : job_size a ≡ job_size h = ap record_size (same-job a h s) in
      both (heading_bytes h) (heading_bytes h) _ _ (head_size a) i (heading-length h ∙ sym (same_head a h s)) (heading-length h ∙ sym (same_head a h s))
      (λ l. refl)
      (λ k o. jobs-same h a.jobs x (own x cx) y (own y cy) k
      (λ q l m r. (let t : q * job_size a ≡ q * job_size h = ap (λ (n : ℕ). q * n) z in e q l (omega arith) (omega arith)))
      g.jobs 0 k (omega arith) (omega arith))

-- ---- a bundle that has no fault

module _ (bs : List ℕ) (z : bundle_fault bs ≡ 0) (u w : ℕ → ℕ → Element) (ku : Fitting bs u) (kw : Fitting bs w) (i : ℕ)
    (e : (f p : ℕ) → f < files_of bs → p < (bundle_heading bs).jobs → words_at (job_at bs f p) ≤ i → i < job_at bs f p + job_size (bundle_heading bs) →
    u f p ≡ w f p) where
  abbrev a : Heading
  a = bundle_heading bs

  files-same : (n f at k : ℕ) → f + n ≡ files_of bs → at ≡ file_at bs f → i ≡ at + k →
      get_or (files_bytes (reword_files u f (files_from bs (file_size a) n at))) k 0 ≡ get_or (files_bytes (reword_files w f (files_from bs (file_size a) n at))) k 0
  unfolding files_bytes reword_files files_from file_from place_at job_at
  files-same zero f at k c p o = refl
  files-same (suc n) f at k c p o =
      let l : f < files_of bs = omega arith in
      let g = file_from bs at in
      let s : Same a g.heading = rw p (same_at bs order_size (bundle-ok bs z).files f l) in
      let m : length g.jobs ≡ a.jobs = jobs-count g.heading bs _ _ ∙ sym s.jobs_is in
      let cu : Counts a a.jobs (u f) = λ q t. (ku f q l t).count in
      let cw : Counts a a.jobs (w f) = λ q t. (kw f q l t).count in
      both (file_bytes (filled a g s m (u f))) (file_bytes (filled a g s m (w f))) _ _ (file_size a) k
      (filled-length a g s m (u f) cu) (filled-length a g s m (w f) cw)
      (λ r. filled-same a g s m (u f) (w f) cu cw k (λ q t x y. e f q l t (omega arith) (omega arith)))
      (λ m r. files-same n (suc f) (at + file_size a) m (omega arith) (omega arith) (omega arith))

-- the bytes of a job's words stand where its words are read
stands : (bs : List ℕ) (z : bundle_fault bs ≡ 0) (b : Bytes bs) (f p : ℕ) → f < files_of bs → p < (bundle_heading bs).jobs → (k : ℕ) →
    let h = bundle_heading bs in
    k < word_size h * h.params.d → get_or (words_bytes (word_size h) (words_of bs f p)) k 0 ≡ get_or bs (words_at (job_at bs f p) + k) 0
unfolding job_body body_size job_len_of
stands bs z b f p lf lp k l =
    let h = bundle_heading bs in
    let at = body_at (job_at bs f p) in
    let a = accepted-reads bs z in
    let j = job_no (file_no (bundle_from bs) f) p in
    let e : at + (8 + k) ≡ at + 8 + k = omega arith in
    ap (λ (ws : List ℕ). get_or (words_bytes (word_size h) ws) k 0) (a.words f p lf lp)
    ∙ sym (after (le_bytes 8 j.num) (words_bytes (word_size h) j.words) 8 k (length-le_bytes 8 j.num))
    ∙ ap (λ (x : List ℕ). get_or x (8 + k) 0) (sym (a.body b f p lf lp))
    ∙ part-get_or bs at (body_size (job_len h)) (8 + k) (omega arith)
    ∙ ap (λ (m : ℕ). get_or bs m 0) e

module _ (bs : List ℕ) (z : bundle_fault bs ≡ 0) (b : Bytes bs) (u w : ℕ → ℕ → Element) (ku : Fitting bs u) (kw : Fitting bs w) where
  pub outside-words : (i : ℕ) →
      ((f p : ℕ) → f < files_of bs → p < (bundle_heading bs).jobs → words_at (job_at bs f p) ≤ i → i < job_at bs f p + job_size (bundle_heading bs) →
      u f p ≡ w f p) → get_or (reworded bs u) i 0 ≡ get_or (reworded bs w) i 0
  unfolding bundle_bytes reword_bundle bundle_from place_at
  outside-words i e =
      both (order_bytes _) (order_bytes _) _ _ order_size i (order-length _) (order-length _) (λ l. refl)
      (λ k o. files-same bs z u w ku kw i e (files_of bs) 0 order_size k (omega arith) (omega arith) (omega arith))

  -- so do those of given words, at the same place, in the bundle that has them
  new-stands : (f p : ℕ) → f < files_of bs → p < (bundle_heading bs).jobs → (k : ℕ) →
      let h = bundle_heading bs in
      k < word_size h * h.params.d → get_or (words_bytes (word_size h) (w f p)) k 0 ≡ get_or (reworded bs w) (words_at (job_at bs f p) + k) 0
  unfolding job_at place_at
  new-stands f p lf lp k l =
      let r = reworded bs w in
      let e : bundle_heading r ≡ bundle_heading bs = reworded-first bs z b w kw in
      let at : job_at r f p ≡ job_at bs f p = ap (λ (h : Heading). order_size + f * file_size h + head_size h + p * job_size h) e in
      ap₂ (λ (h : Heading) (ws : List ℕ). get_or (words_bytes (word_size h) ws) k 0) (sym e) (sym (reworded-words bs z b w kw f p lf lp))
      ∙ stands r (reworded-accepted bs z b w kw) (reworded-bytes bs z b w kw) f p (rw (reworded-files bs z b w kw) lf) (rw e lp) k (rw e l)
      ∙ ap (λ (m : ℕ). get_or r (words_at m + k) 0) at

  pub put-words : (f p : ℕ) → f < files_of bs → p < (bundle_heading bs).jobs →
      ((g q : ℕ) → g < files_of bs → q < (bundle_heading bs).jobs → (g ≡ f → q ≡ p → ⊥) → u g q ≡ w g q) →
      let h = bundle_heading bs in
      let at = words_at (job_at bs f p) in
      take at (reworded bs u) ++ (words_bytes (word_size h) (w f p) ++ drop (at + word_size h * h.params.d) (reworded bs u)) ≡ reworded bs w
  unfolding record_size job_len_of
  put-words f p lf lp e =
      let h = bundle_heading bs in
      let at = words_at (job_at bs f p) in
      let n = word_size h * h.params.d in
      let lu : length (reworded bs u) ≡ length bs = reworded-length bs z b u ku in
      let lw : length (reworded bs w) ≡ length bs = reworded-length bs z b w kw in
      let s = words_bytes (word_size h) (w f p) in
      let m : length s ≡ n = words_length (word_size h) (w f p) ∙ ap (λ (c : ℕ). word_size h * c) (kw f p lf lp).count in
      over-same at n s (reworded bs u) (reworded bs w) m
      (omega (arith, job-within bs (bundle-ok bs z) f p lf lp)) (lu ∙ sym lw) (new-stands f p lf lp)
      (λ i o. outside-words i (λ g q lg lq lo hi. e g q lg lq
      (λ eg eq. (let c : job_at bs g q ≡ job_at bs f p = ap₂ (job_at bs) eg eq in o (omega arith) (omega arith)))))
