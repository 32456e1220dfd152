-- Bundles with other words, as values: the words alone are others (`file-no-with`, `job-no-with`), with its own words a bundle is itself
-- (`bundle-own`), and with words that fit it can be written as before (`chain-fit`). Assumes nothing.
use mathlib.Core.Path.{◌≡◌, refl, sym, ap, ap₂, subst, ◌∙◌}
use Prim.Native.Nat.{ℕ, zero, suc, ◌^◌, ◌≤◌, ◌<◌}
use native.Mathlib.Omega.{arith}
use mathlib.Core.List.{List, [], ◌∷◌}
use lib.ListN.{length, get_or}
use Rattle.words.specs.declared.Params.{Params}
use Rattle.records.specs.Layout.{word_size}
use Rattle.records.specs.declared.Heading.{Heading}
use Rattle.galois.specs.Element.{Element}
use Rattle.bundle.specs.Acceptance.{Same}
use Rattle.bundle.specs.Contents.{Job, File, Bundle}
use Rattle.bundle.proofs.Headings.{same_word}
use Rattle.writer.specs.Write.{job_of, numbers_in}
use Rattle.writer.specs.Fits.{AllFit, no_job, a_job, FileFits, Chain, done, next, BundleFits}
use Rattle.writer.specs.ByPlace.{file_no, job_no}
use Rattle.mending.specs.Mended.{reword_jobs, reword_files, reword_bundle}

-- ---- jobs

module _ (w : ℕ → Element) where
  jobs-length : (p : ℕ) (js : List Job) → length (reword_jobs w p js) ≡ length js
  unfolding reword_jobs
  jobs-length p [] = refl
  jobs-length p (j ∷ js) = ap suc (jobs-length (suc p) js)

  pub jobs-numbers : (p : ℕ) (js : List Job) → numbers_in (reword_jobs w p js) ≡ numbers_in js
  unfolding reword_jobs
  jobs-numbers p [] = refl
  jobs-numbers p (j ∷ js) = ap (λ (ns : List ℕ). j.num ∷ ns) (jobs-numbers (suc p) js)

  jobs-twice : (u : ℕ → Element) (p q : ℕ) (js : List Job) → reword_jobs w p (reword_jobs u q js) ≡ reword_jobs w p js
  unfolding reword_jobs
  jobs-twice u p q [] = refl
  jobs-twice u p q (j ∷ js) = ap (λ (l : List Job). job_of j.num (w p) ∷ l) (jobs-twice u (suc p) (suc q) js)

  -- so that laws by recursion on the jobs begin at place 0
  jobs-shift : (p : ℕ) (js : List Job) → reword_jobs w (suc p) js ≡ reword_jobs (λ i. w (suc i)) p js
  unfolding reword_jobs
  jobs-shift p [] = refl
  jobs-shift p (j ∷ js) = ap (λ (l : List Job). job_of j.num (w (suc p)) ∷ l) (jobs-shift (suc p) js)

abbrev job_in : List Job → ℕ → Job
job_in js p = get_or js p (job_of 0 [])

job-with : (w : ℕ → Element) (js : List Job) (p : ℕ) → p < length js → job_in (reword_jobs w 0 js) p ≡ job_of (job_in js p).num (w p)
unfolding reword_jobs
job-with w [] p l = absurd (omega arith)
job-with w (j ∷ js) zero l = refl
job-with w (j ∷ js) (suc p) l = ap (λ (k : List Job). job_in k p) (jobs-shift w 0 js) ∙ job-with (λ i. w (suc i)) js p (omega arith)

-- their own words change nothing
jobs-own : (w : ℕ → Element) (js : List Job) → ((p : ℕ) → p < length js → w p ≡ (job_in js p).words) → reword_jobs w 0 js ≡ js
unfolding reword_jobs
jobs-own w [] e = refl
jobs-own w (j ∷ js) e =
    ap₂ (λ (ws : Element) (l : List Job). job_of j.num ws ∷ l) (e 0 (omega arith))
    (jobs-shift w 0 js ∙ jobs-own (λ i. w (suc i)) js (λ p l. e (suc p) (omega arith)))

-- job lists with the same numbers, place by place
pub numbers-same : (is js : List Job) → length is ≡ length js → ((p : ℕ) → p < length is → (job_in is p).num ≡ (job_in js p).num) →
    numbers_in is ≡ numbers_in js
numbers-same [] [] n e = refl
numbers-same [] (j ∷ js) n e = absurd (omega arith)
numbers-same (i ∷ is) [] n e = absurd (omega arith)
numbers-same (i ∷ is) (j ∷ js) n e = ap₂ ◌∷◌ (e 0 (omega arith)) (numbers-same is js (omega arith) (λ p l. e (suc p) (omega arith)))

-- ---- files

abbrev file_with : (ℕ → Element) → File → File
file_with w g = record { heading = g.heading; jobs = reword_jobs w 0 g.jobs }

module _ (w : ℕ → ℕ → Element) where
  files-length : (f : ℕ) (gs : List File) → length (reword_files w f gs) ≡ length gs
  unfolding reword_files
  files-length f [] = refl
  files-length f (g ∷ gs) = ap suc (files-length (suc f) gs)

  files-twice : (u : ℕ → ℕ → Element) (f e : ℕ) (gs : List File) → reword_files w f (reword_files u e gs) ≡ reword_files w f gs
  unfolding reword_files
  files-twice u f e [] = refl
  files-twice u f e (g ∷ gs) =
      ap₂ (λ (js : List Job) (l : List File). record { heading = g.heading; jobs = js } ∷ l) (jobs-twice (w f) (u e) 0 0 g.jobs)
      (files-twice u (suc f) (suc e) gs)

  files-shift : (f : ℕ) (gs : List File) → reword_files w (suc f) gs ≡ reword_files (λ i. w (suc i)) f gs
  unfolding reword_files
  files-shift f [] = refl
  files-shift f (g ∷ gs) = ap (λ (l : List File). file_with (w (suc f)) g ∷ l) (files-shift (suc f) gs)

abbrev file_in : List File → ℕ → File
file_in gs f = file_no (record { allowance = 0; files = gs }) f

file-with : (w : ℕ → ℕ → Element) (gs : List File) (f : ℕ) → file_in (reword_files w 0 gs) f ≡ file_with (w f) (file_in gs f)
unfolding reword_files reword_jobs
file-with w [] f = refl
file-with w (g ∷ gs) zero = refl
file-with w (g ∷ gs) (suc f) = ap (λ (l : List File). file_in l f) (files-shift w 0 gs) ∙ file-with (λ i. w (suc i)) gs f

files-own : (w : ℕ → ℕ → Element) (gs : List File) →
    ((f p : ℕ) → f < length gs → p < length (file_in gs f).jobs → w f p ≡ (job_in (file_in gs f).jobs p).words) → reword_files w 0 gs ≡ gs
unfolding reword_files
files-own w [] e = refl
files-own w (g ∷ gs) e =
    ap₂ (λ (js : List Job) (l : List File). record { heading = g.heading; jobs = js } ∷ l)
    (jobs-own (w 0) g.jobs (λ p l. e 0 p (omega arith) l))
    (files-shift w 0 gs ∙ files-own (λ i. w (suc i)) gs (λ f p l m. e (suc f) p (omega arith) m))

-- ---- bundles

pub words-twice : (b : Bundle) (u w : ℕ → ℕ → Element) → reword_bundle (reword_bundle b u) w ≡ reword_bundle b w
unfolding reword_bundle
words-twice b u w = ap (λ (l : List File). record { allowance = b.allowance; files = l }) (files-twice w u 0 0 b.files)

module _ (b : Bundle) (w : ℕ → ℕ → Element) where
  pub bundle-own : ((f p : ℕ) → f < length b.files → p < length (file_no b f).jobs → w f p ≡ (job_no (file_no b f) p).words) → reword_bundle b w ≡ b
  unfolding reword_bundle
  bundle-own e = ap (λ (l : List File). record { allowance = b.allowance; files = l }) (files-own w b.files e)

  pub count-with : length (reword_bundle b w).files ≡ length b.files
  unfolding reword_bundle
  count-with = files-length w 0 b.files

  pub file-no-with : (f : ℕ) → file_no (reword_bundle b w) f ≡ file_with (w f) (file_no b f)
  unfolding reword_bundle
  file-no-with f = file-with w b.files f

  jobs-no-with : (f : ℕ) → length (file_no (reword_bundle b w) f).jobs ≡ length (file_no b f).jobs
  jobs-no-with f = ap (λ (g : File). length g.jobs) (file-no-with f) ∙ jobs-length (w f) 0 (file_no b f).jobs

  pub job-no-with : (f p : ℕ) → p < length (file_no b f).jobs → job_no (file_no (reword_bundle b w) f) p ≡ job_of (job_no (file_no b f) p).num (w f p)
  job-no-with f p l = ap (λ (g : File). job_no g p) (file-no-with f) ∙ job-with (w f) (file_no b f).jobs p l

pub bundle-same : (b : Bundle) (u w : ℕ → ℕ → Element) → ((f p : ℕ) → f < length b.files → p < length (file_no b f).jobs → u f p ≡ w f p) →
    reword_bundle b u ≡ reword_bundle b w
bundle-same b u w e =
    sym (words-twice b w u)
    ∙ bundle-own (reword_bundle b w) u
    (λ f p l m.
    (let v : p < length (file_no b f).jobs = omega (arith, jobs-no-with b w f) in
    e f p (omega (arith, count-with b w)) v ∙ ap (λ (j : Job). j.words) (sym (job-no-with b w f p v))))

-- ---- what can be written

-- words that stand in a job record of a heading: d of them, each in its bytes
pub record WordsFit (h : Heading) (ws : List ℕ) : Type 0 where
  pub count : length ws ≡ h.params.d
  pub fit : (i : ℕ) → i < h.params.d → get_or ws i 0 < 256 ^ word_size h

-- the same words fit every heading that belongs with it
same-fit : (a b : Heading) → Same a b → (ws : List ℕ) → WordsFit a ws → WordsFit b ws
same-fit a b s ws x =
    let d : a.params.d ≡ b.params.d = ap (λ (p : Params). p.d) s.params_is in
    record {
      count = x.count ∙ d;
      fit = λ i l. subst (λ (n : ℕ). get_or ws i 0 < 256 ^ n) (same_word a b s) (x.fit i (omega arith));
    }

jobs-fit : (h : Heading) (w : ℕ → Element) (js : List Job) → AllFit h js → ((p : ℕ) → p < length js → WordsFit h (w p)) → AllFit h (reword_jobs w 0 js)
unfolding reword_jobs
jobs-fit h w [] a k = no_job
jobs-fit h w (j ∷ js) (a_job x a) k =
    let y = k 0 (omega arith) in
    a_job (record { num_fits = x.num_fits; words_count = y.count; words_fit = y.fit })
    (subst (AllFit h) (sym (jobs-shift w 0 js)) (jobs-fit h (λ i. w (suc i)) js a (λ p l. k (suc p) (omega arith))))

file-fit : (g : File) (w : ℕ → Element) → FileFits g → ((p : ℕ) → p < g.heading.jobs → WordsFit g.heading (w p)) → FileFits (file_with w g)
file-fit g w x k =
    let n = jobs-length w 0 g.jobs in
    record {
      ranges = x.ranges;
      low = x.low;
      high = x.high;
      archive_fits = x.archive_fits;
      count = n ∙ x.count;
      fit = jobs-fit g.heading w g.jobs x.fit (λ p l. k p (omega (arith, x.count)));
      rising = λ p l. rw (jobs-numbers w 0 g.jobs) (x.rising p (omega (arith, n)));
    }

pub chain-fit : (h : Heading) (ns : List ℕ) (prev : ℕ) (w : ℕ → ℕ → Element) (gs : List File) → Chain h ns prev gs →
    ((f p : ℕ) → f < length gs → p < h.jobs → WordsFit h (w f p)) → Chain h ns prev (reword_files w 0 gs)
unfolding reword_files
chain-fit h ns prev w [] c k = done
chain-fit h ns prev w (g ∷ gs) (next x l s n c) k =
    next (file-fit g (w 0) x (λ p m. same-fit h g.heading s (w 0 p) (k 0 p (omega arith) (omega (arith, s.jobs_is))))) l s
    (jobs-numbers (w 0) 0 g.jobs ∙ n)
    (subst (Chain h ns g.heading.holder) (sym (files-shift w 0 gs))
    (chain-fit h ns g.heading.holder (λ i. w (suc i)) gs c (λ f p a b. k (suc f) p (omega arith) b)))

-- a bundle, where heading and numbers are the first file's
pub chain-bundle : (h : Heading) (ns : List ℕ) (gs : List File) → Chain h ns 0 gs → 1 ≤ length gs → h ≡ (file_in gs 0).heading →
    ns ≡ numbers_in (file_in gs 0).jobs → BundleFits gs
chain-bundle h ns [] c l e n = absurd (omega arith)
chain-bundle h ns (g ∷ gs) c l e n =
    subst (λ (x : Heading). Chain x (numbers_in g.jobs) 0 (g ∷ gs)) e (subst (λ (x : List ℕ). Chain h x 0 (g ∷ gs)) n c)
