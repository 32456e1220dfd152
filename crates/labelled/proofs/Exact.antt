-- A text is accepted exactly when it is the text of a job with four words in width, and then of the number and the words that are read
-- (`text-exact`): what is written reads as what was written (`text-reads`), what is read is written so again (`text-back`), and two jobs with one
-- text are the same (`one-text`). Assumes nothing.
use Rattle.std.proofs.Common.{◌≡◌, ℕ, ◌+◌, ◌-◌, ◌*◌, ◌%◌, ◌^◌, ◌<◌, ◌≤◌, Bool, true, false, cond, ◌&&◌, eqb, leb, ◌↔◌, List, [], ◌∷◌, sym, refl, ap, ◌∙◌, ap₂, mod-lt, lit<, eq-eqb, eqb-true}
use Rattle.words.specs.declared.Signed.{Signed}
use Rattle.words.proofs.Tests.{true-false, and_left, and_right}
use Rattle.labelled.specs.declared.LensJob.{LensJob}
use Rattle.labelled.specs.JobText.{lines_of, lens_job, text_of, IsJob, SomeText}
use Rattle.labelled.specs.Reading.{goes_on, number_from, nothing, scanned, job_in_range, same_text, is_text_of, is_text, words_of}
use Rattle.labelled.proofs.Scanning.{scan-lines}
use Rattle.labelled.proofs.Words.{words_back, lens-in, lens-held, lens-back, words-narrow}

-- ---- the same text

pub same-is : (a b : List ℕ) → same_text a b ≡ true → a ≡ b
unfolding same_text
same-is [] [] e = refl
same-is [] (d ∷ ds) e = true-false (sym e)
same-is (c ∷ cs) [] e = true-false (sym e)
same-is (c ∷ cs) (d ∷ ds) e =
    ap₂ ◌∷◌ (eqb-true c d (and_left (eqb c d) (same_text cs ds) e)) (same-is cs ds (and_right (eqb c d) (same_text cs ds) e))

pub is_same : (a : List ℕ) → same_text a a ≡ true
unfolding same_text
is_same [] = refl
is_same (c ∷ cs) = rw (eq-eqb c c refl) (is_same cs)

-- ---- every number that is scanned is one of 64 bits

goes-fits : (s : Signed) (c : ℕ) → s.magnitude < 2 ^ 64 → (goes_on s c).magnitude < 2 ^ 64
unfolding goes_on
goes-fits s c h = by (leb 48 c && leb c 57) (eqb c 45)
  where
    by : (t u : Bool) → (cond {A = Signed} t (record { negative = s.negative; magnitude = (s.magnitude * 10 + (c - 48)) % 2 ^ 64 })
        (cond u (record { negative = true; magnitude = s.magnitude }) s)).magnitude < 2 ^ 64
    by true u = mod-lt (s.magnitude * 10 + (c - 48)) (lit< tt)
    by false true = h
    by false false = h

number_fits : (s : Signed) (cs : List ℕ) → s.magnitude < 2 ^ 64 → (number_from s cs).magnitude < 2 ^ 64
unfolding number_from
number_fits s [] h = h
number_fits s (c ∷ cs) h = by (eqb c 10) (number_fits (goes_on s c) cs (goes-fits s c h))
  where
    by : (t : Bool) → (number_from (goes_on s c) cs).magnitude < 2 ^ 64 → (cond t s (number_from (goes_on s c) cs)).magnitude < 2 ^ 64
    by true i = h
    by false i = i

module _ (k : ℕ) (l : 1 ≤ k) (m : k ≤ 64) where
  -- what is written is read
  pub text-reads : (number : ℕ) (words : List ℕ) → IsJob k number words → scanned (text_of k number words) ≡ lens_job k number words
  unfolding text_of
  text-reads number words j =
      scan-lines (lens_job k number words) (lens-held k number words l j.four j.narrow m j.number_fits)

  pub text_is : (number : ℕ) (words : List ℕ) → IsJob k number words → is_text k (text_of k number words) ≡ true
  unfolding is_text_of text_of
  text_is number words j =
      rw (text-reads number words j, lens-in k number words l j.four j.narrow) (is_same (lines_of (lens_job k number words)))

  pub number-back : (number : ℕ) (words : List ℕ) → IsJob k number words → (scanned (text_of k number words)).number ≡ number
  unfolding lens_job
  number-back number words j = ap (λ (x : LensJob). x.number) (text-reads number words j)

  pub words-read : (number : ℕ) (words : List ℕ) → IsJob k number words → words_of k (scanned (text_of k number words)) ≡ words
  words-read number words j = ap (words_of k) (text-reads number words j) ∙ words_back k number words l j.four j.narrow

  -- "so one job has one text", and one text one job
  pub one-text : (n : ℕ) (v : List ℕ) (o : ℕ) (w : List ℕ) → IsJob k n v → IsJob k o w → text_of k n v ≡ text_of k o w → (n ≡ o) × (v ≡ w)
  one-text n v o w a b e = (
    sym (number-back n v a) ∙ ap (λ (t : List ℕ). (scanned t).number) e ∙ number-back o w b,
    sym (words-read n v a) ∙ ap (λ (t : List ℕ). words_of k (scanned t)) e ∙ words-read o w b,
  )

  -- what is read is written so again
  module _ (text : List ℕ) (e : is_text k text ≡ true) where
    in-range : job_in_range k (scanned text) ≡ true
    unfolding is_text_of
    in-range = and_left (job_in_range k (scanned text)) (same_text text (lines_of (scanned text))) e

    pub text-back : text ≡ text_of k (scanned text).number (words_of k (scanned text))
    unfolding is_text_of text_of
    text-back =
        same-is text (lines_of (scanned text)) (and_right (job_in_range k (scanned text)) (same_text text (lines_of (scanned text))) e)
        ∙ ap lines_of (sym (lens-back k (scanned text) l in-range))

    pub job_read : IsJob k (scanned text).number (words_of k (scanned text))
    unfolding scanned words_of
    job_read =
        record {
          number_fits = number_fits nothing text (lit< tt);
          four = refl;
          narrow = words-narrow k (scanned text) l in-range;
        }

  pub text-exact : (text : List ℕ) → (is_text k text ≡ true) ↔ SomeText k text
  text-exact text = (
    λ e. record { number = (scanned text).number; words = words_of k (scanned text); job = job_read text e; text_is = text-back text e },
    λ s. rw s.text_is (text_is s.number s.words s.job),
  )
