-- Words and what they mean: a word's reading is in range and has that word (`word_back`), and a number in range is the reading of its word
-- (`reading-back`); so for the four words of a job. Assumes nothing.
use Rattle.std.proofs.Common.{◌≡◌, ℕ, ◌-◌, ◌*◌, ◌%◌, ◌^◌, ◌<◌, ◌≤◌, Bool, true, false, ◌&&◌, ltb, leb, List, [], ◌∷◌, length, get_or, set, sym, refl, ap, ◌∙◌, mod-eq_of_lt, one-mul, arith, lit<, pow_pos, ltb-false, ltb-true, le-ltb, lt-ltb, le-leb, leb-true}
use native.Mathlib.Nat.{pow-le-pow_right}
use borrow.Author.Tests.{lt-leb}
use Rattle.words.specs.declared.Signed.{Signed}
use Rattle.words.specs.Signed.{signed_of}
use Rattle.words.specs.Word.{all_in_width}
use Rattle.words.proofs.Tests.{bool_cases, and_left, and_right}
use Rattle.words.proofs.Reading.{two-halves}
use Rattle.words.proofs.Width.{lt-in-width, width-at}
use Rattle.labelled.specs.declared.LensJob.{LensJob}
use Rattle.labelled.specs.JobText.{lens_job}
use Rattle.labelled.specs.Reading.{in_range, job_in_range, word_of, words_of}
use Rattle.labelled.proofs.Scanning.{Held}

-- ---- one word

module _ (k w : ℕ) (l : 1 ≤ k) (h : w < 2 ^ k) where
  pub word_back : word_of k (signed_of k w) ≡ w
  unfolding word_of signed_of
  word_back =
      bool_cases (ltb w (2 ^ (k - 1))) (λ t. rw t) (λ t. (let e : 2 ^ k - (2 ^ k - w) ≡ w = omega (arith, h) in rw (t, e)))

  pub reading-in : in_range k (signed_of k w) ≡ true
  unfolding in_range signed_of
  reading-in =
      bool_cases (ltb w (2 ^ (k - 1))) (λ t. rw (t, t))
      (λ t. (
      let g : 2 ^ (k - 1) ≤ w = ltb-false w (2 ^ (k - 1)) t in
      let d = two-halves k l in
      rw (t, le-leb 1 (2 ^ k - w) (omega (arith, h)), le-leb (2 ^ k - w) (2 ^ (k - 1)) (omega (arith, g, d))))
      )

  pub reading-held : k ≤ 64 → (signed_of k w).magnitude < 2 ^ 64
  unfolding signed_of
  reading-held m =
      let p : 2 ^ k ≤ 2 ^ 64 = pow-le-pow_right (lit< tt) m in
      let q = pow_pos (k - 1) in
      bool_cases (ltb w (2 ^ (k - 1))) (λ t. rw t (omega (arith, p, h)))
      (λ t. rw t (omega (arith, p, q, ltb-false w (2 ^ (k - 1)) t)))

-- ---- one number in range

module _ (k : ℕ) (s : Signed) (l : 1 ≤ k) (h : in_range k s ≡ true) where
  abbrev half : ℕ
  half = 2 ^ (k - 1)

  pub low : s.negative ≡ true → 1 ≤ s.magnitude
  unfolding in_range
  low n = leb-true 1 s.magnitude (and_left (leb 1 s.magnitude) (leb s.magnitude half) (rw n at h))

  pub high : s.negative ≡ true → s.magnitude ≤ half
  unfolding in_range
  high n = leb-true s.magnitude half (and_right (leb 1 s.magnitude) (leb s.magnitude half) (rw n at h))

  pub below : s.negative ≡ false → s.magnitude < half
  unfolding in_range
  below n = ltb-true s.magnitude half (rw n at h)

  pub word-narrow : word_of k s < 2 ^ k
  unfolding word_of
  word-narrow =
      let d = two-halves k l in
      bool_cases s.negative (λ n. rw n (omega (arith, d, low n, high n))) (λ n. rw n (omega (arith, d, below n)))

  with-sign : (b : Bool) → s.negative ≡ b → record { negative = b; magnitude = s.magnitude } ≡ s
  with-sign b n = ap (λ (x : Bool). (let r : Signed = record { negative = x; magnitude = s.magnitude } in r)) (sym n)

  negative_back : s.negative ≡ true → signed_of k (word_of k s) ≡ record { negative = true; magnitude = s.magnitude }
  unfolding word_of signed_of
  negative_back n =
      let d = two-halves k l in
      let e : 2 ^ k - (2 ^ k - s.magnitude) ≡ s.magnitude = omega (arith, d, high n) in
      rw (n, le-ltb (2 ^ k - s.magnitude) half (omega (arith, d, high n)), e)

  positive_back : s.negative ≡ false → signed_of k (word_of k s) ≡ record { negative = false; magnitude = s.magnitude }
  unfolding word_of signed_of
  positive_back n = rw (n, lt-ltb s.magnitude half (below n))

  pub reading-back : signed_of k (word_of k s) ≡ s
  reading-back =
      bool_cases s.negative (λ n. negative_back n ∙ with-sign true n) (λ n. positive_back n ∙ with-sign false n)

-- ---- the tests of a range

pub half_is : (k : ℕ) → 1 ≤ k → k ≤ 64 → (1 * 2 ^ (k - 1)) % 2 ^ 64 ≡ 2 ^ (k - 1)
half_is k l m =
    let p : 2 ^ k ≤ 2 ^ 64 = pow-le-pow_right (lit< tt) m in
    let h : 2 ^ (k - 1) < 2 ^ 64 = omega (arith, p, two-halves k l, pow_pos (k - 1)) in
    rw (one-mul (2 ^ (k - 1)), mod-eq_of_lt h)

pub range-zero : (k : ℕ) (s : Signed) → s.negative ≡ true → s.magnitude < 1 → in_range k s ≡ false
unfolding in_range
range-zero k s n h = rw (n, lt-leb 1 s.magnitude h)

pub range-negative : (k : ℕ) (s : Signed) → s.negative ≡ true → 1 ≤ s.magnitude → in_range k s ≡ leb s.magnitude (2 ^ (k - 1))
unfolding in_range
range-negative k s n h = rw (n, le-leb 1 s.magnitude h)

pub range-positive : (k : ℕ) (s : Signed) → s.negative ≡ false → in_range k s ≡ ltb s.magnitude (2 ^ (k - 1))
unfolding in_range
range-positive k s n = rw n

-- ---- the four words of a job

four-words : (words : List ℕ) → length words ≡ 4 → get_or words 0 0 ∷ get_or words 1 0 ∷ get_or words 2 0 ∷ get_or words 3 0 ∷ [] ≡ words
four-words [] e = absurd (omega arith)
four-words (a ∷ []) e = absurd (omega arith)
four-words (a ∷ b ∷ []) e = absurd (omega arith)
four-words (a ∷ b ∷ c ∷ []) e = absurd (omega arith)
four-words (a ∷ b ∷ c ∷ d ∷ []) e = refl
four-words (a ∷ b ∷ c ∷ d ∷ x ∷ xs) e = absurd (omega arith)

-- four words stored one after another are all that an output of four has
pub four-set : (out : List ℕ) (a b c d : ℕ) → length out ≡ 4 → set (set (set (set out 0 a) 1 b) 2 c) 3 d ≡ a ∷ b ∷ c ∷ d ∷ []
four-set [] a b c d e = absurd (omega arith)
four-set (w ∷ []) a b c d e = absurd (omega arith)
four-set (w ∷ x ∷ []) a b c d e = absurd (omega arith)
four-set (w ∷ x ∷ y ∷ []) a b c d e = absurd (omega arith)
four-set (w ∷ x ∷ y ∷ z ∷ []) a b c d e = refl
four-set (w ∷ x ∷ y ∷ z ∷ v ∷ vs) a b c d e = absurd (omega arith)

module _ (k number : ℕ) (words : List ℕ) (l : 1 ≤ k) (n : length words ≡ 4) (w : all_in_width k words ≡ true) where
  narrow : (i : ℕ) → i < 4 → get_or words i 0 < 2 ^ k
  narrow i h = width-at k words i w (omega (arith, n, h))

  pub words_back : words_of k (lens_job k number words) ≡ words
  unfolding words_of lens_job
  words_back =
      rw (
        word_back k (get_or words 0 0) l (narrow 0 (lit< tt)),
        word_back k (get_or words 1 0) l (narrow 1 (lit< tt)),
        word_back k (get_or words 2 0) l (narrow 2 (lit< tt)),
        word_back k (get_or words 3 0) l (narrow 3 (lit< tt)),
      ) (four-words words n)

  pub lens-in : job_in_range k (lens_job k number words) ≡ true
  unfolding job_in_range lens_job
  lens-in =
      rw (
        reading-in k (get_or words 0 0) l (narrow 0 (lit< tt)),
        reading-in k (get_or words 1 0) l (narrow 1 (lit< tt)),
        reading-in k (get_or words 2 0) l (narrow 2 (lit< tt)),
        reading-in k (get_or words 3 0) l (narrow 3 (lit< tt)),
      )

  pub lens-held : k ≤ 64 → number < 2 ^ 64 → Held (lens_job k number words)
  unfolding lens_job
  lens-held m h =
      record {
        number = h;
        sphere = reading-held k (get_or words 0 0) l (narrow 0 (lit< tt)) m;
        cylinder = reading-held k (get_or words 1 0) l (narrow 1 (lit< tt)) m;
        axis = reading-held k (get_or words 2 0) l (narrow 2 (lit< tt)) m;
        thickness = reading-held k (get_or words 3 0) l (narrow 3 (lit< tt)) m;
      }

module _ (k : ℕ) (j : LensJob) (l : 1 ≤ k) (h : job_in_range k j ≡ true) where
  -- each of its numbers
  pub sphere-in : in_range k j.sphere ≡ true
  unfolding job_in_range
  sphere-in = and_left (in_range k j.sphere) _ h

  after-sphere : in_range k j.cylinder && (in_range k j.axis && in_range k j.thickness) ≡ true
  unfolding job_in_range
  after-sphere = and_right (in_range k j.sphere) _ h

  pub cylinder-in : in_range k j.cylinder ≡ true
  cylinder-in = and_left (in_range k j.cylinder) _ after-sphere

  after-cylinder : in_range k j.axis && in_range k j.thickness ≡ true
  after-cylinder = and_right (in_range k j.cylinder) _ after-sphere

  pub axis-in : in_range k j.axis ≡ true
  axis-in = and_left (in_range k j.axis) _ after-cylinder

  pub thickness-in : in_range k j.thickness ≡ true
  thickness-in = and_right (in_range k j.axis) _ after-cylinder

  pub lens-back : lens_job k j.number (words_of k j) ≡ j
  unfolding lens_job words_of
  lens-back =
      rw (
        reading-back k j.sphere l sphere-in,
        reading-back k j.cylinder l cylinder-in,
        reading-back k j.axis l axis-in,
        reading-back k j.thickness l thickness-in,
      )

  pub words-narrow : all_in_width k (words_of k j) ≡ true
  unfolding all_in_width words_of
  words-narrow =
      rw (
        lt-in-width k (word_of k j.sphere) (word-narrow k j.sphere l sphere-in),
        lt-in-width k (word_of k j.cylinder) (word-narrow k j.cylinder l cylinder-in),
        lt-in-width k (word_of k j.axis) (word-narrow k j.axis l axis-in),
        lt-in-width k (word_of k j.thickness) (word-narrow k j.thickness l thickness-in),
      )
