-- Which lengths records have, and bounds for them. Assumes nothing.
use mathlib.Core.Path.{◌≡◌, refl, sym, ap, ◌∙◌}
use Prim.Native.Nat.{ℕ, ◌+◌, ◌-◌, ◌*◌, ◌/◌, ◌%◌, ◌≤◌, ◌<◌}
use native.Mathlib.Omega.{arith}
use native.Mathlib.Decide.{dec_le}
use native.Mathlib.Nat.{mul-le-mul}
use mathlib.Core.Bool.{true, false, and-false, or-false}
use lib.Dec.{eqb}
use borrow.Author.Tests.{ne_eqb, eqb-true, eqb-false}
use Rattle.words.proofs.Tests.{true-false, bool_cases}
use Rattle.words.proofs.InRange.{six}
use Rattle.records.specs.Layout.{plain_len, record_size, head_kind, head_len, head_size, word_size, job_kind, job_len_of, job_len, job_size, order_kind}
use Rattle.records.specs.Layout.{order_len, job_len_known, known, file_size}
use Rattle.records.specs.declared.Heading.{Heading}

-- every kind has lengths from 3 to 58
known_out : (kind len : ℕ) → ((n : ℕ) → 3 ≤ n → n ≤ 58 → len ≡ n → ⊥) → known kind len ≡ false
unfolding known job_len_known job_len_of
known_out kind len h =
    simp (
      ne_eqb len plain_len (h plain_len (omega arith) (omega arith)),
      ne_eqb len (job_len_of 8 2) (h (job_len_of 8 2) (omega arith) (omega arith)),
      ne_eqb len (job_len_of 8 3) (h (job_len_of 8 3) (omega arith) (omega arith)),
      ne_eqb len (job_len_of 8 4) (h (job_len_of 8 4) (omega arith) (omega arith)),
      ne_eqb len (job_len_of 8 5) (h (job_len_of 8 5) (omega arith) (omega arith)),
      ne_eqb len (job_len_of 8 6) (h (job_len_of 8 6) (omega arith) (omega arith)),
      ne_eqb len order_len (h order_len (omega arith) (omega arith)),
      and-false,
      or-false,
    )

pub known-low : (kind len : ℕ) → len < 3 → known kind len ≡ false
known-low kind len h = known_out kind len (λ n l u e. omega arith)

pub known-min : (kind len : ℕ) → known kind len ≡ true → 3 ≤ len
known-min kind len e =
    elim (dec_le 3 len) [
      | yes h ↦ h
      | no h ↦ true-false (sym e ∙ known-low kind len (omega arith))
    ]

pub known-max : (kind len : ℕ) → known kind len ≡ true → len ≤ 58
known-max kind len e =
    elim (dec_le len 58) [
      | yes h ↦ h
      | no h ↦ true-false (sym e ∙ known_out kind len (λ n l u q. omega arith))
    ]

-- the lengths of a job record: 10 and the words, with 2 to 6 words
pub job-length-known : (d : ℕ) → 2 ≤ d → d ≤ 6 → job_len_known (job_len_of 8 d) ≡ true
unfolding job_len_known job_len_of
job-length-known d l h =
    bool_cases (eqb d 2) (λ e. rw (eqb-true d 2 e))
    (λ a. bool_cases (eqb d 3) (λ e. rw (eqb-true d 3 e))
    (λ b. bool_cases (eqb d 4) (λ e. rw (eqb-true d 4 e))
    (λ c. bool_cases (eqb d 5) (λ e. rw (eqb-true d 5 e))
    (λ f. rw (six d l h (eqb-false d 2 a) (eqb-false d 3 b) (eqb-false d 4 c) (eqb-false d 5 f))))))

pub known-job-length : (len : ℕ) → job_len_known len ≡ true → (d : ℕ) × (len ≡ job_len_of 8 d) × (2 ≤ d) × (d ≤ 6)
unfolding job_len_known job_len_of
known-job-length len e =
    bool_cases (eqb len (job_len_of 8 2)) (λ t. (2, eqb-true len (job_len_of 8 2) t, omega arith, omega arith))
    (λ a. bool_cases (eqb len (job_len_of 8 3)) (λ t. (3, eqb-true len (job_len_of 8 3) t, omega arith, omega arith))
    (λ b. bool_cases (eqb len (job_len_of 8 4)) (λ t. (4, eqb-true len (job_len_of 8 4) t, omega arith, omega arith))
    (λ c. bool_cases (eqb len (job_len_of 8 5)) (λ t. (5, eqb-true len (job_len_of 8 5) t, omega arith, omega arith))
    (λ f. (6, eqb-true len (job_len_of 8 6) (rw (a, b, c, f) at e), omega arith, omega arith)))))

-- every heading, job record and order has a known kind and length
pub known-heading : (h : Heading) → known (head_kind h) (head_len h) ≡ true
unfolding known head_kind head_len job_len_known job_len_of
known-heading h = refl

pub known-job : (h : Heading) → 2 ≤ h.params.d → h.params.d ≤ 6 → known job_kind (job_len h) ≡ true
unfolding known word_size
known-job h l u = simp (job-length-known h.params.d l u)

pub known-order : known order_kind order_len ≡ true
unfolding known job_len_known job_len_of
known-order = refl

-- a job record has its number, and a file its heading
pub job-length-low : (h : Heading) → 10 ≤ job_len h
unfolding job_len_of
job-length-low h = omega arith

pub head-low : (h : Heading) → 7 ≤ head_size h
unfolding record_size head_len
head-low h = omega arith

pub file-low : (h : Heading) → head_size h ≤ file_size h
unfolding file_size
file-low h = omega arith

-- the tests of a job record's length
module _ (len : ℕ) where
  pub job-length-yes : 10 ≤ len → (len - 10) % 8 ≡ 0 → 2 ≤ (len - 10) / 8 → (len - 10) / 8 ≤ 6 → job_len_known len ≡ true
  unfolding job_len_of
  job-length-yes a b l h =
      let e : len ≡ 10 + 8 * ((len - 10) / 8) = omega arith in
      ap job_len_known e ∙ job-length-known ((len - 10) / 8) l h

  pub job-length-facts : job_len_known len ≡ true → (10 ≤ len) × ((len - 10) % 8 ≡ 0) × (2 ≤ (len - 10) / 8) × ((len - 10) / 8 ≤ 6)
  unfolding job_len_of
  job-length-facts e =
      let k = known-job-length len e in
      let q : len ≡ 10 + 8 * k.0 = k.1 in
      (omega arith, omega arith, omega arith, omega arith)

  pub known-job-min : known job_kind len ≡ true → 10 ≤ len
  unfolding known
  known-job-min e =
      let f : job_len_known len ≡ true = simp or-false at e in
      (job-length-facts f).0

-- no product of them overflows
module _ (h : Heading) (d : h.params.d ≤ 6) where
  pub job-high : job_size h ≤ 64
  unfolding record_size word_size job_len_of
  job-high = omega arith

  pub jobs_high : (n : ℕ) → n ≤ 1000 → n * job_size h ≤ 64000
  jobs_high n l = mul-le-mul {n₁ = n} {m₁ = job_size h} {n₂ = 1000} {m₂ = 64} l job-high

pub head-high : (h : Heading) → head_size h ≤ 64
unfolding record_size head_len
head-high h = omega arith

module _ (h : Heading) (d : h.params.d ≤ 6) (j : h.jobs ≤ 1000) where
  pub file-high : file_size h ≤ 65000
  unfolding file_size
  file-high = omega (arith, head-high h, jobs_high h d h.jobs j)

  pub files-high : (f : ℕ) → f ≤ 63 → f * file_size h ≤ 4095000
  files-high f l = mul-le-mul {n₁ = f} {m₁ = file_size h} {n₂ = 63} {m₂ = 65000} l file-high
