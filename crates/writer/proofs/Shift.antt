-- Bytes in front change no fault of the files behind them: every position moves on by as many. Assumes nothing.
use mathlib.Core.Path.{◌≡◌, refl, ap, ap₂, ◌∙◌}
use Prim.Native.Nat.{ℕ, zero, suc, ◌+◌, ◌*◌, ◌≤◌}
use native.Mathlib.Omega.{arith}
use mathlib.Core.List.{List, ◌++◌}
use mathlib.Core.Bool.{Bool, cond}
use lib.ListN.{length, get_or, take, length-append}
use lib.Seq.{drop-append-add, get_or-append-add}
use lib.Dec.{leb, ltb}
use borrow.Author.Tests.{le-leb, leb-true, lt-ltb, ltb-true, le-ltb}
use Rattle.words.specs.Refusal.{first, unless, first_of}
use Rattle.words.proofs.Tests.{same_test}
use Rattle.records.specs.Num.{part, le_num, le_at}
use Rattle.records.specs.Layout.{body_at, kind_place, record_size, head_kind, head_len, head_size, job_kind, job_len, file_size}
use Rattle.records.specs.Record.{len_at, kind_at, framed, heading_of}
use Rattle.bundle.specs.Bundle.{ranges_ok, holder_ok, belongs, heading_fault, num_of, job_fault_at, prev_num, job_fault, file_fault_at, place_at, prev_holder}
use Rattle.bundle.specs.Bundle.{fault_of_file, files_fault}
use Rattle.records.specs.declared.Heading.{Heading}
use Rattle.bundle.proofs.Files.{place-low}

-- ---- first faults of equal functions, and of a longer range

first_of-same : (f g : ℕ → ℕ) (n : ℕ) → ((i : ℕ) → f i ≡ g i) → first_of f n ≡ first_of g n
unfolding first_of
first_of-same f g zero e = refl
first_of-same f g (suc n) e = ap₂ first (first_of-same f g n e) (e n)

first-zero : (a : ℕ) → first a 0 ≡ a
unfolding first
first-zero zero = refl
first-zero (suc a) = refl

first_of-longer : (f : ℕ → ℕ) (n k : ℕ) → ((i : ℕ) → n ≤ i → f i ≡ 0) → first_of f (n + k) ≡ first_of f n
unfolding first_of
first_of-longer f n zero e = ap (first_of f) (let z : n + 0 ≡ n = omega arith in z)
first_of-longer f n (suc k) e =
    let z : n + suc k ≡ suc (n + k) = omega arith in
    ap (first_of f) z ∙ ap₂ first (first_of-longer f n k e) (e (n + k) (omega arith)) ∙ first-zero (first_of f n)

module _ (pre bs : List ℕ) where
  long : length (pre ++ bs) ≡ length pre + length bs
  long = length-append pre bs

  -- ---- what is read

  byte-shift : (a b : ℕ) → b ≡ length pre + a → get_or (pre ++ bs) b 0 ≡ get_or bs a 0
  byte-shift a b e = ap (λ (m : ℕ). get_or (pre ++ bs) m 0) e ∙ get_or-append-add pre bs a 0

  num-shift : (w a b : ℕ) → b ≡ length pre + a → le_at w (pre ++ bs) b ≡ le_at w bs a
  unfolding le_at part
  num-shift w a b e = ap (λ (m : ℕ). le_at w (pre ++ bs) m) e ∙ ap (λ (l : List ℕ). le_num (take w l)) (drop-append-add pre bs a)

  heading-shift : (at : ℕ) → heading_of (pre ++ bs) (length pre + at) ≡ heading_of bs at
  unfolding heading_of
  heading-shift at =
      let s = length pre + at in
      let e₀ = byte-shift (body_at at) (body_at s) (omega arith) in
      let e₁ = byte-shift (body_at at + 1) (body_at s + 1) (omega arith) in
      let e₂ = byte-shift (body_at at + 2) (body_at s + 2) (omega arith) in
      let e₃ = byte-shift (body_at at + 3) (body_at s + 3) (omega arith) in
      let e₄ = byte-shift (body_at at + 4) (body_at s + 4) (omega arith) in
      let e₅ = num-shift 8 (body_at at + 5) (body_at s + 5) (omega arith) in
      let e₆ = num-shift 4 (body_at at + 5 + 8) (body_at s + 5 + 8) (omega arith) in
      λ i. record { params = record { k = e₀ i; d = e₁ i; n = e₂ i; t = e₃ i }; holder = e₄ i; archive = e₅ i; jobs = e₆ i }

  number-shift : (a b : ℕ) → b ≡ length pre + a → num_of (pre ++ bs) b ≡ num_of bs a
  unfolding num_of
  number-shift a b e = num-shift 8 (body_at a) (body_at b) (omega arith)

  below-shift : (a b : ℕ) → b ≡ length pre + a → leb b (length (pre ++ bs)) ≡ leb a (length bs)
  below-shift a b e =
      let n = long in
      same_test _ _ (λ t. le-leb a (length bs) (omega (arith, leb-true b (length (pre ++ bs)) t)))
      (λ t. le-leb b (length (pre ++ bs)) (omega (arith, leb-true a (length bs) t)))

  before-shift : (a b : ℕ) → b ≡ length pre + a → ltb b (length (pre ++ bs)) ≡ ltb a (length bs)
  before-shift a b e =
      let n = long in
      same_test _ _ (λ t. lt-ltb a (length bs) (omega (arith, ltb-true b (length (pre ++ bs)) t)))
      (λ t. lt-ltb b (length (pre ++ bs)) (omega (arith, ltb-true a (length bs) t)))

  framed-shift : (kind len a b : ℕ) → b ≡ length pre + a → framed (pre ++ bs) kind len b ≡ framed bs kind len a
  unfolding framed kind_at len_at
  framed-shift kind len a b e =
      rw (
        num-shift 2 (kind_place a) (kind_place b) (omega arith),
        num-shift 4 a b e,
        below-shift (a + record_size len) (b + record_size len)
            (omega arith),
      )

  -- ---- faults

  heading-fault-shift : (base prev at : ℕ) → heading_fault (pre ++ bs) (length pre + base) prev (length pre + at) ≡ heading_fault bs base prev at
  unfolding heading_fault
  heading-fault-shift base prev at =
      let h = heading_of bs at in
      ap₂ (λ (x y : Heading).
      first (unless (framed (pre ++ bs) (head_kind x) (head_len x) (length pre + at)) 7)
      (first (unless (ranges_ok x) 1) (first (unless (holder_ok prev x) 4) (unless (belongs y x) 8))))
      (heading-shift at) (heading-shift base)
      ∙ ap (λ (t : Bool). first (unless t 7) (first (unless (ranges_ok h) 1)
      (first (unless (holder_ok prev h) 4) (unless (belongs (heading_of bs base) h) 8))))
      (framed-shift (head_kind h) (head_len h) at (length pre + at) refl)

  job-fault-shift : (len base prev p at base' at' : ℕ) → base' ≡ length pre + base → at' ≡ length pre + at →
      job_fault_at (pre ++ bs) len base' prev p at' ≡ job_fault_at bs len base prev p at
  unfolding job_fault_at
  job-fault-shift len base prev p at base' at' e f =
      rw (framed-shift job_kind len at at' f, number-shift at at' f, number-shift base base' e)

  prev-shift : (len at at' p : ℕ) → at' ≡ length pre + at → prev_num (pre ++ bs) len at' p ≡ prev_num bs len at p
  unfolding prev_num
  prev-shift len at at' zero e = refl
  prev-shift len at at' (suc p) e = number-shift (at + p * record_size len) (at' + p * record_size len) (omega arith)

  place-job-shift : (len base at base' at' p : ℕ) → base' ≡ length pre + base → at' ≡ length pre + at →
      job_fault (pre ++ bs) len base' at' p ≡ job_fault bs len base at p
  unfolding job_fault
  place-job-shift len base at base' at' p e f =
      let n = record_size len in
      ap (λ (x : ℕ). job_fault_at (pre ++ bs) len (base' + p * n) x p (at' + p * n)) (prev-shift len at at' p f)
      ∙ job-fault-shift len (base + p * n) (prev_num bs len at p) p (at + p * n) (base' + p * n) (at' + p * n) (omega arith) (omega arith)

  file-fault-shift : (base prev at : ℕ) → file_fault_at (pre ++ bs) (length pre + base) prev (length pre + at) ≡ file_fault_at bs base prev at
  unfolding file_fault_at
  file-fault-shift base prev at =
      let h = heading_of bs at in
      let s = head_size h in
      ap₂ first (heading-fault-shift base prev at)
      (ap (λ (x : Heading). first_of (job_fault (pre ++ bs) (job_len x) (length pre + base + head_size x) (length pre + at + head_size x)) x.jobs)
      (heading-shift at)
      ∙ first_of-same (job_fault (pre ++ bs) (job_len h) (length pre + base + s) (length pre + at + s)) (job_fault bs (job_len h) (base + s) (at + s))
      h.jobs
      (λ p. place-job-shift (job_len h) (base + s) (at + s) (length pre + base + s) (length pre + at + s) p (omega arith) (omega arith)))

  place-shift : (start f : ℕ) → place_at (pre ++ bs) (length pre + start) f ≡ length pre + place_at bs start f
  unfolding place_at
  place-shift start f =
      ap (λ (x : Heading). length pre + start + f * file_size x) (heading-shift start) ∙ omega arith

  holder-shift : (start f : ℕ) → prev_holder (pre ++ bs) (length pre + start) f ≡ prev_holder bs start f
  unfolding prev_holder
  holder-shift start zero = refl
  holder-shift start (suc f) =
      ap (λ (m : ℕ). (heading_of (pre ++ bs) m).holder) (place-shift start f) ∙ ap (λ (x : Heading). x.holder) (heading-shift (place_at bs start f))

  place-fault-shift : (start f : ℕ) → fault_of_file (pre ++ bs) (length pre + start) f ≡ fault_of_file bs start f
  unfolding fault_of_file
  place-fault-shift start f =
      ap₂ (λ (t : Bool) (x : ℕ). cond t x 0) (before-shift (place_at bs start f) (place_at (pre ++ bs) (length pre + start) f) (place-shift start f))
      (ap₂ (λ (x y : ℕ). file_fault_at (pre ++ bs) (length pre + start) x y) (holder-shift start f) (place-shift start f)
      ∙ file-fault-shift start (prev_holder bs start f) (place_at bs start f))

  -- files behind other bytes have the fault that they have alone
  pub files-shift : (start : ℕ) → files_fault (pre ++ bs) (length pre + start) ≡ files_fault bs start
  unfolding files_fault fault_of_file
  files-shift start =
      let n : length (pre ++ bs) ≡ length bs + length pre = long ∙ omega arith in
      ap₂ (λ (t : Bool) (x : ℕ). first (unless t 7) x) (before-shift start (length pre + start) refl)
      (ap (first_of (fault_of_file (pre ++ bs) (length pre + start))) n
      ∙ first_of-same (fault_of_file (pre ++ bs) (length pre + start)) (fault_of_file bs start) (length bs + length pre) (place-fault-shift start)
      ∙ first_of-longer (fault_of_file bs start) (length bs) (length pre)
      (λ i l. rw (le-ltb (place_at bs start i) (length bs) (omega (arith, place-low bs start i)))))
