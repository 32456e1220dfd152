-- Laws of a run of jobs, of a file, and of files one after another: where each stands, and the first fault. Assumes nothing.
use mathlib.Core.Path.{◌≡◌, refl, sym, ap₂, ◌∙◌}
use Prim.Native.Nat.{ℕ, zero, suc, ◌+◌, ◌*◌, ◌≤◌, ◌<◌}
use native.Mathlib.Nat.{mul-le-mul_left, mul-le-mul_right, div-eq_of_eq-mul_left}
use native.Mathlib.Omega.{arith}
use native.Mathlib.Numerals.{add-one}
use native.Mathlib.Decide.{dec_le}
use mathlib.Core.List.{List}
use mathlib.Core.Bool.{Bool, true, false}
use lib.ListN.{length}
use lib.Dec.{ltb, eqb, lit<}
use borrow.Author.Tests.{lt-ltb, le-ltb, eq-eqb, ne_eqb}
use Rattle.words.specs.Refusal.{unless, first_of}
use Rattle.words.proofs.Refusals.{pass, stop, unless-yes, unless-no, first-none, first_some, first-left, first-right}
use Rattle.words.proofs.Refusals.{first_of-more, first_of-stop, first_of-each, first_of-zero}
use Rattle.records.specs.Layout.{record_size, head_kind, head_len, head_size, job_len, file_size, order_kind, order_len, order_size}
use Rattle.records.specs.Record.{framed, heading_of}
use Rattle.bundle.specs.Bundle.{num_of, heading_fault, job_fault_at, prev_num, job_fault, file_fault_at, file_fault, place_at, prev_holder, files_in}
use Rattle.bundle.specs.Bundle.{fault_of_file, files_fault, bundle_fault}
use Rattle.bundle.specs.Acceptance.{FileOk}
use Rattle.records.proofs.Lengths.{head-low, file-low}
use Rattle.records.proofs.Record.{framed-frame}
use Rattle.bundle.proofs.Headings.{same-file, heading-7, heading-ok, job-ok}

-- ---- a run of jobs

-- a loop over jobs, at place p: where it stands
pub record JobsAt (bs : List ℕ) (len base at p f q prev : ℕ) : Type 0 where
  pub first-is : f ≡ base + p * record_size len
  pub at-is : q ≡ at + p * record_size len
  pub within : q ≤ length bs
  pub prev-is : prev ≡ prev_num bs len at p
  pub none : first_of (job_fault bs len base at) p ≡ 0

pub jobs-start : (bs : List ℕ) (len base at : ℕ) → at ≤ length bs → JobsAt bs len base at 0 base at 0
unfolding first_of prev_num
jobs-start bs len base at h = record { first-is = omega arith; at-is = omega arith; within = h; prev-is = refl; none = refl }

module _ (bs : List ℕ) (len base at p f q prev : ℕ) (j : JobsAt bs len base at p f q prev) where
  pub jobs-here : job_fault bs len base at p ≡ job_fault_at bs len f prev p q
  unfolding job_fault
  jobs-here = rw (j.first-is, j.at-is, j.prev-is)

  pub jobs-stop : (n : ℕ) → (job_fault_at bs len f prev p q ≡ 0 → ⊥) → p < n → job_fault_at bs len f prev p q ≡ first_of (job_fault bs len base at) n
  jobs-stop n h l =
      sym (first_of-stop (job_fault bs len base at) p n j.none (λ e. h (sym jobs-here ∙ e)) l ∙ jobs-here)

  pub jobs-next : job_fault_at bs len f prev p q ≡ 0 →
      JobsAt bs len base at (p + 1) (f + record_size len) (q + record_size len) (num_of bs q)
  unfolding prev_num
  jobs-next e =
      record {
        first-is = omega (arith, j.first-is);
        at-is = omega (arith, j.at-is);
        within = (job-ok bs len f prev p q e).frame.within;
        prev-is = rw (add-one, j.at-is);
        none = rw add-one (first_of-more (job_fault bs len base at) p j.none ∙ jobs-here ∙ e);
      }

-- ---- a file

-- a run of jobs with no fault is within the bytes
run-within : (bs : List ℕ) (len base at n : ℕ) → at ≤ length bs → ((p : ℕ) → p < n → job_fault bs len base at p ≡ 0) → at + n * record_size len ≤
    length bs
unfolding job_fault
run-within bs len base at zero h f = omega arith
run-within bs len base at (suc n) h f =
    omega (arith, (job-ok bs len (base + n * record_size len) (prev_num bs len at n) n (at + n * record_size len) (f n (omega arith))).frame.within)

pub file-ok : (bs : List ℕ) (base prev at : ℕ) → file_fault_at bs base prev at ≡ 0 → FileOk bs base prev at
unfolding file_fault_at file_size
file-ok bs base prev at e =
    let x = heading_of bs at in
    let h = heading-ok bs base prev at (first-left (heading_fault bs base prev at) _ e) in
    let g = first_of-each (job_fault bs (job_len x) (base + head_size x) (at + head_size x)) x.jobs in
    let z = first-right (heading_fault bs base prev at) _ e in
    record {
      heading = h;
      jobs = λ p l. g p z l;
      within = omega (arith, run-within bs (job_len x) (base + head_size x) (at + head_size x) x.jobs h.frame.within (λ p l. g p z l));
    }

-- the fault of bytes that should be one file, case by case
module _ (bs : List ℕ) where
  pub file-fault : (file_fault_at bs 0 0 0 ≡ 0 → ⊥) → file_fault bs ≡ file_fault_at bs 0 0 0
  unfolding file_fault
  file-fault n = first_some (file_fault_at bs 0 0 0) _ n

  pub file-end : file_fault_at bs 0 0 0 ≡ 0 → file_fault bs ≡ unless (eqb (length bs) (file_size (heading_of bs 0))) 7
  unfolding file_fault
  file-end e = first-none (file_fault_at bs 0 0 0) _ e

-- ---- files one after another

-- a loop over files, at file f: where it stands
pub record FilesAt (bs : List ℕ) (start f at prev : ℕ) : Type 0 where
  pub at-is : at ≡ place_at bs start f
  pub within : at ≤ length bs
  pub prev-is : prev ≡ prev_holder bs start f
  pub none : first_of (fault_of_file bs start) f ≡ 0

module _ (bs : List ℕ) (start : ℕ) where
  pub files-start : start ≤ length bs → FilesAt bs start 0 start 0
  unfolding first_of prev_holder place_at
  files-start h = record { at-is = omega arith; within = h; prev-is = refl; none = refl }

  pub size_low : 7 ≤ file_size (heading_of bs start)
  size_low = omega (arith, head-low (heading_of bs start), file-low (heading_of bs start))

  -- file f stands at byte f or later, no file before start, and each after the one before
  pub place-low : (f : ℕ) → f ≤ place_at bs start f
  unfolding place_at
  place-low f =
      let one : 1 ≤ file_size (heading_of bs start) = omega (arith, size_low) in
      omega (arith, mul-le-mul_left f one)

  pub place-start : (f : ℕ) → start ≤ place_at bs start f
  unfolding place_at
  place-start f = omega arith

  pub place_mono : (f g : ℕ) → f ≤ g → place_at bs start f ≤ place_at bs start g
  unfolding place_at
  place_mono f g h = omega (arith, mul-le-mul_right (file_size (heading_of bs start)) h)

  pub place-next : (f g : ℕ) → f < g → place_at bs start f + file_size (heading_of bs start) ≤ place_at bs start g
  unfolding place_at
  place-next f g h = omega (arith, mul-le-mul_right (file_size (heading_of bs start)) h)

module _ (bs : List ℕ) (start f at prev : ℕ) (j : FilesAt bs start f at prev) where
  -- bytes that are passed are a file's
  pub files-passed : start < at → 1 ≤ f
  unfolding place_at
  files-passed h =
      elim (dec_le 1 f) [
        | yes m ↦ m
        | no m ↦ (let z : f ≡ 0 = omega arith in
            absurd (omega (arith, h, rw z at j.at-is)))
      ]

  module _ (l : at < length bs) where
    pub files-here : fault_of_file bs start f ≡ file_fault_at bs start prev at
    unfolding fault_of_file
    files-here =
        let m : place_at bs start f < length bs = omega (arith, j.at-is) in
        rw (lt-ltb (place_at bs start f) (length bs) m, j.at-is, j.prev-is)

    pub files-stop : (file_fault_at bs start prev at ≡ 0 → ⊥) → first_of (fault_of_file bs start) (length bs) ≡ file_fault_at bs start prev at
    files-stop h =
        first_of-stop (fault_of_file bs start) f (length bs) j.none (λ e. h (sym files-here ∙ e)) (omega (arith, place-low bs start f, j.at-is))
        ∙ files-here

    pub files-next : file_fault_at bs start prev at ≡ 0 →
        FilesAt bs start (f + 1) (at + file_size (heading_of bs at)) (heading_of bs at).holder
    unfolding place_at prev_holder
    files-next e =
        let k = file-ok bs start prev at e in
        let s : file_size (heading_of bs start) ≡ file_size (heading_of bs at) = same-file (heading_of bs start) (heading_of bs at) k.heading.same in
        record {
          at-is = omega (arith, j.at-is);
          within = k.within;
          prev-is = rw (add-one, j.at-is);
          none = rw add-one (first_of-more (fault_of_file bs start) f j.none ∙ files-here ∙ e);
        }

  module _ (l : length bs ≤ at) where
    pub files-none : first_of (fault_of_file bs start) (length bs) ≡ 0
    unfolding fault_of_file
    files-none =
        first_of-zero (fault_of_file bs start) (length bs)
        (λ i h. elim (dec_le (suc i) f) [
          | yes m ↦ first_of-each (fault_of_file bs start) f i j.none m
          | no m ↦ (let b : length bs ≤ place_at bs start i = omega (arith, place_mono bs start f i (omega arith), j.at-is) in
              rw (le-ltb (place_at bs start i) (length bs) b))
        ])

    pub files-count : files_in bs start ≡ f
    unfolding files_in place_at
    files-count =
        div-eq_of_eq-mul_left (omega (arith, size_low bs start)) (omega (arith, j.at-is, j.within))

-- the fault of files one after another, and of a bundle, case by case
module _ (bs : List ℕ) (start : ℕ) where
  pub files-empty : length bs ≤ start → files_fault bs start ≡ 7
  unfolding files_fault
  files-empty h = stop (ltb start (length bs)) 7 _ (lit< tt) (le-ltb start (length bs) h)

  pub files-some : start < length bs → files_fault bs start ≡ first_of (fault_of_file bs start) (length bs)
  unfolding files_fault
  files-some h = pass (ltb start (length bs)) 7 _ (lt-ltb start (length bs) h)

module _ (bs : List ℕ) where
  pub bundle-order : framed bs order_kind order_len 0 ≡ false → bundle_fault bs ≡ 7
  unfolding bundle_fault
  bundle-order e = stop (framed bs order_kind order_len 0) 7 _ (lit< tt) e

  pub bundle-files : framed bs order_kind order_len 0 ≡ true → bundle_fault bs ≡ files_fault bs order_size
  unfolding bundle_fault
  bundle-files o = pass (framed bs order_kind order_len 0) 7 _ o

-- ---- one file, as the only one that may stand

module _ (bs : List ℕ) where
  no-heading : length bs ≤ 0 → (b : Bool) → let h = heading_of bs 0 in framed bs (head_kind h) (head_len h) 0 ≡ b → heading_fault bs 0 0 0 ≡ 7
  unfolding record_size
  no-heading z true e =
      let h = heading_of bs 0 in
      absurd (omega (arith, (framed-frame bs (head_kind h) (head_len h) 0 e).within))
  no-heading z false e = heading-7 bs 0 0 0 e

  pub one-empty : length bs ≤ 0 → file_fault bs ≡ 7
  unfolding file_fault_at
  one-empty z =
      let h = no-heading z _ refl in
      let some : heading_fault bs 0 0 0 ≡ 0 → ⊥ = λ e. absurd (omega (arith, e, h)) in
      let f : file_fault_at bs 0 0 0 ≡ 7 = first_some (heading_fault bs 0 0 0) _ some ∙ h in
      file-fault bs (λ e. absurd (omega (arith, e, f))) ∙ f

  -- the file that stands first
  module _ (at prev : ℕ) (j : FilesAt bs 0 0 at prev) where
    pub one-stop : (file_fault_at bs 0 prev at ≡ 0 → ⊥) → file_fault bs ≡ file_fault_at bs 0 prev at
    unfolding place_at prev_holder
    one-stop n =
        let a : at ≡ 0 = omega (arith, j.at-is) in
        let e : file_fault_at bs 0 prev at ≡ file_fault_at bs 0 0 0 = ap₂ (file_fault_at bs 0) j.prev-is a in
        file-fault bs (λ z. n (e ∙ z)) ∙ sym e

  -- and what follows it
  module _ (at prev : ℕ) (j : FilesAt bs 0 1 at prev) (some : 0 < length bs) where
    one_size : at ≡ file_size (heading_of bs 0)
    unfolding place_at
    one_size = omega (arith, j.at-is)

    one_place : place_at bs 0 0 ≡ 0
    unfolding place_at
    one_place = omega arith

    one-clear : file_fault_at bs 0 0 0 ≡ 0
    unfolding fault_of_file prev_holder
    one-clear =
        let t : ltb (place_at bs 0 0) (length bs) ≡ true = lt-ltb (place_at bs 0 0) (length bs) (omega (arith, one_place)) in
        rw (t, one_place) at (first_of-each (fault_of_file bs 0) 1 0 j.none (omega arith))

    pub one-over : at < length bs → file_fault bs ≡ 7
    one-over l = file-end bs one-clear ∙ unless-no _ 7 (ne_eqb (length bs) (file_size (heading_of bs 0)) (λ e. absurd (omega (arith, e, one_size))))

    pub one-whole : length bs ≤ at → file_fault bs ≡ 0
    one-whole l =
        file-end bs one-clear ∙ unless-yes _ 7 (eq-eqb (length bs) (file_size (heading_of bs 0)) (omega (arith, one_size, j.within)))
