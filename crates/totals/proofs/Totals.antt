-- The total of a holder's file, case by case, and what a total with no fault says. Totals of a to b and of b to c add up to that of a to c
-- (`totals-join`), an empty run totals to zero words (`empty-total`), and a total reads as the sum of the jobs' signed values in the file where
-- that is in range (`total-signed`). Assumes nothing.
use mathlib.Core.Path.{◌≡◌, refl, sym, ap, ap₂, ◌∙◌}
use mathlib.Core.Bool.{Bool, true}
use mathlib.Core.List.{List}
use Prim.Native.Nat.{ℕ, suc, ◌+◌, ◌-◌, ◌^◌, ◌≤◌, ◌<◌}
use native.Mathlib.Omega.{arith}
use native.Mathlib.Decide.{dec_le}
use lib.Dec.{eqb, lit<}
use lib.ListN.{length, get_or}
use lib.IntN.{pos, neg_ℤ}
use lib.Signed.{◌≤ℤ◌}
use borrow.Author.Tests.{eq-eqb, eqb-true}
use Rattle.words.specs.Refusal.{first, unless}
use Rattle.words.specs.Faults.{length_fault}
use Rattle.words.specs.Signed.{meaning, sum_of_meanings}
use Rattle.words.specs.Word.{in_width, all_in_width}
use Rattle.words.proofs.Refusals.{first-left, first-right, first-none, first_some, first-assoc, first_three}
use Rattle.words.proofs.Refusals.{pass, unless-held, unless-yes, kept-none, kept-some}
use Rattle.galois.specs.Element.{sum, zero_e}
use Rattle.records.specs.declared.Heading.{Heading}
use Rattle.bundle.specs.Bundle.{bundle_fault, bundle_heading, params_of, files_of}
use Rattle.bundle.specs.Contents.{words_of}
use Rattle.bundle.proofs.Bundles.{bundle-ok, bundle-ranges}
use Rattle.fetch.specs.Fetch.{file_of, holder_fault, run_fault}
use Rattle.fetch.proofs.Fetch.{holder_in, holder-none, run_in, run_none}
use Rattle.totals.specs.Total.{words_no, run_total, run_in_width, asked_fault, total_fault, total_words}
use Rattle.totals.proofs.Values.{every-each, every-all}
use Rattle.totals.proofs.Sums.{sum_same, sum-none, sum-split, sum-signed}
use Rattle.totals.proofs.Words.{words_length}
use Rattle.totals.proofs.Runs.{width-start}

-- ---- the number before the words are looked at

module _ (bs : List ℕ) (holder a b out : ℕ) where
  abbrev tests : ℕ
  tests = first (holder_fault bs holder) (first (length_fault (params_of bs).d out) (run_fault (bundle_heading bs) a b))

  by_tests : asked_fault bs holder a b out ≡ first (bundle_fault bs) tests
  unfolding asked_fault
  by_tests = refl

  -- what it says where there is none
  pub record AskedClear : Type 0 where
    pub no_fault : bundle_fault bs ≡ 0
    pub file : file_of bs holder < files_of bs
    pub output : out ≡ (params_of bs).d
    pub low : a ≤ b
    pub high : b ≤ (bundle_heading bs).jobs

  pub asked-clear : asked_fault bs holder a b out ≡ 0 → AskedClear
  unfolding length_fault
  asked-clear x =
      let e = sym by_tests ∙ x in
      let e₁ = first-right (bundle_fault bs) _ e in
      let e₂ = first-right (holder_fault bs holder) _ e₁ in
      let run = run_in (bundle_heading bs) a b (first-right (unless (eqb out (params_of bs).d) 2) _ e₂) in
      record {
        no_fault = first-left (bundle_fault bs) _ e;
        file = holder_in bs holder (first-left (holder_fault bs holder) _ e₁);
        output = eqb-true _ _ (unless-held _ 2 (lit< tt) (first-left (unless (eqb out (params_of bs).d) 2) _ e₂));
        low = run.0;
        high = run.1;
      }

  clear-asked : bundle_fault bs ≡ 0 → file_of bs holder < files_of bs → out ≡ (params_of bs).d → a ≤ b → b ≤ (bundle_heading bs).jobs →
      asked_fault bs holder a b out ≡ 0
  unfolding length_fault
  clear-asked z file output low high =
      by_tests
      ∙ first-none (bundle_fault bs) _ z
      ∙ first-none (holder_fault bs holder) _ (holder-none bs holder file)
      ∙ pass (eqb out (params_of bs).d) 2 _ (eq-eqb out (params_of bs).d output)
      ∙ run_none (bundle_heading bs) a b low high

  -- the heading and the file by which a call goes on, where nothing that is asked declines
  pub record Found (h : Heading) (f : ℕ) : Type 0 where
    pub asked : asked_fault bs holder a b out ≡ 0
    pub heading : h ≡ bundle_heading bs
    pub file : f ≡ file_of bs holder
    pub output : out ≡ h.params.d

  -- ---- the number of a total: what is asked, and then the width
  abbrev width : ℕ
  width = unless (run_in_width bs (file_of bs holder) a (b - a)) 3

  pub total-asked : (v : ℕ) → v ≡ asked_fault bs holder a b out → (v ≡ 0 → ⊥) → v ≡ total_fault bs holder a b out
  unfolding total_fault
  total-asked v e n = e ∙ sym (first_some (asked_fault bs holder a b out) width (λ z. n (e ∙ z)))

  pub total-width : asked_fault bs holder a b out ≡ 0 → total_fault bs holder a b out ≡ unless (run_in_width bs (file_of bs holder) a (b - a)) 3
  unfolding total_fault
  total-width z = first-none (asked_fault bs holder a b out) width z

  -- by a test of the words of the run, taken together
  pub total-tested : {h : Heading} {f : ℕ} → Found h f → (r : ℕ) (t : Bool) → t ≡ in_width h.params.k r →
      in_width h.params.k r ≡ run_in_width bs f a (b - a) → total_fault bs holder a b out ≡ unless t 3
  total-tested g r t p q =
      total-width g.asked ∙ ap (λ (x : Bool). unless x 3) (sym (p ∙ q ∙ ap (λ (f : ℕ). run_in_width bs f a (b - a)) g.file))

  -- "4 for a named holder, 2, 9, 3" after the bundle's
  pub total-order : total_fault bs holder a b out ≡
      first (bundle_fault bs)
      (first (holder_fault bs holder)
      (first (length_fault (params_of bs).d out)
      (first (run_fault (bundle_heading bs) a b) (unless (run_in_width bs (file_of bs holder) a (b - a)) 3))))
  unfolding total_fault
  total-order =
      ap (λ (x : ℕ). first x width) by_tests
      ∙ first-assoc (bundle_fault bs) tests width
      ∙ ap (first (bundle_fault bs)) (first_three (holder_fault bs holder) (length_fault (params_of bs).d out) (run_fault (bundle_heading bs) a b) width)

-- what the output holds, and with it the contract of a call: refused, and done
module _ (bs : List ℕ) (holder a b : ℕ) (old : List ℕ) where
  pub total-words : total_fault bs holder a b (length old) ≡ 0 → total_words bs holder a b old ≡ run_total bs (file_of bs holder) a (b - a)
  unfolding total_words
  total-words e = kept-none (total_fault bs holder a b (length old)) old (run_total bs (file_of bs holder) a (b - a)) e

  pub total-refused : (v : ℕ) → v ≡ total_fault bs holder a b (length old) → (v ≡ 0 → ⊥) →
      (v ≡ total_fault bs holder a b (length old)) × (old ≡ total_words bs holder a b old)
  unfolding total_words
  total-refused v e n = (e, sym (kept-some (total_fault bs holder a b (length old)) old _ (λ z. n (e ∙ z))))

  pub total-done : {h : Heading} {f : ℕ} → Found bs holder a b (length old) h f → total_fault bs holder a b (length old) ≡ 0 → (new : List ℕ) →
      new ≡ run_total bs f a (b - a) → (0 ≡ total_fault bs holder a b (length old)) × (new ≡ total_words bs holder a b old)
  total-done g z new q = (sym z, q ∙ ap (λ (f : ℕ). run_total bs f a (b - a)) g.file ∙ sym (total-words z))

-- what a total with no fault says
pub record TotalClear (bs : List ℕ) (holder a b out : ℕ) : Type 0 where
  pub no_fault : bundle_fault bs ≡ 0
  pub file : file_of bs holder < files_of bs
  pub output : out ≡ (params_of bs).d
  pub low : a ≤ b
  pub high : b ≤ (bundle_heading bs).jobs
  pub width : run_in_width bs (file_of bs holder) a (b - a) ≡ true

pub total-clear : (bs : List ℕ) (holder a b out : ℕ) → total_fault bs holder a b out ≡ 0 → TotalClear bs holder a b out
unfolding total_fault
total-clear bs holder a b out e =
    let c = asked-clear bs holder a b out (first-left (asked_fault bs holder a b out) _ e) in
    record {
      no_fault = c.no_fault;
      file = c.file;
      output = c.output;
      low = c.low;
      high = c.high;
      width = unless-held _ 3 (lit< tt) (first-right (asked_fault bs holder a b out) _ e);
    }

pub clear-total : (bs : List ℕ) (holder a b out : ℕ) → TotalClear bs holder a b out → total_fault bs holder a b out ≡ 0
clear-total bs holder a b out c =
    total-width bs holder a b out (clear-asked bs holder a b out c.no_fault c.file c.output c.low c.high)
    ∙ unless-yes _ 3 c.width

-- ---- runs that follow each other

-- a to c is a to b and then b to c
pub total-split : (bs : List ℕ) (f a b c : ℕ) → a ≤ b → b ≤ c →
    run_total bs f a (c - a) ≡ sum (params_of bs).k (run_total bs f a (b - a)) (run_total bs f b (c - b))
total-split bs f a b c l u =
    let k = (params_of bs).k in
    let d = (params_of bs).d in
    let e : c - a ≡ b - a + (c - b) = omega arith in
    ap (run_total bs f a) e
    ∙ sum-split k d (λ i. words_of bs f (a + i)) (b - a) (c - b) (λ i x. words_length bs f (a + i))
    ∙ ap (sum k (run_total bs f a (b - a)))
    (sum_same k d (λ i. words_of bs f (a + (b - a + i))) (λ i. words_of bs f (b + i)) (c - b)
    (λ i x. ap (words_of bs f) (let y : a + (b - a + i) ≡ b + i = omega arith in y)))

-- words in width
pub run_join : (bs : List ℕ) (f a b c : ℕ) → a ≤ b → b ≤ c → run_in_width bs f a (b - a) ≡ true → run_in_width bs f b (c - b) ≡ true →
    run_in_width bs f a (c - a) ≡ true
run_join bs f a b c l u x y =
    every-all (λ i. all_in_width (params_of bs).k (words_of bs f (a + i))) (c - a)
    (λ i h.
    elim (dec_le (suc i) (b - a)) [
      | yes m ↦ every-each (λ j. all_in_width (params_of bs).k (words_of bs f (a + j))) (b - a) i x m
      | no m ↦ (let e : a + i ≡ b + (a + i - b) = omega arith in
          ap (λ (p : ℕ). all_in_width (params_of bs).k (words_of bs f p)) e
          ∙ every-each (λ j. all_in_width (params_of bs).k (words_of bs f (b + j))) (c - b) (a + i - b) y (omega arith))
    ])

pub totals-join : (bs : List ℕ) (holder a b c : ℕ) (old : List ℕ) → total_fault bs holder a b (length old) ≡ 0 →
    total_fault bs holder b c (length old) ≡ 0 →
    (total_fault bs holder a c (length old) ≡ 0)
    × (total_words bs holder a c old ≡ sum (params_of bs).k (total_words bs holder a b old) (total_words bs holder b c old))
totals-join bs holder a b c old x y =
    let u = total-clear bs holder a b (length old) x in
    let v = total-clear bs holder b c (length old) y in
    let f = file_of bs holder in
    let z : total_fault bs holder a c (length old) ≡ 0 =
    clear-total bs holder a c (length old)
    (record {
      no_fault = u.no_fault;
      file = u.file;
      output = u.output;
      low = omega (arith, u.low, v.low);
      high = v.high;
      width = run_join bs f a b c u.low v.low u.width v.width;
    }) in (
      z,
      total-words bs holder a c old z
          ∙ total-split bs f a b c u.low v.low
          ∙ sym (ap₂ (sum (params_of bs).k) (total-words bs holder a b old x) (total-words bs holder b c old y)),
    )

pub empty-total : (bs : List ℕ) (holder a : ℕ) (old : List ℕ) → bundle_fault bs ≡ 0 → file_of bs holder < files_of bs → length old ≡ (params_of bs).d →
    a ≤ (bundle_heading bs).jobs → (total_fault bs holder a a (length old) ≡ 0) × (total_words bs holder a a old ≡ zero_e (params_of bs).d)
empty-total bs holder a old z l o h =
    let e : a - a ≡ 0 = omega arith in
    let f = file_of bs holder in
    let c : total_fault bs holder a a (length old) ≡ 0 =
    clear-total bs holder a a (length old)
    (record { no_fault = z; file = l; output = o; low = omega arith; high = h; width = width-start bs f a }) in
    (c, total-words bs holder a a old c ∙ ap (run_total bs f a) e ∙ sum-none (params_of bs).k (params_of bs).d (λ i. words_of bs f (a + i)))

-- "A total read so equals the sum of the jobs' signed values when that sum lies from −2^(k−1) to 2^(k−1) − 1": word j of a total
pub total-signed : (bs : List ℕ) (f a n j : ℕ) → bundle_fault bs ≡ 0 → j < (params_of bs).d → let ws = words_no j (λ i. words_of bs f (a + i)) n in
    neg_ℤ (pos (2 ^ ((params_of bs).k - 1))) ≤ℤ sum_of_meanings (params_of bs).k ws →
    sum_of_meanings (params_of bs).k ws ≤ℤ pos (2 ^ ((params_of bs).k - 1) - 1) →
    meaning (params_of bs).k (get_or (run_total bs f a n) j 0) ≡ sum_of_meanings (params_of bs).k ws
total-signed bs f a n j z l =
    sum-signed (params_of bs).k (params_of bs).d (λ i. words_of bs f (a + i)) j n (bundle-ranges bs (bundle-ok bs z)).book.k-low l
    (λ i u. words_length bs f (a + i))
