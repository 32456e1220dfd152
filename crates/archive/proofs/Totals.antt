-- Demand 2 for bundles. A run of dealt jobs, with t + 1 + 2e files or more, opens to the sum of the dealing polynomials, and so to the sum of the
-- jobs, with nobody named (`run-opens`, `dealt-run-opens`); also where up to e files hold something else somewhere in the run, with exactly those
-- named whose total is changed by it (`changed-run-opens`). The opened total reads as the sum of the jobs' signed values where that is in range
-- (`jobs-signed`). Runs from a to b and from b to c that open add up to that from a to c (`runs-join`), and an empty run opens to zero words
-- (`empty-run`). And one dealt job opens by its place (`place-opens-dealt`), also where up to e files hold something else there, wide words among it
-- (`place-opens-changed`). Assumes nothing.
use mathlib.Core.Path.{◌≡◌, refl, sym, ap, ap₂, ◌∙◌, subst}
use mathlib.Core.Bool.{Bool, true, false, not}
use mathlib.Core.List.{List, [], ◌∷◌}
use Prim.Native.Nat.{ℕ, zero, suc, ◌+◌, ◌-◌, ◌%◌, ◌^◌, ◌≤◌, ◌<◌}
use native.Mathlib.Nat.{le_trans, zero-div}
use native.Mathlib.Omega.{arith}
use lib.ListN.{get_or, replicate}
use lib.IntN.{pos, neg_ℤ}
use lib.Signed.{◌≤ℤ◌}
use Rattle.words.specs.Signed.{meaning, sum_of_meanings}
use Rattle.words.specs.Word.{all_in_width}
use Rattle.words.proofs.InRange.{InRange}
use borrow.Author.Tests.{not-true}
use Rattle.words.proofs.Tests.{not-held}
use Rattle.algebra.specs.Shares.{All, bit, count}
use Rattle.galois.specs.Element.{Element, sum, zero_e, point}
use Rattle.codewords.specs.Codeword.{Share, Polynomial, value, when, differs, errors, error_set}
use Rattle.codewords.specs.Demand.{Decides, bit_for}
use Rattle.codewords.specs.Linear.{sums}
use Rattle.codewords.specs.Opening.{Opening, opens, secret_into, wrong_into, lowest_room}
use Rattle.codewords.specs.WellFormed.{IsPoly}
use Rattle.codewords.proofs.ErrorSet.{bit-right}
use Rattle.codewords.proofs.Linear.{sums-is-poly, dealt-sum, sums-free}
use Rattle.codewords.proofs.Value.{rows_of, free-element, value-element, right-value, value-right}
use Rattle.codewords.proofs.Without.{none-errors}
use Rattle.sharing.specs.Dealing.{dealing}
use Rattle.sharing.specs.Dealt.{Dealable}
use Rattle.sharing.proofs.DealtOpens.{dealing-poly}
use Rattle.bundle.specs.Bundle.{bundle_fault, bundle_heading, params_of, allowance_of, files_of, holder_of}
use Rattle.bundle.specs.Contents.{words_of}
use Rattle.bundle.proofs.Bundles.{bundle-ok, bundle-ranges}
use Rattle.totals.specs.Total.{sum_to, words_no, run_total, run_in_width}
use Rattle.totals.specs.Values.{values_from}
use Rattle.totals.proofs.Sums.{sum_same, sum-signed}
use Rattle.totals.proofs.Totals.{total-split, run_join}
use Rattle.totals.proofs.Values.{every-each, every-all}
use Rattle.archive.specs.Archive.{share_by, shares_by, shares_at, shares_over, open_place, open_run}
use Rattle.archive.specs.Clear.{PlaceClear, RunClear, Enough}
use Rattle.archive.specs.Dealt.{Polys, free_terms, sum_polys, sum_poly, sum_of_jobs, holds_dealt, changed_files, named}
use Rattle.archive.specs.Dealt.{BundleOpensTo, PlaceOpensTo, RunOpensTo}
use Rattle.archive.proofs.Names.{wrong-file}
use Rattle.archive.proofs.Opens.{place-decides, run-decides, run-opened}
use Rattle.archive.proofs.Shares.{values-all, holder-range, shares-holders, of_width}
use Rattle.archive.proofs.Sums.{sums-poly, value-sums, free-sums}

range : (bs : List ℕ) → bundle_fault bs ≡ 0 → InRange (params_of bs)
range bs z = (bundle-ranges bs (bundle-ok bs z)).book

-- ---- shares of a bundle and a polynomial

opens-to : (bs : List ℕ) (ss : List Share) (o : Opening) (q : Polynomial) (s : Element) (x : ℕ) → o ≡ opens q → get_or q 0 [] ≡ s →
    error_set (params_of bs).k (params_of bs).d q ss ≡ x → BundleOpensTo bs ss o q s x
opens-to bs ss o q s x e f g =
    record {
      opened = e;
      secret = λ old. ap (secret_into old) e ∙ f;
      wrong = λ old. ap (wrong_into (params_of bs).k (params_of bs).d ss old) e ∙ ap (λ (w : ℕ). w ∷ []) g;
    }

module _ (bs : List ℕ) (w : ℕ → Element) (q : Polynomial) where
  abbrev k : ℕ
  k = (params_of bs).k

  abbrev d : ℕ
  d = (params_of bs).d

  -- the words of file f are the value at its holder's point
  abbrev Right : ℕ → Type 0
  Right f = w f ≡ value k d q (point d (holder_of bs f))

  -- where the test holds the words are right, so the shares that differ are among those where it fails
  near : (t : ℕ → Bool) → ((f : ℕ) → t f ≡ true → Right f) → (i n : ℕ) →
      errors k d q (values_from (share_by bs w) i n) ≤ count (λ f. not (t f)) (values_from (λ f. f) i n)
  unfolding errors values_from
  near t h i zero = omega arith
  near t h i (suc n) = go (t i) (λ e. value-right k d q (share_by bs w i) (h i e)) (differs k d q (share_by bs w i)) refl (near t h (suc i) n)
    where
      r : ℕ
      r = errors k d q (values_from (share_by bs w) (suc i) n)

      m : ℕ
      m = count (λ f. not (t f)) (values_from (λ f. f) (suc i) n)

      go : (y : Bool) → (y ≡ true → differs k d q (share_by bs w i) ≡ false) → (x : Bool) → differs k d q (share_by bs w i) ≡ x → r ≤ m →
          when x 1 + r ≤ bit (not y) + m
      go true g true e l = absurd (let c : ◌≡◌ {A = ℕ} 1 0 = ap (λ (b : Bool). when b 1) (sym e ∙ g refl) in omega arith)
      go false g true e l = omega arith
      go y g false e l = omega arith

  -- nobody is named where all are right, and only there
  none-set : (ss : List Share) → All (λ s. differs k d q s ≡ false) ss → error_set k d q ss ≡ 0
  unfolding error_set
  none-set [] h = refl
  none-set (s ∷ ss) h = ap₂ (λ (b : Bool) (n : ℕ). when b (2 ^ (s.holder - 1)) + n) h.0 (none-set ss h.1)

  none_named : bundle_fault bs ≡ 0 → error_set k d q (shares_by bs w) ≡ 0 → (f : ℕ) → f < files_of bs → Right f
  none_named z e f l =
      let i = holder_of bs f in
      let clear : bit_for i (error_set k d q (shares_by bs w)) ≡ 0 = ap (bit_for i) e ∙ ap (λ (n : ℕ). n % 2) (zero-div (2 ^ (i - 1))) in
      let right = (bit-right (params_of bs) (shares_by bs w) (shares-holders bs z w) q i (holder-range bs z f l).0).0 clear in
      right-value k d q (share_by bs w f) (not-held (differs k d q (share_by bs w f)) (λ y. right ((wrong-file bs w q i).1 (f, l, refl, y))))

  all_right : (o : Opening) → Decides (params_of bs) (allowance_of bs) (shares_by bs w) o → IsPoly k d (params_of bs).t q →
      (s : Element) → get_or q 0 [] ≡ s → ((f : ℕ) → f < files_of bs → Right f) → BundleOpensTo bs (shares_by bs w) o q s 0
  all_right o decides poly s free h =
      let all : All (λ (r : Share). differs k d q r ≡ false) (shares_by bs w) =
      values-all (λ (r : Share). differs k d q r ≡ false) (share_by bs w) 0 (files_of bs)
      (λ f l u. value-right k d q (share_by bs w f) (h f (omega arith))) in
      opens-to bs (shares_by bs w) o q s 0
      (decides.finds q (record { poly = poly; near = omega (arith, none-errors k d q (shares_by bs w) all) })) free (none-set (shares_by bs w) all)

-- ---- runs of dealt jobs

module _ (bs : List ℕ) (z : bundle_fault bs ≡ 0) (q : ℕ → Polynomial) (a n : ℕ) (polys : Polys bs q n) (f : ℕ)
    (holds : holds_dealt bs q a n f ≡ true) where
  dealt-words : (i : ℕ) → i < n → words_of bs f (a + i) ≡ value (params_of bs).k (params_of bs).d (q i) (point (params_of bs).d (holder_of bs f))
  unfolding holds_dealt
  dealt-words i l =
      let s : ℕ → Share = λ j. share_by bs (λ g. words_of bs g (a + j)) f in
      right-value (params_of bs).k (params_of bs).d (q i) (s i)
      (not-true _ (every-each (λ j. not (differs (params_of bs).k (params_of bs).d (q j) (s j))) n i holds l))

  -- the total of a file that holds what was dealt is its holder's share of the sum
  dealt-total : run_total bs f a n ≡ value (params_of bs).k (params_of bs).d (sum_poly bs q n) (point (params_of bs).d (holder_of bs f))
  dealt-total =
      let k = (params_of bs).k in
      let d = (params_of bs).d in
      sum_same k d (λ i. words_of bs f (a + i)) (λ i. value k d (q i) (point d (holder_of bs f))) n dealt-words
      ∙ sym (value-sums k d (params_of bs).t q (range bs z).d-low (range bs z).d-high n polys (holder_of bs f))

  -- and its words are in width
  dealt-width : (i : ℕ) → i < n → all_in_width (params_of bs).k (words_of bs f (a + i)) ≡ true
  dealt-width i l =
      let k = (params_of bs).k in
      let d = (params_of bs).d in
      ap (all_in_width k) (dealt-words i l)
      ∙ (value-element d (range bs z).d-low (range bs z).d-high k (q i) (rows_of k d (params_of bs).t (q i) (polys i l))
      (share_by bs (λ g. []) f)).1

-- up to e files hold something else somewhere in the run
pub changed-run-opens : (bs : List ℕ) (q : ℕ → Polynomial) (a b n w lo : ℕ) → Polys bs q (b - a) → RunClear bs a b n w lo → Enough bs →
    changed_files bs q a (b - a) ≤ allowance_of bs →
    RunOpensTo bs a b n w lo (sum_poly bs q (b - a)) (sum_of_jobs bs q (b - a)) (named bs a (b - a) (sum_poly bs q (b - a)))
changed-run-opens bs q a b n w lo polys c m h =
    let k = (params_of bs).k in
    let d = (params_of bs).d in
    let t = (params_of bs).t in
    let p = sum_poly bs q (b - a) in
    opens-to bs (shares_over bs a (b - a)) (open_run bs a b n w lo) p (sum_of_jobs bs q (b - a)) (named bs a (b - a) p)
    ((run-decides bs a b n w lo c m).finds p
    (record {
      poly = sums-poly k d t q (b - a) polys;
      near =
          le_trans
          (near bs (λ f. run_total bs f a (b - a)) p (holds_dealt bs q a (b - a)) (dealt-total bs c.no_fault q a (b - a) polys) 0 (files_of bs)) h;
    }))
    (free-sums k d t q (b - a) polys) refl

-- all files hold what was dealt
pub run-opens : (bs : List ℕ) (q : ℕ → Polynomial) (a b n w lo : ℕ) → Polys bs q (b - a) → bundle_fault bs ≡ 0 → n ≡ (params_of bs).d → w ≡ 1 → lo ≡ lowest_room → a ≤ b →
    b ≤ (bundle_heading bs).jobs → Enough bs → ((f : ℕ) → f < files_of bs → holds_dealt bs q a (b - a) f ≡ true) →
    RunOpensTo bs a b n w lo (sum_poly bs q (b - a)) (sum_of_jobs bs q (b - a)) 0
run-opens bs q a b n w lo polys z o x y l u m h =
    let k = (params_of bs).k in
    let d = (params_of bs).d in
    let t = (params_of bs).t in
    let c : RunClear bs a b n w lo =
    record {
      no_fault = z;
      output = o;
      wrong_output = x;
      lowest_output = y;
      low = l;
      high = u;
      width = of_width bs a (b - a) (λ f i v. dealt-width bs z q a (b - a) polys f (h f v) i);
    } in
    all_right bs (λ f. run_total bs f a (b - a)) (sum_poly bs q (b - a)) (open_run bs a b n w lo) (run-decides bs a b n w lo c m)
    (sums-poly k d t q (b - a) polys) (sum_of_jobs bs q (b - a)) (free-sums k d t q (b - a) polys)
    (λ f v. dealt-total bs z q a (b - a) polys f (h f v))

-- jobs that the call of dealing would deal
pub dealt-run-opens : (bs : List ℕ) (secret coefficients : ℕ → List ℕ) (a b n w lo : ℕ) →
    let q : ℕ → Polynomial = λ i. dealing (params_of bs) (secret i) (coefficients i) in
    ((i : ℕ) → i < b - a → Dealable (params_of bs) (secret i) (coefficients i)) → bundle_fault bs ≡ 0 → n ≡ (params_of bs).d → w ≡ 1 → lo ≡ lowest_room → a ≤ b →
    b ≤ (bundle_heading bs).jobs → Enough bs → ((f : ℕ) → f < files_of bs → holds_dealt bs q a (b - a) f ≡ true) →
    RunOpensTo bs a b n w lo (sum_poly bs q (b - a)) (sum_to (params_of bs).k (params_of bs).d secret (b - a)) 0
unfolding dealing
dealt-run-opens bs secret coefficients a b n w lo dealable =
    run-opens bs (λ i. dealing (params_of bs) (secret i) (coefficients i)) a b n w lo
    (λ i l. (let g = dealable i l in dealing-poly (params_of bs) (secret i) (coefficients i) g.n g.no_fault))

-- "A total read so equals the sum of the jobs' signed values when that sum lies from −2^(k−1) to 2^(k−1) − 1": word j of the sum of the jobs
pub jobs-signed : (bs : List ℕ) (q : ℕ → Polynomial) (n j : ℕ) → bundle_fault bs ≡ 0 → Polys bs q n → j < (params_of bs).d →
    let ws = words_no j (free_terms q) n in neg_ℤ (pos (2 ^ ((params_of bs).k - 1))) ≤ℤ sum_of_meanings (params_of bs).k ws →
    sum_of_meanings (params_of bs).k ws ≤ℤ pos (2 ^ ((params_of bs).k - 1) - 1) →
    meaning (params_of bs).k (get_or (sum_of_jobs bs q n) j 0) ≡ sum_of_meanings (params_of bs).k ws
jobs-signed bs q n j z polys l =
    sum-signed (params_of bs).k (params_of bs).d (free_terms q) j n (range bs z).k-low l
    (λ i u. (free-element (params_of bs).k (params_of bs).d (params_of bs).t (q i) (polys i u)).0)

-- ---- one dealt job, at a place

-- up to e files hold something else there, whatever it is: a wide word too
pub place-opens-changed : (bs : List ℕ) (q : Polynomial) (p n w lo : ℕ) → IsPoly (params_of bs).k (params_of bs).d (params_of bs).t q →
    PlaceClear bs p n w lo → Enough bs → changed_files bs (λ i. q) p 1 ≤ allowance_of bs →
    PlaceOpensTo bs p n w lo q (get_or q 0 []) (error_set (params_of bs).k (params_of bs).d q (shares_at bs p))
place-opens-changed bs q p n w lo poly c m h =
    let e : p + 0 ≡ p = omega arith in
    opens-to bs (shares_at bs p) (open_place bs p n w lo) q (get_or q 0 []) _
    ((place-decides bs p n w lo c m).finds q
    (record {
      poly = poly;
      near =
          le_trans
          (near bs (λ f. words_of bs f p) q (holds_dealt bs (λ i. q) p 1)
          (λ f x. ap (words_of bs f) (sym e) ∙ dealt-words bs c.no_fault (λ i. q) p 1 (λ i l. poly) f x 0 (omega arith)) 0 (files_of bs)) h;
    }))
    refl refl

-- all files hold what was dealt
pub place-opens-dealt : (bs : List ℕ) (q : Polynomial) (p n w lo : ℕ) → IsPoly (params_of bs).k (params_of bs).d (params_of bs).t q →
    PlaceClear bs p n w lo → Enough bs →
    ((f : ℕ) → f < files_of bs → words_of bs f p ≡ value (params_of bs).k (params_of bs).d q (point (params_of bs).d (holder_of bs f))) →
    PlaceOpensTo bs p n w lo q (get_or q 0 []) 0
place-opens-dealt bs q p n w lo poly c m =
    all_right bs (λ f. words_of bs f p) q (open_place bs p n w lo) (place-decides bs p n w lo c m) poly (get_or q 0 []) refl

-- ---- runs that follow each other, and an empty one

-- "an empty run totals to zero words"
pub empty-run : (bs : List ℕ) (a n w lo : ℕ) → bundle_fault bs ≡ 0 → n ≡ (params_of bs).d → w ≡ 1 → lo ≡ lowest_room → a ≤ (bundle_heading bs).jobs → Enough bs →
    RunOpensTo bs a a n w lo (replicate (suc (params_of bs).t) (zero_e (params_of bs).d)) (zero_e (params_of bs).d) 0
unfolding holds_dealt sum_polys sum_to
empty-run bs a n w lo z o x y l m =
    let e : a - a ≡ 0 = omega arith in
    let q : ℕ → Polynomial = λ i. [] in
    subst (λ (j : ℕ). RunOpensTo bs a a n w lo (sum_poly bs q j) (sum_of_jobs bs q j) 0) e
    (run-opens bs q a a n w lo (λ i u. absurd (omega arith)) z o x y (omega arith) l m
    (λ f u. every-all _ (a - a) (λ i v. absurd (omega arith))))

-- words in width, of all files
clear-join : (bs : List ℕ) (a b c n w lo : ℕ) → RunClear bs a b n w lo → RunClear bs b c n w lo → RunClear bs a c n w lo
clear-join bs a b c n w lo x y =
    record {
      no_fault = x.no_fault;
      output = x.output;
      wrong_output = x.wrong_output;
      lowest_output = x.lowest_output;
      low = omega (arith, x.low, y.low);
      high = y.high;
      width =
          every-all (λ g. run_in_width bs g a (c - a)) (files_of bs)
          (λ f l. run_join bs f a b c x.low y.low (every-each (λ g. run_in_width bs g a (b - a)) (files_of bs) f x.width l)
          (every-each (λ g. run_in_width bs g b (c - b)) (files_of bs) f y.width l));
    }

-- a run that opens with nobody named, taken apart: each file's total is right, and the words are the free term
module _ (bs : List ℕ) (a b n w lo : ℕ) (q : Polynomial) (s : Element) (g : RunOpensTo bs a b n w lo q s 0) where
  opened-poly : IsPoly (params_of bs).k (params_of bs).d (params_of bs).t q
  opened-poly = let c = run-opened bs a b n w lo q g.opened in ((run-decides bs a b n w lo c.0 c.1).found q g.opened).poly

  opened-free : s ≡ get_or q 0 []
  opened-free = sym (g.secret []) ∙ ap (secret_into []) g.opened

  opened-right : (f : ℕ) → f < files_of bs →
      run_total bs f a (b - a) ≡ value (params_of bs).k (params_of bs).d q (point (params_of bs).d (holder_of bs f))
  opened-right =
      let out : Opening → List ℕ = wrong_into (params_of bs).k (params_of bs).d (shares_over bs a (b - a)) [] in
      none_named bs (λ f. run_total bs f a (b - a)) q (run-opened bs a b n w lo q g.opened).0.no_fault
      (ap (λ (l : List ℕ). get_or l 0 0) (sym (ap out g.opened) ∙ g.wrong []))

-- opened with nobody named, the two add up
pub runs-join : (bs : List ℕ) (a b c n w lo : ℕ) (p q : Polynomial) (u v : Element) → RunOpensTo bs a b n w lo p u 0 → RunOpensTo bs b c n w lo q v 0 →
    RunOpensTo bs a c n w lo (sums (params_of bs).k p q) (sum (params_of bs).k u v) 0
runs-join bs a b c n w lo p q u v g h =
    let k = (params_of bs).k in
    let d = (params_of bs).d in
    let t = (params_of bs).t in
    let x = run-opened bs a b n w lo p g.opened in
    let y = run-opened bs b c n w lo q h.opened in
    let r = range bs x.0.no_fault in
    let i = opened-poly bs a b n w lo p u g in
    let j = opened-poly bs b c n w lo q v h in
    all_right bs (λ f. run_total bs f a (c - a)) (sums k p q) (open_run bs a c n w lo)
    (run-decides bs a c n w lo (clear-join bs a b c n w lo x.0 y.0) x.1) (sums-is-poly k d t p q i j) (sum k u v)
    (sums-free k t p q i.0 j.0 ∙ sym (ap₂ (sum k) (opened-free bs a b n w lo p u g) (opened-free bs b c n w lo q v h)))
    (λ f l.
    total-split bs f a b c x.0.low y.0.low
    ∙ ap₂ (sum k) (opened-right bs a b n w lo p u g f l) (opened-right bs b c n w lo q v h f l)
    ∙ sym (dealt-sum d r.d-low r.d-high k t p q i j (holder_of bs f)))
