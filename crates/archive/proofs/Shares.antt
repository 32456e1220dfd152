-- The shares present in an accepted bundle: one for each file, under holders that rise from 1 to n; and words in width where none is wide.
-- Assumes nothing.
use mathlib.Core.Path.{◌≡◌, refl, ap}
use mathlib.Core.Bool.{true}
use mathlib.Core.List.Memᴰ
use mathlib.Core.List.{List, Memᴰ}
use mathlib.Core.Logic.{◌⊎◌, inl, inr}
use Prim.Native.Nat.{ℕ, zero, suc, ◌+◌, ◌≤◌, ◌<◌}
use native.Mathlib.Decide.{ℕ_discrete}
use native.Mathlib.Omega.{arith}
use lib.ListN.{length}
use Rattle.words.specs.Word.{in_width, all_in_width}
use Rattle.words.proofs.Tests.{and_both}
use Rattle.words.proofs.Width.{lt-in-width}
use Rattle.algebra.specs.Shares.{All}
use Rattle.algebra.proofs.Shares.{all_map}
use Rattle.galois.specs.Element.{Element}
use Rattle.codewords.specs.Codeword.{Share}
use Rattle.codewords.specs.WellFormed.{IsElement, InWidth, Rising, Holders}
use Rattle.codewords.proofs.Positions.{width-up}
use Rattle.codewords.proofs.Without.{rising-different}
use Rattle.decoder.specs.Decoded.{Ordered}
use Rattle.records.specs.Layout.{order_size, word_size, words_at}
use Rattle.records.specs.Num.{Bytes, le_at}
use Rattle.records.specs.Record.{heading_of}
use Rattle.records.proofs.Num.{le_at-lt}
use Rattle.bundle.specs.Bundle.{bundle_fault, params_of, files_of, file_at, job_at, holder_of}
use Rattle.bundle.specs.Contents.{words_from, words_of}
use Rattle.bundle.proofs.Bundles.{bundle-ok, bundle-ranges, file-at, same_at, holders_rise}
use Rattle.archive.specs.Archive.{share_by, shares_by, shares_at, shares_over, files_in_width}
use Rattle.totals.specs.Total.{run_total, run_in_width}
use Rattle.totals.specs.Values.{values_from}
use Rattle.totals.proofs.Runs.{total-length}
use Rattle.totals.proofs.Sums.{sum-width}
use Rattle.totals.proofs.Values.{values-count, every-all}
use Rattle.totals.proofs.Words.{words_length}

-- what holds of each value holds of each in the list
pub values-all : {A : Type 0} (P : A → Type 0) (f : ℕ → A) (i n : ℕ) → ((j : ℕ) → i ≤ j → j < i + n → P (f j)) → All P (values_from f i n)
unfolding values_from
values-all P f i zero h = tt
values-all P f i (suc n) h = (h i (omega arith) (omega arith), values-all P f (suc i) n (λ j l u. h j (omega arith) (omega arith)))

-- what is in the list is one of the values
pub values-in : {A : Type 0} (f : ℕ → A) (i n : ℕ) {x : A} → Memᴰ x (values_from f i n) → (j : ℕ) × (i ≤ j) × (j < i + n) × (x ≡ f j)
unfolding values_from
values-in f i zero m = absurd (Memᴰ.not-nil m)
values-in f i (suc n) {x} m = go (values-in f (suc i) n) (Memᴰ.cases_cons m)
  where
    go : (Memᴰ x (values_from f (suc i) n) → (j : ℕ) × (suc i ≤ j) × (j < suc i + n) × (x ≡ f j)) →
        (x ≡ f i) ⊎ Memᴰ x (values_from f (suc i) n) → (j : ℕ) × (i ≤ j) × (j < i + suc n) × (x ≡ f j)
    go later (inl e) = (i, omega arith, omega arith, e)
    go later (inr t) = let r = later t in (r.0, omega (arith, r.1), omega (arith, r.2), r.3)

pub in-values : {A : Type 0} (f : ℕ → A) (i n j : ℕ) → i ≤ j → j < i + n → Memᴰ (f j) (values_from f i n)
unfolding values_from
in-values f i zero j l u = absurd (omega arith)
in-values f i (suc n) j l u =
    elim (ℕ_discrete j i) [
      | yes e ↦ Memᴰ.head (ap f e)
      | no m ↦ Memᴰ.tail (in-values f (suc i) n j (omega arith) (omega arith))
    ]

pub shares-count : (bs : List ℕ) (w : ℕ → Element) → length (shares_by bs w) ≡ files_of bs
shares-count bs w = values-count (share_by bs w) 0 (files_of bs)

module _ (bs : List ℕ) (z : bundle_fault bs ≡ 0) where
  -- each holder is 1 to n
  pub holder-range : (f : ℕ) → f < files_of bs → (1 ≤ holder_of bs f) × (holder_of bs f ≤ (params_of bs).n)
  holder-range f l =
      let h = (file-at bs order_size (bundle-ok bs z).files f l).heading in
      let u : (heading_of bs (file_at bs f)).holder ≤ (heading_of bs (file_at bs f)).params.n = h.within in
      (omega (arith, h.rises), rw (same_at bs order_size (bundle-ok bs z).files f l).params_is u)

  module _ (w : ℕ → Element) where
    rising : (i n : ℕ) → i + n ≤ files_of bs → Rising (values_from (share_by bs w) i n)
    unfolding values_from
    rising i zero h = tt
    rising i (suc n) h = (
      values-all (λ (r : Share). holder_of bs i < r.holder) (share_by bs w) (suc i) n
          (λ j l u. holders_rise bs order_size (bundle-ok bs z).files i j l (omega arith)),
      rising (suc i) n (omega arith),
    )

    pub shares-ordered : Ordered (params_of bs).n (shares_by bs w)
    shares-ordered = (
      values-all (λ (s : Share). (1 ≤ s.holder) × (s.holder ≤ (params_of bs).n)) (share_by bs w) 0 (files_of bs)
          (λ j l u. holder-range j (omega arith)),
      rising 0 (files_of bs) (omega arith),
    )

    pub shares-holders : Holders (params_of bs).d (shares_by bs w)
    shares-holders =
        let b = (bundle-ranges bs (bundle-ok bs z)).book in (
          all_map (λ (s : Share) (x : (1 ≤ s.holder) × (s.holder ≤ (params_of bs).n)). (x.0, omega (arith, x.1, b.n-high))) (shares_by bs w)
              shares-ordered.0,
          rising-different (shares_by bs w) shares-ordered.1,
        )

-- words in width
pub shares-width : (k : ℕ) (bs : List ℕ) (w : ℕ → Element) → ((f : ℕ) → f < files_of bs → IsElement k (params_of bs).d (w f)) →
    InWidth k (params_of bs).d (shares_by bs w)
shares-width k bs w h =
    values-all (λ (s : Share). IsElement k (params_of bs).d s.words) (share_by bs w) 0 (files_of bs) (λ j l u. h j (omega arith))

-- words are numbers of eight bytes, and so of 64 bits
words-stored : (bs : List ℕ) (n at : ℕ) → Bytes bs → all_in_width 64 (words_from 8 bs n at) ≡ true
unfolding words_from all_in_width
words-stored bs zero at b = refl
words-stored bs (suc n) at b = and_both (in_width 64 (le_at 8 bs at)) _ (lt-in-width 64 (le_at 8 bs at) (le_at-lt 8 bs at b)) (words-stored bs n (at + 8) b)

pub place-stored : (bs : List ℕ) (p : ℕ) → Bytes bs → InWidth 64 (params_of bs).d (shares_at bs p)
unfolding words_of word_size
place-stored bs p b =
    shares-width 64 bs (λ f. words_of bs f p) (λ f l. (words_length bs f p, words-stored bs (params_of bs).d (words_at (job_at bs f p)) b))

-- a run whose words are in width, in each file
pub of_width : (bs : List ℕ) (a n : ℕ) → ((f i : ℕ) → f < files_of bs → i < n → all_in_width (params_of bs).k (words_of bs f (a + i)) ≡ true) →
    files_in_width bs a n ≡ true
of_width bs a n h =
    every-all (λ g. run_in_width bs g a n) (files_of bs)
    (λ f l. every-all (λ j. all_in_width (params_of bs).k (words_of bs f (a + j))) n (λ i u. h f i l u))

-- a total is an element, whatever the words are
pub total-element : (bs : List ℕ) (f a n : ℕ) → IsElement (params_of bs).k (params_of bs).d (run_total bs f a n)
total-element bs f a n = (total-length bs f a n, sum-width (params_of bs).k (params_of bs).d (λ i. words_of bs f (a + i)) n)

pub run-stored : (bs : List ℕ) → bundle_fault bs ≡ 0 → (a n : ℕ) → InWidth 64 (params_of bs).d (shares_over bs a n)
run-stored bs z a n =
    let h = (bundle-ranges bs (bundle-ok bs z)).book.k-high in
    shares-width 64 bs (λ f. run_total bs f a n)
    (λ f l. let e = total-element bs f a n in (e.0, width-up (params_of bs).k 64 h (run_total bs f a n) e.1))
