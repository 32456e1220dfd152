-- Each holder adds up its shares over a run in its own file, which nobody else sees, and these totals, lent with the holders, open to the sum of the
-- jobs. Where the totals of up to e holders are changed, exactly these holders are named (`own-totals-open`), and where the files have what was
-- dealt, nobody is (`own-dealt-totals-open`). Assumes nothing.
use mathlib.Core.Path.{◌≡◌, sym, ap, ◌∙◌}
use mathlib.Core.List.{List}
use Prim.Native.Nat.{ℕ, ◌+◌, ◌-◌, ◌≤◌, ◌<◌}
use native.Mathlib.Omega.{arith}
use lib.Count.{ones}
use lib.ListN.{length, get_or}
use Rattle.algebra.specs.Shares.{All}
use Rattle.algebra.proofs.Shares.{all_map, all-map₂, all-at}
use Rattle.words.specs.declared.Params.{Params}
use Rattle.words.proofs.InRange.{InRange}
use Rattle.galois.specs.Element.{Element}
use Rattle.sharing.specs.Dealt.{Job, Present, OpensTo}
use Rattle.bundle.specs.Bundle.{params_of}
use Rattle.fetch.specs.Fetch.{file_of}
use Rattle.fetch.proofs.Fetch.{holder-file}
use Rattle.totals.specs.Total.{sum_to, run_total, total_words}
use Rattle.totals.proofs.Runs.{total-length}
use Rattle.totals.proofs.Totals.{TotalClear, total-clear, total-words}
use Rattle.promises.specs.Written.{Deals, share_of, shares_of, at_place, Archive, words_in, Written, Stored, HoldsShares, changed_over}
use Rattle.promises.specs.Written.{from_place, sum_secret, sum_dealing}
use Rattle.promises.specs.Totals.{elements_of, totals_of, alone, own_bundle, OwnTotal}
use Rattle.promises.proofs.Elements.{elements_same, elements-open, dealt-elements-open}
use Rattle.promises.proofs.Opened.{sums-share, jobs-count}
use Rattle.promises.proofs.Written.{Reads, reads, count-is, params_is, jobs_is, holder-is, total-is, range, holders-good, written-stored}

-- ---- what is read of holder h's own file

module _ (a : Archive) (h : ℕ) (written : Written (alone a h)) where
  abbrev bs : List ℕ
  bs = own_bundle a h

  stored : Stored (alone a h)
  stored = written-stored (alone a h) written

  r : Reads (alone a h)
  r = reads (alone a h) stored

  pub own-params : params_of (own_bundle a h) ≡ a.params
  own-params = params_is (alone a h) r

  pub own_range : InRange a.params
  own_range = range (alone a h) stored

  pub own-good : (1 ≤ h) × (h ≤ a.params.n)
  own-good = (holders-good (alone a h) stored).0

  first-file : file_of bs h ≡ 0
  first-file =
      let one : 0 < 1 = omega arith in
      ap (file_of bs) (sym (holder-is (alone a h) r 0 one)) ∙ holder-file bs r.no_fault 0 (omega (arith, count-is (alone a h) r))

  -- over a run for which a call returned 0
  module _ (x y : ℕ) {out : ℕ} (clear : TotalClear (own_bundle a h) h x y out) where
    -- places of the run are places of the file
    places : x + (y - x) ≤ length a.numbers
    places = omega (arith, clear.low, clear.high, jobs_is (alone a h) r)

    pub own-run : run_total (own_bundle a h) (file_of (own_bundle a h) h) x (y - x)
        ≡ sum_to a.params.k a.params.d (λ i. words_in a (x + i) h) (y - x)
    own-run = ap (λ (f : ℕ). run_total bs f x (y - x)) first-file ∙ total-is (alone a h) r 0 x (y - x) (omega arith) places

    run_long : length (sum_to a.params.k a.params.d (λ i. words_in a (x + i) h) (y - x)) ≡ a.params.d
    run_long = ap length (sym own-run) ∙ total-length bs (file_of bs h) x (y - x) ∙ ap (λ (q : Params). q.d) own-params

    -- where the file has what was dealt
    pub own-dealt : (js : List Job) → All (Deals a.params) js → a.words h ≡ shares_of a.params js h →
        (x + (y - x) ≤ length js)
        × (sum_to a.params.k a.params.d (λ i. words_in a (x + i) h) (y - x)
        ≡ sum_to a.params.k a.params.d (λ i. share_of a.params (at_place js (x + i)) h) (y - x))
    own-dealt js deals e =
        let count = jobs-count (alone a h) stored js deals (e, tt) in
        (omega (arith, count, places), sums-share (alone a h) stored js deals count x (y - x) places h own-good e)

-- ---- the totals of several holders

module _ (a : Archive) (x y : ℕ) (old : ℕ → List ℕ) (present : Present a.params a.holders a.allowance)
    (totals : All (λ h. OwnTotal a x y (old h) h) a.holders) where
  abbrev p : Params
  p = a.params

  abbrev hs : List ℕ
  hs = a.holders

  -- holder h's total over the run
  abbrev sum_in : ℕ → Element
  sum_in h = sum_to p.k p.d (λ i. words_in a (x + i) h) (y - x)

  clear : (h : ℕ) → OwnTotal a x y (old h) h → TotalClear (own_bundle a h) h x y (length (old h))
  clear h t = total-clear (own_bundle a h) h x y (length (old h)) t.no_fault

  long : All (λ h. length (sum_in h) ≡ p.d) hs
  long = all_map (λ h t. run_long a h t.written x y (clear h t)) hs totals

  -- the calls give these totals
  lot-is : totals_of (own_bundle a) x y old hs ≡ elements_of sum_in hs
  lot-is =
      elements_same (λ h. total_words (own_bundle a h) h x y (old h)) sum_in hs
      (all_map (λ h t. total-words (own_bundle a h) h x y (old h) t.no_fault ∙ own-run a h t.written x y (clear h t)) hs totals)

  some : 0 < length hs
  some = omega (arith, present.enough)

  ranges : InRange p
  ranges = own_range a (get_or hs 0 0) (all-at (λ h. OwnTotal a x y (old h) h) hs 0 0 totals some).written

  pub own-totals-open : (j : ℕ → Job) → ((i : ℕ) → i < y - x → Deals a.params (j i)) → ones (changed_over a j x (y - x)) ≤ a.allowance →
      OpensTo a.params a.holders (totals_of (own_bundle a) x y old a.holders) a.allowance
      (sum_dealing a.params j (y - x))
      (sum_secret a.params j (y - x)) (changed_over a j x (y - x))
  own-totals-open j deals few = rw lot-is (elements-open p ranges hs a.allowance present sum_in long j (y - x) deals few)

  pub own-dealt-totals-open : (js : List Job) → All (Deals a.params) js → HoldsShares a js →
      OpensTo a.params a.holders (totals_of (own_bundle a) x y old a.holders) a.allowance
      (sum_dealing a.params (from_place js x) (y - x))
      (sum_secret a.params (from_place js x) (y - x)) 0
  own-dealt-totals-open js deals holds =
      let dealt = all-map₂ (λ h t e. own-dealt a h t.written x y (clear h t) js deals e) hs totals holds in
      let count : x + (y - x) ≤ length js = (all-at _ hs 0 0 dealt some).0 in
      rw lot-is
      (dealt-elements-open p ranges hs a.allowance present sum_in long (from_place js x) (y - x)
      (λ i v. all-at (Deals p) js (x + i) _ deals (omega (arith, count))) (all_map (λ h t. t.1) hs dealt))
