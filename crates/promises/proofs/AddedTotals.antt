-- Each holder has several files, of several archives, starts from zero words and adds to its element a run of each, one call after another. These
-- elements, lent with the holders, open to the sum of the runs' jobs. Where those of up to e holders are not what they should be, exactly these
-- holders are named (`own-added-open`), and where the files have what was dealt, nobody is (`own-dealt-added-open`). Assumes nothing.
use mathlib.Core.Path.{◌≡◌, refl, sym, ap, ap₂, subst, ◌∙◌}
use mathlib.Core.List.{List, [], ◌∷◌, ◌++◌, append-nil, append_assoc}
use Prim.Native.Nat.{ℕ, zero, suc, ◌+◌, ◌-◌, ◌≤◌, ◌<◌}
use native.Mathlib.Omega.{arith}
use lib.Count.{ones}
use lib.ListN.{length, get_or, take, drop, length-append, length-drop, length-replicate, get_or-append}
use lib.Seq.{length-take-le, get_or-take, get_or-drop, get_or-append-add}
use Rattle.algebra.specs.Shares.{All}
use Rattle.algebra.proofs.Shares.{all_map, all-map₂, all-at, all_take}
use Rattle.words.specs.declared.Params.{Params}
use Rattle.words.proofs.InRange.{InRange}
use Rattle.galois.specs.Element.{Element, sum, zero_e}
use Rattle.sharing.specs.Dealt.{Job, Present, OpensTo}
use Rattle.totals.specs.Total.{sum_to}
use Rattle.totals.proofs.Sums.{sum-none, sum_same, sum-split}
use Rattle.totals.proofs.AddTotals.{AddClear, add-clear, add-total-words, add-total-length}
use Rattle.promises.specs.Written.{Deals, share_of, shares_of, at_place, changed_holders, sum_secret, sum_dealing}
use Rattle.promises.specs.Totals.{elements_of, own_bundle, Part, jobs_over, added_one, added_over, OwnAdd, OwnAdds}
use Rattle.promises.proofs.Elements.{elements-open, dealt-elements-open}
use Rattle.promises.proofs.Jobs.{one-share-length}
use Rattle.promises.proofs.OwnTotals.{own-params, own_range, own-good, own-run, own-dealt}

module _ {S : Type 0} (P : S → Type 0) where
  all_drop : (n : ℕ) (ss : List S) → All P ss → All P (drop n ss)
  all_drop zero ss a = a
  all_drop (suc n) [] a = tt
  all_drop (suc n) (s ∷ ss) a = all_drop n ss a.1

  all_append : (ss rs : List S) → All P ss → All P rs → All P (ss ++ rs)
  all_append [] rs a b = b
  all_append (s ∷ ss) rs a b = (a.0, all_append ss rs a.1 b)

-- ---- one call

-- the jobs of a run
abbrev run : Part → List Job
run r = take (r.to - r.from) (drop r.from r.jobs)

-- a holder's shares of jobs, and their total
abbrev share : Params → ℕ → List Job → ℕ → Element
share p h js i = share_of p (at_place js i) h

abbrev total : Params → ℕ → List Job → Element
total p h js = sum_to p.k p.d (share p h js) (length js)

module _ (r : Part) (h : ℕ) (was : List ℕ) (t : OwnAdd r h was) where
  abbrev bs : List ℕ
  bs = own_bundle r.archive h

  clear : AddClear bs h r.from r.to was
  clear = add-clear bs h r.from r.to was t.no_fault

  one-length : length (added_one r h was) ≡ length was
  one-length = add-total-length bs h r.from r.to was t.no_fault ∙ sym clear.total.output

  -- of a file that has what was dealt
  one-added : let p = r.archive.params in All (Deals p) r.jobs → r.archive.words h ≡ shares_of p r.jobs h →
      added_one r h was ≡ sum p.k was (total p h (run r))
  one-added deals e =
      let a = r.archive in
      let p = a.params in
      let x = r.from in
      let n = r.to - x in
      let js = r.jobs in
      let dealt = own-dealt a h t.written x r.to clear.total js deals e in
      let count : length (run r) ≡ n = length-take-le n (drop x js) (rw length-drop (omega (arith, dealt.0))) in
      add-total-words bs h x r.to was t.no_fault
      ∙ ap₂ (λ (q : Params) (s : Element). sum q.k was s) (own-params a h t.written)
      (own-run a h t.written x r.to clear.total
      ∙ dealt.1
      ∙ sum_same p.k p.d (λ i. share p h js (x + i)) (share p h (run r)) n
      (λ i v. ap (λ (j : Job). share_of p j h) (sym (get_or-take n (drop x js) i _ v ∙ get_or-drop x js i _)))
      ∙ ap (sum_to p.k p.d (share p h (run r))) (sym count))

-- ---- one call after another

added-length : (rs : List Part) (h : ℕ) (was : List ℕ) → OwnAdds rs h was → length (added_over rs h was) ≡ length was
unfolding added_over
added-length [] h was t = refl
added-length (r ∷ rs) h was t = added-length rs h (added_one r h was) t.1 ∙ one-length r h was t.0

-- each file has what was dealt
module _ (p : Params) where
  run-deals : (r : Part) → All (Deals p) r.jobs → All (Deals p) (run r)
  run-deals r deals = all_take (λ j x. x) (r.to - r.from) (drop r.from r.jobs) (all_drop (Deals p) r.from r.jobs deals)

  jobs-deal : (rs : List Part) → All (λ s. All (Deals p) s.jobs) rs → All (Deals p) (jobs_over rs)
  unfolding jobs_over
  jobs-deal [] deals = tt
  jobs-deal (r ∷ rs) deals = all_append (Deals p) (run r) (jobs_over rs) (run-deals r deals.0) (jobs-deal rs deals.1)

  module _ (ranges : InRange p) (h : ℕ) (good : (1 ≤ h) × (h ≤ p.n)) where
    total-append : (js ks : List Job) → All (Deals p) js → total p h (js ++ ks) ≡ sum p.k (total p h js) (total p h ks)
    total-append js ks deals =
        let k = p.k in
        let d = p.d in
        let m = length js in
        let both = share p h (js ++ ks) in
        let left : (i : ℕ) → i < m → both i ≡ share p h js i = λ i v. ap (λ (j : Job). share_of p j h) (get_or-append js ks _ i v) in
        ap (sum_to k d both) (length-append js ks)
        ∙ sum-split k d both m (length ks)
        (λ i v. ap length (left i v) ∙ one-share-length p ranges (at_place js i) (all-at (Deals p) js i _ deals v) h good.0 good.1)
        ∙ ap₂ (sum k) (sum_same k d both (share p h js) m left)
        (sum_same k d (λ i. both (m + i)) (share p h ks) (length ks) (λ i v. ap (λ (j : Job). share_of p j h) (get_or-append-add js ks i _)))

    -- the calls add these runs to an element in which the shares of the jobs js are already
    added_is : (rs : List Part) → All (λ s. s.archive.params ≡ p) rs → All (λ s. All (Deals p) s.jobs) rs →
        All (λ s. s.archive.words h ≡ shares_of p s.jobs h) rs → (js : List Job) → All (Deals p) js → (was : List ℕ) → was ≡ total p h js →
        OwnAdds rs h was → added_over rs h was ≡ total p h (js ++ jobs_over rs)
    unfolding added_over jobs_over
    added_is [] book deals holds js before was e t = e ∙ ap (total p h) (sym (append-nil js))
    added_is (r ∷ rs) book deals holds js before was e t =
        let added : added_one r h was ≡ total p h (js ++ run r) =
        subst (λ (q : Params). All (Deals q) r.jobs → r.archive.words h ≡ shares_of q r.jobs h →
        added_one r h was ≡ sum q.k was (total q h (run r))) book.0 (one-added r h was t.0) deals.0 holds.0
        ∙ ap (λ (s : Element). sum p.k s (total p h (run r))) e ∙ sym (total-append js (run r) before) in
        let after = all_append (Deals p) js (run r) before (run-deals r deals.0) in
        added_is rs book.1 deals.1 holds.1 (js ++ run r) after (added_one r h was) added t.1
        ∙ ap (total p h) (append_assoc js (run r) (jobs_over rs))

-- ---- they open

module _ (r : Part) (rs : List Part) (hs : List ℕ) (e : ℕ) (present : Present r.archive.params hs e)
    (adds : All (λ h. OwnAdds (r ∷ rs) h (zero_e r.archive.params.d)) hs) where
  abbrev p : Params
  p = r.archive.params

  abbrev own : ℕ → List ℕ
  own h = added_over (r ∷ rs) h (zero_e p.d)

  ranges : InRange p
  ranges =
      own_range r.archive (get_or hs 0 0)
      (all-at (λ h. OwnAdds (r ∷ rs) h (zero_e p.d)) hs 0 0 adds (omega (arith, present.enough))).0.written

  long : All (λ h. length (own h) ≡ p.d) hs
  long = all_map (λ h t. added-length (r ∷ rs) h (zero_e p.d) t ∙ length-replicate p.d 0) hs adds

  pub own-added-open : (js : List Job) → All (Deals r.archive.params) js → let p = r.archive.params in
      let own : ℕ → List ℕ = λ h. added_over (r ∷ rs) h (zero_e p.d) in
      let c = changed_holders (λ h. sum_to p.k p.d (λ i. share_of p (at_place js i) h) (length js)) own hs in ones c ≤ e →
      OpensTo p hs (elements_of own hs) e (sum_dealing p (at_place js) (length js)) (sum_secret p (at_place js) (length js)) c
  own-added-open js deals few = elements-open p ranges hs e present own long (at_place js) (length js) (λ i v. all-at (Deals p) js i _ deals v) few

  pub own-dealt-added-open : All (λ s. s.archive.params ≡ r.archive.params) rs →
      All (λ s. All (Deals r.archive.params) s.jobs) (r ∷ rs) →
      All (λ h. All (λ s. s.archive.words h ≡ shares_of r.archive.params s.jobs h) (r ∷ rs)) hs →
      let p = r.archive.params in let js = jobs_over (r ∷ rs) in
      OpensTo p hs (elements_of (λ h. added_over (r ∷ rs) h (zero_e p.d)) hs) e
      (sum_dealing p (at_place js) (length js)) (sum_secret p (at_place js) (length js)) 0
  own-dealt-added-open book deals holds =
      let js = jobs_over (r ∷ rs) in
      dealt-elements-open p ranges hs e present own long (at_place js) (length js)
      (λ i v. all-at (Deals p) js i _ (jobs-deal p (r ∷ rs) deals) v)
      (all-map₂ (λ h t w. added_is p ranges h (own-good r.archive h t.0.written) (r ∷ rs) (refl, book) deals w [] tt (zero_e p.d)
      (sym (sum-none p.k p.d _)) t) hs adds holds)
