-- Jobs that are dealt, written and bundled by the calls open by the calls. What is asked is that the calls of the writers returned 0 (`Written`),
-- that the jobs are dealt, and that the files are t + 1 + 2e or more. Where all files have what was dealt, each place opens to its job and each run
-- to the sum of its jobs, with nobody named (`dealt-place-opens`, `dealt-sum-opens`). Where since then up to e files have got other words, any of 64
-- bits, each place opens to the same, and exactly those holders are named who have other words there (`changed-place-opens`); so does each run that
-- has no wide word, and those are named who have another sum (`changed-sum-opens`). For one place or run it is enough that the words there, or the
-- sums, of up to e holders are changed (`stored-place-opens`, `stored-run-opens`). A run with a wide word gives 3 (`wide-run-declines`). Assumes
-- nothing.
use mathlib.Core.Path.{◌≡◌, refl, sym, ap, ap₂, subst, ◌∙◌}
use mathlib.Core.Bool.{true, false}
use mathlib.Core.List.{List, [], ◌∷◌}
use Prim.Native.Nat.{ℕ, ◌+◌, ◌-◌, ◌*◌, ◌≤◌, ◌<◌}
use native.Mathlib.Nat.{le_trans, le_of_mul-le-mul_right, le_of_eq}
use native.Mathlib.Omega.{arith}
use lib.Count.{ones}
use lib.ListN.{length, get_or, take, drop}
use Rattle.algebra.specs.Shares.{All}
use Rattle.algebra.proofs.Shares.{all_map, all-map₂, all-at}
use Rattle.words.specs.Refusal.{WIDE_WORD}
use Rattle.words.specs.declared.Params.{Params}
use Rattle.galois.specs.Element.{Element, point}
use Rattle.codewords.specs.Codeword.{Share, Polynomial, value, error_set}
use Rattle.codewords.specs.Demand.{Decides}
use Rattle.codewords.specs.Opening.{Opening, declines, opens, secret_into, wrong_into}
use Rattle.codewords.specs.WellFormed.{IsPoly}
use Rattle.codewords.proofs.ErrorSet.{ones-errors}
use Rattle.sharing.specs.Dealt.{Job}
use Rattle.bundle.specs.Bundle.{bundle_fault, params_of, allowance_of}
use Rattle.bundle.specs.Contents.{words_of}
use Rattle.totals.specs.Total.{sum_to, run_total}
use Rattle.totals.proofs.Sums.{sum_same}
use Rattle.archive.specs.Archive.{shares_by, shares_at, shares_over, open_place, open_run}
use Rattle.archive.specs.Clear.{PlaceClear, RunClear}
use Rattle.archive.specs.Dealt.{BundleOpensTo, PlaceOpensTo, RunOpensTo}
use Rattle.archive.proofs.Opens.{place-decides, run-decides, run-wide}
use Rattle.archive.proofs.Shares.{shares-holders}
use Rattle.promises.specs.Written.{Deals, dealing_of, share_of, shares_of, at_place, Archive, words_in, written_bundle, Written, Stored}
use Rattle.promises.specs.Written.{from_place, sum_secret, sum_dealing}
use Rattle.promises.specs.Written.{EnoughFiles, HoldsShares, in_width_over, with_words, Changed, changed_anywhere, changed_at, changed_over}
use Rattle.promises.proofs.Changed.{changed-fewer, errors-changed, changed-same, none-changed, no_ones}
use Rattle.promises.proofs.Jobs.{poly-of, share-value, free_of, shares-length, share-no}
use Rattle.promises.proofs.Jobs.{sum-poly, sum-free, sum-value}
use Rattle.promises.proofs.Written.{Reads, reads, params_is, jobs_is, enough-files, holders-fine, shares_at_lem, shares-over, width_is}
use Rattle.promises.proofs.Written.{range, holders-good, ranges-width, changed-stored, written-ranges, written-stored}

-- ---- shares within e of a polynomial open to it

near-opens : (bs : List ℕ) → bundle_fault bs ≡ 0 → (v : ℕ → Element) (o : Opening) → Decides (params_of bs) (allowance_of bs) (shares_by bs v) o →
    (q : Polynomial) → IsPoly (params_of bs).k (params_of bs).d (params_of bs).t q → (s : Element) → get_or q 0 [] ≡ s → (x : ℕ) →
    error_set (params_of bs).k (params_of bs).d q (shares_by bs v) ≡ x → ones x ≤ allowance_of bs → BundleOpensTo bs (shares_by bs v) o q s x
near-opens bs z v o decides q poly s free x e few =
    let k = (params_of bs).k in
    let d = (params_of bs).d in
    let ss = shares_by bs v in
    let good = shares-holders bs z v in
    let count = ones-errors k d q ss (all_map (λ (r : Share) y. y.0) ss good.0) good.1 in
    let found : o ≡ opens q = decides.finds q (record { poly = poly; near = rw (← count, e) few }) in
    record {
      opened = found;
      secret = λ old. ap (secret_into old) found ∙ free;
      wrong = λ old. ap (wrong_into k d ss old) found ∙ ap (λ (w : ℕ). w ∷ []) e;
    }

-- ---- an archive in whose files any words of 64 bits stand

module _ (a : Archive) (s : Stored a) where
  abbrev p : Params
  p = a.params

  abbrev bs : List ℕ
  bs = written_bundle a

  r : Reads a
  r = reads a s

  poly-read : (q : Polynomial) → IsPoly p.k p.d p.t q → IsPoly (params_of bs).k (params_of bs).d (params_of bs).t q
  poly-read q x = subst (λ (m : Params). IsPoly m.k m.d m.t q) (sym (params_is a r)) x

  d-read : p.d ≡ (params_of bs).d
  d-read = ap (λ (m : Params). m.d) (sym (params_is a r))

  -- up to e holders have something else at a place
  pub stored-place-opens : EnoughFiles a → (j : Job) → Deals a.params j → (i : ℕ) → i < length a.numbers →
      ones (changed_at a j i) ≤ a.allowance →
      PlaceOpensTo (written_bundle a) i a.params.d 1 64 (dealing_of a.params j) j.secret (changed_at a j i)
  stored-place-opens m j deals i u few =
      let q = dealing_of p j in
      let g = range a s in
      let clear : PlaceClear bs i p.d 1 64 =
      record { no_fault = r.no_fault; output = d-read; wrong_output = refl; lowest_output = refl; place = omega (arith, jobs_is a r) } in
      let e : error_set (params_of bs).k (params_of bs).d q (shares_at bs i) ≡ changed_at a j i =
      ap₂ (λ (m : Params) (ss : List Share). error_set m.k m.d q ss) (params_is a r) (shares_at_lem a r i u)
      ∙ errors-changed p.k p.d q (words_in a i) a.holders
      ∙ changed-same (λ h. value p.k p.d q (point p.d h)) (share_of p j) (words_in a i) a.holders
      (all_map (λ h x. sym (share-value p g j deals h x.0 x.1)) a.holders (holders-good a s)) in
      near-opens bs r.no_fault (λ f. words_of bs f i) (open_place bs i p.d 1 64)
      (place-decides bs i p.d 1 64 clear (enough-files a r m)) q (poly-read q (poly-of p g j deals)) j.secret (free_of p g j deals)
      (changed_at a j i) e (rw r.allowance few)

  -- the totals of up to e holders over a run are changed, and no word of it is wide
  pub stored-run-opens : EnoughFiles a → (j : ℕ → Job) (x y : ℕ) → x ≤ y → y ≤ length a.numbers → in_width_over a x (y - x) ≡ true →
      ((i : ℕ) → i < y - x → Deals a.params (j i)) → ones (changed_over a j x (y - x)) ≤ a.allowance →
      RunOpensTo (written_bundle a) x y a.params.d 1 64
      (sum_dealing a.params j (y - x))
      (sum_secret a.params j (y - x)) (changed_over a j x (y - x))
  stored-run-opens m j x y l u narrow deals few =
      let n = y - x in
      let g = range a s in
      let q = sum_dealing p j n in
      let held : ℕ → Element = λ h. sum_to p.k p.d (λ i. words_in a (x + i) h) n in
      let clear : RunClear bs x y p.d 1 64 =
      record {
        no_fault = r.no_fault;
        output = d-read;
        wrong_output = refl;
        lowest_output = refl;
        low = l;
        high = omega (arith, jobs_is a r);
        width = width_is a r x n (omega arith) ∙ narrow;
      } in
      let e : error_set (params_of bs).k (params_of bs).d q (shares_over bs x n) ≡ changed_over a j x n =
      ap₂ (λ (o : Params) (ss : List Share). error_set o.k o.d q ss) (params_is a r) (shares-over a r x n (omega arith))
      ∙ errors-changed p.k p.d q held a.holders
      ∙ changed-same (λ h. value p.k p.d q (point p.d h)) (λ h. sum_to p.k p.d (λ i. share_of p (j i) h) n) held a.holders
      (all_map (λ h z. sum-value p g j n deals h z.0 z.1) a.holders (holders-good a s)) in
      near-opens bs r.no_fault (λ f. run_total bs f x n) (open_run bs x y p.d 1 64)
      (run-decides bs x y p.d 1 64 clear (enough-files a r m)) q (poly-read q (sum-poly p g j n deals))
      (sum_secret p j n) (sum-free p g j n deals) (changed_over a j x n) e (rw r.allowance few)

  pub wide-run-declines : (x y : ℕ) → x ≤ y → y ≤ length a.numbers → in_width_over a x (y - x) ≡ false →
      open_run (written_bundle a) x y a.params.d 1 64 ≡ declines WIDE_WORD
  wide-run-declines x y l u wide =
      run-wide bs x y p.d 1 64 r.no_fault d-read refl refl l (omega (arith, jobs_is a r)) (width_is a r x (y - x) (omega arith) ∙ wide)

  -- ---- dealt jobs, one for each number

  module _ (js : List Job) (deals : All (Deals a.params) js) where
    module _ (count : length js ≡ length a.numbers) where
      pub deals-at : (i : ℕ) → i < length a.numbers → Deals a.params (at_place js i)
      deals-at i u = all-at (Deals p) js i _ deals (omega arith)

      -- a file that has its holder's shares has at each place the share of the job
      pub words-share : (i : ℕ) → i < length a.numbers → (h : ℕ) → (1 ≤ h) × (h ≤ a.params.n) → a.words h ≡ shares_of a.params js h →
          words_in a i h ≡ share_of a.params (at_place js i) h
      words-share i u h g e =
          ap (λ (ws : List ℕ). take p.d (drop (i * p.d) ws)) e ∙ share-no p (range a s) h g.0 g.1 js deals i (omega arith)

      -- and so over a run their sums
      pub sums-share : (x n : ℕ) → x + n ≤ length a.numbers → (h : ℕ) → (1 ≤ h) × (h ≤ a.params.n) → a.words h ≡ shares_of a.params js h →
          sum_to a.params.k a.params.d (λ i. words_in a (x + i) h) n
          ≡ sum_to a.params.k a.params.d (λ i. share_of a.params (at_place js (x + i)) h) n
      sums-share x n u h g e =
          sum_same p.k p.d (λ i. words_in a (x + i) h) (λ i. share_of p (at_place js (x + i)) h) n (λ i v. words-share (x + i) (omega arith) h g e)

      -- no more holders are changed at a place, or over a run, than have other words anywhere
      fewer-at : (i : ℕ) → i < length a.numbers → ones (changed_at a (at_place js i) i) ≤ ones (changed_anywhere a js)
      fewer-at i u =
          changed-fewer (params_of bs).d (shares_of p js) a.words (share_of p (at_place js i)) (words_in a i) a.holders (holders-fine a r)
          (all_map (λ h g. words-share i u h g) a.holders (holders-good a s))

      fewer-over : (x n : ℕ) → x + n ≤ length a.numbers → ones (changed_over a (from_place js x) x n) ≤ ones (changed_anywhere a js)
      fewer-over x n u =
          changed-fewer (params_of bs).d (shares_of p js) a.words (λ h. sum_to p.k p.d (λ i. share_of p (at_place js (x + i)) h) n)
          (λ h. sum_to p.k p.d (λ i. words_in a (x + i) h) n) a.holders (holders-fine a r)
          (all_map (λ h g. sums-share x n u h g) a.holders (holders-good a s))

    -- where the files have their holders' shares there is a job for each number
    pub jobs-count : HoldsShares a js → length js ≡ length a.numbers
    jobs-count holds =
        let h = get_or a.holders 0 0 in
        let one = s.well_formed.some_holder in
        let g = all-at (λ h. (1 ≤ h) × (h ≤ p.n)) a.holders 0 0 (holders-good a s) one in
        let c = all-at (λ h. length (a.words h) ≡ length a.numbers * p.d) a.holders 0 0 s.well_formed.words_count one in
        let q = range a s in
        let e : length js * p.d ≡ length a.numbers * p.d =
        sym (shares-length p q h g.0 g.1 js deals)
        ∙ ap length (sym (all-at (λ (i : ℕ). a.words i ≡ shares_of p js i) a.holders 0 0 holds one)) ∙ c in
        let low : 0 < p.d = omega (arith, q.d-low) in
        let le : length js ≤ length a.numbers = le_of_mul-le-mul_right {k = p.d} (le_of_eq e) low in
        let ge : length a.numbers ≤ length js = le_of_mul-le-mul_right {k = p.d} (le_of_eq (sym e)) low in
        omega arith

-- ---- an archive that the calls wrote of dealt jobs

module _ (a : Archive) (w : Written a) (js : List Job) (deals : All (Deals a.params) js) (holds : HoldsShares a js) where
  stored : Stored a
  stored = written-stored a w

  count : length js ≡ length a.numbers
  count = jobs-count a stored js deals holds

  -- since then up to e of the files have come to have other words, whatever these are
  module _ (m : EnoughFiles a) (ws : ℕ → List ℕ) (changed : Changed a ws) (few : ones (changed_anywhere (with_words a ws) js) ≤ a.allowance) where
    later : Stored (with_words a ws)
    later = changed-stored a ws (written-ranges a w).well_formed changed

    pub changed-place-opens : (i : ℕ) → i < length a.numbers →
        PlaceOpensTo (written_bundle (with_words a ws)) i a.params.d 1 64 (dealing_of a.params (at_place js i)) (at_place js i).secret
        (changed_at (with_words a ws) (at_place js i) i)
    changed-place-opens i u =
        stored-place-opens (with_words a ws) later m (at_place js i) (deals-at a stored js deals count i u) i u
        (le_trans (fewer-at (with_words a ws) later js deals count i u) few)

    pub changed-sum-opens : (x y : ℕ) → x ≤ y → y ≤ length a.numbers → in_width_over (with_words a ws) x (y - x) ≡ true →
        RunOpensTo (written_bundle (with_words a ws)) x y a.params.d 1 64
        (sum_dealing a.params (from_place js x) (y - x))
        (sum_secret a.params (from_place js x) (y - x)) (changed_over (with_words a ws) (from_place js x) x (y - x))
    changed-sum-opens x y l u narrow =
        stored-run-opens (with_words a ws) later m (from_place js x) x y l u narrow (λ i v. deals-at a stored js deals count (x + i) (omega arith))
        (le_trans (fewer-over (with_words a ws) later js deals count x (y - x) (omega arith)) few)

  -- all files have what was dealt
  pub dealt-place-opens : EnoughFiles a → (i : ℕ) → i < length a.numbers →
      PlaceOpensTo (written_bundle a) i a.params.d 1 64 (dealing_of a.params (at_place js i)) (at_place js i).secret 0
  dealt-place-opens m i u =
      let q = a.params in
      let j = at_place js i in
      let none : changed_at a j i ≡ 0 =
      none-changed (share_of q j) (words_in a i) a.holders
      (all-map₂ (words-share a stored js deals count i u) a.holders (holders-good a stored) holds) in
      subst (PlaceOpensTo (written_bundle a) i q.d 1 64 (dealing_of q j) j.secret) none
      (stored-place-opens a stored m j (deals-at a stored js deals count i u) i u (rw (none, no_ones) (omega arith)))

  pub dealt-sum-opens : EnoughFiles a → (x y : ℕ) → x ≤ y → y ≤ length a.numbers →
      RunOpensTo (written_bundle a) x y a.params.d 1 64
      (sum_dealing a.params (from_place js x) (y - x))
      (sum_secret a.params (from_place js x) (y - x)) 0
  dealt-sum-opens m x y l u =
      let q = a.params in
      let n = y - x in
      let j : ℕ → Job = from_place js x in
      let none : changed_over a j x n ≡ 0 =
      none-changed (λ h. sum_to q.k q.d (λ i. share_of q (j i) h) n) (λ h. sum_to q.k q.d (λ i. words_in a (x + i) h) n) a.holders
      (all-map₂ (sums-share a stored js deals count x n (omega arith)) a.holders (holders-good a stored) holds) in
      subst (RunOpensTo (written_bundle a) x y q.d 1 64 (sum_dealing q j n) (sum_secret q j n)) none
      (stored-run-opens a stored m j x y l u (ranges-width a (written-ranges a w) x n) (λ i v. deals-at a stored js deals count (x + i) (omega arith))
      (rw (none, no_ones) (omega arith)))
