-- Dealt jobs. A holder's share of one is the value at the holder's point (`share-value`), its shares of several stand in their places (`share-no`)
-- and are in width (`shares-width`), and their sum is the value of the sum of the polynomials (`sum-value`). Assumes nothing.
use mathlib.Core.Path.{◌≡◌, refl, sym, ap, ap₂, ◌∙◌}
use mathlib.Core.Bool.{true}
use mathlib.Core.List.{List, [], ◌∷◌, ◌++◌}
use Prim.Native.Nat.{ℕ, zero, suc, ◌+◌, ◌-◌, ◌*◌, ◌≤◌, ◌<◌}
use native.Mathlib.Nat.{not-suc-le-zero}
use native.Mathlib.Omega.{arith}
use lib.ListN.{length, get_or, take, drop, length-append}
use lib.Seq.{take_at, drop-append-add}
use Rattle.algebra.specs.Shares.{All}
use Rattle.words.specs.declared.Params.{Params}
use Rattle.words.specs.Word.{all_in_width}
use Rattle.words.proofs.InRange.{InRange}
use Rattle.words.proofs.Tests.{and_both}
use Rattle.galois.specs.Element.{point}
use Rattle.codewords.specs.Codeword.{Polynomial, value}
use Rattle.codewords.specs.WellFormed.{IsPoly}
use Rattle.codewords.proofs.Value.{rows_of, value-element}
use Rattle.sharing.specs.Dealing.{dealing, dealt}
use Rattle.sharing.specs.Dealt.{Job}
use Rattle.sharing.proofs.Dealt.{share-length, share-at}
use Rattle.sharing.proofs.DealtOpens.{dealing-poly}
use Rattle.totals.specs.Total.{sum_to}
use Rattle.totals.proofs.Sums.{sum_same}
use Rattle.totals.proofs.Words.{width-append}
use Rattle.archive.proofs.Sums.{sums-poly, value-sums, free-sums}
use Rattle.promises.specs.Written.{Deals, dealing_of, share_of, shares_of, at_place}
use Rattle.promises.specs.Written.{sum_secret, sum_dealing}

module _ (p : Params) (r : InRange p) (j : Job) (deals : Deals p j) where
  pub poly-of : IsPoly p.k p.d p.t (dealing_of p j)
  poly-of = dealing-poly p j.secret j.coefficients deals.n deals.no_fault

  -- a holder's share is the value at its point
  pub share-value : (h : ℕ) → 1 ≤ h → h ≤ p.n → share_of p j h ≡ value p.k p.d (dealing_of p j) (point p.d h)
  unfolding dealt
  share-value h l u =
      let e : 1 + (h - 1) ≡ h = omega arith in
      let q = dealing_of p j in
      share-at p.k p.d r.d-low r.d-high q (rows_of p.k p.d p.t q poly-of) p.n 1 (h - 1) (omega arith)
      ∙ ap (λ (i : ℕ). value p.k p.d q (point p.d i)) e

  pub one-share-length : (h : ℕ) → 1 ≤ h → h ≤ p.n → length (share_of p j h) ≡ p.d
  one-share-length h l u =
      let q = dealing_of p j in
      ap length (share-value h l u) ∙ share-length p.k p.d r.d-low r.d-high q (rows_of p.k p.d p.t q poly-of) h

  pub free_of : get_or (dealing_of p j) 0 [] ≡ j.secret
  unfolding dealing
  free_of = refl

-- the shares of several jobs, by their places
module _ (p : Params) (r : InRange p) (h : ℕ) (l : 1 ≤ h) (u : h ≤ p.n) where
  pub shares-length : (js : List Job) → All (Deals p) js → length (shares_of p js h) ≡ length js * p.d
  unfolding shares_of
  shares-length [] deal = omega arith
  shares-length (j ∷ js) deal =
      length-append (share_of p j h) (shares_of p js h)
      ∙ ap₂ ◌+◌ (one-share-length p r j deal.0 h l u) (shares-length js deal.1) ∙ omega arith

  pub share-no : (js : List Job) → All (Deals p) js → (i : ℕ) → i < length js →
      take p.d (drop (i * p.d) (shares_of p js h)) ≡ share_of p (at_place js i) h
  unfolding shares_of
  share-no [] deal i v = absurd (not-suc-le-zero v)
  share-no (j ∷ js) deal zero v =
      let e : 0 * p.d ≡ 0 = omega arith in
      rw e (take_at (share_of p j h) (shares_of p js h) p.d (one-share-length p r j deal.0 h l u))
  share-no (j ∷ js) deal (suc i) v =
      let n = one-share-length p r j deal.0 h l u in
      let e : suc i * p.d ≡ length (share_of p j h) + i * p.d = omega arith in
      ap (λ (m : ℕ). take p.d (drop m (share_of p j h ++ shares_of p js h))) e
      ∙ ap (take p.d) (drop-append-add (share_of p j h) (shares_of p js h) (i * p.d))
      ∙ share-no js deal.1 i (omega arith)

  pub shares-width : (js : List Job) → All (Deals p) js → all_in_width p.k (shares_of p js h) ≡ true
  unfolding shares_of all_in_width
  shares-width [] deal = refl
  shares-width (j ∷ js) deal =
      let q = dealing_of p j in
      width-append p.k (share_of p j h) (shares_of p js h)
      ∙ and_both _ _
      (ap (all_in_width p.k) (share-value p r j deal.0 h l u)
      ∙ (value-element p.d r.d-low r.d-high p.k q (rows_of p.k p.d p.t q (poly-of p r j deal.0))
      (record { holder = h; words = [] })).1)
      (shares-width js deal.1)

-- the sum of n jobs, each with its polynomial
module _ (p : Params) (r : InRange p) (j : ℕ → Job) (n : ℕ) (deals : (i : ℕ) → i < n → Deals p (j i)) where
  abbrev one : ℕ → Polynomial
  one i = dealing_of p (j i)

  polys : (i : ℕ) → i < n → IsPoly p.k p.d p.t (one i)
  polys i v = poly-of p r (j i) (deals i v)

  pub sum-poly : IsPoly p.k p.d p.t (sum_dealing p j n)
  sum-poly = sums-poly p.k p.d p.t one n polys

  pub sum-free : get_or (sum_dealing p j n) 0 [] ≡ sum_secret p j n
  sum-free =
      free-sums p.k p.d p.t one n polys
      ∙ sum_same p.k p.d (λ i. get_or (one i) 0 []) (λ i. (j i).secret) n (λ i v. free_of p r (j i) (deals i v))

  -- a holder's total of its shares is the value of the sum at its point
  pub sum-value : (h : ℕ) → 1 ≤ h → h ≤ p.n →
      value p.k p.d (sum_dealing p j n) (point p.d h)
      ≡ sum_to p.k p.d (λ i. share_of p (j i) h) n
  sum-value h l u =
      value-sums p.k p.d p.t one r.d-low r.d-high n polys h
      ∙ sum_same p.k p.d (λ i. value p.k p.d (one i) (point p.d h)) (λ i. share_of p (j i) h) n
      (λ i v. sym (share-value p r (j i) (deals i v) h l u))
