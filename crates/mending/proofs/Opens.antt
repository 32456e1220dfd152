-- Opening the mended bundle: a job that opened has the values of its polynomial in every file, so it opens to the same polynomial with nobody wrong in
-- it; the others have their shares as they were. So a call that opens a job answers the same (`answers-same`), and nobody is wrong (`none-wrong`,
-- `nobody-named`). Assumes nothing.
use mathlib.Core.Path.{◌≡◌, refl, sym, ap, ap₂, ◌∙◌}
use Prim.Native.Nat.{ℕ, zero, suc, ◌+◌, ◌-◌, ◌*◌, ◌^◌, ◌≤◌, ◌<◌}
use native.Mathlib.Decide.{dec_le}
use native.Mathlib.Omega.{arith}
use mathlib.Core.Bool.{false}
use mathlib.Core.List.{List, [], ◌∷◌}
use Rattle.words.specs.Refusal.{first}
use Rattle.words.proofs.InRange.{range-ok}
use Rattle.words.proofs.Refusals.{first-right}
use Rattle.records.specs.Num.{Bytes}
use Rattle.records.specs.declared.Heading.{Heading}
use Rattle.algebra.specs.Shares.{All}
use Rattle.codewords.specs.Codeword.{Share, Polynomial, when, differs, error_set}
use Rattle.codewords.specs.Opening.{Opening, declines, opens, wrong_of, wrong_into, unless_fault, answer_to}
use Rattle.codewords.proofs.Opening.{opens_not, answer-few, answer-poly, answer-decides}
use Rattle.codewords.proofs.Value.{value-right}
use Rattle.codewords.proofs.Without.{none-errors}
use Rattle.bundle.specs.Bundle.{bundle_fault, bundle_heading, params_of, files_of, holder_of, allowance_of}
use Rattle.bundle.specs.Contents.{words_of}
use Rattle.bundle.proofs.Bundles.{bundle-ok, bundle-ranges}
use Rattle.fetch.specs.Fetch.{place_fault}
use Rattle.fetch.proofs.Fetch.{place_in}
use Rattle.totals.specs.Values.{values_from}
use Rattle.totals.proofs.Values.{values_same}
use Rattle.archive.specs.Archive.{share_by, shares_by, shares_at, place_opening, outputs_fault, opening_fault, open_place}
use Rattle.archive.proofs.Shares.{values-all, shares-count, shares-holders}
use Rattle.mending.specs.Mended.{wrong_at, reworded, mended_words}
use Rattle.mending.proofs.Words.{Fitting, reworded-accepted, reworded-order, reworded-files, reworded-first, reworded-heading, reworded-words}
use Rattle.mending.proofs.Mended.{mended-declined, mended-opened, mended-fits}

-- ---- what holds of any shares and openings

-- shares of which none differs are nobody's
none-set : (k d : ℕ) (q : Polynomial) (ss : List Share) → All (λ s. differs k d q s ≡ false) ss → error_set k d q ss ≡ 0
unfolding error_set
none-set k d q [] h = refl
none-set k d q (s ∷ ss) h = ap₂ (λ b n. when b (2 ^ (s.holder - 1)) + n) h.0 (none-set k d q ss h.1)

-- openings behind the same fault
unless-same : (c : ℕ) (o u : Opening) → (c ≡ 0 → o ≡ u) → unless_fault c o ≡ unless_fault c u
unless-same zero o u h = h refl
unless-same (suc c) o u h = refl

pub unless-opens : (c : ℕ) (o : Opening) (q : Polynomial) → unless_fault c o ≡ opens q → (c ≡ 0) × (o ≡ opens q)
unless-opens zero o q e = (refl, e)
unless-opens (suc c) o q e = opens_not (sym e)

-- a call with nothing ahead of its opening is of a place that is there
place-there : (bs : List ℕ) (p n w lo : ℕ) → opening_fault bs n w lo (place_fault (bundle_heading bs) p) ≡ 0 → p < (bundle_heading bs).jobs
unfolding opening_fault
place-there bs p n w lo e =
    place_in (bundle_heading bs) p
    (first-right (outputs_fault (params_of bs).d n w lo) _ (first-right (bundle_fault bs) _ e))

module _ (bs : List ℕ) (z : bundle_fault bs ≡ 0) (b : Bytes bs) where
  abbrev out : List ℕ
  out = reworded bs (mended_words bs)

  fits : Fitting bs (mended_words bs)
  fits = mended-fits bs z b

  heading : bundle_heading out ≡ bundle_heading bs
  heading = reworded-first bs z b (mended_words bs) fits

  params : params_of out ≡ params_of bs
  params = ap (λ (h : Heading). h.params) heading

  -- ---- the job at a place

  module _ (p : ℕ) (l : p < (bundle_heading bs).jobs) where
    -- its shares have the mended words
    abbrev mended-shares : List Share
    mended-shares = shares_by bs (λ f. mended_words bs f p)

    shares_out : shares_at out p ≡ mended-shares
    shares_out =
        ap (values_from (share_by out (λ f. words_of out f p)) 0) (reworded-files bs z b (mended_words bs) fits)
        ∙ values_same (share_by out (λ f. words_of out f p)) (share_by bs (λ f. mended_words bs f p)) 0 (files_of bs) (λ f a u. one f (omega arith))
      where
        one : (f : ℕ) → f < files_of bs → share_by out (λ g. words_of out g p) f ≡ share_by bs (λ g. mended_words bs g p) f
        one f u =
            let h : holder_of out f ≡ holder_of bs f = ap (λ (x : Heading). x.holder) (reworded-heading bs z b (mended_words bs) fits f u) in
            let w : words_of out f p ≡ mended_words bs f p = reworded-words bs z b (mended_words bs) fits f p u l in
            λ i. record { holder = h i; words = w i }

    answer-out : place_opening out p ≡ answer_to (params_of bs) (allowance_of bs) mended-shares
    unfolding place_opening
    answer-out = λ i. answer_to (params i) (reworded-order bs z b (mended_words bs) fits i) (shares_out i)

    -- one that declined has its shares as they were
    declined-again : (c : ℕ) → place_opening bs p ≡ declines c → place_opening out p ≡ declines c
    unfolding place_opening
    declined-again c e =
        answer-out
        ∙ ap (answer_to (params_of bs) (allowance_of bs))
        (values_same (share_by bs (λ f. mended_words bs f p)) (share_by bs (λ f. words_of bs f p)) 0 (files_of bs)
        (λ f a u. (let w = mended-declined bs f p c e in λ i. record { holder = holder_of bs f; words = w i })))
        ∙ e

    -- one that opened has the polynomial's values
    module _ (q : Polynomial) (e : place_opening bs p ≡ opens q) where
      all_right : All (λ s. differs (params_of bs).k (params_of bs).d q s ≡ false) mended-shares
      all_right =
          values-all (λ (s : Share). differs (params_of bs).k (params_of bs).d q s ≡ false) (share_by bs (λ f. mended_words bs f p)) 0 (files_of bs)
          (λ f a u. value-right (params_of bs).k (params_of bs).d q (share_by bs (λ g. mended_words bs g p) f) (mended-opened bs f p q e))

      enough : (params_of bs).t + 1 + 2 * allowance_of bs ≤ files_of bs
      unfolding place_opening
      enough =
          elim (dec_le ((params_of bs).t + 1 + 2 * allowance_of bs) (files_of bs)) [
            | yes m ↦ m
            | no m ↦ opens_not (sym e ∙ answer-few (params_of bs) (allowance_of bs) (shares_at bs p)
                (rw (shares-count bs (λ f. words_of bs f p)) (omega arith)))
          ]

      opened-again : place_opening out p ≡ opens q
      unfolding place_opening
      opened-again =
          answer-out
          ∙ (answer-decides (params_of bs) (range-ok (params_of bs) (bundle-ranges bs (bundle-ok bs z)).book) (allowance_of bs) mended-shares
          (shares-holders bs z (λ f. mended_words bs f p)) (rw (shares-count bs (λ f. mended_words bs f p)) enough)).finds q
          (record {
            poly = answer-poly (params_of bs) (allowance_of bs) (shares_at bs p) q e;
            near = rw (none-errors (params_of bs).k (params_of bs).d q mended-shares all_right) (omega arith);
          })

      none_named : error_set (params_of out).k (params_of out).d q (shares_at out p) ≡ 0
      none_named =
          (λ i. error_set (params i).k (params i).d q (shares_out i)) ∙ none-set (params_of bs).k (params_of bs).d q mended-shares all_right

    opening-same : place_opening out p ≡ place_opening bs p
    opening-same = go (place_opening bs p) refl
      where
        go : (o : Opening) → place_opening bs p ≡ o → place_opening out p ≡ place_opening bs p
        go (declines c) e = declined-again c e ∙ sym e
        go (opens q) e = opened-again q e ∙ sym e

    pub none-wrong : wrong_at out p ≡ 0
    none-wrong = ap (wrong_of (params_of out).k (params_of out).d (shares_at out p)) opening-same ∙ go (place_opening bs p) refl
      where
        go : (o : Opening) → place_opening bs p ≡ o → wrong_of (params_of out).k (params_of out).d (shares_at out p) o ≡ 0
        go (declines c) e = refl
        go (opens q) e = none_named q e

  -- ---- a call that opens a job

  module _ (p n w lo : ℕ) where
    fault-same : opening_fault out n w lo (place_fault (bundle_heading out) p) ≡ opening_fault bs n w lo (place_fault (bundle_heading bs) p)
    unfolding opening_fault
    fault-same =
        let a : bundle_fault out ≡ bundle_fault bs = reworded-accepted bs z b (mended_words bs) fits ∙ sym z in
        λ i. first (a i) (first (outputs_fault (params i).d n w lo) (place_fault (heading i) p))

    pub answers-same : open_place out p n w lo ≡ open_place bs p n w lo
    unfolding open_place
    answers-same =
        ap (λ (c : ℕ). unless_fault c (place_opening out p)) fault-same
        ∙ unless-same _ (place_opening out p) (place_opening bs p) (λ c. opening-same p (place-there bs p n w lo c))

    pub nobody-named : (q : Polynomial) (old : List ℕ) → open_place out p n w lo ≡ opens q →
        wrong_into (params_of out).k (params_of out).d (shares_at out p) old (open_place out p n w lo) ≡ 0 ∷ []
    unfolding open_place
    nobody-named q old e =
        let x = unless-opens (opening_fault out n w lo (place_fault (bundle_heading out) p)) (place_opening out p) q e in
        let l : p < (bundle_heading bs).jobs = place-there bs p n w lo (sym fault-same ∙ x.0) in
        ap (wrong_into (params_of out).k (params_of out).d (shares_at out p) old) e
        ∙ ap (λ s. s ∷ []) (none_named p l q (sym (opening-same p l) ∙ x.1))
