-- Which bytes and words of the mended bundle differ: outside the words of shares that are named none (`outside-named`), the words of a share exactly
-- where it is named (`replaced-named`), and nothing of a job that does not open (`declined-keeps`). Assumes nothing.
use mathlib.Core.Path.{◌≡◌, refl, sym, ap, subst, ◌∙◌}
use Prim.Native.Nat.{ℕ, suc, ◌+◌, ◌≤◌, ◌<◌}
use native.Mathlib.Nat.{mul-le-mul_right}
use native.Mathlib.Decide.{dec_le, ℕ_discrete}
use native.Mathlib.Omega.{arith}
use mathlib.Core.List.{List}
use mathlib.Core.Logic.{◌↔◌}
use lib.ListN.{length, get_or}
use lib.Seq.{ext_get_or}
use Rattle.records.specs.Num.{Bytes, part}
use Rattle.records.specs.Layout.{job_size, file_size, order_size}
use Rattle.records.proofs.Num.{part_length, part-get_or}
use Rattle.algebra.proofs.Shares.{all_map, all-at}
use Rattle.codewords.specs.Codeword.{Share, Polynomial, when, differs, error_set}
use Rattle.codewords.specs.Demand.{bit_for}
use Rattle.codewords.specs.Opening.{Opening, declines, opens, fault_of, wrong_of}
use Rattle.codewords.proofs.ErrorSet.{set-marks}
use Rattle.codewords.proofs.Value.{value-right}
use Rattle.codewords.proofs.Without.{set_of, error_set-tally}
use Rattle.bundle.specs.Bundle.{bundle_fault, bundle_heading, params_of, files_of, file_at, job_at, holder_of}
use Rattle.bundle.specs.Contents.{words_of}
use Rattle.bundle.proofs.Bundles.{bundle-ok, job-within}
use Rattle.bundle.proofs.Files.{place-next}
use Rattle.totals.proofs.Values.{value-at}
use Rattle.archive.specs.Archive.{share_by, shares_at, place_opening}
use Rattle.archive.proofs.Shares.{shares-count, shares-holders}
use Rattle.mending.specs.Mended.{wrong_at, reworded, mended_words}
use Rattle.mending.specs.Mends.{NamedAt, InWords}
use Rattle.mending.proofs.Words.{Fitting, own-reworded, own-fits, reworded-length, reworded-words}
use Rattle.mending.proofs.Bytes.{outside-words}
use Rattle.mending.proofs.Mended.{zero_bit, other-bit, mended-declined, mended-opened, mended-right, mended-fits}

module _ (bs : List ℕ) (z : bundle_fault bs ≡ 0) where
  -- the bit of a file's holder is set exactly where its share differs
  bit_at : (p : ℕ) (q : Polynomial) (f : ℕ) → f < files_of bs →
      bit_for (holder_of bs f) (error_set (params_of bs).k (params_of bs).d q (shares_at bs p))
      ≡ when (differs (params_of bs).k (params_of bs).d q (share_by bs (λ g. words_of bs g p) f)) 1
  bit_at p q f l =
      let ss = shares_at bs p in
      let t = differs (params_of bs).k (params_of bs).d q in
      let s = share_by bs (λ g. words_of bs g p) in
      let h = shares-holders bs z (λ g. words_of bs g p) in
      ap (bit_for (holder_of bs f)) (error_set-tally (params_of bs).k (params_of bs).d q ss)
      ∙ subst (λ (r : Share). bit_for r.holder (set_of t ss) ≡ when (t r) 1) (value-at s (files_of bs) f (s 0) l)
      (all-at (λ (r : Share). bit_for r.holder (set_of t ss) ≡ when (t r) 1) ss f (s 0)
      (set-marks t ss (all_map (λ (r : Share) x. x.0) ss h.0) h.1) (rw (shares-count bs (λ g. words_of bs g p)) l))

  -- a share that has its mended words is not named
  not_named : (f p : ℕ) → f < files_of bs → mended_words bs f p ≡ words_of bs f p → bit_for (holder_of bs f) (wrong_at bs p) ≡ 0
  not_named f p l m = go (place_opening bs p) refl
    where
      go : (o : Opening) → place_opening bs p ≡ o → bit_for (holder_of bs f) (wrong_of (params_of bs).k (params_of bs).d (shares_at bs p) o) ≡ 0
      go (declines c) e = zero_bit (holder_of bs f)
      go (opens q) e =
          bit_at p q f l
          ∙ ap (λ x. when x 1)
          (value-right (params_of bs).k (params_of bs).d q (share_by bs (λ g. words_of bs g p) f) (sym m ∙ mended-opened bs f p q e))

  declined-words : (f p : ℕ) → (fault_of (place_opening bs p) ≡ 0 → ⊥) → mended_words bs f p ≡ words_of bs f p
  declined-words f p n = go (place_opening bs p) refl
    where
      go : (o : Opening) → place_opening bs p ≡ o → mended_words bs f p ≡ words_of bs f p
      go (declines c) e = mended-declined bs f p c e
      go (opens q) e = absurd (n (ap fault_of e))

  -- the place whose job a byte is in
  one_place : (f g p q i : ℕ) → p < (bundle_heading bs).jobs → q < (bundle_heading bs).jobs → let s = job_size (bundle_heading bs) in
      job_at bs f p ≤ i → i < job_at bs f p + s → job_at bs g q ≤ i → i < job_at bs g q + s → q ≡ p
  unfolding job_at file_size
  one_place f g p q i l m a u c v =
      let s = job_size (bundle_heading bs) in
      elim (dec_le (suc f) g) [
        | yes x ↦ absurd (omega (arith, place-next bs order_size f g x, mul-le-mul_right s l))
        | no x ↦ elim (dec_le (suc g) f) [
          | yes y ↦ absurd (omega (arith, place-next bs order_size g f y, mul-le-mul_right s m))
          | no y ↦ same (let e : g ≡ f = omega arith in ap (file_at bs) e)
        ]
      ]
    where
      same : file_at bs g ≡ file_at bs f → q ≡ p
      same e =
          let s = job_size (bundle_heading bs) in
          elim (dec_le (suc q) p) [
            | yes x ↦ absurd (omega (arith, mul-le-mul_right s x))
            | no x ↦ elim (dec_le (suc p) q) [
              | yes y ↦ absurd (omega (arith, mul-le-mul_right s y))
              | no y ↦ omega arith
            ]
          ]

  module _ (b : Bytes bs) where
    abbrev out : List ℕ
    out = reworded bs (mended_words bs)

    fits : Fitting bs (mended_words bs)
    fits = mended-fits bs z b

    -- outside the words that are replaced
    same_byte : (i : ℕ) → ((f p : ℕ) → f < files_of bs → p < (bundle_heading bs).jobs → InWords bs f p i → mended_words bs f p ≡ words_of bs f p) →
        get_or out i 0 ≡ get_or bs i 0
    same_byte i h =
        outside-words bs z b (mended_words bs) (words_of bs) fits (own-fits bs z b) i (λ f p l m x y. h f p l m (record { low = x; high = y }))
        ∙ ap (λ (s : List ℕ). get_or s i 0) (own-reworded bs z b)

    pub outside-named : (i : ℕ) → ((f p : ℕ) → f < files_of bs → p < (bundle_heading bs).jobs → InWords bs f p i → NamedAt bs f p → ⊥) →
        get_or (reworded bs (mended_words bs)) i 0 ≡ get_or bs i 0
    outside-named i h = same_byte i (λ f p l m x. mended-right bs z f p l (other-bit _ (h f p l m x)))

    pub replaced-named : (f p : ℕ) → f < files_of bs → p < (bundle_heading bs).jobs →
        (words_of (reworded bs (mended_words bs)) f p ≡ words_of bs f p → ⊥) ↔ NamedAt bs f p
    replaced-named f p l m = (named, λ n e. (let y = not_named f p l (sym words ∙ e) in absurd (omega (arith, n, y))))
      where
        words : words_of out f p ≡ mended_words bs f p
        words = reworded-words bs z b (mended_words bs) fits f p l m

        named : (words_of out f p ≡ words_of bs f p → ⊥) → NamedAt bs f p
        named h =
            elim (ℕ_discrete (bit_for (holder_of bs f) (wrong_at bs p)) 1) [
              | yes e ↦ e
              | no n ↦ absurd (h (words ∙ mended-right bs z f p l (other-bit _ n)))
            ]

    pub declined-keeps : (f p : ℕ) → f < files_of bs → p < (bundle_heading bs).jobs → (fault_of (place_opening bs p) ≡ 0 → ⊥) →
        let s = job_size (bundle_heading bs) in part (job_at bs f p) s (reworded bs (mended_words bs)) ≡ part (job_at bs f p) s bs
    declined-keeps f p l m n =
        let w : at + s ≤ length bs = job-within bs (bundle-ok bs z) f p l m in
        let k : length (part at s out) ≡ s = part_length out at s (omega (arith, w, reworded-length bs z b (mended_words bs) fits)) in
        ext_get_or 0 (part at s out) (part at s bs) (k ∙ sym (part_length bs at s w)) (λ i u. byte i (omega arith))
      where
        at : ℕ
        at = job_at bs f p

        s : ℕ
        s = job_size (bundle_heading bs)

        byte : (i : ℕ) → i < s → get_or (part at s out) i 0 ≡ get_or (part at s bs) i 0
        byte i j =
            part-get_or out at s i j
            ∙ same_byte (at + i)
            (λ g q x y t. (let e : q ≡ p = one_place f g p q (at + i) m y (omega arith) (omega arith) (omega (arith, t.low)) t.high in
            rw e (declined-words g p n)))
            ∙ sym (part-get_or bs at s i j)
