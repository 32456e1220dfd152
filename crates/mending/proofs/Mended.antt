-- The words of a mended bundle, by what its jobs open to; and the bundle on the way to being mended, from its own bytes (`mended-start`) to the
-- mended ones (`mended-done`), a job of a file at a time. Assumes nothing.
use mathlib.Core.Path.{◌≡◌, refl, sym, ap, ap₂, ◌∙◌}
use Prim.Native.Nat.{ℕ, zero, suc, ◌+◌, ◌-◌, ◌*◌, ◌%◌, ◌^◌, ◌≤◌, ◌<◌}
use native.Mathlib.Nat.{zero-div, le_trans, pow-le-pow_right}
use native.Mathlib.Decide.{dec_le, ℕ_discrete}
use native.Mathlib.Omega.{arith}
use mathlib.Core.Bool.{Bool, true, false, cond}
use mathlib.Core.List.{List, ◌++◌}
use lib.ListN.{length, take, drop}
use borrow.Author.Tests.{lt-ltb, le-ltb, eq-eqb, ne_eqb}
use Rattle.words.proofs.Tests.{not-held}
use Rattle.words.proofs.Width.{width-at}
use Rattle.records.specs.Num.{Bytes}
use Rattle.records.specs.Layout.{words_at, word_size}
use Rattle.polynomial.specs.Rows.{Rows, coefs}
use Rattle.galois.specs.Element.{Element, point}
use Rattle.codewords.specs.Codeword.{Share, Polynomial, value, differs}
use Rattle.codewords.specs.Demand.{bit_for}
use Rattle.codewords.specs.Opening.{Opening, declines, opens, wrong_of, opening_in}
use Rattle.codewords.proofs.Value.{right-value, rows_of, value-element}
use Rattle.codewords.proofs.ErrorSet.{bit-right}
use Rattle.codewords.proofs.Opening.{answer-poly}
use Rattle.bundle.specs.Bundle.{bundle_fault, bundle_heading, params_of, allowance_of, files_of, holder_of, job_at}
use Rattle.bundle.specs.Contents.{words_of}
use Rattle.bundle.proofs.Bundles.{bundle-ok, bundle-ranges}
use Rattle.writer.specs.Bytes.{words_bytes, bundle_bytes}
use Rattle.archive.specs.Archive.{share_by, shares_at, place_opening}
use Rattle.archive.proofs.Shares.{shares-holders, holder-range, in-values}
use Rattle.mending.specs.Mended.{wrong_at, reworded, words_by, mended_words, mended}
use Rattle.mending.specs.Progress.{before, words_to, mended_to}
use Rattle.mending.proofs.Words.{WordsFit, Fitting, same-words, own-reworded, own-fits, reworded-length}
use Rattle.mending.proofs.Bytes.{put-words}

-- ---- a holder's bit in a set

pub zero_bit : (i : ℕ) → bit_for i 0 ≡ 0
zero_bit i = rw (zero-div (2 ^ (i - 1)))

pub other-bit : (x : ℕ) → (x % 2 ≡ 1 → ⊥) → x % 2 ≡ 0
other-bit x n = omega arith

-- ---- the words of a job

module _ (bs : List ℕ) where
  -- the file's own share
  abbrev own : ℕ → ℕ → Share
  own f p = share_by bs (λ g. words_of bs g p) f

  by-opening : (f p : ℕ) (o : Opening) → place_opening bs p ≡ o → mended_words bs f p ≡ words_by (params_of bs) (own f p) o
  unfolding mended_words
  by-opening f p o e = ap (words_by (params_of bs) (own f p)) e

  pub mended-declined : (f p c : ℕ) → place_opening bs p ≡ declines c → mended_words bs f p ≡ words_of bs f p
  mended-declined f p c e = by-opening f p (declines c) e

  -- the value, whether the share was wrong or right
  pub mended-opened : (f p : ℕ) (q : Polynomial) → place_opening bs p ≡ opens q →
      mended_words bs f p ≡ value (params_of bs).k (params_of bs).d q (point (params_of bs).d (holder_of bs f))
  mended-opened f p q e = by-opening f p (opens q) e ∙ go (differs (params_of bs).k (params_of bs).d q (own f p)) refl
    where
      v : Element
      v = value (params_of bs).k (params_of bs).d q (point (params_of bs).d (holder_of bs f))

      go : (b : Bool) → differs (params_of bs).k (params_of bs).d q (own f p) ≡ b → cond b v (words_of bs f p) ≡ v
      go true x = refl
      go false x = right-value (params_of bs).k (params_of bs).d q (own f p) x

module _ (bs : List ℕ) (z : bundle_fault bs ≡ 0) where
  -- by the bit of the file's holder in the set of the wrong ones
  pub mended-right : (f p : ℕ) → f < files_of bs → bit_for (holder_of bs f) (wrong_at bs p) ≡ 0 → mended_words bs f p ≡ words_of bs f p
  mended-right f p l e = go (place_opening bs p) refl
    where
      right : (q : Polynomial) → place_opening bs p ≡ opens q → differs (params_of bs).k (params_of bs).d q (own bs f p) ≡ false
      right q x =
          not-held (differs (params_of bs).k (params_of bs).d q (own bs f p))
          (λ t. (bit-right (params_of bs) (shares_at bs p) (shares-holders bs z (λ g. words_of bs g p)) q (holder_of bs f) (holder-range bs z f l).0).0
          (rw x at e)
          (record {
            share = own bs f p;
            present = in-values (share_by bs (λ g. words_of bs g p)) 0 (files_of bs) f (omega arith) (omega (arith, l));
            under = refl;
            differing = t;
          }))

      go : (o : Opening) → place_opening bs p ≡ o → mended_words bs f p ≡ words_of bs f p
      go (declines c) x = mended-declined bs f p c x
      go (opens q) x =
          by-opening bs f p (opens q) x
          ∙ ap (λ b. cond b (value (params_of bs).k (params_of bs).d q (point (params_of bs).d (holder_of bs f))) (words_of bs f p)) (right q x)

  pub mended-wrong : (f p c : ℕ) (rows : Rows) → f < files_of bs → opening_in (params_of bs).d (params_of bs).t c rows ≡ place_opening bs p →
      (bit_for (holder_of bs f) (wrong_at bs p) ≡ 0 → ⊥) →
      mended_words bs f p ≡ value (params_of bs).k (params_of bs).d (coefs (params_of bs).d (suc (params_of bs).t) rows)
      (point (params_of bs).d (holder_of bs f))
  mended-wrong f p zero rows l e n = mended-opened bs f p (coefs (params_of bs).d (suc (params_of bs).t) rows) (sym e)
  mended-wrong f p (suc c) rows l e n =
      let none : wrong_at bs p ≡ 0 = ap (wrong_of (params_of bs).k (params_of bs).d (shares_at bs p)) (sym e) in
      absurd (n (ap (bit_for (holder_of bs f)) none ∙ zero_bit (holder_of bs f)))

-- ---- which words are mended on the way, by file and place

above : (g f : ℕ) → (g < f → ⊥) → (g ≡ f → ⊥) → f + 1 ≤ g
above g f l e = omega (arith, l, e)

module _ (bs : List ℕ) where
  to-by : (p f g q : ℕ) (c : Bool) → before p f g q ≡ c → words_to bs p f g q ≡ cond c (mended_words bs g q) (words_of bs g q)
  unfolding words_to
  to-by p f g q c e = ap (λ x. cond x (mended_words bs g q) (words_of bs g q)) e

  -- those of an earlier place, those of an earlier file at the place, and all others
  words-before : (p f g q : ℕ) → q < p → words_to bs p f g q ≡ mended_words bs g q
  words-before p f g q l = to-by p f g q true (rw (lt-ltb q p l))

  words-here : (p f g q : ℕ) → q ≡ p → g < f → words_to bs p f g q ≡ mended_words bs g q
  words-here p f g q e l = to-by p f g q true (rw (le-ltb q p (omega (arith, e)), eq-eqb q p e, lt-ltb g f l))

  words-after : (p f g q : ℕ) → p ≤ q → (q ≡ p → f ≤ g) → words_to bs p f g q ≡ words_of bs g q
  words-after p f g q l n = to-by p f g q false (go (ℕ_discrete q p))
    where
      go : Dec (q ≡ p) → before p f g q ≡ false
      go (yes e) = rw (le-ltb q p l, eq-eqb q p e, le-ltb g f (n e))
      go (no m) = rw (le-ltb q p l, ne_eqb q p m)

  -- from the last file to the next place, and from one file to the next
  words-turn : (p n g q : ℕ) → g < n → words_to bs p n g q ≡ words_to bs (p + 1) 0 g q
  words-turn p n g q l = go (dec_le (suc q) p) (ℕ_discrete q p)
    where
      go : Dec (q < p) → Dec (q ≡ p) → words_to bs p n g q ≡ words_to bs (p + 1) 0 g q
      go (yes m) x = words-before p n g q m ∙ sym (words-before (p + 1) 0 g q (omega (arith, m)))
      go (no m) (yes e) = words-here p n g q e l ∙ sym (words-before (p + 1) 0 g q (omega (arith, e)))
      go (no m) (no e) =
          words-after p n g q (omega (arith, m)) (λ x. absurd (e x)) ∙ sym (words-after (p + 1) 0 g q (omega (arith, m, e)) (λ x. omega arith))

  words-next : (p f g q : ℕ) → (g ≡ f → q ≡ p → ⊥) → words_to bs p f g q ≡ words_to bs p (f + 1) g q
  words-next p f g q n = go (dec_le (suc q) p) (ℕ_discrete q p) (dec_le (suc g) f)
    where
      go : Dec (q < p) → Dec (q ≡ p) → Dec (g < f) → words_to bs p f g q ≡ words_to bs p (f + 1) g q
      go (yes m) x y = words-before p f g q m ∙ sym (words-before p (f + 1) g q m)
      go (no m) (yes e) (yes l) = words-here p f g q e l ∙ sym (words-here p (f + 1) g q e (omega (arith, l)))
      go (no m) (no e) y =
          words-after p f g q (omega (arith, m)) (λ x. absurd (e x)) ∙ sym (words-after p (f + 1) g q (omega (arith, m)) (λ x. absurd (e x)))
      go (no m) (yes e) (no l) =
          let u : f + 1 ≤ g = above g f l (λ x. n x e) in
          words-after p f g q (omega (arith, m)) (λ x. omega (arith, u)) ∙ sym (words-after p (f + 1) g q (omega (arith, m)) (λ x. u))

  words-skip : (p f g q : ℕ) → mended_words bs f p ≡ words_of bs f p → words_to bs p f g q ≡ words_to bs p (f + 1) g q
  words-skip p f g q e = go (ℕ_discrete g f) (ℕ_discrete q p)
    where
      go : Dec (g ≡ f) → Dec (q ≡ p) → words_to bs p f g q ≡ words_to bs p (f + 1) g q
      go (yes x) (yes y) =
          words-after p f g q (omega (arith, y)) (λ w. omega (arith, x)) ∙ ap₂ (words_of bs) x y ∙ sym e ∙ sym (ap₂ (mended_words bs) x y)
          ∙ sym (words-here p (f + 1) g q y (omega (arith, x)))
      go (yes x) (no m) = words-next p f g q (λ x y. m y)
      go (no m) y = words-next p f g q (λ x y. m x)

-- ---- on the way

module _ (bs : List ℕ) (z : bundle_fault bs ≡ 0) where
  -- a value that a job opens to fits its record
  value-fits : (p : ℕ) (q : Polynomial) → place_opening bs p ≡ opens q → (s : Share) →
      WordsFit (bundle_heading bs) (value (params_of bs).k (params_of bs).d q (point (params_of bs).d s.holder))
  unfolding place_opening word_size
  value-fits p q x s =
      let r = (bundle-ranges bs (bundle-ok bs z)).book in
      let v = value (params_of bs).k (params_of bs).d q (point (params_of bs).d s.holder) in
      let rows = rows_of (params_of bs).k (params_of bs).d (params_of bs).t q (answer-poly (params_of bs) (allowance_of bs) (shares_at bs p) q x) in
      let e = value-element (params_of bs).d r.d-low r.d-high (params_of bs).k q rows s in
      record {
        count = e.0;
        fit = λ i l. le_trans (width-at (params_of bs).k v i e.1 (rw e.0 l)) (pow-le-pow_right {n = 2} (omega arith) r.k-high);
      }

  -- only the words of the files and places count
  same_bytes : (u w : ℕ → ℕ → Element) → ((f p : ℕ) → f < files_of bs → p < (bundle_heading bs).jobs → u f p ≡ w f p) → reworded bs u ≡ reworded bs w
  same_bytes u w h = ap bundle_bytes (same-words bs z u w h)

  module _ (b : Bytes bs) where
    pub mended-fits : Fitting bs (mended_words bs)
    mended-fits f p l m = go (place_opening bs p) refl
      where
        go : (o : Opening) → place_opening bs p ≡ o → WordsFit (bundle_heading bs) (mended_words bs f p)
        go (declines c) x = rw (mended-declined bs f p c x) (own-fits bs z b f p l m)
        go (opens q) x = rw (mended-opened bs f p q x) (value-fits p q x (own bs f p))

    to-fits : (p f : ℕ) → Fitting bs (words_to bs p f)
    unfolding words_to
    to-fits p f g q l m = go (before p f g q)
      where
        go : (c : Bool) → WordsFit (bundle_heading bs) (cond c (mended_words bs g q) (words_of bs g q))
        go true = mended-fits g q l m
        go false = own-fits bs z b g q l m

    pub mended-length : (p f : ℕ) → length (mended_to bs p f) ≡ length bs
    unfolding mended_to
    mended-length p f = reworded-length bs z b (words_to bs p f) (to-fits p f)

    pub mended-start : mended_to bs 0 0 ≡ bs
    unfolding mended_to
    mended-start =
        same_bytes (words_to bs 0 0) (words_of bs) (λ g q l m. words-after bs 0 0 g q (omega arith) (λ e. omega arith)) ∙ own-reworded bs z b

    pub mended-done : mended_to bs (bundle_heading bs).jobs 0 ≡ mended bs
    unfolding mended_to mended
    mended-done = same_bytes (words_to bs (bundle_heading bs).jobs 0) (mended_words bs) (λ g q l m. words-before bs (bundle_heading bs).jobs 0 g q m)

    -- the next place, once every file is done
    pub mended-turn : (p : ℕ) → mended_to bs p (files_of bs) ≡ mended_to bs (p + 1) 0
    unfolding mended_to
    mended-turn p = same_bytes (words_to bs p (files_of bs)) (words_to bs (p + 1) 0) (λ g q l m. words-turn bs p (files_of bs) g q l)

    -- the next file, which has the mended words already, or is given them
    pub mended-skip : (p f : ℕ) → mended_words bs f p ≡ words_of bs f p → mended_to bs p f ≡ mended_to bs p (f + 1)
    unfolding mended_to
    mended-skip p f e = same_bytes (words_to bs p f) (words_to bs p (f + 1)) (λ g q l m. words-skip bs p f g q e)

    -- a place that does not open: no file changes
    pub mended-past : (p c : ℕ) → place_opening bs p ≡ declines c → mended_to bs p 0 ≡ mended_to bs (p + 1) 0
    mended-past p c e = go (files_of bs) ∙ mended-turn p
      where
        go : (f : ℕ) → mended_to bs p 0 ≡ mended_to bs p f
        go zero = refl
        go (suc f) =
            let n : f + 1 ≡ suc f = omega arith in
            go f ∙ mended-skip p f (mended-declined bs f p c e) ∙ ap (mended_to bs p) n

    pub mended-put : (p f : ℕ) → f < files_of bs → p < (bundle_heading bs).jobs →
        let h = bundle_heading bs in
        let at = words_at (job_at bs f p) in
        take at (mended_to bs p f) ++ (words_bytes (word_size h) (mended_words bs f p) ++ drop (at + word_size h * h.params.d) (mended_to bs p f))
        ≡ mended_to bs p (f + 1)
    unfolding mended_to
    mended-put p f l m =
        rw (← words-here bs p (f + 1) f p refl (omega arith))
        (put-words bs z b (words_to bs p f) (words_to bs p (f + 1)) (to-fits p f) (to-fits p (f + 1)) f p l m
        (λ g q u v n. words-next bs p f g q n))
