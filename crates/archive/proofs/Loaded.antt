-- The shares of a bundle in arrays, as the decoder is asked about them: they are the files' shares, by the holders and the rows that the loaders
-- leave. And what a run opens to, by its width. Assumes nothing.
use Rattle.std.proofs.Common.{Result}
use Rattle.std.specs.Prelude.{IfOk}
use Rattle.std.specs.declared.result.Result.TheVariants.{Ok, Err}
use Rattle.std.specs.Result.{IsErrAnd}
use Rattle.std.proofs.lemmas.Result.{err_from_is_err_and}
use mathlib.Core.Path.{◌≡◌, refl, sym, ap, ap₂, ◌∙◌}
use mathlib.Core.Bool.{Bool, true, false}
use mathlib.Core.List.{List, [], ◌∷◌, ◌++◌}
use Prim.Native.Nat.{ℕ, zero, suc, ◌+◌, ◌≤◌, ◌<◌}
use native.Mathlib.Omega.{arith}
use lib.ListN.{length, take, drop, get_or, replicate, get_or-append}
use lib.Seq.{length_front, length-take-le}
use Rattle.words.specs.Params.{params_ok}
use Rattle.words.specs.Refusal.{number_of, fault_in, unless, WIDE_WORD}
use Rattle.words.specs.declared.Refusal.{Refusal}
use Rattle.words.specs.Word.{all_in_width}
use Rattle.words.proofs.InRange.{range-ok}
use Rattle.words.proofs.Refusals.{unless-yes, unless-no, number-some, handed_out}
use Rattle.words.proofs.Tests.{bool_cases}
use Rattle.galois.specs.Element.{Element, held}
use Rattle.galois.proofs.Held.{held-take}
use Rattle.polynomial.specs.Rows.{Rows}
use Rattle.codewords.specs.Codeword.{Share}
use Rattle.codewords.specs.Opening.{declines, answer_to, wrong_of, opening_in}
use Rattle.codewords.specs.WellFormed.{IsElement, InWidth}
use Rattle.level.specs.Shares.{share_at, shares_from, shares_of, Sized}
use Rattle.decoder.specs.Decoded.{Ordered, wrong_in}
use Rattle.records.specs.declared.Heading.{Heading}
use Rattle.bundle.specs.Bundle.{bundle_fault, bundle_heading, params_of, allowance_of, files_of, holder_of}
use Rattle.bundle.specs.Contents.{words_of}
use Rattle.bundle.proofs.Bundles.{bundle-ok, bundle-ranges, files-most}
use Rattle.totals.specs.Values.{values_from}
use Rattle.totals.proofs.Values.{values-count, value-at, values_same, every-each}
use Rattle.totals.proofs.Words.{words_length}
use Rattle.archive.specs.Archive.{share_by, shares_by, shares_over, files_in_width, run_opening}
use Rattle.archive.specs.Loaded.{holders_in, shares_in, opening_of, place_in_width}
use Rattle.archive.proofs.Shares.{values-all, shares-ordered, shares-width}

front : {A : Type 0} (f : ℕ → A) (n : ℕ) (rest : List A) (z : A) (i : ℕ) → i < n → get_or (values_from f 0 n ++ rest) i z ≡ f i
front f n rest z i h = get_or-append (values_from f 0 n) rest z i (rw (values-count f 0 n) h) ∙ value-at f n i z h

-- the first of them are the files' shares
module _ (bs : List ℕ) (h : Heading) (e : h ≡ bundle_heading bs) (n : ℕ) (files : n ≡ files_of bs) where
  abbrev d : ℕ
  d = h.params.d

  d-is : d ≡ (params_of bs).d
  d-is = ap (λ (x : Heading). x.params.d) e

  pub arrays : (hs : List ℕ) (ys : Rows) → hs ≡ holders_in bs → shares_of d n hs ys ≡ shares_in bs ys
  unfolding shares_from values_from
  arrays hs ys holders = from n 0 (omega arith) ∙ ap (values_from (share_by bs words) 0) files
    where
      words : ℕ → Element
      words f = take (params_of bs).d (get_or ys f [])

      one : (i : ℕ) → i < n → share_at d hs ys i ≡ share_by bs words i
      one i l =
          let p : get_or hs i 0 ≡ holder_of bs i =
          ap (λ (x : List ℕ). get_or x i 0) holders ∙ front (holder_of bs) (files_of bs) (drop (files_of bs) (replicate 63 0)) 0 i (omega (arith, files)) in
          let q : take d (get_or ys i []) ≡ words i = ap (λ (x : ℕ). take x (get_or ys i [])) d-is in
          λ j. record { holder = p j; words = q j }

      from : (m i : ℕ) → i + m ≡ n → shares_from d hs ys i m ≡ values_from (share_by bs words) i m
      from zero i x = refl
      from (suc m) i x = ap₂ ◌∷◌ (one i (omega arith)) (from m (suc i) (omega arith))

  -- rows that hold the words w
  module _ (w : ℕ → Element) (long : (f : ℕ) → length (w f) ≡ (params_of bs).d) (ys yr : Rows)
      (rows : ys ≡ values_from (λ f. held d (w f)) 0 n ++ yr) where
    pub loaded : shares_in bs ys ≡ shares_by bs w
    loaded =
        values_same (share_by bs (λ f. take (params_of bs).d (get_or ys f []))) (share_by bs w) 0 (files_of bs)
        (λ i l u. ap (λ (x : Element). share_by bs (λ f. x) i) (word i (omega (arith, files))))
      where
        word : (i : ℕ) → i < n → take (params_of bs).d (get_or ys i []) ≡ w i
        word i l =
            ap₂ (λ (x : ℕ) (y : Rows). take x (get_or y i [])) (sym d-is) rows
            ∙ ap (take d) (front (λ f. held d (w f)) n yr [] i l)
            ∙ held-take d (w i) (long i ∙ sym d-is)

    pub loaded-sized : Sized h.params.d (shares_in bs ys)
    loaded-sized =
        rw (loaded, e)
        (values-all (λ (s : Share). length s.words ≡ (params_of bs).d) (share_by bs w) 0 (files_of bs) (λ f l u. long f))

    pub loaded-width : ((f : ℕ) → f < files_of bs → IsElement (params_of bs).k (params_of bs).d (w f)) →
        InWidth h.params.k h.params.d (shares_in bs ys)
    loaded-width x = rw (loaded, e) (shares-width (params_of bs).k bs w x)

  pub loaded-length : {A : Type 0} (f : ℕ → A) (ys old : List A) → bundle_fault bs ≡ 0 → length old ≡ 63 →
      ys ≡ values_from f 0 n ++ drop n old → length ys ≡ 63
  loaded-length f ys old z l x =
      let m : n ≤ length old = omega (arith, files, l, files-most bs (bundle-ok bs z)) in
      ap length x ∙ length_front old (values_from f 0 n) n (values-count f 0 n ∙ sym (length-take-le n old m)) ∙ l

  -- what the decoder asks
  pub askable : bundle_fault bs ≡ 0 → (ys : Rows) → (params_ok h.params ≡ true) × (n ≤ 63) × Ordered h.params.n (shares_in bs ys)
  askable z ys =
      rw (e, files)
      (range-ok (params_of bs) (bundle-ranges bs (bundle-ok bs z)).book, files-most bs (bundle-ok bs z), shares-ordered bs z _)

  -- what it answers
  pub answered : (ys : Rows) (ss : List Share) → ss ≡ shares_in bs ys → (a : ℕ) → a ≡ allowance_of bs →
      answer_to h.params a ss ≡ opening_of bs ys
  answered ys ss q a m = rw (q, m, e)

-- a job whose words are in width, in each file
pub place-width : (bs : List ℕ) (p f : ℕ) → place_in_width bs p ≡ true → f < files_of bs → IsElement (params_of bs).k (params_of bs).d (words_of bs f p)
place-width bs p f e l = (words_length bs f p, every-each (λ g. all_in_width (params_of bs).k (words_of bs g p)) (files_of bs) f e l)

-- what a run opens to, by its width
module _ (bs : List ℕ) (a n : ℕ) where
  pub run-declines : files_in_width bs a n ≡ false → run_opening bs a n ≡ declines WIDE_WORD
  unfolding run_opening
  run-declines x = rw (unless-no (files_in_width bs a n) WIDE_WORD x)

  pub run-answers : files_in_width bs a n ≡ true → run_opening bs a n ≡ answer_to (params_of bs) (allowance_of bs) (shares_over bs a n)
  unfolding run_opening
  run-answers x = rw (unless-yes (files_in_width bs a n) WIDE_WORD x)

  -- the exit where a test of that width fails
  pub run_refused : (r : Result ℕ Refusal) (e : Refusal) → IsErrAnd r (λ y. y ≡ e) → (t : Bool) → number_of e ≡ unless t WIDE_WORD →
      t ≡ files_in_width bs a n → (k d u : ℕ) (rows : Rows) (ss : List Share) →
      (opening_in d u (fault_in r) rows ≡ run_opening bs a n) × (wrong_in r ≡ wrong_of k d ss (run_opening bs a n))
  run_refused r e h t q s k d u rows ss =
      bool_cases t (λ y. absurd (number-some e (q ∙ unless-yes t WIDE_WORD y)))
      (λ y.
      (let f : fault_in r ≡ WIDE_WORD = handed_out r e h ∙ q ∙ unless-no t WIDE_WORD y in
      let w : wrong_in r ≡ 0 = rw (err_from_is_err_and r h).1 refl in
      rw (f, w, run-declines (sym s ∙ y)) (refl, refl)))

-- what an outcome gives, where it is no refusal
pub if_ok : (r : Result ℕ Refusal) (x : ℕ) → (fault_in r ≡ 0 → wrong_in r ≡ x) → IfOk r (λ w. w ≡ x)
if_ok (Ok w) x g = g refl
if_ok (Err e) x g = tt
