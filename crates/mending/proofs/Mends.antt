-- A call of `yikes_mend` that returned 0 wrote the bundle mended, with all that paper 02, K2, promises of it (`mend-mends`); one that returned
-- another number left the output as it was (`mend-declined`). Assumes nothing.
use mathlib.Core.Path.{◌≡◌, refl, sym, ap, subst, ◌∙◌}
use Prim.Native.Nat.{ℕ, suc, ◌<◌}
use native.Mathlib.Omega.{arith}
use mathlib.Core.Bool.{true}
use mathlib.Core.List.{List, [], ◌∷◌}
use mathlib.Core.Logic.{inl, inr}
use lib.ListN.{length, get_or}
use Rattle.words.specs.Word.{all_in_width}
use Rattle.words.specs.declared.Params.{Params}
use Rattle.words.proofs.Refusals.{first-left, kept-none, kept-some}
use Rattle.words.proofs.Tests.{and_both}
use Rattle.records.specs.Num.{Bytes}
use Rattle.records.specs.Layout.{file_size}
use Rattle.records.specs.declared.Heading.{Heading}
use Rattle.records.proofs.Num.{part_bytes}
use Rattle.codewords.specs.Codeword.{Polynomial}
use Rattle.codewords.specs.Demand.{bit_for}
use Rattle.codewords.specs.Opening.{opens, fault_of, JobState}
use Rattle.codewords.proofs.Opening.{answer-poly}
use Rattle.codewords.proofs.Value.{rows_of, value-element}
use Rattle.bundle.specs.Bundle.{bundle_fault, bundle_heading, params_of, files_of, file_at, holder_of, allowance_of}
use Rattle.bundle.specs.Contents.{Job, File, Bundle, bundle_from, file_from, words_of}
use Rattle.bundle.proofs.Bundles.{bundle-ok, bundle-ranges}
use Rattle.totals.proofs.Words.{width-append}
use Rattle.writer.specs.Bytes.{bundle_bytes}
use Rattle.writer.specs.ByPlace.{file_no}
use Rattle.writer.specs.Fits.{Rewritten}
use Rattle.writer.specs.Write.{job_of, words_in}
use Rattle.writer.proofs.ByPlace.{accepted-reads, file-cut}
use Rattle.writer.proofs.Undo.{file-rewritten}
use Rattle.archive.specs.Archive.{share_by, shares_at, place_opening}
use Rattle.archive.proofs.Opens.{place-states}
use Rattle.mending.specs.Mended.{reword_bundle, reworded, mended_words, mended, mend_fault}
use Rattle.mending.specs.Mends.{MendReturned, AllOpen, file_cut, Mends}
use Rattle.mending.proofs.Words.{Fitting, words-twice, same-words, reworded-accepted, reworded-reads, reworded-bytes, reworded-length}
use Rattle.mending.proofs.Words.{reworded-order, reworded-files, reworded-first, reworded-heading, reworded-number, reworded-words}
use Rattle.mending.proofs.Mended.{zero_bit, mended-opened, mended-right, mended-fits}
use Rattle.mending.proofs.Opens.{none-wrong, answers-same, nobody-named}
use Rattle.mending.proofs.Replaced.{outside-named, replaced-named, declined-keeps}

-- the words of jobs, one after another
jobs-width : (k : ℕ) (js : List Job) → ((p : ℕ) → p < length js → all_in_width k (get_or js p (job_of 0 [])).words ≡ true) →
    all_in_width k (words_in js) ≡ true
unfolding words_in all_in_width
jobs-width k [] h = refl
jobs-width k (j ∷ js) h =
    width-append k j.words (words_in js)
    ∙ and_both (all_in_width k j.words) (all_in_width k (words_in js)) (h 0 (omega arith)) (jobs-width k js (λ p l. h (suc p) (omega arith)))

mended-is : (bs : List ℕ) → mended bs ≡ reworded bs (mended_words bs)
unfolding mended
mended-is bs = refl

module _ (bs : List ℕ) (z : bundle_fault bs ≡ 0) (b : Bytes bs) where
  abbrev out : List ℕ
  out = reworded bs (mended_words bs)

  fits : Fitting bs (mended_words bs)
  fits = mended-fits bs z b

  accepted : bundle_fault out ≡ 0
  accepted = reworded-accepted bs z b (mended_words bs) fits

  heading : bundle_heading out ≡ bundle_heading bs
  heading = reworded-first bs z b (mended_words bs) fits

  files : files_of out ≡ files_of bs
  files = reworded-files bs z b (mended_words bs) fits

  words : (f p : ℕ) → f < files_of bs → p < (bundle_heading bs).jobs → words_of out f p ≡ mended_words bs f p
  words = reworded-words bs z b (mended_words bs) fits

  -- ---- mended again

  again : mended out ≡ out
  again =
      mended-is out
      ∙ ap (λ (x : Bundle). bundle_bytes (reword_bundle x (mended_words out))) (reworded-reads bs z b (mended_words bs) fits)
      ∙ ap bundle_bytes
      (words-twice (bundle_from bs) (mended_words bs) (mended_words out)
      ∙ same-words bs z (mended_words out) (mended_words bs) (λ f p l m. twice f p l m ∙ words f p l m))
    where
      twice : (f p : ℕ) → f < files_of bs → p < (bundle_heading bs).jobs → mended_words out f p ≡ words_of out f p
      twice f p l m =
          mended-right out accepted f p (rw files l) (ap (bit_for (holder_of out f)) (none-wrong bs z b p m) ∙ zero_bit (holder_of out f))

  -- ---- written again, where every job opened: its words are values

  module _ (o : AllOpen bs) where
    opened : (p : ℕ) → p < (bundle_heading bs).jobs → (q : Polynomial) × (place_opening bs p ≡ opens q)
    opened p l = go (place-states bs p)
      where
        go : JobState (place_opening bs p) → (q : Polynomial) × (place_opening bs p ≡ opens q)
        go (inl x) = x
        go (inr (inl e)) = absurd (omega (arith, o p l, ap fault_of e))
        go (inr (inr e)) = absurd (omega (arith, o p l, ap fault_of e))

    words_width : (f p : ℕ) → f < files_of bs → p < (bundle_heading bs).jobs → all_in_width (params_of bs).k (words_of out f p) ≡ true
    unfolding place_opening
    words_width f p l m =
        let s = params_of bs in
        let x = opened p m in
        let r = (bundle-ranges bs (bundle-ok bs z)).book in
        let h = rows_of s.k s.d s.t x.0 (answer-poly s (allowance_of bs) (shares_at bs p) x.0 x.1) in
        ap (all_in_width s.k) (words f p l m ∙ mended-opened bs f p x.0 x.1)
        ∙ (value-element s.d r.d-low r.d-high s.k x.0 h (share_by bs (λ g. words_of bs g p) f)).1

    module _ (f : ℕ) (l : f < files_of bs) where
      there : f < files_of out
      there = rw files l

      file-width : all_in_width (file_no (bundle_from out) f).heading.params.k (words_in (file_no (bundle_from out) f).jobs) ≡ true
      file-width =
          let a = accepted-reads out accepted in
          let g = file_no (bundle_from out) f in
          let k = ap (λ (x : Params). x.k) (sym (a.params f there)) ∙ ap (λ (h : Heading). h.params.k) heading in
          let n = a.jobs f there in
          let j = ap (λ (h : Heading). h.jobs) heading in
          ap (λ (x : ℕ). all_in_width x (words_in g.jobs)) k
          ∙ jobs-width (params_of bs).k g.jobs
          (λ p m. ap (all_in_width (params_of bs).k) (sym (a.words f p there (omega (arith, n, m)))) ∙ words_width f p l (omega (arith, n, j, m)))

      written : Rewritten (file_from (file_cut out f) 0) (file_cut out f)
      unfolding file_from
      written =
          let c = file-cut out accepted (reworded-bytes bs z b (mended_words bs) fits) f there in
          file-rewritten (file_cut out f)
          (part_bytes out (file_at out f) (file_size (bundle_heading out)) (reworded-bytes bs z b (mended_words bs) fits)) c.0
          (subst (λ (g : File). all_in_width g.heading.params.k (words_in g.jobs) ≡ true) (sym c.1) file-width)

  mends : Mends bs out
  mends =
      record {
        accepted = accepted;
        size = reworded-length bs z b (mended_words bs) fits;
        order = reworded-order bs z b (mended_words bs) fits;
        files = files;
        headings = reworded-heading bs z b (mended_words bs) fits;
        numbers = reworded-number bs z b (mended_words bs) fits;
        outside = outside-named bs z b;
        replaced = replaced-named bs z b;
        values = λ f p q l m e. words f p l m ∙ mended-opened bs f p q e;
        keeps = declined-keeps bs z b;
        answers = answers-same bs z b;
        nobody = nobody-named bs z b;
        again = again;
        written = written;
      }

-- ---- the call

pub mend-mends : (bs old : List ℕ) (r : ℕ) (out : List ℕ) → Bytes bs → MendReturned bs old r out → r ≡ 0 → Mends bs out
unfolding mend_fault
mend-mends bs old r out b g e =
    let y : mend_fault bs (length old) ≡ 0 = sym g.fault ∙ e in
    subst (Mends bs) (sym (g.output ∙ kept-none (mend_fault bs (length old)) old (mended bs) y ∙ mended-is bs))
    (mends bs (first-left (bundle_fault bs) _ y) b)

pub mend-declined : (bs old : List ℕ) (r : ℕ) (out : List ℕ) → MendReturned bs old r out → (r ≡ 0 → ⊥) → out ≡ old
mend-declined bs old r out g n = g.output ∙ kept-some (mend_fault bs (length old)) old (mended bs) (λ y. n (g.fault ∙ y))
