-- Mending restores what was written: a bundle that the calls wrote of dealt jobs, in which up to e files have since come to have any other words, is
-- mended byte for byte to what it was (`changed-mends`). Assumes nothing.
use mathlib.Core.Path.{◌≡◌, refl, sym, ap, ap₂, ◌∙◌}
use Prim.Native.Nat.{ℕ, suc, ◌+◌, ◌*◌, ◌≤◌, ◌<◌}
use native.Mathlib.Omega.{arith}
use mathlib.Core.List.{List, [], ◌∷◌}
use lib.Count.{ones}
use lib.ListN.{length, get_or, take, drop}
use lib.Seq.{drop-drop}
use Rattle.algebra.specs.Shares.{All}
use Rattle.algebra.proofs.Shares.{all-at}
use Rattle.words.specs.declared.Params.{Params}
use Rattle.galois.specs.Element.{Element, point}
use Rattle.codewords.specs.Codeword.{Polynomial, value}
use Rattle.codewords.specs.Opening.{opens}
use Rattle.sharing.specs.Dealt.{Job}
use Rattle.bundle.specs.Bundle.{bundle_heading}
use Rattle.bundle.specs.Contents.{File, Bundle}
use Rattle.fetch.specs.Fetch.{place_fault}
use Rattle.writer.specs.Bytes.{bundle_bytes}
use Rattle.writer.specs.Write.{heading_for, job_of, jobs_of, file_for}
use Rattle.archive.specs.Archive.{place_opening, opening_fault, open_place}
use Rattle.mending.specs.Mended.{reword_jobs, reword_files, reword_bundle, mended_words, mended}
use Rattle.mending.proofs.Mended.{mended-opened}
use Rattle.mending.proofs.Opens.{unless-opens}
use Rattle.promises.specs.Written.{Deals, dealing_of, shares_of, at_place, Archive, words_in, files_with, written_bundle, Written, Stored}
use Rattle.promises.specs.Written.{EnoughFiles, HoldsShares, with_words, Changed, changed_anywhere}
use Rattle.promises.proofs.Jobs.{share-value}
use Rattle.promises.proofs.Written.{bundle_of, reads, contents, params_is, holder-is, range, holders-good}
use Rattle.promises.proofs.Written.{written-ranges, written-stored, changed-stored}
use Rattle.promises.proofs.Opened.{deals-at, words-share, jobs-count, changed-place-opens}

-- ---- files with other words, as values

-- jobs of lent lists, from place p on
reword-jobs : (d : ℕ) (w : ℕ → Element) (p : ℕ) (ns us vs : List ℕ) → ((i : ℕ) → i < length ns → w (p + i) ≡ take d (drop (i * d) vs)) →
    reword_jobs w p (jobs_of d ns us) ≡ jobs_of d ns vs
unfolding reword_jobs jobs_of
reword-jobs d w p [] us vs e = refl
reword-jobs d w p (n ∷ ns) us vs e =
    let here : p ≡ p + 0 = omega arith in
    let start : 0 * d ≡ 0 = omega arith in
    ap₂ (λ ws l. job_of n ws ∷ l) (ap w here ∙ e 0 (omega arith) ∙ ap (λ (m : ℕ). take d (drop m vs)) start)
    (reword-jobs d w (suc p) ns (drop d us) (drop d vs)
    (λ i l.
    (let after : suc p + i ≡ p + suc i = omega arith in
    let start : suc i * d ≡ d + i * d = omega arith in
    ap w after ∙ e (suc i) (omega arith) ∙ ap (take d) (ap (λ (m : ℕ). drop m vs) start ∙ sym (drop-drop (i * d) d vs)))))

module _ (a : Archive) (ws : ℕ → List ℕ) (w : ℕ → ℕ → Element) where
  -- the files of holders, from file f on
  reword-files : (f : ℕ) (hs : List ℕ) → ((i p : ℕ) → i < length hs → p < length a.numbers → w (f + i) p ≡ words_in a p (get_or hs i 0)) →
      reword_files w f (files_with (with_words a ws) hs) ≡ files_with a hs
  unfolding reword_files file_for
  reword-files f [] e = refl
  reword-files f (h ∷ hs) e =
      let here : f ≡ f + 0 = omega arith in
      ap₂ (λ js l. record { heading = heading_for a.params h a.number (length a.numbers); jobs = js } ∷ l)
      (reword-jobs a.params.d (w f) 0 a.numbers (ws h) (a.words h)
      (λ p l. (let z : 0 + p ≡ p = omega arith in ap₂ w here z ∙ e 0 p (omega arith) l)))
      (reword-files (suc f) hs
      (λ i p l m. (let after : suc f + i ≡ f + suc i = omega arith in ap (λ (g : ℕ). w g p) after ∙ e (suc i) p (omega arith) m)))

  reword-bundle : ((f p : ℕ) → f < length a.holders → p < length a.numbers → w f p ≡ words_in a p (get_or a.holders f 0)) →
      reword_bundle (bundle_of (with_words a ws)) w ≡ bundle_of a
  unfolding reword_bundle
  reword-bundle e =
      ap (λ (l : List File). record { allowance = a.allowance; files = l })
      (reword-files 0 a.holders (λ f p l m. (let z : 0 + f ≡ f = omega arith in ap (λ (g : ℕ). w g p) z ∙ e f p l m)))

-- ---- the words of the mended bundle

-- a call that opens a place opens it as mending does
place_opened : (bs : List ℕ) (p n w l : ℕ) (q : Polynomial) → open_place bs p n w l ≡ opens q → place_opening bs p ≡ opens q
unfolding open_place
place_opened bs p n w l q e = (unless-opens (opening_fault bs n w l (place_fault (bundle_heading bs) p)) (place_opening bs p) q e).1

module _ (a : Archive) (w : Written a) (js : List Job) (deals : All (Deals a.params) js) (holds : HoldsShares a js) (m : EnoughFiles a)
    (ws : ℕ → List ℕ) (changed : Changed a ws) (few : ones (changed_anywhere (with_words a ws) js) ≤ a.allowance) where
  abbrev bs : List ℕ
  bs = written_bundle (with_words a ws)

  later : Stored (with_words a ws)
  later = changed-stored a ws (written-ranges a w).well_formed changed

  -- each share is again what was written
  words_back : (f p : ℕ) → f < length a.holders → p < length a.numbers → mended_words bs f p ≡ words_in a p (get_or a.holders f 0)
  words_back f p l u =
      let q = a.params in
      let j = at_place js p in
      let h = get_or a.holders f 0 in
      let stored = written-stored a w in
      let r = reads (with_words a ws) later in
      let g = all-at (λ i. (1 ≤ i) × (i ≤ q.n)) a.holders f 0 (holders-good a stored) l in
      let count = jobs-count a stored js deals holds in
      mended-opened bs f p (dealing_of q j)
      (place_opened bs p q.d 1 64 (dealing_of q j) (changed-place-opens a w js deals holds m ws changed few p u).opened)
      ∙ ap₂ (λ (o : Params) (i : ℕ). value o.k o.d (dealing_of q j) (point o.d i)) (params_is (with_words a ws) r)
      (holder-is (with_words a ws) r f l)
      ∙ sym (share-value q (range a stored) j (deals-at a stored js deals count p u) h g.0 g.1)
      ∙ sym (words-share a stored js deals count p u h g (all-at (λ (i : ℕ). a.words i ≡ shares_of q js i) a.holders f 0 holds l))

pub changed-mends : (a : Archive) → Written a → (js : List Job) → All (Deals a.params) js → HoldsShares a js → EnoughFiles a →
    (ws : ℕ → List ℕ) → Changed a ws → ones (changed_anywhere (with_words a ws) js) ≤ a.allowance →
    mended (written_bundle (with_words a ws)) ≡ written_bundle a
unfolding mended bundle_bytes
changed-mends a w js deals holds m ws changed few =
    let words = mended_words (written_bundle (with_words a ws)) in
    ap bundle_bytes
    (ap (λ (b : Bundle). reword_bundle b words) (contents (with_words a ws) (later a w js deals holds m ws changed few))
    ∙ reword-bundle a ws words (words_back a w js deals holds m ws changed few))
