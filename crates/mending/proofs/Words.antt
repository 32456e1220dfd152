-- A bundle with other words in it: with its own it is itself (`own-reworded`), and with any of 64 bits it is accepted and reads as these words, all
-- else as it was (`reworded-reads` and what follows from it). Assumes nothing.
use mathlib.Core.Path.{◌≡◌, sym, ap, ap₂, subst, ◌∙◌}
use Prim.Native.Nat.{ℕ, zero, suc, ◌+◌, ◌*◌, ◌<◌}
use native.Mathlib.Omega.{arith}
use mathlib.Core.List.{List}
use lib.ListN.{length}
use Rattle.records.specs.Num.{Bytes}
use Rattle.records.specs.Layout.{body_at, words_at, word_size, file_size, order_size}
use Rattle.records.specs.Record.{heading_of}
use Rattle.records.specs.declared.Heading.{Heading}
use Rattle.records.proofs.Num.{le_at-lt}
use Rattle.galois.specs.Element.{Element}
use Rattle.bundle.specs.Bundle.{num_of, place_at, prev_holder, bundle_fault, bundle_heading, files_of, file_at, job_at, allowance_of}
use Rattle.bundle.specs.Acceptance.{BundleOk}
use Rattle.bundle.specs.Contents.{Job, File, Bundle, file_from, files_from, bundle_from, words_of}
use Rattle.bundle.proofs.Bundles.{bundle-ok, file-at, same_at, number_at}
use Rattle.bundle.proofs.Contents.{words_count, words-at}
use Rattle.writer.specs.Bytes.{bundle_bytes}
use Rattle.writer.specs.Write.{job_of, numbers_in}
use Rattle.writer.specs.Fits.{Chain, done, next, BundleFits}
use Rattle.writer.specs.ByPlace.{file_no, job_no, ReadsAs}
use Rattle.writer.proofs.Encode.{bundle_written}
use Rattle.writer.proofs.Decode.{bundle-read}
use Rattle.writer.proofs.Whole.{file-fits}
use Rattle.writer.proofs.AreBytes.{bundle-bytes}
use Rattle.writer.proofs.ByPlace.{file-stands, accepted-reads, written-reads}
use Rattle.mending.specs.Mended.{reword_bundle, reworded}
use Rattle.mending.proofs.Contents.{jobs-numbers, numbers-same, bundle-own, bundle-same, count-with, file-no-with, job-no-with}
use Rattle.mending.proofs.Contents.{chain-fit, chain-bundle}
pub use Rattle.mending.proofs.Contents.{words-twice, WordsFit}

-- words that fit, for every file and place
abbrev pub Fitting : List ℕ → (ℕ → ℕ → Element) → Type 0
Fitting bs w = (f p : ℕ) → f < files_of bs → p < (bundle_heading bs).jobs → WordsFit (bundle_heading bs) (w f p)

-- ---- a bundle that has no fault

-- of it, and later of the one with other words
module _ (bs : List ℕ) (z : bundle_fault bs ≡ 0) where
  ok : BundleOk bs
  ok = bundle-ok bs z

  heading-stands : (f : ℕ) → f < files_of bs → heading_of bs (file_at bs f) ≡ (file_no (bundle_from bs) f).heading
  unfolding file_from
  heading-stands f l = ap (λ (g : File). g.heading) (sym (file-stands bs z f l))

  first-stands : bundle_heading bs ≡ (file_no (bundle_from bs) 0).heading
  unfolding place_at
  first-stands =
      ap (heading_of bs) (let e : order_size ≡ order_size + 0 * file_size (bundle_heading bs) = omega arith in e)
      ∙ heading-stands 0 (omega (arith, ok.files.some))

  whole_length : length bs ≡ order_size + files_of bs * file_size (bundle_heading bs)
  unfolding place_at
  whole_length = sym ok.files.ends

module _ (bs : List ℕ) (z : bundle_fault bs ≡ 0) where
  reads : ReadsAs bs (bundle_from bs)
  reads = accepted-reads bs z

  -- only the words at its files and places count
  pub same-words : (u w : ℕ → ℕ → Element) → ((f p : ℕ) → f < files_of bs → p < (bundle_heading bs).jobs → u f p ≡ w f p) →
      reword_bundle (bundle_from bs) u ≡ reword_bundle (bundle_from bs) w
  same-words u w e =
      bundle-same (bundle_from bs) u w
      (λ f p l m. (let v : f < files_of bs = omega (arith, reads.files) in e f p v (omega (arith, reads.jobs f v))))

  pub own-words : reword_bundle (bundle_from bs) (words_of bs) ≡ bundle_from bs
  own-words =
      bundle-own (bundle_from bs) (words_of bs)
      (λ f p l m. (let v : f < files_of bs = omega (arith, reads.files) in reads.words f p v (omega (arith, reads.jobs f v))))

  -- the job numbers of every file
  abbrev numbers : List ℕ
  numbers = numbers_in (file_no (bundle_from bs) 0).jobs

  numbers-stand : (f : ℕ) → f < files_of bs → numbers_in (file_from bs (file_at bs f)).jobs ≡ numbers
  numbers-stand f l =
      let o : 0 < files_of bs = omega arith in
      ap (λ (g : File). numbers_in g.jobs) (sym (file-stands bs z f l))
      ∙ numbers-same (file_no (bundle_from bs) f).jobs (file_no (bundle_from bs) 0).jobs (sym (reads.jobs f l) ∙ reads.jobs 0 o)
      (λ p m.
      (let v : p < (bundle_heading bs).jobs = omega (arith, reads.jobs f l) in
      sym (reads.number f p l v) ∙ sym (number_at bs (ok bs z) f p l v) ∙ reads.number 0 p o v))

  module _ (b : Bytes bs) where
    pub own-reworded : reworded bs (words_of bs) ≡ bs
    own-reworded = ap bundle_bytes own-words ∙ bundle_written bs b z

    pub own-fits : Fitting bs (words_of bs)
    unfolding words_of
    own-fits f p l m =
        let h = bundle_heading bs in
        let w = word_size h in
        let at = words_at (job_at bs f p) in
        record {
          count = words_count w bs h.params.d at;
          fit = λ i n. rw (words-at w bs h.params.d at i n) (le_at-lt w bs (at + w * i) b);
        }

    -- its n files from file f on belong together with the first
    files-chain : (n f : ℕ) → f + n ≡ files_of bs →
        Chain (bundle_heading bs) numbers (prev_holder bs order_size f) (files_from bs (file_size (bundle_heading bs)) n (file_at bs f))
    unfolding file_from files_from place_at prev_holder
    files-chain zero f e = done
    files-chain (suc n) f e =
        let h = bundle_heading bs in
        let l : f < files_of bs = omega arith in
        let q : file_at bs (suc f) ≡ file_at bs f + file_size h = omega arith in
        next (file-fits bs b order_size (prev_holder bs order_size f) (file_at bs f) ((ok bs z).files.none f l))
        (file-at bs order_size (ok bs z).files f l).heading.rises (same_at bs order_size (ok bs z).files f l) (numbers-stand f l)
        (subst (λ (at : ℕ). Chain h numbers (prev_holder bs order_size (suc f)) (files_from bs (file_size h) n at)) q
        (files-chain n (suc f) (omega arith)))

    own-chain : Chain (bundle_heading bs) numbers 0 (bundle_from bs).files
    unfolding bundle_from place_at prev_holder
    own-chain =
        let h = bundle_heading bs in
        let q : file_at bs 0 ≡ order_size = omega arith in
        subst (λ (at : ℕ). Chain h numbers 0 (files_from bs (file_size h) (files_of bs) at)) q (files-chain (files_of bs) 0 (omega arith))

    module _ (w : ℕ → ℕ → Element) (k : Fitting bs w) where
      pub files-fit : BundleFits (reword_bundle (bundle_from bs) w).files
      unfolding reword_bundle
      files-fit =
          let a = bundle_from bs in
          let e = file-no-with a w 0 in
          chain-bundle (bundle_heading bs) numbers (reword_bundle a w).files
          (chain-fit (bundle_heading bs) numbers 0 w a.files own-chain (λ f p l m. k f p (omega (arith, reads.files)) m))
          (omega (arith, count-with a w, reads.files, (ok bs z).files.some)) (first-stands bs z ∙ ap (λ (g : File). g.heading) (sym e))
          (sym (ap (λ (g : File). numbers_in g.jobs) e ∙ jobs-numbers (w 0) 0 (file_no a 0).jobs))

      pub reworded-accepted : bundle_fault (reworded bs w) ≡ 0
      reworded-accepted = (bundle-read (reword_bundle (bundle_from bs) w) files-fit).0

      pub reworded-reads : bundle_from (reworded bs w) ≡ reword_bundle (bundle_from bs) w
      reworded-reads = (bundle-read (reword_bundle (bundle_from bs) w) files-fit).1

      pub reworded-bytes : Bytes (reworded bs w)
      unfolding bundle_from reword_bundle
      reworded-bytes = bundle-bytes (reword_bundle (bundle_from bs) w) files-fit (b (body_at 0))

      -- what is read of it
      again : ReadsAs (reworded bs w) (reword_bundle (bundle_from bs) w)
      again = written-reads (reword_bundle (bundle_from bs) w) files-fit

      pub reworded-order : allowance_of (reworded bs w) ≡ allowance_of bs
      unfolding bundle_from reword_bundle
      reworded-order = again.allowance

      pub reworded-files : files_of (reworded bs w) ≡ files_of bs
      reworded-files = again.files ∙ count-with (bundle_from bs) w ∙ sym reads.files

      heading-again : (f : ℕ) → (file_no (bundle_from (reworded bs w)) f).heading ≡ (file_no (bundle_from bs) f).heading
      heading-again f = ap (λ (x : Bundle). (file_no x f).heading) reworded-reads ∙ ap (λ (g : File). g.heading) (file-no-with (bundle_from bs) w f)

      pub reworded-first : bundle_heading (reworded bs w) ≡ bundle_heading bs
      reworded-first = first-stands (reworded bs w) reworded-accepted ∙ heading-again 0 ∙ sym (first-stands bs z)

      pub reworded-heading : (f : ℕ) → f < files_of bs → heading_of (reworded bs w) (file_at (reworded bs w) f) ≡ heading_of bs (file_at bs f)
      reworded-heading f l =
          heading-stands (reworded bs w) reworded-accepted f (omega (arith, reworded-files)) ∙ heading-again f ∙ sym (heading-stands bs z f l)

      pub reworded-length : length (reworded bs w) ≡ length bs
      reworded-length =
          whole_length (reworded bs w) reworded-accepted
          ∙ ap₂ (λ (n : ℕ) (h : Heading). order_size + n * file_size h) reworded-files reworded-first
          ∙ sym (whole_length bs z)

      module _ (f p : ℕ) (l : f < files_of bs) (m : p < (bundle_heading bs).jobs) where
        file-again : f < files_of (reworded bs w)
        file-again = omega (arith, reworded-files)

        place-again : p < (bundle_heading (reworded bs w)).jobs
        place-again = omega (arith, ap (λ (h : Heading). h.jobs) reworded-first)

        job-again : job_no (file_no (reword_bundle (bundle_from bs) w) f) p ≡ job_of (job_no (file_no (bundle_from bs) f) p).num (w f p)
        job-again = job-no-with (bundle_from bs) w f p (omega (arith, reads.jobs f l))

        pub reworded-number : num_of (reworded bs w) (job_at (reworded bs w) f p) ≡ num_of bs (job_at bs f p)
        reworded-number = again.number f p file-again place-again ∙ ap (λ (j : Job). j.num) job-again ∙ sym (reads.number f p l m)

        pub reworded-words : words_of (reworded bs w) f p ≡ w f p
        reworded-words = again.words f p file-again place-again ∙ ap (λ (j : Job). j.words) job-again
