-- What is read of the bundle of an archive whose files have words of 64 bits, wide ones too (`reads`, `contents`): its parameters, holders and places
-- are those of the archive, the shares at a place are the words in the holders' files (`shares_at_lem`), those of a run their sums (`shares-over`). An
-- archive that the calls wrote is such, with its words in width (`written-ranges`, `written-stored`), and so is each that it becomes when its files'
-- words change (`changed-stored`). Assumes nothing.
use mathlib.Core.Path.{◌≡◌, refl, sym, ap, ap₂, subst, ◌∙◌}
use mathlib.Core.Bool.{true}
use mathlib.Core.List.{List, [], ◌∷◌, ◌++◌, map, map-id}
use Prim.Native.Nat.{ℕ, zero, suc, ◌+◌, ◌*◌, ◌≤◌, ◌<◌}
use native.Mathlib.Nat.{not-suc-le-zero}
use native.Mathlib.Omega.{arith}
use lib.Dec.{leb, ltb}
use lib.ListN.{length, get_or, drop}
use borrow.Author.Tests.{le-leb, lt-ltb, leb-true, ltb-true}
use Rattle.algebra.specs.Shares.{All}
use Rattle.algebra.proofs.Shares.{all_map, all-map₂, all-at}
use Rattle.words.specs.Params.{params_ok}
use Rattle.words.specs.Word.{all_in_width}
use Rattle.words.specs.declared.Params.{Params}
use Rattle.words.proofs.InRange.{InRange, ok-range, range-ok}
use Rattle.words.proofs.Refusals.{first-left}
use Rattle.words.proofs.Tests.{and_left, and_right, and_both}
use Rattle.galois.specs.Element.{Element}
use Rattle.sharing.specs.Opening.{rising_to}
use Rattle.sharing.proofs.Lent.{width-take, width-drop}
use Rattle.records.specs.Layout.{order_size}
use Rattle.bundle.specs.Bundle.{most_jobs, ranges_ok, bundle_fault, bundle_heading, params_of, files_of, holder_of}
use Rattle.bundle.specs.Contents.{Job, File, Bundle, bundle_from, words_of}
use Rattle.bundle.proofs.Headings.{ok-ranges}
use Rattle.bundle.proofs.Files.{files-empty}
use Rattle.bundle.proofs.Bundles.{bundle-ok, holders_rise}
use Rattle.totals.specs.Total.{sum_to, run_total, run_in_width}
use Rattle.totals.specs.Values.{values_from, every}
use Rattle.totals.proofs.Sums.{sum_same}
use Rattle.totals.proofs.Values.{every-all, every-same}
use Rattle.archive.specs.Archive.{share_by, shares_by, shares_at, shares_over, files_in_width}
use Rattle.archive.specs.Clear.{Enough}
use Rattle.archive.proofs.Shares.{holder-range, shares-holders}
use Rattle.codewords.specs.WellFormed.{Holders}
use Rattle.writer.specs.Bytes.{files_bytes, order_bytes, bundle_bytes}
use Rattle.writer.specs.ByPlace.{file_no, job_no, ReadsAs}
use Rattle.writer.specs.Fits.{Words64, FileFits, Chain, done, next, BundleFits}
use Rattle.writer.specs.Write.{heading_for, file_for, job_of, numbers_in, bundle_write_fault}
use Rattle.writer.proofs.ByPlace.{Alike, no-file, a-file, bundled-reads, written-reads}
use Rattle.writer.proofs.Decode.{bundle-read}
use Rattle.writer.proofs.Calls.{jobs-count, jobs-at, Writable, writable}
use Rattle.writer.proofs.Orders.{order-fault}
use Rattle.writer.proofs.Undo.{nums-of, width_fits, lists-fit, file-for-fits}
use Rattle.promises.specs.Totals.{holders_of}
use Rattle.promises.specs.Written.{Archive, words_in, file_with, files_with, written_bundle, FileWritten, Written, WellFormed, InRanges, Stored}
use Rattle.promises.specs.Written.{EnoughFiles, in_width_over, with_words, Changed}
use Rattle.promises.proofs.Changed.{shares_with}

-- values at the places of a list
values-map : {A : Type 0} (g : ℕ → A) (v : ℕ → A) (l : List ℕ) (i : ℕ) → ((j : ℕ) → j < length l → g (i + j) ≡ v (get_or l j 0)) →
    values_from g i (length l) ≡ map v l
unfolding values_from
values-map g v [] i h = refl
values-map g v (x ∷ l) i h =
    let z : i ≡ i + 0 = omega arith in
    ap₂ ◌∷◌ (ap g z ∙ h 0 (omega arith))
    (values-map g v l (suc i) (λ j u. ap g (let e : suc i + j ≡ i + suc j = omega arith in e) ∙ h (suc j) (omega arith)))

-- ---- holders that rise

-- they are from 1 to n
pub holders-from : (n prev : ℕ) (hs : List ℕ) → rising_to n prev hs ≡ true → All (λ h. (1 ≤ h) × (h ≤ n)) hs
unfolding rising_to
holders-from n prev [] e = tt
holders-from n prev (h ∷ hs) e =
    let l : prev < h = ltb-true prev h (and_left (ltb prev h) _ e) in
    let r = and_right (ltb prev h) _ e in
    ((omega arith, leb-true h n (and_left (leb h n) _ r)), holders-from n h hs (and_right (leb h n) _ r))

-- those of an accepted bundle do
module _ (bs : List ℕ) (z : bundle_fault bs ≡ 0) where
  rises-after : (prev i n : ℕ) → i + n ≤ files_of bs → ((f : ℕ) → i ≤ f → f < i + n → prev < holder_of bs f) →
      rising_to (params_of bs).n prev (values_from (holder_of bs) i n) ≡ true
  unfolding values_from rising_to
  rises-after prev i zero h g = refl
  rises-after prev i (suc n) h g =
      let x = holder_of bs i in
      and_both (ltb prev x) _ (lt-ltb prev x (g i (omega arith) (omega arith)))
      (and_both (leb x (params_of bs).n) _ (le-leb x (params_of bs).n (holder-range bs z i (omega arith)).1)
      (rises-after x (suc i) n (omega arith)
      (λ f u v. holders_rise bs order_size (bundle-ok bs z).files i f (omega arith) (omega arith))))

  pub accepted-rise : rising_to (params_of bs).n 0 (holders_of bs) ≡ true
  accepted-rise = rises-after 0 0 (files_of bs) (omega arith) (λ f u v. (holder-range bs z f (omega arith)).0)

-- ---- the files of an archive

-- its bundle as a value, and that the written bytes read as it
abbrev pub bundle_of : Archive → Bundle
bundle_of a = record { allowance = a.allowance; files = files_with a a.holders }

abbrev pub Reads : Archive → Type 0
Reads a = ReadsAs (written_bundle a) (bundle_of a)

module _ (a : Archive) where
  files-long : (hs : List ℕ) → length (files_with a hs) ≡ length hs
  files-long [] = refl
  files-long (h ∷ hs) = ap suc (files-long hs)

  file-with : (hs : List ℕ) (f : ℕ) (z : File) → f < length hs → get_or (files_with a hs) f z ≡ file_with a (get_or hs f 0)
  file-with [] f z l = absurd (not-suc-le-zero l)
  file-with (h ∷ hs) zero z l = refl
  file-with (h ∷ hs) (suc f) z l = file-with hs f z (omega arith)

module _ (a : Archive) (r : Reads a) where
  abbrev p : Params
  p = a.params

  abbrev bs : List ℕ
  bs = written_bundle a

  abbrev hs : List ℕ
  hs = a.holders

  -- ---- what the calls read

  pub count-is : files_of (written_bundle a) ≡ length a.holders
  count-is = r.files ∙ files-long a hs

  in-files : (f : ℕ) → f < length hs → f < files_of bs
  in-files f l = omega (arith, count-is)

  file-is : (f : ℕ) → f < length hs → file_no (bundle_of a) f ≡ file_with a (get_or hs f 0)
  file-is f l = file-with a hs f _ l

  one-file : 0 < length a.holders
  one-file = omega (arith, (bundle-ok bs r.no_fault).files.some, count-is)

  pub params_is : params_of (written_bundle a) ≡ a.params
  unfolding file_for heading_for
  params_is = r.params 0 (in-files 0 one-file) ∙ ap (λ (g : File). g.heading.params) (file-is 0 one-file)

  pub jobs_is : (bundle_heading (written_bundle a)).jobs ≡ length a.numbers
  unfolding file_for
  jobs_is =
      r.jobs 0 (in-files 0 one-file)
      ∙ ap (λ (g : File). length g.jobs) (file-is 0 one-file) ∙ jobs-count p.d a.numbers (a.words (get_or hs 0 0))

  pub holder-is : (f : ℕ) → f < length a.holders → holder_of (written_bundle a) f ≡ get_or a.holders f 0
  unfolding file_for heading_for
  holder-is f l = r.holder f (in-files f l) ∙ ap (λ (g : File). g.heading.holder) (file-is f l)

  words_are : (f i : ℕ) → f < length hs → i < length a.numbers → words_of bs f i ≡ words_in a i (get_or hs f 0)
  unfolding file_for
  words_are f i l u =
      r.words f i (in-files f l) (omega (arith, jobs_is))
      ∙ ap (λ (g : File). (job_no g i).words) (file-is f l)
      ∙ ap (λ (j : Job). j.words) (jobs-at p.d a.numbers (a.words (get_or hs f 0)) i (job_of 0 []) u)

  pub enough-files : EnoughFiles a → Enough (written_bundle a)
  enough-files e = rw (params_is, r.allowance, count-is) e

  holders-are : holders_of bs ≡ hs
  holders-are =
      ap (values_from (holder_of bs) 0) count-is
      ∙ values-map (holder_of bs) (λ h. h) hs 0 (λ f l. ap (holder_of bs) (let z : 0 + f ≡ f = omega arith in z) ∙ holder-is f l) ∙ map-id hs

  rise : rising_to p.n 0 hs ≡ true
  rise = ap₂ (λ (q : Params) (l : List ℕ). rising_to q.n 0 l) (sym params_is) (sym holders-are) ∙ accepted-rise bs r.no_fault

  -- ---- shares

  shares-by : (g v : ℕ → Element) → ((f : ℕ) → f < length hs → g f ≡ v (get_or hs f 0)) → shares_by bs g ≡ shares_with v hs
  shares-by g v e =
      ap (values_from (share_by bs g) 0) count-is
      ∙ values-map (share_by bs g) (λ h. record { holder = h; words = v h }) hs 0
      (λ f l. ap (share_by bs g) (let z : 0 + f ≡ f = omega arith in z)
      ∙ ap₂ (λ (h : ℕ) (x : Element). record { holder = h; words = x }) (holder-is f l) (e f l))

  -- no two shares under one holder
  pub holders-fine : Holders (params_of (written_bundle a)).d (shares_with (λ h. []) a.holders)
  holders-fine =
      subst (Holders (params_of bs).d) (shares-by (λ f. []) (λ h. []) (λ f l. refl)) (shares-holders bs r.no_fault (λ f. []))

  pub shares_at_lem : (i : ℕ) → i < length a.numbers → shares_at (written_bundle a) i ≡ shares_with (words_in a i) a.holders
  shares_at_lem i u = shares-by (λ f. words_of bs f i) (words_in a i) (λ f l. words_are f i l u)

  pub total-is : (f x n : ℕ) → f < length a.holders → x + n ≤ length a.numbers →
      run_total (written_bundle a) f x n ≡ sum_to a.params.k a.params.d (λ i. words_in a (x + i) (get_or a.holders f 0)) n
  total-is f x n l u =
      ap (λ (q : Params). sum_to q.k q.d (λ i. words_of bs f (x + i)) n) params_is
      ∙ sum_same p.k p.d (λ i. words_of bs f (x + i)) (λ i. words_in a (x + i) (get_or hs f 0)) n (λ i v. words_are f (x + i) l (omega arith))

  pub shares-over : (x n : ℕ) → x + n ≤ length a.numbers →
      shares_over (written_bundle a) x n
      ≡ shares_with (λ h. sum_to a.params.k a.params.d (λ i. words_in a (x + i) h) n) a.holders
  shares-over x n u =
      shares-by (λ f. run_total bs f x n) (λ h. sum_to p.k p.d (λ i. words_in a (x + i) h) n) (λ f l. total-is f x n l u)

  -- ---- width

  pub width_is : (x n : ℕ) → x + n ≤ length a.numbers → files_in_width (written_bundle a) x n ≡ in_width_over a x n
  width_is x n u =
      ap (every (λ f. run_in_width bs f x n)) count-is
      ∙ every-same (λ f. run_in_width bs f x n) (λ f. every (λ i. all_in_width p.k (words_in a (x + i) (get_or hs f 0))) n) (length hs)
      (λ f l. every-same (λ i. all_in_width (params_of bs).k (words_of bs f (x + i))) (λ i. all_in_width p.k (words_in a (x + i) (get_or hs f 0))) n
      (λ i v. ap₂ (λ (q : Params) (e : Element). all_in_width q.k e) params_is (words_are f (x + i) l (omega arith))))

-- ---- an archive whose words are of 64 bits

module _ (a : Archive) (s : Stored a) where
  pub range : InRange a.params
  range = ok-range a.params s.well_formed.params_in_range

  pub holders-good : All (λ h. (1 ≤ h) × (h ≤ a.params.n)) a.holders
  holders-good = holders-from a.params.n 0 a.holders s.well_formed.holders_rise

  fits : (h : ℕ) → (1 ≤ h) × (h ≤ a.params.n) → length (a.words h) ≡ length a.numbers * a.params.d → Words64 (a.words h) →
      FileFits (file_with a h)
  unfolding heading_for ranges_ok
  fits h g c f =
      let x = s.well_formed in
      let ok = and_both (params_ok a.params) _ x.params_in_range (le-leb (length a.numbers) most_jobs x.jobs_high) in
      lists-fit a.params h a.number a.numbers (a.words h) x.number_fits x.numbers_fit ok g.0 g.1 x.numbers_rise c f

  files-fit : All (λ h. FileFits (file_with a h)) a.holders
  files-fit = all-map₂ (λ h g f. g f) a.holders (all-map₂ fits a.holders holders-good s.well_formed.words_count) s.words_fit

  chain : (g prev : ℕ) (hs : List ℕ) → rising_to a.params.n prev hs ≡ true → All (λ h. FileFits (file_with a h)) hs →
      Chain (file_with a g).heading (numbers_in (file_with a g).jobs) prev (files_with a hs)
  unfolding file_for heading_for rising_to
  chain g prev [] e x = done
  chain g prev (h ∷ hs) e x =
      let d = a.params.d in
      next x.0 (ltb-true prev h (and_left (ltb prev h) _ e)) (record { params_is = refl; archive_is = refl; jobs_is = refl })
      (nums-of d a.numbers (a.words h) ∙ sym (nums-of d a.numbers (a.words g)))
      (chain g h hs (and_right (leb h a.params.n) _ (and_right (ltb prev h) _ e)) x.1)

  files-chain : BundleFits (files_with a a.holders)
  files-chain = go a.holders s.well_formed.some_holder s.well_formed.holders_rise files-fit
    where
      go : (hs : List ℕ) → 1 ≤ length hs → rising_to a.params.n 0 hs ≡ true → All (λ h. FileFits (file_with a h)) hs → BundleFits (files_with a hs)
      go [] l e x = absurd (not-suc-le-zero l)
      go (h ∷ hs) l e x = chain h 0 (h ∷ hs) e x

  pub reads : Reads a
  unfolding bundle_bytes
  reads = written-reads (bundle_of a) files-chain

  pub contents : bundle_from (written_bundle a) ≡ bundle_of a
  unfolding bundle_bytes
  contents = (bundle-read (bundle_of a) files-chain).1

-- its words in width, or changed
module _ (a : Archive) where
  pub ranges-stored : InRanges a → Stored a
  ranges-stored i =
      let k-high = (ok-range a.params i.well_formed.params_in_range).k-high in
      record {
        well_formed = i.well_formed;
        words_fit = all_map (λ h e. width_fits a.params.k (a.words h) k-high e) a.holders i.words_width;
      }

  pub ranges-width : InRanges a → (x n : ℕ) → in_width_over a x n ≡ true
  ranges-width i x n =
      let p = a.params in
      every-all _ (length a.holders) (λ f l. every-all _ n (λ j u.
      (let e = all-at (λ h. all_in_width p.k (a.words h) ≡ true) a.holders f 0 i.words_width l in
      let ws = a.words (get_or a.holders f 0) in
      width-take p.k p.d (drop ((x + j) * p.d) ws) (width-drop p.k ((x + j) * p.d) ws e))))

  pub changed-stored : (ws : ℕ → List ℕ) → WellFormed a → Changed a ws → Stored (with_words a ws)
  changed-stored ws x c =
      record {
        well_formed = record {
          number_fits = x.number_fits;
          numbers_fit = x.numbers_fit;
          params_in_range = x.params_in_range;
          jobs_high = x.jobs_high;
          numbers_rise = x.numbers_rise;
          some_holder = x.some_holder;
          holders_rise = x.holders_rise;
          words_count = all-map₂ (λ h (e : length (ws h) ≡ length (a.words h)) f. e ∙ f) a.holders c.words_count x.words_count;
        };
        words_fit = c.words_fit;
      }

-- ---- an archive that the calls wrote

-- "a bundle has no file"
no-files : (e : ℕ) → bundle_fault (order_bytes e ++ files_bytes []) ≡ 7
unfolding files_bytes
no-files e = order-fault e [] ∙ files-empty [] 0 (omega arith)

module _ (a : Archive) (w : Written a) where
  -- each file can be written, and they belong together
  fine : (h : ℕ) (x : FileWritten a h) →
      Writable (heading_for a.params h a.number (length a.numbers)) a.numbers (a.words h) (length x.out)
  fine h x = writable (heading_for a.params h a.number (length a.numbers)) a.numbers (a.words h) (length x.out) x.no_fault

  written-fits : (h : ℕ) → FileWritten a h → FileFits (file_with a h)
  written-fits h x =
      file-for-fits a.params h a.number a.numbers (a.words h) w.number_fits w.numbers_fit (length x.out) x.no_fault

  alike : (g : ℕ) (l : List ℕ) → All (FileWritten a) l → Alike (file_with a g).heading (files_with a l)
  unfolding file_for heading_for
  alike g [] x = no-file
  alike g (h ∷ l) x = a-file (written-fits h x.0) (record { params_is = refl; archive_is = refl; jobs_is = refl }) (alike g l x.1)

  -- read back, so that its holders are known to rise
  read_back : Reads a
  unfolding bundle_bytes bundle_write_fault
  read_back = go a.holders w.files (first-left (bundle_fault (written_bundle a)) _ w.bundle)
    where
      go : (l : List ℕ) → All (FileWritten a) l → bundle_fault (order_bytes a.allowance ++ files_bytes (files_with a l)) ≡ 0 →
          ReadsAs (order_bytes a.allowance ++ files_bytes (files_with a l)) (record { allowance = a.allowance; files = files_with a l })
      go [] x z = absurd (let e : ◌≡◌ {A = ℕ} 7 0 = sym (no-files a.allowance) ∙ z in omega arith)
      go (h ∷ l) x z = bundled-reads a.allowance (file_with a h) (files_with a l) (written-fits h x.0) (alike h l x.1) z

  pub written-ranges : InRanges a
  unfolding heading_for
  written-ranges =
      let r = read_back in
      let one = one-file a r in
      let h = get_or a.holders 0 0 in
      let f = fine h (all-at (FileWritten a) a.holders 0 0 w.files one) in
      let q = ok-ranges (heading_for a.params h a.number (length a.numbers)) f.ranges in
      record {
        well_formed = record {
          number_fits = w.number_fits;
          numbers_fit = w.numbers_fit;
          params_in_range = range-ok a.params q.book;
          jobs_high = q.jobs_high;
          numbers_rise = f.rises;
          some_holder = one;
          holders_rise = rise a r;
          words_count = all_map (λ h x. (fine h x).count) a.holders w.files;
        };
        words_width = all_map (λ h x. (fine h x).width) a.holders w.files;
      }

  pub written-stored : Stored a
  written-stored = ranges-stored a written-ranges
