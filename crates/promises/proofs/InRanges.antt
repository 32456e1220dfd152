-- The calls of the writers return 0 for every archive in its ranges (`ranges-written`), and files of dealt shares, one job for each number, have
-- their words in these ranges (`dealt-words`): so what the theorems on written bundles ask holds of every archive that paper 01 describes.
-- Assumes nothing.
use mathlib.Core.Path.{◌≡◌, refl, ap, ◌∙◌}
use mathlib.Core.Bool.{true}
use mathlib.Core.List.{List}
use Prim.Native.Nat.{ℕ, ◌+◌, ◌*◌, ◌≤◌}
use lib.ListN.{length, replicate, length-replicate}
use borrow.Author.Tests.{le-leb}
use Rattle.algebra.specs.Shares.{All}
use Rattle.algebra.proofs.Shares.{all-map₂}
use Rattle.words.specs.Params.{params_ok}
use Rattle.words.specs.Word.{all_in_width}
use Rattle.words.proofs.Faults.{clear-length}
use Rattle.words.proofs.InRange.{ok-range}
use Rattle.words.proofs.Refusals.{first-none}
use Rattle.words.proofs.Tests.{and_both}
use Rattle.sharing.specs.Dealt.{Job}
use Rattle.sharing.specs.Opening.{rising_to}
use Rattle.records.specs.Layout.{file_size, order_size}
use Rattle.records.specs.declared.Heading.{Heading}
use Rattle.bundle.specs.Bundle.{most_jobs, ranges_ok, bundle_fault}
use Rattle.bundle.proofs.Headings.{holder_ok_lem}
use Rattle.writer.specs.Write.{heading_for, bundle_write_fault}
use Rattle.writer.proofs.Calls.{writes}
use Rattle.promises.specs.Written.{Deals, shares_of, Archive, written_files, written_bundle, FileWritten, Written, InRanges, HoldsShares}
use Rattle.promises.proofs.Jobs.{shares-length, shares-width}
use Rattle.promises.proofs.Written.{holders-from, holders-good, reads, ranges-stored}

module _ (a : Archive) (i : InRanges a) where
  abbrev heading : ℕ → Heading
  heading h = heading_for a.params h a.number (length a.numbers)

  file-written : (h : ℕ) → (1 ≤ h) × (h ≤ a.params.n) → length (a.words h) ≡ length a.numbers * a.params.d →
      all_in_width a.params.k (a.words h) ≡ true → FileWritten a h
  unfolding heading_for ranges_ok
  file-written h g c k =
      let n = length-replicate {A = ℕ} (file_size (heading h)) 0 in
      let x = i.well_formed in
      record {
        out = replicate (file_size (heading h)) 0;
        no_fault = writes (heading h) a.numbers (a.words h) (length (replicate (file_size (heading h)) 0))
            (record {
              ranges = and_both (params_ok a.params) _ x.params_in_range (le-leb (length a.numbers) most_jobs x.jobs_high);
              count = c;
              room = n;
              holder = holder_ok_lem 0 (heading h) g.0 g.1;
              rises = x.numbers_rise;
              width = k;
            });
      }

  pub ranges-written : Written a
  unfolding bundle_write_fault
  ranges-written =
      let s = ranges-stored a i in
      record {
        number_fits = i.well_formed.number_fits;
        numbers_fit = i.well_formed.numbers_fit;
        files = all-map₂ (λ h f k. f k) a.holders
            (all-map₂ file-written a.holders (holders-good a s) i.well_formed.words_count)
            i.words_width;
        size = order_size + length (written_files a);
        bundle = first-none (bundle_fault (written_bundle a)) _ (reads a s).no_fault
            ∙ clear-length (order_size + length (written_files a)) _ refl;
      }

pub dealt-words : (a : Archive) (js : List Job) → params_ok a.params ≡ true → rising_to a.params.n 0 a.holders ≡ true →
    All (Deals a.params) js → length js ≡ length a.numbers → HoldsShares a js →
    All (λ h. length (a.words h) ≡ length a.numbers * a.params.d) a.holders
    × All (λ h. all_in_width a.params.k (a.words h) ≡ true) a.holders
dealt-words a js ok rises deals count holds =
    let p = a.params in
    let r = ok-range p ok in
    let from = holders-from p.n 0 a.holders rises in (
      all-map₂ (λ h (g : (1 ≤ h) × (h ≤ p.n)) (e : a.words h ≡ shares_of p js h).
          ap length e ∙ shares-length p r h g.0 g.1 js deals ∙ ap (λ (n : ℕ). n * p.d) count) a.holders from holds,
      all-map₂ (λ h (g : (1 ≤ h) × (h ≤ p.n)) (e : a.words h ≡ shares_of p js h).
          ap (all_in_width p.k) e ∙ shares-width p r h g.0 g.1 js deals) a.holders from holds,
    )
