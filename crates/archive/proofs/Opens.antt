-- Demand 3 for the calls that open a job by its place, or a run, by what they returned (`place-tells`, `run-tells`); and of what the shares open to,
-- where none of the refusals ahead of 5 applies and there are files enough (`place-decides`, `run-decides`), as there are where a run opens
-- (`run-opened`). Wide words, paper 02, K1: a place never opens to 3 (`place-states`, `place-not-wide`), the holders of wide words there are named
-- (`place-wide`), and a run with a wide word in it opens to 3 (`run-wide`). And the lowest bits at which wrong shares differ (`place-lowest`,
-- `run-lowest`). Assumes nothing.
use mathlib.Core.Path.{◌≡◌, refl, sym, ap, ◌∙◌, subst}
use mathlib.Core.Bool.{true, false}
use mathlib.Core.List.{List}
use Prim.Native.Nat.{ℕ, zero, suc, ◌-◌, ◌≤◌}
use native.Mathlib.Omega.{arith}
use lib.ListN.{length}
use Rattle.words.specs.Refusal.{first, unless, WIDE_WORD, OUT_OF_RANGE}
use Rattle.words.proofs.Refusals.{first-left, first-right, first-none, first_three, first_holds, unless-held, unless-yes, unless_holds}
use Rattle.codewords.specs.Codeword.{Polynomial}
use Rattle.codewords.specs.Demand.{Decides, Outputs, Returned}
use Rattle.codewords.specs.Opening.{Opening, declines, opens, fault_of, lowest_room, unless_fault, answer_to, JobState}
use Rattle.codewords.proofs.Opening.{unless-none, answer-states, narrow, never-wide}
use Rattle.codewords.proofs.Tells.{other, Ahead, call-decides, call-opened, tells, tells-wide, tells-lowest}
use Rattle.records.specs.Num.{Bytes}
use Rattle.bundle.specs.Bundle.{bundle_fault, bundle_heading, params_of, allowance_of}
use Rattle.bundle.specs.Contents.{words_of}
use Rattle.fetch.specs.Fetch.{place_fault, run_fault}
use Rattle.fetch.proofs.Fetch.{place_in, place_none, run_in, run_none}
use Rattle.totals.specs.Total.{run_total}
use Rattle.archive.specs.Archive.{shares_at, shares_over, files_in_width, place_opening, run_opening, outputs_fault, opening_fault, open_place, open_run}
use Rattle.archive.specs.Clear.{PlaceClear, RunClear, Enough, PlaceReturned, PlaceTells, PlaceTellsWide, PlaceTellsLowest}
use Rattle.archive.specs.Clear.{RunReturned, RunTells, RunTellsLowest}
use Rattle.archive.proofs.Ahead.{opening-holds, passed_none, ahead_of}
use Rattle.archive.proofs.Loaded.{run-declines}
use Rattle.archive.proofs.Shares.{shares-count, place-stored, run-stored}

-- ---- the job at a place

pub place-states : (bs : List ℕ) (p : ℕ) → JobState (place_opening bs p)
unfolding place_opening
place-states bs p = answer-states (params_of bs) (allowance_of bs) (shares_at bs p)

module _ (bs : List ℕ) (p n w lo : ℕ) where
  abbrev place-fault : ℕ
  place-fault = opening_fault bs n w lo (place_fault (bundle_heading bs) p)

  pub place-ahead : Ahead (params_of bs) (shares_at bs p) (PlaceClear bs p n w lo) place-fault
  unfolding place_fault
  place-ahead =
      ahead_of bs n w lo (place_fault (bundle_heading bs) p) (λ f. words_of bs f p)
      (λ x.
      record {
        no_fault = x.no_fault;
        output = x.output;
        wrong_output = x.wrong_output;
        lowest_output = x.lowest_output;
        place = place_in (bundle_heading bs) p x.rest;
      })
      (λ c.
      record {
        no_fault = c.no_fault;
        output = c.output;
        wrong_output = c.wrong_output;
        lowest_output = c.lowest_output;
        rest = place_none (bundle_heading bs) p c.place;
      })
      (unless_holds (λ c. other c ≡ true) refl _ OUT_OF_RANGE refl)

  pub place-decides : PlaceClear bs p n w lo → Enough bs → Decides (params_of bs) (allowance_of bs) (shares_at bs p) (open_place bs p n w lo)
  unfolding open_place place_opening
  place-decides c m =
      call-decides (params_of bs) (allowance_of bs) (shares_at bs p) place-ahead c (rw (shares-count bs (λ f. words_of bs f p)) m)

  -- the call never gives 3
  pub place-not-wide : fault_of (open_place bs p n w lo) ≡ WIDE_WORD → ⊥
  unfolding open_place place_fault
  place-not-wide =
      never-wide place-fault (place_opening bs p)
      (opening-holds (λ c. narrow c ≡ true) refl refl refl refl refl refl bs n w lo _ (unless_holds (λ c. narrow c ≡ true) refl _ OUT_OF_RANGE refl))
      (place-states bs p)

-- 0 tells that the bundle is accepted, the outputs have d words and one, the place is there, and the files are enough; that the first output is then
-- the job of the one polynomial of degree at most t within e, and the second has exactly the holders of the files that differ from it, a file with a
-- wide word there among them. 6 tells the same of the bundle and the outputs' lengths, and that there is no such polynomial.
pub place-tells : (bs : List ℕ) (p : ℕ) (old : Outputs) (r : ℕ) (new : Outputs) → PlaceReturned bs p old r new → PlaceTells bs p old r new
unfolding open_place place_opening
place-tells bs p old r new =
    tells (params_of bs) (allowance_of bs) (shares_at bs p) (place-ahead bs p (length old.job) (length old.wrong) (length old.lowest)) old r new

-- a file with a wide word at the place is among the wrong ones, and more of them than e give 6
pub place-wide : (bs : List ℕ) (p : ℕ) (old : Outputs) (r : ℕ) (new : Outputs) → PlaceReturned bs p old r new → PlaceTellsWide bs p old r new
unfolding open_place place_opening
place-wide bs p old r new =
    tells-wide (params_of bs) (allowance_of bs) (shares_at bs p) (place-ahead bs p (length old.job) (length old.wrong) (length old.lowest)) old r new

-- the third output has, for each holder that is named, the lowest bit at which its file's words differ from the codeword's value
pub place-lowest : (bs : List ℕ) (p : ℕ) (old : Outputs) (r : ℕ) (new : Outputs) → Bytes bs → PlaceReturned bs p old r new →
    PlaceTellsLowest bs p r new
unfolding open_place place_opening
place-lowest bs p old r new b g =
    tells-lowest (params_of bs) (allowance_of bs) (shares_at bs p) (place-ahead bs p (length old.job) (length old.wrong) (length old.lowest)) old r
    new g (place-stored bs p b)

-- ---- a run

-- two faults ahead of an opening, and the first of them
unless-first : (a b : ℕ) (o : Opening) → unless_fault a (unless_fault b o) ≡ unless_fault (first a b) o
unfolding first
unless-first zero b o = refl
unless-first (suc a) b o = refl

module _ (bs : List ℕ) (a b n w lo : ℕ) where
  abbrev outside : ℕ
  outside = run_fault (bundle_heading bs) a b

  abbrev wide : ℕ
  wide = unless (files_in_width bs a (b - a)) WIDE_WORD

  abbrev run-fault : ℕ
  run-fault = opening_fault bs n w lo (first outside wide)

  run-ahead : Ahead (params_of bs) (shares_over bs a (b - a)) (RunClear bs a b n w lo) run-fault
  unfolding run_fault
  run-ahead =
      ahead_of bs n w lo (first outside wide) (λ f. run_total bs f a (b - a))
      (λ x. let run = run_in (bundle_heading bs) a b (first-left outside wide x.rest) in
      record {
        no_fault = x.no_fault;
        output = x.output;
        wrong_output = x.wrong_output;
        lowest_output = x.lowest_output;
        low = run.0;
        high = run.1;
        width = unless-held (files_in_width bs a (b - a)) WIDE_WORD (omega arith) (first-right outside wide x.rest);
      })
      (λ c.
      record {
        no_fault = c.no_fault;
        output = c.output;
        wrong_output = c.wrong_output;
        lowest_output = c.lowest_output;
        rest =
            first-none outside wide (run_none (bundle_heading bs) a b c.low c.high) ∙ unless-yes (files_in_width bs a (b - a)) WIDE_WORD c.width;
      })
      (first_holds (λ c. other c ≡ true) outside wide (unless_holds (λ c. other c ≡ true) refl _ OUT_OF_RANGE refl)
      (unless_holds (λ c. other c ≡ true) refl _ WIDE_WORD refl))

  run_is : open_run bs a b n w lo ≡ unless_fault run-fault (answer_to (params_of bs) (allowance_of bs) (shares_over bs a (b - a)))
  unfolding open_run run_opening opening_fault
  run_is =
      unless-first (opening_fault bs n w lo outside) wide _
      ∙ ap (λ (c : ℕ). unless_fault c (answer_to (params_of bs) (allowance_of bs) (shares_over bs a (b - a))))
      (first_three (bundle_fault bs) (outputs_fault (params_of bs).d n w lo) outside wide)

  pub run-decides : RunClear bs a b n w lo → Enough bs → Decides (params_of bs) (allowance_of bs) (shares_over bs a (b - a)) (open_run bs a b n w lo)
  run-decides c m =
      subst (Decides (params_of bs) (allowance_of bs) (shares_over bs a (b - a))) (sym run_is)
      (call-decides (params_of bs) (allowance_of bs) (shares_over bs a (b - a)) run-ahead c (rw (shares-count bs (λ f. run_total bs f a (b - a))) m))

  pub run-opened : (q : Polynomial) → open_run bs a b n w lo ≡ opens q → RunClear bs a b n w lo × Enough bs
  run-opened q e =
      let x = call-opened (params_of bs) (allowance_of bs) (shares_over bs a (b - a)) run-ahead q (sym run_is ∙ e) in
      (x.0, rw (shares-count bs (λ f. run_total bs f a (b - a))) at x.1)

  -- a wide word in the run gives 3, also where the run is of one place
  pub run-wide : bundle_fault bs ≡ 0 → n ≡ (params_of bs).d → w ≡ 1 → lo ≡ lowest_room → a ≤ b → b ≤ (bundle_heading bs).jobs →
      files_in_width bs a (b - a) ≡ false → open_run bs a b n w lo ≡ declines WIDE_WORD
  unfolding open_run
  run-wide z o x y l u f =
      unless-none _ (run_opening bs a (b - a))
      (passed_none bs n w lo outside (record { no_fault = z; output = o; wrong_output = x; lowest_output = y; rest = run_none (bundle_heading bs) a b l u }))
      ∙ run-declines bs a (b - a) f

-- the same of the run from a to b, where its words are in width, with each file's sum for its share
pub run-tells : (bs : List ℕ) (a b : ℕ) (old : Outputs) (r : ℕ) (new : Outputs) → RunReturned bs a b old r new → RunTells bs a b old r new
run-tells bs a b old r new g =
    let n = length old.job in
    let w = length old.wrong in
    let lo = length old.lowest in
    tells (params_of bs) (allowance_of bs) (shares_over bs a (b - a)) (run-ahead bs a b n w lo) old r new
    (subst (λ o. Returned (params_of bs) (shares_over bs a (b - a)) o old r new) (run_is bs a b n w lo) g)

-- and of the lowest bits at which their sums differ
pub run-lowest : (bs : List ℕ) (a b : ℕ) (old : Outputs) (r : ℕ) (new : Outputs) → RunReturned bs a b old r new → RunTellsLowest bs a b r new
run-lowest bs a b old r new g z =
    let n = length old.job in
    let w = length old.wrong in
    let lo = length old.lowest in
    let c = ((run-tells bs a b old r new g).opened.0 z).0 in
    tells-lowest (params_of bs) (allowance_of bs) (shares_over bs a (b - a)) (run-ahead bs a b n w lo) old r new
    (subst (λ o. Returned (params_of bs) (shares_over bs a (b - a)) o old r new) (run_is bs a b n w lo) g) (run-stored bs c.no_fault a (b - a)) z
