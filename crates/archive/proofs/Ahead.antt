-- The refusals ahead of 5 where a job or a run of a bundle is opened: they are the first fault of the bundle, the outputs' lengths, and the place, or
-- the run and its width (`passed`, `passed_none`), and what holds of each of their numbers holds of the call's (`opening-holds`), as that it is neither
-- 5 nor 6 (`ahead_of`). Assumes nothing.
use mathlib.Core.Path.{◌≡◌, refl, ◌∙◌}
use mathlib.Core.Bool.{Bool, true, false, cond}
use mathlib.Core.List.{List}
use Prim.Native.Nat.{ℕ}
use lib.Dec.{ltb}
use lib.ListN.{length}
use Rattle.words.specs.Faults.{length_fault}
use Rattle.words.specs.Refusal.{unless, PARAMETERS, LENGTH, HOLDER, MALFORMED, MISMATCHED}
use Rattle.words.proofs.InRange.{range-ok}
use Rattle.words.proofs.Faults.{length-clear, clear-length}
use Rattle.words.proofs.Refusals.{first-left, first-right, first-none, first_holds, unless_holds, first_of-holds}
use Rattle.galois.specs.Element.{Element}
use Rattle.codewords.specs.Opening.{lowest_room}
use Rattle.codewords.proofs.Tells.{other, Ahead}
use Rattle.records.specs.Layout.{order_size}
use Rattle.bundle.specs.Bundle.{heading_fault, job_fault, job_fault_at, file_fault_at, place_at, prev_holder, fault_of_file, files_fault, bundle_fault, params_of}
use Rattle.bundle.proofs.Bundles.{bundle-ok, bundle-ranges}
use Rattle.archive.specs.Archive.{shares_by, outputs_fault, opening_fault}
use Rattle.archive.proofs.Shares.{shares-holders}

-- ---- a bundle's fault is 7, 1, 4 or 8

module _ (P : ℕ → Type 0) (none : P 0) (malformed : P MALFORMED) (parameters : P PARAMETERS) (holder : P HOLDER) (mismatched : P MISMATCHED) where
  heading-holds : (bs : List ℕ) (base prev at : ℕ) → P (heading_fault bs base prev at)
  unfolding heading_fault
  heading-holds bs base prev at =
      first_holds P (unless _ MALFORMED) _ (unless_holds P none _ MALFORMED malformed)
      (first_holds P (unless _ PARAMETERS) _ (unless_holds P none _ PARAMETERS parameters)
      (first_holds P (unless _ HOLDER) _ (unless_holds P none _ HOLDER holder) (unless_holds P none _ MISMATCHED mismatched)))

  job-holds : (bs : List ℕ) (len base at p : ℕ) → P (job_fault bs len base at p)
  unfolding job_fault job_fault_at
  job-holds bs len base at p = first_holds P (unless _ MALFORMED) _ (unless_holds P none _ MALFORMED malformed) (unless_holds P none _ MISMATCHED mismatched)

  file-holds : (bs : List ℕ) (base prev at : ℕ) → P (file_fault_at bs base prev at)
  unfolding file_fault_at
  file-holds bs base prev at =
      first_holds P (heading_fault bs base prev at) _ (heading-holds bs base prev at) (first_of-holds P none _ _ (job-holds bs _ _ _))

  file-at-holds : (bs : List ℕ) (start f : ℕ) → P (fault_of_file bs start f)
  unfolding fault_of_file
  file-at-holds bs start f =
      go (ltb (place_at bs start f) (length bs)) (file_fault_at bs start (prev_holder bs start f) (place_at bs start f)) (file-holds bs start _ _)
    where
      go : (b : Bool) (c : ℕ) → P c → P (cond b c 0)
      go true c h = h
      go false c h = none

  pub bundle-holds : (bs : List ℕ) → P (bundle_fault bs)
  unfolding bundle_fault files_fault
  bundle-holds bs =
      first_holds P (unless _ MALFORMED) _ (unless_holds P none _ MALFORMED malformed)
      (first_holds P (unless _ MALFORMED) _ (unless_holds P none _ MALFORMED malformed) (first_of-holds P none _ _ (file-at-holds bs order_size)))

  -- and a call's, ahead of the opening: these, 2, and c, that of the place or the run
  pub opening-holds : P LENGTH → (bs : List ℕ) (n w l c : ℕ) → P c → P (opening_fault bs n w l c)
  unfolding opening_fault outputs_fault length_fault
  opening-holds two bs n w l c h =
      first_holds P (bundle_fault bs) _ (bundle-holds bs)
      (first_holds P (outputs_fault (params_of bs).d n w l) c
      (first_holds P (length_fault (params_of bs).d n) _ (unless_holds P none _ LENGTH two)
      (first_holds P (length_fault 1 w) _ (unless_holds P none _ LENGTH two) (unless_holds P none _ LENGTH two)))
      h)

-- ---- the refusals of a call

-- the outputs' lengths
pub outputs-clear : (d n w l : ℕ) → outputs_fault d n w l ≡ 0 → (n ≡ d) × (w ≡ 1) × (l ≡ lowest_room)
unfolding outputs_fault
outputs-clear d n w l e =
    let f = first-right (length_fault d n) _ e in (
      length-clear d n (first-left (length_fault d n) _ e),
      length-clear 1 w (first-left (length_fault 1 w) _ f),
      length-clear lowest_room l (first-right (length_fault 1 w) _ f),
    )

clear-outputs : (d n w l : ℕ) → n ≡ d → w ≡ 1 → l ≡ lowest_room → outputs_fault d n w l ≡ 0
unfolding outputs_fault
clear-outputs d n w l x y z =
    first-none (length_fault d n) _ (clear-length d n x) ∙ first-none (length_fault 1 w) _ (clear-length 1 w y) ∙ clear-length lowest_room l z

module _ (bs : List ℕ) (n w l c : ℕ) where
  pub record Passed : Type 0 where
    pub no_fault : bundle_fault bs ≡ 0
    pub output : n ≡ (params_of bs).d
    pub wrong_output : w ≡ 1
    pub lowest_output : l ≡ lowest_room
    pub rest : c ≡ 0

  pub passed : opening_fault bs n w l c ≡ 0 → Passed
  unfolding opening_fault
  passed e =
      let outputs = outputs_fault (params_of bs).d n w l in
      let f = first-right (bundle_fault bs) _ e in
      let o = outputs-clear (params_of bs).d n w l (first-left outputs c f) in
      record {
        no_fault = first-left (bundle_fault bs) _ e;
        output = o.0;
        wrong_output = o.1;
        lowest_output = o.2;
        rest = first-right outputs c f;
      }

  pub passed_none : Passed → opening_fault bs n w l c ≡ 0
  unfolding opening_fault
  passed_none x =
      first-none (bundle_fault bs) _ x.no_fault
      ∙ first-none (outputs_fault (params_of bs).d n w l) c (clear-outputs (params_of bs).d n w l x.output x.wrong_output x.lowest_output)
      ∙ x.rest

  pub ahead_of : {Clear : Type 0} (words : ℕ → Element) → (Passed → Clear) → (Clear → Passed) → other c ≡ true →
      Ahead (params_of bs) (shares_by bs words) Clear (opening_fault bs n w l c)
  ahead_of words f g h =
      record {
        clear = λ e. f (passed e);
        none = λ x. passed_none (g x);
        apart = opening-holds (λ x. other x ≡ true) refl refl refl refl refl refl bs n w l c h;
        params = λ x. range-ok (params_of bs) (bundle-ranges bs (bundle-ok bs (g x).no_fault)).book;
        holders = λ x. shares-holders bs (g x).no_fault words;
      }
