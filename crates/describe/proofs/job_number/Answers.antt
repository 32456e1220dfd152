-- `job_number`: the job's number, where nothing declines. Assumes nothing.
use mathlib.Core.Path.{◌≡◌, sym, ap, ◌∙◌}
use Prim.Native.Nat.{ℕ}
use mathlib.Core.List.{List, [], ◌∷◌}
use lib.ListN.{length}
use Rattle.words.specs.Faults.{length_fault}
use Rattle.words.proofs.Refusals.{first-none}
use Rattle.words.proofs.Fill.{set_single}
use Rattle.records.specs.declared.Heading.{Heading}
use Rattle.bundle.specs.Bundle.{bundle_fault, bundle_heading}
use Rattle.fetch.specs.Fetch.{place_fault}
use Rattle.describe.specs.Describe.{number_of, number_fault}
use Rattle.describe.proofs.Told.{succeeded}
use Rattle.describe.proofs.job_number.Goals as goal

pub returns : goal.returns
unfolding number_fault number_of
returns c =
    let a = c.args in
    let b = c.in_ok-bundle.bundle in
    let e = c.in_ok-bundle.ensures.bundle in
    let n = length a.number.now in
    succeeded (number_fault a.bytes.now a.place n) a.number.now (number_of a.bytes.now a.place) _
    (first-none (bundle_fault a.bytes.now) _ (sym c.in_ok-bundle.ensures.fault)
    ∙ first-none (length_fault 1 n) _ (sym c.in_ok-check_length.ensures.fault)
    ∙ ap (λ (h : Heading). place_fault h a.place) (sym (b.headed ∙ ap bundle_heading e))
    ∙ sym c.in_ok-check_place.ensures.fault)
    (set_single a.number.now _ c.in_ok-check_length.ensures.ok
    ∙ ap (λ (x : ℕ). x ∷ []) c.job_number.ensures
    ∙ ap (λ (bs : List ℕ). number_of bs a.place) e)
