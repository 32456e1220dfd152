-- `describe`: the nine words, where nothing declines. Assumes nothing.
use mathlib.Core.Path.{◌≡◌, sym, ap, ◌∙◌}
use lib.ListN.{length}
use Rattle.words.proofs.Refusals.{first-none}
use Rattle.bundle.specs.Bundle.{bundle_fault}
use Rattle.bundle.proofs.Bundles.{bundle-ok, ranges-of}
use Rattle.describe.specs.Describe.{about_of, describe_fault}
use Rattle.describe.proofs.Told.{succeeded, about-is}
use Rattle.describe.proofs.describe.Goals as goal

pub file_size-requires : goal.file_size-requires
file_size-requires c =
    let b = c.in_ok-bundle.bundle in
    let r = ranges-of b.bytes.now (bundle-ok b.bytes.now b.sound) b.heading b.headed in
    (r.book.d-high, r.jobs_high)

pub returns : goal.returns
unfolding describe_fault
returns c =
    let a = c.args in
    let b = c.in_ok-bundle.bundle in
    succeeded (describe_fault a.bytes.now (length a.about.now)) a.about.now (about_of a.bytes.now) c.copy_from_slice.new.self
    (first-none (bundle_fault a.bytes.now) _ (sym c.in_ok-bundle.ensures.fault) ∙ sym c.in_ok-check_length.ensures.fault)
    (c.copy_from_slice.ensures.after
    ∙ about-is b.bytes.now b.heading b.headed c.file_size.result c.file_size.ensures c.allowance.result b.files c.allowance.ensures b.counted
    ∙ ap about_of c.in_ok-bundle.ensures.bundle)
