-- `read_step`: the four words, where nothing declines. Assumes nothing.
use mathlib.Core.Path.{◌≡◌, sym, ap, ◌∙◌}
use lib.ListN.{length}
use Rattle.words.specs.Faults.{length_fault}
use Rattle.words.proofs.Refusals.{first-none}
use Rattle.describe.specs.Describe.{step_by, step_of, step_fault}
use Rattle.describe.proofs.Told.{succeeded}
use Rattle.describe.proofs.read_step.Goals as goal

pub returns : goal.returns
unfolding step_fault step_of
returns c =
    let a = c.args in
    let n = length a.step.now in
    succeeded (step_fault a.bytes.now a.cursor n) a.step.now (step_of a.bytes.now a.cursor) c.copy_from_slice.new.self
    (first-none (length_fault 4 n) _ (sym c.in_ok-check_length.ensures.fault) ∙ sym c.in_ok-read.ensures.1)
    (c.copy_from_slice.ensures.after ∙ c.read_words.ensures ∙ ap (step_by a.cursor) c.in_ok-read.ensures.0)
