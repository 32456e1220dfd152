-- `read_text`: the numbers that are scanned, if the text is what they are written as. Assumes nothing.
use Rattle.std.proofs.Common.{◌≡◌, [], ◌∷◌, length, sym, ap, ◌∙◌, arith}
use Rattle.words.proofs.Fill.{set_single}
use Rattle.words.proofs.Refusals.{refusals, kept_passed}
use Rattle.words.proofs.Tests.{and_left}
use Rattle.labelled.specs.declared.LensJob.{LensJob}
use Rattle.labelled.specs.Reading.{job_in_range, is_text_of, words_of}
use Rattle.labelled.specs.Calls.{read_fault}
use Rattle.labelled.proofs.read_text.Goals as goal
use Rattle.labelled.proofs.read_text.Goals.{In_ok-unless}

none : (c : In_ok-unless) → 0 ≡ read_fault c.args.p c.args.text.now (length c.args.number.now) (length c.args.words.now)
unfolding read_fault
none c = let e = c.is_text_of.ensures ∙ ap (is_text_of c.args.p.k c.args.text.now) c.scan-job.ensures in grind (arith, refusals)

pub put_words-requires : goal.put_words-requires
unfolding is_text_of
put_words-requires c = (
  c.in_ok-check_lens.ensures.ok,
  and_left (job_in_range c.args.p.k c.scan-job.result) _ (sym c.is_text_of.ensures ∙ c.in_ok-unless.ensures.ok),
  c.in_ok-check_length-2.ensures.ok,
)

pub returns-clause-fault : goal.returns-clause-fault
returns-clause-fault c = none (goal.at.returns-clause-fault c).In_ok-unless

pub returns-clause-number : goal.returns-clause-number
returns-clause-number c =
    set_single c.args.number.now _ c.in_ok-check_length.ensures.ok
    ∙ ap (λ (x : LensJob). x.number ∷ []) c.scan-job.ensures
    ∙ kept_passed _ _ _ (none (goal.at.returns-clause-number c).In_ok-unless)

pub returns-clause-words : goal.returns-clause-words
returns-clause-words c =
    c.put_words.ensures ∙ ap (words_of c.args.p.k) c.scan-job.ensures ∙ kept_passed _ _ _ (none (goal.at.returns-clause-words c).In_ok-unless)
