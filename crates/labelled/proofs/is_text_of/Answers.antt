-- `is_text_of`: the text is compared with what the job is written as in a room of its own. Assumes nothing.
use Rattle.std.proofs.Common.{rules, sym, refl, ap, ◌∙◌}
use Rattle.words.proofs.Tests.{and_yes}
use Rattle.decimal.proofs.Puts.{start-text}
use Rattle.labelled.specs.JobText.{lines_of}
use Rattle.labelled.specs.Reading.{job_in_range, same_text, is_text_of}
use Rattle.labelled.proofs.Steps.{same-pointwise}
use Rattle.labelled.proofs.is_text_of.Goals as goal

pub returns : goal.returns
unfolding is_text_of
returns c =
    let lines = lines_of c.args.job in
    let text = c.args.text.now in
    c.eq.ensures
    ∙ same-pointwise text _
    ∙ ap (same_text text) (start-text c.new-lines.ensures.empty.0 c.put_job.ensures.puts c.len-n.ensures (search rules))
    ∙ sym (and_yes (job_in_range c.args.k c.args.job) (same_text text lines) (sym c.job_in_range.ensures ∙ c.if-not-job_in_range.false) refl)
