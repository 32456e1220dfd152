-- `text_size`: the text is written into a room of its own, and its length is told. Assumes nothing.
use Rattle.std.proofs.Common.{◌≡◌, ℕ, [], ◌∷◌, length, ap, ◌∙◌, arith}
use Rattle.words.proofs.Fill.{set_single}
use Rattle.words.proofs.Refusals.{refusals, kept_passed}
use Rattle.decimal.proofs.Puts.{start-len}
use Rattle.labelled.specs.declared.LensJob.{LensJob}
use Rattle.labelled.specs.JobText.{lines_of, text_of}
use Rattle.labelled.specs.Calls.{size_fault}
use Rattle.labelled.proofs.text_size.Goals as goal

pub returns : goal.returns
unfolding size_fault text_of
returns c =
    let z : 0 ≡ size_fault c.args.p c.args.words.now (length c.args.size.now) = grind (arith, refusals) in
    let n = c.len-n.ensures ∙ start-len c.new-text.ensures.empty.0 c.put_job.ensures.puts ∙ ap (λ (x : LensJob). length (lines_of x)) c.lens_job.ensures in
    (z, set_single c.args.size.now _ c.in_ok-check_length.ensures.ok ∙ ap (λ (x : ℕ). x ∷ []) n ∙ kept_passed _ _ _ z)
