-- `write_text`: the text is written into a room of its own, and copied if the output has its length. Assumes nothing.
use Rattle.std.proofs.Common.{rules, ◌≡◌, List, ℕ, length, take, ap, ◌∙◌, arith}
use Rattle.words.specs.Faults.{length_fault}
use Rattle.words.proofs.Refusals.{refusals, kept_passed}
use Rattle.decimal.proofs.Puts.{start-len, start-text}
use Rattle.labelled.specs.JobText.{lines_of, text_of}
use Rattle.labelled.specs.Calls.{write_fault}
use Rattle.labelled.proofs.write_text.Goals as goal
use Rattle.labelled.proofs.write_text.Goals.{After-len-n}

lines : (c : After-len-n) → lines_of c.lens_job.result ≡ text_of c.args.p.k c.args.number c.args.words.now
unfolding text_of
lines c = ap lines_of c.lens_job.ensures

size : (c : After-len-n) → c.len-n.result ≡ length (text_of c.args.p.k c.args.number c.args.words.now)
size c = c.len-n.ensures ∙ start-len c.new-text.ensures.empty.0 c.put_job.ensures.puts ∙ ap length (lines c)

pub returns : goal.returns
unfolding write_fault
returns c =
    let j = (goal.at.returns c).After-len-n in
    let text = text_of c.args.p.k c.args.number c.args.words.now in
    let fit : 0 ≡ length_fault (length text) (length c.args.out.now) = c.in_ok-check_length.ensures.fault ∙ ap (λ n. length_fault n (length c.args.out.now)) (size j) in
    let z : 0 ≡ write_fault c.args.p c.args.number c.args.words.now (length c.args.out.now) = grind (arith, refusals) in
    let front : (room : List ℕ) → room ≡ c.put_job.new.text.buffer.now → take c.len-n.result room ≡ text =
    λ room e. start-text c.new-text.ensures.empty.0 c.put_job.ensures.puts c.len-n.ensures e ∙ lines j in
    (z, c.copy_from_slice.ensures.after ∙ front _ (search rules) ∙ kept_passed _ _ _ z)
