-- `word_of`: a negative number's word is 2^k less its magnitude. Assumes nothing.
use Rattle.std.proofs.Common.{◌-◌, ◌∙◌, arith, pow_pos}
use Rattle.words.proofs.Reading.{negated, two-halves}
use Rattle.labelled.specs.Reading.{word_of}
use Rattle.labelled.proofs.Words.{low, high}
use Rattle.labelled.proofs.word_of.Goals as goal

pub returns-then-s : goal.returns-then-s
unfolding word_of
returns-then-s c =
    let k = c.args.k in
    let n = c.if-s.true in
    let l = c.requires.0.0 in
    let a = low k c.args.s l c.requires.1 n in
    let b = high k c.args.s l c.requires.1 n in
    c.sub.ensures ∙ rw (n, negated k c.args.s.magnitude a (omega (arith, b, two-halves k l, pow_pos (k - 1))))

pub returns : goal.returns
unfolding word_of
returns c = rw c.if-s.false
