-- The loop of `load_words_by`: the first i words are in their places. Assumes nothing.
use mathlib.Core.Path.{◌≡◌, sym, ap, ◌∙◌}
use Prim.Native.Nat.{◌+◌, ◌*◌}
use native.Mathlib.Nat.{zero-add}
use native.Mathlib.Omega.{arith}
use lib.ListN.{replicate}
use Rattle.words.proofs.Fill.{fill-next, fill-within}
use Rattle.records.specs.Num.{le_at}
use Rattle.bundle.specs.Contents.{words_from}
use Rattle.bundle.proofs.Contents.{words_count, words-at}
use Rattle.fetch.proofs.load_words_by.Goals as goal

pub loop-i-preserved : goal.loop-i-preserved
loop-i-preserved c =
    let a = c.args in
    let l = c.loop-i in
    let bs = a.bytes.now in
    let n = words_count 8 bs a.d a.at in
    let z : a.at + l.i * 8 ≡ a.at + 8 * l.i = omega arith in
    fill-next (replicate 6 0) (words_from 8 bs a.d a.at) l.words l.i 0 c.word_at.result l.invariant
    (omega (arith, c.loop-i-test.true, c.requires)) (omega (arith, n, c.loop-i-test.true))
    (c.word_at.ensures ∙ ap (le_at 8 bs) z ∙ sym (words-at 8 bs a.d a.at l.i c.loop-i-test.true))

pub returns : goal.returns
returns c =
    let a = c.args in
    let l = c.loop-i in
    let bs = a.bytes.now in
    let z : l.i ≡ a.d = omega (arith, l.auto.i-end, c.loop-i-test.false) in
    fill-within (replicate 6 0) (words_from 8 bs a.d a.at) l.words 0 a.d (rw z at l.invariant) (words_count 8 bs a.d a.at)
    ∙ rw zero-add
