-- The loop of `cut_words`: the words passed are cut. Assumes nothing.
use native.Mathlib.Omega.{arith}
use mathlib.Core.Path.{◌≡◌, sym, ap, ◌∙◌}
use mathlib.Core.List.{List, ◌++◌}
use Prim.Native.Nat.{ℕ, ◌%◌, ◌^◌}
use native.Mathlib.Nat.{le_of_eq}
use lib.ListN.{length, take, drop}
use Rattle.words.proofs.Fill.{fill-all}
use Rattle.galois.specs.Element.{reduce}
use Rattle.galois.proofs.Lists.{length-reduce}
use Rattle.galois.proofs.Narrow.{reduce-at}
use Rattle.totals.proofs.Added.{fill_here}
use Rattle.totals.proofs.cut_words.Goals as goal

pub loop-w-preserved : goal.loop-w-preserved
loop-w-preserved c =
    let l = c.loop-w in
    let a = c.args in
    let ws = take a.d a.running.now in
    fill_here (λ (x : ℕ). x % 2 ^ a.k) ws (reduce a.k ws) l.w-items l.w-index c.low_bits.result l.invariant
    (omega (arith, length-reduce a.k ws)) (le_of_eq (length-reduce a.k ws)) (reduce-at a.k ws l.w-index) c.low_bits.ensures

pub returns : goal.returns
returns c =
    let l = c.loop-w in
    let a = c.args in
    let ws = take a.d a.running.now in
    let e : l.w-index ≡ length ws = omega arith in
    ap (λ (x : List ℕ). x ++ drop a.d a.running.now)
    (fill-all ws (reduce a.k ws) l.w-items l.w-index l.invariant (length-reduce a.k ws ∙ (sym e)) (le_of_eq (sym e)))
