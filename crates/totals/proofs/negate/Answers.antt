-- The loop of `negate`: the words passed are negatives. Assumes nothing.
use native.Mathlib.Omega.{arith}
use mathlib.Core.Path.{◌≡◌, sym, ◌∙◌}
use mathlib.Core.List.{List}
use Prim.Native.Nat.{ℕ, ◌≤◌}
use native.Mathlib.Nat.{le_of_eq}
use lib.ListN.{length, length-replicate}
use Rattle.words.specs.Word.{sub_w}
use Rattle.words.proofs.Fill.{fill-all}
use Rattle.galois.specs.Element.{zero_e}
use Rattle.totals.proofs.Sums.{zip-within, zero-at}
use Rattle.totals.proofs.Added.{zip-count, fill_here}
use Rattle.totals.proofs.negate.Goals as goal
use Rattle.totals.proofs.negate.Invariants.{negatives}

as_many : (ws : List ℕ) → length ws ≤ length (zero_e (length ws))
as_many ws = le_of_eq (sym (length-replicate (length ws) 0))

count : (k : ℕ) (ws : List ℕ) → length (negatives k ws) ≡ length ws
count k ws = zip-count (sub_w k) (zero_e (length ws)) ws (as_many ws)

pub loop-w-preserved : goal.loop-w-preserved
loop-w-preserved c =
    let l = c.loop-w in
    let k = c.args.k in
    let ws = c.args.running.now in
    fill_here (sub_w k 0) ws (negatives k ws) l.running l.w-index c.sub.result l.invariant (omega (arith, count k ws)) (le_of_eq (count k ws))
    (zip-within (sub_w k) (zero_e (length ws)) ws l.w-index (omega arith) (as_many ws) ∙ rw zero-at) c.sub.ensures

pub returns : goal.returns
returns c =
    let l = c.loop-w in
    let k = c.args.k in
    let ws = c.args.running.now in
    let e : l.w-index ≡ length ws = omega arith in
    fill-all ws (negatives k ws) l.running l.w-index l.invariant (count k ws ∙ sym e) (le_of_eq (sym e))
