-- `rounds::reduce_rows` meets its contract: after i turns the first i rows are cut. Assumes nothing.
use Rattle.std.proofs.Common.{◌≡◌, suc, ◌+◌, ◌++◌, map, sym, ◌∙◌, ap, arith, length, take, drop, length-take-le}
use Rattle.std.proofs.lemmas.List.{length-map, take-map}
use native.Mathlib.Numerals.{add-one}
use Rattle.galois.specs.Element.{reduce}
use Rattle.words.proofs.Fill.{fill-all}
use Rattle.rounds.proofs.Rows.{front, reduce-turn, reduce-shaped}
use Rattle.rounds.proofs.reduce_rows.Goals as goal

pub loop-row-preserved : goal.loop-row-preserved
loop-row-preserved c =
    rw c.reduce.ensures
    (reduce-turn c.args.k (take (c.args.t + 1) c.args.q.now) c.loop-row.row-items c.loop-row.row-index c.loop-row-test.true
    c.loop-row.invariant)

pub returns : goal.returns
returns c =
    let k = c.args.k in
    let n = c.args.t + 1 in
    let q = c.args.q.now in
    let r = c.loop-row.row-items in
    let l : length (take n q) ≡ n = length-take-le n q (omega arith) in
    let i = c.loop-row.row-index in
    let e : r ≡ map (reduce k) (take n q) = fill-all (take n q) (map (reduce k) (take n q)) r i c.loop-row.invariant (omega (arith, length-map (take n q) (reduce k))) (omega arith) in
    let f = front n q (map (reduce k) q) r (omega arith) c.requires.2 (reduce-shaped k q c.requires.2) (e ∙ sym (take-map (reduce k) n q)) in
    (ap (λ m. take m (r ++ drop n q)) (sym (add-one c.args.t)) ∙ f.0 ∙ ap (λ m. take m (map (reduce k) q)) (add-one c.args.t) ∙ take-map (reduce k) (suc c.args.t) q, f.1)
