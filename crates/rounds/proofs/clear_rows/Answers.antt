-- `rounds::clear_rows` meets its contract: after i turns the first i rows are zero. Assumes nothing.
use Rattle.std.proofs.Common.{◌≡◌, sym, ◌∙◌, arith, le_of_eq, length, take, replicate, take_all, length-take-le}
use Rattle.rounds.proofs.Rows.{zero_row, zero-shaped, zero-rows, front}
use Rattle.rounds.proofs.clear_rows.Goals as goal

pub returns : goal.returns
returns c =
    let n = c.args.n in
    let p = c.args.p.now in
    let r = c.loop-row.row-items in
    let l : length (take n p) ≡ n = length-take-le n p (omega arith) in
    let e : c.loop-row.row-index ≡ n = omega (arith, l) in
    let w : take n r ≡ replicate n zero_row = rw e at c.loop-row.invariant in
    let z = zero-rows n 64 c.requires.0 in
    let f = front n p (replicate 64 zero_row) r c.requires.0 c.requires.1 zero-shaped
    (sym (take_all n r (le_of_eq (c.loop-row.auto.row-items ∙ l))) ∙ w ∙ sym z) in
    (f.0 ∙ z, f.1)
