-- `mend`: the bundle's number, or 2 for the output's length, or the bundle copied and mended there. Assumes nothing.
use borrow.Author.Rules.{rules}
use mathlib.Core.Path.{◌≡◌, sym, ap, ◌∙◌}
use Prim.Native.Nat.{ℕ, ◌+◌}
use native.Mathlib.Omega.{arith}
use mathlib.Core.List.{List, ◌++◌, append-nil}
use lib.ListN.{length, take, drop, drop_of_length-le}
use Rattle.records.specs.Num.{Bytes}
use Rattle.mending.proofs.Mended.{mended-start}
use Rattle.mending.proofs.mend.Goals as goal

-- bytes written over others, as many
copied : (bs out : List ℕ) → length out ≡ length bs → take 0 out ++ (bs ++ drop (0 + length bs) out) ≡ bs
copied bs out e = ap (λ x. bs ++ x) (drop_of_length-le out {i = 0 + length bs} (omega (arith, e))) ∙ append-nil bs

pub mend_jobs-requires : goal.mend_jobs-requires
mend_jobs-requires c =
    let b = c.in_ok-bundle.bundle in
    let e = c.in_ok-bundle.ensures.bundle in
    let f : Bytes b.bytes.now = λ i. rw e (c.type_inv.bytes i).fits in
    (f, c.put_bytes.ensures ∙ copied c.args.bytes.now c.args.out.now c.in_ok-check_length.ensures.ok ∙ sym e ∙ sym (mended-start b.bytes.now b.sound f))
