-- `ring::add_picked` meets its contract: both values of c. Assumes nothing.
use native.Mathlib.Omega.{arith}
use mathlib.Core.Path.{◌≡◌, ◌∙◌, sym}
use lib.ListN.{length}
use Rattle.galois.proofs.Held.{word_good, scaled-none, scaled-one}
use Rattle.ring.proofs.add_picked.Goals as goal

pub returns-then-c-eq0 : goal.returns-then-c-eq0
returns-then-c-eq0 c =
    let hs : length c.args.s ≡ 6 = omega (arith, c.well_formed) in
    let hb : length c.args.b ≡ 6 = omega (arith, c.well_formed) in
    rw c.if-c-eq0.true (sym (scaled-none 64 c.args.s c.args.b (hs ∙ sym hb) (word_good c.args.s _ c.well_formed.1.0)))

pub returns : goal.returns
returns c =
    let e : c.args.c ≡ 1 = omega (arith, c.if-c-eq0.false) in
    c.sum.ensures ∙ rw e (sym (scaled-one 64 c.args.s c.args.b))
