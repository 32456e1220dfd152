-- `sharing::rising` meets its contract: those that are left decide. Assumes nothing.
use Rattle.std.proofs.Common.{◌≡◌, false, sym, ◌∙◌, inl, inr, drop}
use lib.ListN.{drop_of_length-le}
use Rattle.sharing.specs.Opening.{rising_to}
use Rattle.sharing.proofs.Lent.{rising-low, rising-high, rising-next}
use Rattle.sharing.proofs.rising.Goals as goal

pub returns-then-h-prev : goal.returns-then-h-prev
returns-then-h-prev c =
    let n = c.args.n in
    let hs = c.args.holders.now in
    let i = c.loop-h.h-index in
    let e : rising_to n c.loop-h.prev (drop i hs) ≡ false =
    elim c.then-h-prev.either [
      | inl l ↦ rising-low n c.loop-h.prev hs i c.loop-h-test.true l
      | inr h ↦ rising-high n c.loop-h.prev hs i c.loop-h-test.true h.0 h.1
    ] in
    sym (c.loop-h.invariant ∙ e)

pub loop-h-preserved : goal.loop-h-preserved
loop-h-preserved c =
    c.loop-h.invariant
    ∙ rising-next c.args.n c.loop-h.prev c.args.holders.now c.loop-h.h-index c.loop-h-test.true c.if-h-prev.false c.if-n-h.false

pub returns : goal.returns
unfolding rising_to
returns c = sym (c.loop-h.invariant ∙ rw (drop_of_length-le c.args.holders.now {i = c.loop-h.h-index} c.loop-h-test.false))
