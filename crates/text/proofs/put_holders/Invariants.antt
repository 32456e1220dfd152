-- `put_holders`: each turn puts the lowest holder that is left; what is left to put shrinks to nothing. Assumes nothing.
use Prim.Native.Nat.{◌-◌, ◌^◌, ◌≤◌, ◌<◌}
use Rattle.text.specs.Text.{holders_text}
use Rattle.decimal.proofs.Puts.{Rest}
use Rattle.text.proofs.Joined.{rest_text}
use Rattle.text.proofs.put_holders.Given as goal

abbrev pub invariant-loop-w : goal.invariant-loop-w
invariant-loop-w l = (l.i ≤ 64) × ((0 < l.w) × (l.w < 2 ^ (64 - l.i))) × Rest l.fn.text l.text (holders_text l.lowest l.set) (rest_text l.lowest l.i l.w)

abbrev pub decreases-loop-w : goal.decreases-loop-w
decreases-loop-w l = 64 - l.i
