-- `put_changes`: each turn puts the line of the lowest holder that is left; what is left to put shrinks to nothing. Assumes nothing.
use Prim.Native.Nat.{◌-◌, ◌^◌, ◌≤◌, ◌<◌}
use Rattle.text.specs.Text.{holders, changed_lines}
use Rattle.decimal.proofs.Puts.{Rest}
use Rattle.text.proofs.Lines.{rest_lines}
use Rattle.text.proofs.put_changes.Given as goal

abbrev pub invariant-loop-w : goal.invariant-loop-w
invariant-loop-w l = (l.i ≤ 64) × (l.w < 2 ^ (64 - l.i)) × Rest l.fn.text l.text (changed_lines l.number (holders l.set)) (rest_lines l.number l.i l.w)

abbrev pub decreases-loop-w : goal.decreases-loop-w
decreases-loop-w l = 64 - l.i
