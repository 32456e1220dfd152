-- `put_changes`: each turn puts the line of the lowest holder that is left; what is left to put shrinks to nothing. Assumes nothing.
use borrow.Author.Rules.{rules}
use native.Mathlib.Omega.{arith}
use mathlib.Core.List.{◌++◌}
use Prim.Native.Nat.{ℕ, ◌+◌, ◌-◌, ◌/◌, ◌^◌, ◌≤◌, ◌<◌}
use native.Mathlib.Nat.{pos_of_ne-zero}
use lib.Count.{count_trailing_zeros}
use Rattle.text.specs.Text.{holders, changed_line, changed_lines}
use Rattle.decimal.proofs.Puts.{Rest, rest-all, rest-more, rest-room, rest-none}
use Rattle.text.proofs.Holders.{next-room, next-lt}
use Rattle.text.proofs.Lines.{rest_lines, changes-next, changes-last}
use Rattle.text.proofs.put_changes.Goals as goal
use Rattle.text.proofs.put_changes.Goals.{In-loop-w}

-- the holder of this turn, and what is left of the set after it
abbrev holder : In-loop-w → ℕ
holder c = c.loop-w.i + count_trailing_zeros 64 c.loop-w.w + 1

abbrev others : In-loop-w → ℕ
others c = c.loop-w.w / 2 ^ count_trailing_zeros 64 c.loop-w.w / 2

holder-room : (c : In-loop-w) → holder c ≤ 64
holder-room c =
    let l = c.loop-w in
    next-room l.i l.w l.invariant.0 (pos_of_ne-zero c.loop-w-test.true) l.invariant.1

others-lt : (c : In-loop-w) → others c < 2 ^ (64 - holder c)
others-lt c =
    let l = c.loop-w in
    next-lt l.i l.w l.invariant.0 (pos_of_ne-zero c.loop-w-test.true) l.invariant.1

-- its line comes next
left : (c : In-loop-w)
    → let n = c.args.number in
    Rest c.args.text.now c.loop-w.text (changed_lines n (holders c.args.set)) (changed_line n (holder c) ++ rest_lines n (holder c) (others c))
left c =
    let l = c.loop-w in
    rw (changes-next c.args.number l.i l.w l.invariant.0 (pos_of_ne-zero c.loop-w-test.true) l.invariant.1) at l.invariant.2

pub loop-w-init : goal.loop-w-init
unfolding holders
loop-w-init c = (search rules, search rules, rest-all c.args.text.now (changed_lines c.args.number (holders c.args.set)))

pub overflow_cast-z : goal.overflow_cast-z
overflow_cast-z c = omega (arith, holder-room c)

pub overflow_add-i : goal.overflow_add-i
overflow_add-i c = omega (arith, holder-room c)

pub overflow_add-i-in-loop-w : goal.overflow_add-i-in-loop-w
overflow_add-i-in-loop-w c = omega (arith, holder-room c)

pub overflow_shr-w : goal.overflow_shr-w
overflow_shr-w c = omega (arith, holder-room c)

pub put_changed-requires : goal.put_changed-requires
put_changed-requires c =
    let b = (goal.at.put_changed-requires c).In-loop-w in
    rest-room (changed_line b.args.number (holder b)) (rest_lines b.args.number (holder b) (others b)) b.requires (left b)

pub loop-w-smaller : goal.loop-w-smaller
loop-w-smaller c = omega (arith, holder-room (goal.at.loop-w-smaller c).In-loop-w)

pub loop-w-preserved : goal.loop-w-preserved
loop-w-preserved c =
    let b = (goal.at.loop-w-preserved c).In-loop-w in
    (holder-room b, others-lt b, rest-more (rest_lines b.args.number (holder b) (others b)) (left b) c.put_changed.ensures)

pub returns : goal.returns
returns c =
    let l = c.loop-w in
    rest-none (rw (changes-last c.args.number l.i l.w c.loop-w-test.false) at l.invariant.2)
