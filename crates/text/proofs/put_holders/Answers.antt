-- `put_holders`: each turn puts the lowest holder that is left; what is left to put shrinks to nothing. Assumes nothing.
use borrow.Author.Rules.{rules}
use native.Mathlib.Omega.{arith}
use mathlib.Core.List.{List, [], ◌∷◌, ◌++◌}
use Prim.Native.Nat.{ℕ, ◌+◌, ◌-◌, ◌/◌, ◌^◌, ◌≤◌, ◌<◌}
use native.Mathlib.Nat.{pos_of_ne-zero}
use lib.Count.{count_trailing_zeros}
use Rattle.text.specs.Text.{holders, holder_text, holders_text}
use Rattle.decimal.proofs.Puts.{Rest, rest-all, rest-more, rest-room, rest-none}
use Rattle.text.proofs.Holders.{next-room, next-lt}
use Rattle.text.proofs.Joined.{rest_text, after_text, no-holders, holders-next, holders-last, holders-comma}
use Rattle.text.proofs.put_holders.Goals as goal
use Rattle.text.proofs.put_holders.Goals.{After-put_holder, At-loop-w, Else-w-eq0}

abbrev lowest : At-loop-w → List ℕ
lowest l = l.args.lowest.now

-- the holder of this turn, and what is left of the set after it
abbrev holder : At-loop-w → ℕ
holder l = l.loop-w.i + count_trailing_zeros 64 l.loop-w.w + 1

abbrev others : At-loop-w → ℕ
others l = l.loop-w.w / 2 ^ count_trailing_zeros 64 l.loop-w.w / 2

holder-room : (l : At-loop-w) → holder l ≤ 64
holder-room l = next-room l.loop-w.i l.loop-w.w l.loop-w.invariant.0 l.loop-w.invariant.1.0 l.loop-w.invariant.1.1

others-lt : (l : At-loop-w) → others l < 2 ^ (64 - holder l)
others-lt l = next-lt l.loop-w.i l.loop-w.w l.loop-w.invariant.0 l.loop-w.invariant.1.0 l.loop-w.invariant.1.1

-- its text, and what comes after it
abbrev here : At-loop-w → List ℕ
here l = holder_text (lowest l) (holder l)

abbrev after : At-loop-w → List ℕ
after l = after_text (lowest l) (holder l) (others l)

left : (l : At-loop-w) → Rest l.args.text.now l.loop-w.text (holders_text (lowest l) l.args.set) (here l ++ after l)
left l =
    rw (holders-next (lowest l) l.loop-w.i l.loop-w.w l.loop-w.invariant.0 l.loop-w.invariant.1.0 l.loop-w.invariant.1.1) at l.loop-w.invariant.2

-- what is left once it is put
left_then : (c : After-put_holder)
    → let l = (goal.at.After-put_holder c).At-loop-w in
    Rest l.args.text.now c.put_holder.new.text (holders_text (lowest l) l.args.set) (after l)
left_then c =
    let l = (goal.at.After-put_holder c).At-loop-w in
    rest-more (after l) (left l) c.put_holder.ensures

-- a comma, where holders are left
left_comma : (c : Else-w-eq0)
    → let l = (goal.at.Else-w-eq0 c).At-loop-w in
    Rest l.args.text.now (goal.at.Else-w-eq0 c).After-put_holder.put_holder.new.text (holders_text (lowest l) l.args.set)
    ((44 ∷ []) ++ rest_text (lowest l) (holder l) (others l))
left_comma c =
    let l = (goal.at.Else-w-eq0 c).At-loop-w in
    let r = left_then (goal.at.Else-w-eq0 c).After-put_holder in
    rw (holders-comma (lowest l) (holder l) (others l) (holder-room l) (pos_of_ne-zero c.if-w-eq0.false) (others-lt l)) at r

pub byte-requires : goal.byte-requires
byte-requires c = rw (no-holders c.args.lowest.now c.args.set c.if-set-eq0.true) at c.requires.1

pub returns-then-set-eq0 : goal.returns-then-set-eq0
returns-then-set-eq0 c = rw (no-holders c.args.lowest.now c.args.set c.if-set-eq0.true) c.byte.ensures

pub loop-w-init : goal.loop-w-init
unfolding holders
loop-w-init c =
    (search rules, (pos_of_ne-zero c.if-set-eq0.false, search rules), rest-all c.args.text.now (holders_text c.args.lowest.now c.args.set))

pub overflow_cast-z : goal.overflow_cast-z
overflow_cast-z c = omega (arith, holder-room c)

pub overflow_add-i : goal.overflow_add-i
overflow_add-i c = omega (arith, holder-room c)

pub overflow_add-i-in-loop-w : goal.overflow_add-i-in-loop-w
overflow_add-i-in-loop-w c = omega (arith, holder-room c)

pub overflow_shr-w : goal.overflow_shr-w
overflow_shr-w c = omega (arith, holder-room c)

pub put_holder-requires : goal.put_holder-requires
put_holder-requires c =
    let l = (goal.at.put_holder-requires c).At-loop-w in
    let f : holder l ≤ 64 = holder-room l in
    ((omega arith, omega (arith, f, l.requires.0)), rest-room (here l) (after l) l.requires.1 (left l))

pub returns-then-w-eq0 : goal.returns-then-w-eq0
returns-then-w-eq0 c =
    let l = (goal.at.returns-then-w-eq0 c).At-loop-w in
    let r = left_then (goal.at.returns-then-w-eq0 c).After-put_holder in
    rest-none (rw (holders-last (lowest l) (holder l) (others l) c.if-w-eq0.true) at r)

pub byte-requires-in-loop-w : goal.byte-requires-in-loop-w
byte-requires-in-loop-w c =
    let e = (goal.at.byte-requires-in-loop-w c).Else-w-eq0 in
    let l = (goal.at.Else-w-eq0 e).At-loop-w in
    rest-room (44 ∷ []) (rest_text (lowest l) (holder l) (others l)) l.requires.1 (left_comma e)

pub loop-w-smaller : goal.loop-w-smaller
loop-w-smaller c = omega (arith, holder-room (goal.at.loop-w-smaller c).At-loop-w)

pub loop-w-preserved : goal.loop-w-preserved
loop-w-preserved c =
    let e = (goal.at.loop-w-preserved c).Else-w-eq0 in
    let l = (goal.at.Else-w-eq0 e).At-loop-w in (
      holder-room l,
      (pos_of_ne-zero e.if-w-eq0.false, others-lt l),
      rest-more (rest_text (lowest l) (holder l) (others l)) (left_comma e) c.byte-in-loop-w.ensures,
    )
