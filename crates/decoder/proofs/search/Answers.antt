-- `decoder::search` meets its contract: what holds before each round is `Sought`, and each round drops a share at least, so the error bound
-- falls. Assumes nothing.
use native.Mathlib.Omega.{arith}
use mathlib.Core.Path.{◌≡◌}
use mathlib.Core.List.{List}
use Prim.Native.Nat.{ℕ, suc, ◌+◌, ◌*◌, ◌≤◌}
use lib.ListN.{take}
use Rattle.polynomial.specs.Rows.{Rows}
use Rattle.codewords.specs.Codeword.{Share}
use Rattle.level.specs.Shares.{shares_of}
use Rattle.level.proofs.Shares.{length_from, holders-numbered}
use Rattle.rounds.specs.declared.Found.{Found}
use Rattle.std.specs.Prelude.{Option}
use Rattle.std.specs.declared.option.Option.TheVariants.{Some, None}
use Rattle.rounds.proofs.Arrays.{take-of}
use Rattle.decoder.proofs.Rounds.{Jumped, Round, start, round}
use Rattle.decoder.proofs.Declined.{given as found_some, declined}
use Rattle.decoder.proofs.search.Goals as goal
use Rattle.decoder.proofs.search.Goals.{After-round, At-loop-found, Else-found, In_ok-found}

-- the shares that are still in, at the head of the loop; there are t + 1 of them at least
abbrev inside : At-loop-found → List Share
inside l = shares_of l.args.d l.loop-found.count l.loop-found.hs l.loop-found.ys

abbrev whole : At-loop-found → List Share
whole l = let a = l.args in shares_of a.d a.m a.hs.now a.ys.now

enough : (l : At-loop-found) → suc l.args.t + 2 * l.loop-found.bound ≤ l.loop-found.count
enough l = omega (arith, l.loop-found.invariant.3.enough, length_from l.args.d l.loop-found.hs l.loop-found.ys 0 l.loop-found.count)

first : (l : At-loop-found) → take (suc l.args.t) (inside l) ≡ shares_of l.args.d (suc l.args.t) l.loop-found.hs l.loop-found.ys
first l = take-of l.args.d l.loop-found.hs l.loop-found.ys (suc l.args.t) l.loop-found.count (omega (arith, enough l))

pub loop-found-init : goal.loop-found-init
loop-found-init c =
    let a = c.args in (
      omega arith,
      c.requires.8,
      c.requires.9,
      start a.d (omega arith) (omega arith) a.k a.t a.e (shares_of a.d a.m a.hs.now a.ys.now) c.requires.5 c.requires.6
          c.requires.7 (rw (length_from a.d a.hs.now a.ys.now 0 a.m) c.requires.4),
      c.requires.10,
    )

pub round-requires : goal.round-requires
round-requires c =
    let l = (goal.at.round-requires c).At-loop-found in
    let p = l.requires in
    let v = l.loop-found.invariant in
    (p.0, p.1, p.2, v.0, enough l, v.3.holders, v.3.width, v.4)

-- what a round gave
abbrev head : After-round → At-loop-found
head c = (goal.at.After-round c).At-loop-found

abbrev rows : After-round → Rows
rows c = c.round.new.rows

level : (c : After-round) (got : Option Found) → c.round.result ≡ got →
    (let l = head c in
    let a = l.args in
    Round a.k a.d a.t a.e (whole l) l.loop-found.bound l.loop-found.wrong (inside l) (rows c) got)
level c got x =
    let l = head c in
    let a = l.args in
    let p = l.requires in
    round a.d p.1.0 p.1.1 a.k a.t a.e (whole l) l.loop-found.bound l.loop-found.wrong (inside l) l.loop-found.invariant.3 (rows c)
    (rw (first l) c.round.ensures.through) p.0.1 c.round.result got c.round.ensures.found x

pub returns-in_err-found : goal.returns-in_err-found
returns-in_err-found c =
    let g = (goal.at.returns-in_err-found c).After-round in
    let d = declined _ _ c.from_residual.result _ c.ok_or.ensures.value c.in_err-found.was c.from_residual.ensures.1 in
    let r = level g None d.0 in
    let v = (head g).loop-found.invariant in
    rw d.1 (record { opening = r.0; wrong = r.1; shaped = g.round.ensures.shaped; room = (v.1, v.2) })

-- holders are named
abbrev given : In_ok-found → After-round
given c = (goal.at.In_ok-found c).After-round

abbrev named : In_ok-found → ℕ
named c = c.in_ok-found.found.wrong

found-level : (c : In_ok-found) →
    (let l = head (given c) in
    let a = l.args in
    Round a.k a.d a.t a.e (whole l) l.loop-found.bound l.loop-found.wrong (inside l) (rows (given c)) (Some c.in_ok-found.found))
found-level c = level (given c) (Some c.in_ok-found.found) (found_some _ _ _ c.ok_or.ensures.value c.in_ok-found.was)

pub overflow_add-wrong : goal.overflow_add-wrong
overflow_add-wrong c = omega (arith, (found-level (goal.at.overflow_add-wrong c).In_ok-found).0)

pub returns-then-found : goal.returns-then-found
returns-then-found c =
    let n = (goal.at.returns-then-found c).In_ok-found in
    let r = (rw c.if-found.true at (found-level n)).1 in
    let v = (head (given n)).loop-found.invariant in
    record { opening = r.0; wrong = r.1; shaped = n.round.ensures.shaped; room = (v.1, v.2) }

-- some of them only
jumped : (c : Else-found) →
    (let n = (goal.at.Else-found c).In_ok-found in
    let l = head (given n) in
    let a = l.args in
    Jumped a.k a.d a.t a.e (whole l) l.loop-found.bound l.loop-found.wrong (inside l) (named n))
jumped c = (rw c.if-found.false at (found-level (goal.at.Else-found c).In_ok-found)).1

pub overflow_cast-errors : goal.overflow_cast-errors
overflow_cast-errors c =
    let f = (goal.at.overflow_cast-errors c).Else-found in
    let l = head (given (goal.at.Else-found f).In_ok-found) in
    omega (arith, (jumped f).within, enough l, l.loop-found.invariant.0)

pub overflow_sub-bound : goal.overflow_sub-bound
overflow_sub-bound c = omega (arith, (jumped (goal.at.overflow_sub-bound c).Else-found).within)

pub drop_wrong-count-requires : goal.drop_wrong-count-requires
drop_wrong-count-requires c =
    let l = head (given (goal.at.drop_wrong-count-requires c).In_ok-found) in
    let v = l.loop-found.invariant in
    (v.0, v.1, v.2, holders-numbered l.args.d l.requires.1.1 l.loop-found.count l.loop-found.hs l.loop-found.ys v.3.holders)

pub loop-found-smaller : goal.loop-found-smaller
loop-found-smaller c = let j = jumped (goal.at.loop-found-smaller c).Else-found in omega (arith, j.within, j.drops)

pub loop-found-preserved : goal.loop-found-preserved
loop-found-preserved c =
    let f = (goal.at.loop-found-preserved c).Else-found in
    let g = given (goal.at.Else-found f).In_ok-found in
    let l = head g in
    let e = c.drop_wrong-count.ensures in (
      omega (arith, e.1, l.loop-found.invariant.0),
      e.2,
      e.3,
      rw (e.0 l.args.d) (jumped f).next,
      g.round.ensures.shaped,
    )
