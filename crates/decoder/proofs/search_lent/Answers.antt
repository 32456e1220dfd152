-- `decoder::search_lent` meets its contract: a first round gives the answer, or holders that the search can leave out. Assumes nothing.
use native.Mathlib.Omega.{arith}
use mathlib.Core.Path.{◌≡◌}
use mathlib.Core.List.{List}
use Prim.Native.Nat.{ℕ, suc}
use native.Mathlib.Nat.{zero-add}
use lib.ListN.{take}
use Rattle.polynomial.specs.Rows.{Rows}
use Rattle.codewords.specs.Codeword.{Share}
use Rattle.level.specs.Shares.{shares_of}
use Rattle.level.proofs.Shares.{length_from}
use Rattle.rounds.specs.declared.Found.{Found}
use Rattle.std.specs.Prelude.{Option}
use Rattle.std.specs.declared.option.Option.TheVariants.{Some, None}
use Rattle.rounds.proofs.Arrays.{take-of}
use Rattle.decoder.proofs.Rounds.{Round, start, round, left_out}
use Rattle.decoder.proofs.Declined.{given as found_some, declined}
use Rattle.decoder.proofs.search_lent.Goals as goal
use Rattle.decoder.proofs.search_lent.Goals.{After-round, In_ok-found, Start}

-- all shares, and the first t + 1 of them
abbrev whole : Start → List Share
whole s = let a = s.args in shares_of a.d a.m a.hs.now a.ys.now

first : (s : Start) → let a = s.args in take (suc a.t) (whole s) ≡ shares_of a.d (suc a.t) a.hs.now a.ys.now
first s = let a = s.args in take-of a.d a.hs.now a.ys.now (suc a.t) a.m (omega (arith, s.requires.4))

abbrev rows : After-round → Rows
rows c = c.round.new.rows

level : (c : After-round) (got : Option Found) → c.round.result ≡ got →
    (let s = (goal.at.After-round c).Start in
    let a = s.args in
    Round a.k a.d a.t a.e (whole s) a.e 0 (whole s) (rows c) got)
level c got x =
    let s = (goal.at.After-round c).Start in
    let a = s.args in
    let p = s.requires in
    let b = start a.d p.1.0 p.1.1 a.k a.t a.e (whole s) p.5 p.6 p.7
    (rw (length_from a.d a.hs.now a.ys.now 0 a.m) p.4) in
    round a.d p.1.0 p.1.1 a.k a.t a.e (whole s) a.e 0 (whole s) b (rows c)
    (rw (first s) c.round.ensures.through) p.0.1 c.round.result got c.round.ensures.found x

pub returns-in_err-found : goal.returns-in_err-found
returns-in_err-found c =
    let g = (goal.at.returns-in_err-found c).After-round in
    let d = declined _ _ c.from_residual.result _ c.ok_or.ensures.value c.in_err-found.was c.from_residual.ensures.1 in
    let r = level g None d.0 in
    rw d.1 (record { opening = r.0; wrong = r.1; shaped = g.round.ensures.shaped })

abbrev named : In_ok-found → ℕ
named c = c.in_ok-found.found.wrong

found-level : (c : In_ok-found) →
    (let s = (goal.at.In_ok-found c).Start in
    let a = s.args in
    Round a.k a.d a.t a.e (whole s) a.e 0 (whole s) (rows (goal.at.In_ok-found c).After-round) (Some c.in_ok-found.found))
found-level c =
    level (goal.at.In_ok-found c).After-round (Some c.in_ok-found.found) (found_some _ _ _ c.ok_or.ensures.value c.in_ok-found.was)

pub returns-then-found : goal.returns-then-found
returns-then-found c =
    let n = (goal.at.returns-then-found c).In_ok-found in
    let r = (rw c.if-found.true at (found-level n)).1 in
    record { opening = r.0; wrong = rw (zero-add (named n)) at r.1; shaped = n.round.ensures.shaped }

pub search_without-requires : goal.search_without-requires
search_without-requires c =
    let n = (goal.at.search_without-requires c).In_ok-found in
    let s = (goal.at.In_ok-found n).Start in
    let a = s.args in
    let p = s.requires in
    let o = left_out a.d p.1.0 p.1.1 a.k a.t a.e (whole s) (named n) (rw c.if-found.false at (found-level n)).1 in
    (p.0, p.1, p.2, p.3, p.5, p.6, o, p.8, p.9, n.round.ensures.shaped)
