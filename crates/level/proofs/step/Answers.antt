-- `level::step` meets its contract: the pair that leads decides which of its three ends is reached. Assumes nothing.
use mathlib.Core.Path.{◌≡◌, ◌∙◌, ap}
use Rattle.algebra.specs.KeyEquation.{Pivot, none, first, second}
use Rattle.level.specs.KeyEquation.{Pairs, pairs_of, lead_of, swapped, move_lanes, step_lanes}
use Rattle.level.proofs.Turns.{step-lead, raised_by}
use Rattle.level.proofs.step.Goals as goal
use Rattle.level.proofs.step.Goals.{After-choose-l, After-zero_at, After-zero_at-2, In-First, In-Second, Start}

-- the pairs at entry
abbrev entered : Start → Pairs
entered s = let a = s.args in pairs_of a.g a.v0.now a.b0.now a.v1.now a.b1.now

-- what the step is, by the pair that leads
moved : (q : After-choose-l) (x : Pivot) → q.choose-l.result ≡ lead_of x →
    (let s = (goal.at.After-choose-l q).Start in
    move_lanes s.args.d s.args.xs s.args.i x (entered s) ≡ step_lanes s.args.d s.args.xs s.args.i (entered s))
moved q x e =
    let z₁ = (goal.at.After-choose-l q).After-zero_at-2 in
    let z₀ = (goal.at.After-zero_at-2 z₁).After-zero_at in
    let s = (goal.at.After-zero_at z₀).Start in
    let a = s.args in
    step-lead a.d a.xs a.i (entered s) _ _ _ z₀.zero_at.ensures z₁.zero_at-2.ensures q.choose-l.ensures x e

pub returns-in-Neither : goal.returns-in-Neither
returns-in-Neither c = moved (goal.at.returns-in-Neither c).After-choose-l none c.in-Neither.is

pub returns-in-First : goal.returns-in-First
returns-in-First c =
    let e = (goal.at.returns-in-First c).In-First in
    let q = (goal.at.In-First e).After-choose-l in
    let s = (goal.at.After-choose-l q).Start in
    let a = s.args in
    raised_by a.d a.xs a.i (entered s) c.raise.ensures ∙ moved q first e.in-First.is

pub returns-in-Second : goal.returns-in-Second
returns-in-Second c =
    let e = (goal.at.returns-in-Second c).In-Second in
    let q = (goal.at.In-Second e).After-choose-l in
    let s = (goal.at.After-choose-l q).Start in
    let a = s.args in
    ap swapped (raised_by a.d a.xs a.i (swapped (entered s)) c.raise-in-Second.ensures) ∙ moved q second e.in-Second.is
