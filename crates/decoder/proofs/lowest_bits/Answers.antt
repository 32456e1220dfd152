-- `decoder::lowest_bits` meets its contract: after each turn it has the positions of the shares passed. Assumes nothing.
use native.Mathlib.Omega.{arith}
use mathlib.Core.Path.{◌≡◌, ◌∙◌, ap}
use mathlib.Core.List.{List}
use Prim.Native.Nat.{ℕ, suc, ◌-◌, ◌≤◌, ◌<◌}
use lib.ListN.{length, get_or, length-replicate, length-set}
use Rattle.words.proofs.InRange.{InRange, ok-range}
use Rattle.polynomial.specs.Rows.{coefs}
use Rattle.codewords.specs.Codeword.{Share, Polynomial, positions}
use Rattle.codewords.specs.WellFormed.{Holders}
use Rattle.level.specs.Shares.{shares_of}
use Rattle.level.proofs.Shares.{from_end}
use Rattle.decoder.proofs.Positions.{ordered-holders, low-degree, positions-start, nobody, holder_in, put_in, left_out}
use Rattle.decoder.proofs.lowest_bits.Goals as goal
use Rattle.decoder.proofs.lowest_bits.Goals.{After-clear_positions, At-loop-i, Start}

-- the polynomial and the shares
abbrev poly : Start → Polynomial
poly s = let a = s.args in coefs a.p.d (suc a.p.t) a.rows.now

abbrev shares : Start → List Share
shares s = let a = s.args in shares_of a.p.d a.m a.holders.now a.shares.now

range : (s : Start) → InRange s.args.p
range s = ok-range s.args.p s.requires.0

holders : (s : Start) → Holders s.args.p.d (shares s)
holders s = ordered-holders s.args.p (range s) (shares s) s.requires.2

-- at the head of the loop
abbrev S : At-loop-i → Start
S l = (goal.at.At-loop-i l).Start

named : (l : At-loop-i) → 0 < l.loop-i.i →
    (1 ≤ get_or (S l).args.holders.now (l.loop-i.i - 1) 0) × (get_or (S l).args.holders.now (l.loop-i.i - 1) 0 ≤ 63)
named l h =
    let s = S l in
    let a = s.args in
    holder_in a.p.d (range s).d-high a.p.k (poly s) a.m a.holders.now a.shares.now (holders s) a.wrong s.requires.5 l.loop-i.i h
    (omega arith)

pub returns-then-wrong-eq0 : goal.returns-then-wrong-eq0
returns-then-wrong-eq0 c =
    let s = (goal.at.returns-then-wrong-eq0 c).Start in
    let a = s.args in
    c.clear_positions.ensures
    ∙ nobody a.p.d (range s).d-high a.p.k (poly s) a.m a.holders.now a.shares.now (holders s) a.wrong s.requires.5 c.if-wrong-eq0.true

pub loop-i-init : goal.loop-i-init
loop-i-init c =
    let f = (goal.at.loop-i-init c).After-clear_positions in
    let e = f.clear_positions.ensures in
    let s = (goal.at.After-clear_positions f).Start in
    let a = s.args in (
      ap length e ∙ length-replicate {A = ℕ} 64 255,
      e ∙ positions-start a.p.d (range s).d-high a.p.k (poly s) a.m a.holders.now a.shares.now (holders s) a.wrong s.requires.5,
    )

pub overflow_sub-x : goal.overflow_sub-x
overflow_sub-x c = (named (goal.at.overflow_sub-x c).At-loop-i (omega arith)).0

pub overflow_shr-wrong : goal.overflow_shr-wrong
overflow_shr-wrong c = omega (arith, named (goal.at.overflow_shr-wrong c).At-loop-i (omega arith))

pub position_of-requires : goal.position_of-requires
position_of-requires c =
    let s = S (goal.at.position_of-requires c).At-loop-i in
    let r = range s in
    ((r.k-low, r.k-high), (r.d-low, r.d-high), low-degree s.args.p r, s.requires.3)

pub overflow_sub-lowest : goal.overflow_sub-lowest
overflow_sub-lowest c = (named (goal.at.overflow_sub-lowest c).At-loop-i (omega arith)).0

pub bounds-lowest-x : goal.bounds-lowest-x
bounds-lowest-x c =
    let l = (goal.at.bounds-lowest-x c).At-loop-i in
    omega (arith, named l (omega arith), l.loop-i.invariant.0)

pub loop-i-preserved-then-wrong-x-eq1 : goal.loop-i-preserved-then-wrong-x-eq1
loop-i-preserved-then-wrong-x-eq1 c =
    let l = (goal.at.loop-i-preserved-then-wrong-x-eq1 c).At-loop-i in
    let s = S l in
    let a = s.args in (
      length-set l.loop-i.lowest _ _ ∙ l.loop-i.invariant.0,
      put_in a.p.d (range s).d-high a.p.k (poly s) a.m a.holders.now a.shares.now (holders s) a.wrong s.requires.5 l.loop-i.i
          (omega arith) (omega arith) l.loop-i.lowest l.loop-i.invariant.1 c.position_of.result c.position_of.ensures,
    )

pub loop-i-preserved : goal.loop-i-preserved
loop-i-preserved c =
    let l = (goal.at.loop-i-preserved c).At-loop-i in
    let s = S l in
    let a = s.args in (
      l.loop-i.invariant.0,
      l.loop-i.invariant.1
          ∙ left_out a.p.d (range s).d-high a.p.k (poly s) a.m a.holders.now a.shares.now (holders s) a.wrong s.requires.5 l.loop-i.i
          (omega arith) (omega arith) c.if-wrong-x-eq1.false,
    )

pub returns : goal.returns
returns c =
    let l = (goal.at.returns c).At-loop-i in
    let s = S l in
    let a = s.args in
    let e : l.loop-i.i ≡ 0 = omega arith in
    l.loop-i.invariant.1 ∙ ap (positions a.p.k a.p.d (poly s)) (from_end a.p.d a.holders.now a.shares.now l.loop-i.i a.m e)
