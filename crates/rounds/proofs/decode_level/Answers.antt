-- `rounds::decode_level` meets its contract: what is left of the shares is zero where they agree with the polynomial (`Left`), and the
-- lowest bit of it is one that the field decoder may look at. Assumes nothing.
use native.Mathlib.Omega.{arith}
use mathlib.Core.Path.{◌≡◌, ◌∙◌, ap}
use mathlib.Core.List.{List, map}
use Prim.Native.Nat.{suc, ◌<◌}
use native.Mathlib.Numerals.{add-one}
use lib.Count.{ones, ones-le, count_trailing_zeros, trailing_le}
use Rattle.polynomial.specs.Polynomial.{Polynomial}
use Rattle.polynomial.specs.Rows.{Rows, coefs}
use Rattle.polynomial.proofs.Shape.{shaped-length}
use Rattle.codewords.specs.Codeword.{Share, errors, error_set}
use Rattle.codewords.specs.Residue.{left}
use Rattle.level.specs.Shares.{shares_of}
use Rattle.rounds.specs.Found.{named, level_found, found_fault, round_fault}
use Rattle.rounds.specs.Residues.{bits_of_all}
use Rattle.rounds.specs.declared.Found.{Found}
use Rattle.std.specs.Prelude.{Option}
use Rattle.rounds.proofs.Left.{Left, rest-left}
use Rattle.rounds.proofs.LevelFound.{ones-of, lowest-at, found-few, found-field, told}
use Rattle.rounds.proofs.decode_level.Goals as goal
use Rattle.rounds.proofs.decode_level.Goals.{After-compare-c, After-decide, After-residues, Else-c-e, Start}

abbrev poly : Start → Polynomial
poly s = coefs s.args.d (suc s.args.t) s.args.p

abbrev shares : Start → List Share
shares s = shares_of s.args.d s.args.m s.args.hs.now s.args.ys.now

pub residues-requires : goal.residues-requires
residues-requires c =
    let p = c.requires in
    ((omega arith, omega arith), p.1, p.2, p.3, omega (arith, p.4), shaped-length c.args.rest.now p.8)

-- once the rows of what is left of the shares are written
abbrev rows : After-residues → Rows
rows c = c.residues.new.rest

left-of : (c : After-residues) →
    (let s = (goal.at.After-residues c).Start in
    let a = s.args in
    Left a.k a.d a.t a.m (poly s) a.hs.now a.ys.now (rows c))
left-of c =
    let a = c.args in
    let p = c.requires in
    rest-left a.k a.d a.t a.m p.1.0 p.1.1 a.hs.now a.ys.now a.p a.rest.now (rows c)
    (omega (arith, p.4)) p.3 p.5 p.6 p.7 p.8 p.9 c.residues.ensures

pub compare-c-requires : goal.compare-c-requires
compare-c-requires c =
    let b = (goal.at.compare-c-requires c).After-residues in
    let p = b.requires in
    let o = left-of b in
    (omega (arith, p.4), p.3, o.holders-six, o.shaped, rw (add-one b.args.t) o.first)

set_is : (c : After-compare-c) → (let s = (goal.at.After-compare-c c).Start in c.compare-c.result.set ≡ error_set s.args.k s.args.d (poly s) (shares s))
set_is c = c.compare-c.ensures.0 ∙ (left-of (goal.at.After-compare-c c).After-residues).set

bits_is : (c : After-compare-c) →
    (let s = (goal.at.After-compare-c c).Start in
    c.compare-c.result.bits ≡ bits_of_all (map (left s.args.k s.args.d (poly s)) (shares s)))
bits_is c = c.compare-c.ensures.1 ∙ (left-of (goal.at.After-compare-c c).After-residues).bits

count-is : (c : After-compare-c) → (let s = (goal.at.After-compare-c c).Start in ones c.compare-c.result.set ≡ errors s.args.k s.args.d (poly s) (shares s))
count-is c = let s = (goal.at.After-compare-c c).Start in ap ones (set_is c) ∙ ones-of s.args.k s.args.d (poly s) (shares s) s.requires.5

pub overflow_cast-c : goal.overflow_cast-c
overflow_cast-c c = omega (arith, ones-le 64 c.compare-c.result.set (omega arith))

pub returns-then-c-e : goal.returns-then-c-e
returns-then-c-e c =
    let f = (goal.at.returns-then-c-e c).After-compare-c in
    let a = f.args in
    let o = left-of (goal.at.After-compare-c f).After-residues in record {
      found = told a.k a.d a.t a.e (poly (goal.at.After-compare-c f).Start) (shares (goal.at.After-compare-c f).Start) _
          (found-few a.k a.d a.t a.e (poly (goal.at.After-compare-c f).Start) (shares (goal.at.After-compare-c f).Start) f.compare-c.result.set (set_is f)
          (rw (← count-is f) c.if-c-e.true));
      rest = o.shaped;
    }

pub overflow_cast-v : goal.overflow_cast-v
overflow_cast-v c = omega (arith, trailing_le 64 c.compare-c.result.bits)

far : (c : Else-c-e) → (let s = (goal.at.Else-c-e c).Start in s.args.e < errors s.args.k s.args.d (poly s) (shares s))
far c = omega (arith, c.if-c-e.false, count-is (goal.at.Else-c-e c).After-compare-c)

low_bit : (c : Else-c-e) → count_trailing_zeros 64 c.compare-c.result.bits < 64
low_bit c =
    let s = (goal.at.Else-c-e c).Start in
    let a = s.args in
    let p = s.requires in
    let l = lowest-at a.d p.1.0 p.1.1 a.k a.t (poly s) (shares s) p.0.1 p.7.0 p.6 (omega (arith, far c)) in
    rw (bits_is (goal.at.Else-c-e c).After-compare-c) (omega (arith, l.room, p.0.1))

pub decide-requires : goal.decide-requires
decide-requires c =
    let f = (goal.at.decide-requires c).Else-c-e in
    let p = f.requires in
    let o = left-of (goal.at.Else-c-e f).After-residues in
    (p.1, low_bit f, p.2, p.3, o.holders, o.sized, omega (arith, p.4))

found : (c : After-decide) →
    (let s = (goal.at.After-decide c).Start in
    named c.decide.result ≡ level_found s.args.k s.args.d s.args.t s.args.e (poly s) (shares s))
found c =
    let f = (goal.at.After-decide c).Else-c-e in
    let g = (goal.at.Else-c-e f).After-compare-c in
    let s = (goal.at.After-compare-c g).Start in
    let a = s.args in
    let b = (goal.at.After-compare-c g).After-residues in
    found-field a.k a.d a.t a.e (poly s) (shares s) (far f) (shares_of a.d a.m a.hs.now (rows b)) (left-of b).is
    g.compare-c.result.bits (bits_is g) c.decide.result c.decide.ensures.level

answers : (c : After-decide) (r : Option Found) →
    (let s = (goal.at.After-decide c).Start in
    let a = s.args in
    r ≡ level_found a.k a.d a.t a.e (poly s) (shares s) →
    (r ≡ level_found a.k a.d a.t a.e (poly s) (shares s)) × (found_fault r ≡ round_fault a.k a.d a.t a.e (poly s) (shares s)))
answers c =
    let s = (goal.at.After-decide c).Start in
    told s.args.k s.args.d s.args.t s.args.e (poly s) (shares s)

pub returns-in_err-wrong : goal.returns-in_err-wrong
returns-in_err-wrong c =
    let g = (goal.at.returns-in_err-wrong c).After-decide in
    let o = left-of (goal.at.After-decide g).After-residues in
    record { found = rw c.from_residual.ensures (answers g _ (rw c.in_err-wrong.was at (found g))); rest = o.shaped }

pub returns : goal.returns
returns c =
    let g = (goal.at.returns c).After-decide in
    let o = left-of (goal.at.After-decide g).After-residues in
    record { found = answers g _ (rw c.in_ok-wrong.was at (found g)); rest = o.shaped }
