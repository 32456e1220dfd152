-- `rounds::round` meets its contract. Assumes nothing.
use native.Mathlib.Omega.{arith}
use mathlib.Core.Path.{◌≡◌, ap}
use mathlib.Core.List.{List, map}
use Prim.Native.Nat.{suc, ◌+◌}
use native.Mathlib.Numerals.{add-one}
use lib.ListN.{take}
use Rattle.algebra.proofs.Shares.{all_take}
use Rattle.polynomial.specs.Rows.{coefs}
use Rattle.codewords.specs.Codeword.{Share}
use Rattle.codewords.specs.WellFormed.{Holders, InWidth}
use Rattle.codewords.proofs.Without.{holders-take}
use Rattle.level.specs.Shares.{shares_of}
use Rattle.rounds.proofs.Arrays.{take-of}
use Rattle.rounds.proofs.Rows.{zero-shaped, zero-rows}
use Rattle.rounds.proofs.round.Goals as goal
use Rattle.rounds.proofs.round.Goals.{After-interpolate, Start}

-- all shares, and the first t + 1 of them
abbrev whole : Start → List Share
whole s = let a = s.args in shares_of a.d a.m a.hs.now a.ys.now

first : (s : Start) → let a = s.args in take (suc a.t) (whole s) ≡ shares_of a.d (suc a.t) a.hs.now a.ys.now
first s = let a = s.args in take-of a.d a.hs.now a.ys.now (suc a.t) a.m (omega (arith, s.requires.4))

pub interpolate-requires : goal.interpolate-requires
interpolate-requires c =
    let s = (goal.at.interpolate-requires c).Start in
    let a = s.args in
    let p = s.requires in
    let n = suc a.t in
    let h : Holders a.d (shares_of a.d n a.hs.now a.ys.now) = rw (← first s) (holders-take a.d n (whole s) p.5) in
    let w : InWidth a.k a.d (shares_of a.d n a.hs.now a.ys.now) = rw (← first s) (all_take (λ x y. y) n (whole s) p.6) in
    (p.0, p.1, p.2, h, w, zero-shaped, zero-rows (a.t + 2) 64 (omega (arith, p.2)), p.7)

pub decode_level-found-requires : goal.decode_level-found-requires
decode_level-found-requires c =
    let i = (goal.at.decode_level-found-requires c).After-interpolate in
    let p = i.requires in
    let e = c.clear_rows.ensures in
    (p.0, p.1, p.2, p.3, p.4, p.5, p.6, i.interpolate.ensures.0, e.1, rw (add-one i.args.t) at e.0)

pub copy_rows-requires : goal.copy_rows-requires
copy_rows-requires c = (omega (arith, c.requires.2), c.interpolate.ensures.1, c.decode_level-found.ensures.rest)

pub returns : goal.returns
returns c =
    let a = c.args in
    let e : coefs a.d (suc a.t) c.copy_rows.new.p ≡ coefs a.d (suc a.t) c.interpolate.new.q =
    ap (map (take a.d)) (rw (add-one a.t) at c.copy_rows.ensures.0) in
    record { through = rw e c.interpolate.ensures.0; found = rw e c.decode_level-found.ensures.found.0; shaped = c.copy_rows.ensures.1 }
