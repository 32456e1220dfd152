-- `ring::shift` meets its contract: six words one place up, for both places of the modulus's second 1. Assumes nothing.
use native.Mathlib.Omega.{arith}
use mathlib.Core.Path.{◌≡◌}
use Prim.Native.Nat.{◌-◌}
use lib.ListN.{length, get_or}
use Rattle.galois.proofs.Held.{word_good}
use Rattle.galois.proofs.Horner.{shift-first, shift-second}
use Rattle.ring.proofs.shift.Goals as goal

pub returns-then-low-eq0 : goal.returns-then-low-eq0
returns-then-low-eq0 c =
    let d = c.args.d in
    let r = c.args.r in
    let hr : length r ≡ 6 = omega (arith, c.well_formed) in
    rw (c.sub-second.ensures, c.sub-constant.ensures)
    (shift-second d (get_or r (d - 1) 0) c.args.low r c.requires.1 (omega arith) (omega arith) hr
    (word_good r _ c.well_formed.1.1.0) c.if-low-eq0.true)

pub returns : goal.returns
returns c =
    let d = c.args.d in
    let r = c.args.r in
    let hr : length r ≡ 6 = omega (arith, c.well_formed) in
    rw (c.sub-first.ensures, c.sub-constant.ensures)
    (shift-first d (get_or r (d - 1) 0) c.args.low r c.requires.1 (omega arith) (omega arith) hr
    (word_good r _ c.well_formed.1.1.0) c.if-low-eq0.false)
