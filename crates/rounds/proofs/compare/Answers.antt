-- `rounds::compare` meets its contract: after each turn it has the holders and the bits of the shares passed. Assumes nothing.
use native.Mathlib.Omega.{arith}
use mathlib.Core.Path.{◌≡◌, refl, sym, ◌∙◌, ap}
use mathlib.Core.List.{[]}
use Prim.Native.Nat.{◌-◌, ◌≤◌, ◌<◌}
use native.Mathlib.Nat.{le_of_eq}
use lib.ListN.{length, get_or, take, replicate}
use lib.Seq.{take_all}
use Rattle.galois.specs.Element.{Element}
use Rattle.polynomial.proofs.Shape.{shaped_row}
use Rattle.comparison.specs.Comparison.{gap}
use Rattle.codewords.specs.Codeword.{differs}
use Rattle.codewords.proofs.Without.{set_of, error_set-tally}
use Rattle.level.specs.Shares.{share_at, shares_of}
use Rattle.level.proofs.Shares.{from_end}
use Rattle.rounds.specs.Residues.{bits_of, bits_of_all}
use Rattle.rounds.proofs.Lowest.{bits-gap}
use Rattle.rounds.proofs.Collected.{set-start, holder-low, holder-high, set_same, set_more, set_all}
use Rattle.rounds.proofs.Compared.{differs_false, differs_true, bits-start, bits-more, zero_same, bits-all}
use Rattle.rounds.proofs.compare.Goals as goal
use Rattle.rounds.proofs.compare.Goals.{After-gap-b, At-loop-i, Then-b-ne0}

most : 6 ≤ 6
most = omega arith

-- the row that is looked at, and its bits
abbrev row : At-loop-i → Element
row l = get_or l.args.rest.now (l.loop-i.i - 1) []

six : (l : At-loop-i) → 0 < l.loop-i.i → length (row l) ≡ 6
six l h = shaped_row l.args.rest.now (l.loop-i.i - 1) l.requires.3 (omega (arith, l.requires.1))

whole : (l : At-loop-i) → 0 < l.loop-i.i → take 6 (row l) ≡ row l
whole l h = take_all 6 (row l) (le_of_eq (six l h))

bits_at : (l : At-loop-i) → 0 < l.loop-i.i → gap (row l) (replicate 6 0) ≡ bits_of (take 6 (row l))
bits_at l h = ap (λ n. gap (row l) (replicate n 0)) (sym (six l h)) ∙ bits-gap (row l) ∙ ap bits_of (sym (whole l h))

pub loop-i-init : goal.loop-i-init
loop-i-init c =
    let a = c.args in (
      c.requires.0,
      set-start 6 most (differs 64 6 []) a.m a.hs.now a.rest.now c.requires.2,
      bits-start a.m a.hs.now a.rest.now,
    )

pub overflow_sub-set : goal.overflow_sub-set
overflow_sub-set c =
    let l = (goal.at.overflow_sub-set c).At-loop-i in
    let a = l.args in
    omega (arith, holder-low 6 most (differs 64 6 []) a.m a.hs.now a.rest.now l.requires.2 l.loop-i.i (omega arith) (omega arith))

pub overflow_shl-set : goal.overflow_shl-set
overflow_shl-set c =
    let l = (goal.at.overflow_shl-set c).At-loop-i in
    let a = l.args in
    omega (arith, holder-high 6 most (differs 64 6 []) a.m a.hs.now a.rest.now l.requires.2 l.loop-i.i (omega arith) (omega arith))

pub loop-i-preserved-then-b-ne0 : goal.loop-i-preserved-then-b-ne0
loop-i-preserved-then-b-ne0 c =
    let g = (goal.at.loop-i-preserved-then-b-ne0 c).Then-b-ne0 in
    let l = (goal.at.Then-b-ne0 g).At-loop-i in
    let a = l.args in
    let h = a.hs.now in
    let r = a.rest.now in
    let i = l.loop-i.i in
    let b = g.gap-b.ensures ∙ bits_at l (omega arith) in (
      omega arith,
      set_more 6 most (differs 64 6 []) a.m h r l.requires.2 i (omega arith) (omega arith)
          (differs_true (share_at 6 h r (i - 1)) (λ z. c.if-b-ne0.true (b ∙ z))) l.loop-i.set l.loop-i.invariant.1,
      bits-more a.m h r i (omega arith) (omega arith) g.gap-b.result l.loop-i.bits b l.loop-i.invariant.2,
    )

pub loop-i-preserved : goal.loop-i-preserved
loop-i-preserved c =
    let g = (goal.at.loop-i-preserved c).After-gap-b in
    let l = (goal.at.After-gap-b g).At-loop-i in
    let a = l.args in
    let h = a.hs.now in
    let r = a.rest.now in
    let i = l.loop-i.i in
    let b = g.gap-b.ensures ∙ bits_at l (omega arith) in (
      omega arith,
      l.loop-i.invariant.1
          ∙ set_same 6 most (differs 64 6 []) a.m h r l.requires.2 i (omega arith) (omega arith)
          (differs_false (share_at 6 h r (i - 1)) (ap length (whole l (omega arith)) ∙ six l (omega arith)) (sym b ∙ c.if-b-ne0.false)),
      bits-more a.m h r i (omega arith) (omega arith) g.gap-b.result l.loop-i.bits b l.loop-i.invariant.2,
    )

pub returns : goal.returns
returns c =
    let l = (goal.at.returns c).At-loop-i in
    let a = l.args in
    let h = a.hs.now in
    let r = a.rest.now in
    let i = l.loop-i.i in
    let e : i ≤ a.n = omega arith in
    let f = from_end 6 h r 0 a.m refl in (
      l.loop-i.invariant.1
          ∙ set_all 6 most (differs 64 6 []) a.m h r l.requires.2 i (omega arith)
          (λ j k. zero_same a.n a.m l.requires.0 h r l.requires.4 j (omega (arith, k, e)))
          ∙ ap (set_of (differs 64 6 [])) f ∙ sym (error_set-tally 64 6 [] (shares_of 6 a.m h r)),
      l.loop-i.invariant.2 ∙ bits-all a.n a.m l.requires.0 h r l.requires.4 i e ∙ ap bits_of_all f,
    )
