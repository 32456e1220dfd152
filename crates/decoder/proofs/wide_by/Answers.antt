-- `decoder::wide_by` meets its contract: after each turn it has the holders of the wide shares passed. Assumes nothing.
use native.Mathlib.Omega.{arith}
use mathlib.Core.Path.{◌≡◌, sym, ◌∙◌, ap}
use mathlib.Core.Bool.{true, false, not}
use mathlib.Core.List.{[]}
use Prim.Native.Nat.{◌-◌, ◌<◌}
use lib.ListN.{get_or, take}
use Rattle.words.specs.Word.{in_width, all_in_width}
use Rattle.galois.specs.Element.{Element, held}
use Rattle.codewords.specs.Codeword.{wide}
use Rattle.codewords.proofs.Without.{set_of}
use Rattle.codewords.proofs.Wide.{wide-tally}
use Rattle.level.specs.Shares.{shares_of}
use Rattle.level.proofs.Shares.{from_end, sized-at}
use Rattle.rounds.proofs.Collected.{set-start, holder-low, holder-high, set_same, set_more}
use Rattle.rounds.proofs.Lowest.{six_bits, width-six}
use Rattle.decoder.proofs.wide_by.Goals as goal
use Rattle.decoder.proofs.wide_by.Goals.{After-in_width, At-loop-i, Then-not-in_width}

pub loop-i-init : goal.loop-i-init
loop-i-init c = let a = c.args in set-start a.d c.requires.0 (wide a.k) a.m a.hs.now a.ys.now c.requires.2

-- the row that is looked at, by its words together
row-width : (l : At-loop-i) → 0 < l.loop-i.i →
    (let a = l.args in let y = get_or a.ys.now (l.loop-i.i - 1) [] in
    in_width a.k (six_bits (held a.d y)) ≡ all_in_width a.k (take a.d y))
row-width l h =
    let a = l.args in
    width-six a.k a.d (get_or a.ys.now (l.loop-i.i - 1) []) l.requires.0
    (sized-at a.d a.hs.now a.ys.now a.m (l.loop-i.i - 1) l.requires.3 (omega arith))

pub overflow_sub-set : goal.overflow_sub-set
overflow_sub-set c =
    let a = c.args in
    holder-low a.d c.requires.0 (wide a.k) a.m a.hs.now a.ys.now c.requires.2 c.loop-i.i (omega arith)
    (omega arith)

pub overflow_shl-set : goal.overflow_shl-set
overflow_shl-set c =
    let a = c.args in
    omega (
      arith,
      holder-high a.d c.requires.0 (wide a.k) a.m a.hs.now a.ys.now c.requires.2 c.loop-i.i (omega arith)
          (omega arith),
    )

pub loop-i-preserved-then-not-in_width : goal.loop-i-preserved-then-not-in_width
unfolding wide
loop-i-preserved-then-not-in_width c =
    let w = (goal.at.loop-i-preserved-then-not-in_width c).Then-not-in_width in
    let l = (goal.at.Then-not-in_width w).At-loop-i in
    let a = l.args in
    let e : all_in_width a.k (take a.d (get_or a.ys.now (l.loop-i.i - 1) [])) ≡ false =
    sym (row-width l (omega arith)) ∙ ap (λ (u : Element). in_width a.k (six_bits u)) (sym w.keep-u.ensures) ∙ sym w.in_width.ensures
    ∙ c.if-not-in_width.true in
    set_more a.d l.requires.0 (wide a.k) a.m a.hs.now a.ys.now l.requires.2 l.loop-i.i (omega arith)
    (omega arith) (ap not e) l.loop-i.set l.loop-i.invariant

pub loop-i-preserved : goal.loop-i-preserved
unfolding wide
loop-i-preserved c =
    let w = (goal.at.loop-i-preserved c).After-in_width in
    let l = (goal.at.After-in_width w).At-loop-i in
    let a = l.args in
    let e : all_in_width a.k (take a.d (get_or a.ys.now (l.loop-i.i - 1) [])) ≡ true =
    sym (row-width l (omega arith)) ∙ ap (λ (u : Element). in_width a.k (six_bits u)) (sym w.keep-u.ensures) ∙ sym w.in_width.ensures
    ∙ c.if-not-in_width.false in
    l.loop-i.invariant
    ∙ set_same a.d l.requires.0 (wide a.k) a.m a.hs.now a.ys.now l.requires.2 l.loop-i.i (omega arith)
    (omega arith) (ap not e)

pub returns : goal.returns
returns c =
    let a = c.args in
    c.loop-i.invariant
    ∙ ap (set_of (wide a.k)) (from_end a.d a.hs.now a.ys.now c.loop-i.i a.m (omega arith))
    ∙ sym (wide-tally a.k (shares_of a.d a.m a.hs.now a.ys.now))
