-- `mend_place`: what the place opens to, and its job mended in each file, or kept where it does not open. Assumes nothing.
use borrow.Author.Rules.{rules}
use mathlib.Core.Path.{◌≡◌, refl, sym, ◌∙◌}
use Prim.Native.Nat.{ℕ, zero, suc}
use Rattle.words.specs.Refusal.{number_of}
use Rattle.words.proofs.Refusals.{number-some}
use Rattle.codewords.specs.Opening.{Opening, declines, opens, unless_fault}
use Rattle.rounds.proofs.Rows.{zero-shaped}
use Rattle.mending.proofs.Mended.{mended-past}
use Rattle.mending.proofs.mend_place.Goals as goal

pub place_opening-requires : goal.place_opening-requires
place_opening-requires c = (c.requires.1, c.load_holders-holders.ensures, search rules, zero-shaped)

-- a fault that is no 0 declines
behind : (c : ℕ) (o : Opening) → (c ≡ 0 → ⊥) → unless_fault c o ≡ declines c
behind zero o n = absurd (n refl)
behind (suc c) o n = refl

pub returns-in_err-wrong-clause-out : goal.returns-in_err-wrong-clause-out
returns-in_err-wrong-clause-out c =
    let b = c.args.bundle.now in
    let r = c.in_err-wrong.field-0.0 in
    c.requires.2
    ∙ mended-past b.bytes.now b.sound c.requires.0 c.args.place (number_of r)
    (sym c.in_err-wrong.ensures.opening ∙ behind (number_of r) _ (number-some r))
