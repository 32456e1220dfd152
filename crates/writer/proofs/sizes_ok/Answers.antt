-- `sizes_ok`: the two tests, and a product that does not overflow. Assumes nothing.
use mathlib.Core.Path.{refl, sym, ap, ◌∙◌}
use Prim.Native.Nat.{ℕ, ◌*◌, ◌≤◌}
use native.Mathlib.Nat.{mul-le-mul}
use native.Mathlib.Omega.{arith}
use borrow.Author.Tests.{eq-eqb, ne_eqb}
use lib.Dec.{eqb}
use Rattle.words.proofs.Tests.{and_yes, and_no}
use Rattle.bundle.proofs.Headings.{Ranges, ok-ranges}
use Rattle.writer.specs.Write.{sizes_ok}
use Rattle.writer.proofs.sizes_ok.Goals as goal
use Rattle.writer.proofs.sizes_ok.Goals.{Start}

ranges : (s : Start) → Ranges s.args.h
ranges s = ok-ranges s.args.h s.requires

small : (s : Start) → s.args.h.jobs * s.args.h.params.d ≤ 6000
small s =
    let r = ranges s in
    mul-le-mul {n₁ = s.args.h.jobs} {m₁ = s.args.h.params.d} {n₂ = 1000} {m₂ = 6} r.jobs_high r.book.d-high

pub overflow_mul-h : goal.overflow_mul-h
overflow_mul-h c = omega (arith, small (goal.at.overflow_mul-h c).Start)

pub returns-then-count-h : goal.returns-then-count-h
unfolding sizes_ok
returns-then-count-h c = sym (and_no _ _ (ne_eqb _ _ c.if-count-h.true))

pub file_size-requires : goal.file_size-requires
file_size-requires c =
    let r = ranges (goal.at.file_size-requires c).Start in
    (r.book.d-high, r.jobs_high)

pub returns : goal.returns
unfolding sizes_ok
returns c =
    ap (λ (n : ℕ). eqb c.args.size n) c.file_size.ensures
    ∙ sym (and_yes _ _ (eq-eqb _ _ c.if-count-h.false) refl)
