-- `go_on`: a minus sign, a digit, or a byte that is neither. Assumes nothing.
use Rattle.std.proofs.Common.{ℕ, ap, ◌∙◌, arith, rules}
use Rattle.words.specs.declared.Signed.{Signed}
use Rattle.labelled.proofs.Steps.{goes-minus, goes-low, goes-high, goes-digit}
use Rattle.labelled.proofs.go_on.Goals as goal

pub returns-in-45 : goal.returns-in-45
returns-in-45 c = goes-minus c.args.s c.args.c c.in-45.is

pub returns-in-48-to-57 : goal.returns-in-48-to-57
returns-in-48-to-57 c =
    let sign = c.args.s.negative in
    ap (λ (m : ℕ). (let r : Signed = record { negative = sign; magnitude = m } in r)) (c.wrapping_add_u64.ensures.value ∙ rw (c.mul64.ensures, c.from.ensures))
    ∙ goes-digit c.args.s c.args.c (omega arith) (omega arith)

pub returns-in_default : goal.returns-in_default
returns-in_default c = goes-low c.args.s c.args.c (search rules) (omega arith)

pub returns-in_default-2 : goal.returns-in_default-2
returns-in_default-2 c = goes-high c.args.s c.args.c (omega arith)
