-- `comparison::compare` meets its contract. Assumes nothing.
use native.Mathlib.Omega.{arith}
use mathlib.Core.Path.{sym, ◌∙◌, ap}
use lib.Count.{count_trailing_zeros, trailing_le}
use Rattle.std.specs.declared.option.Option.TheVariants.{Some}
use Rattle.comparison.proofs.Compared.{compared-none, compared-some}
use Rattle.comparison.proofs.compare.Goals as goal

pub returns-then-bits-eq0 : goal.returns-then-bits-eq0
returns-then-bits-eq0 c =
    let a = c.args in
    sym (compared-none a.share a.value (sym c.gap-bits.ensures ∙ c.if-bits-eq0.true))

pub overflow_cast-result : goal.overflow_cast-result
overflow_cast-result c = omega (arith, trailing_le 64 c.gap-bits.result)

pub returns : goal.returns
returns c =
    let a = c.args in
    let e = c.gap-bits.ensures in
    ap (λ n. Some (count_trailing_zeros 64 n)) e ∙ sym (compared-some a.share a.value (λ z. c.if-bits-eq0.false (e ∙ z)))
