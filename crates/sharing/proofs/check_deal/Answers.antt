-- `sharing::check_deal` meets its contract: the lengths that it asks for are small. Assumes nothing.
use Rattle.std.proofs.Common.{arith}
use Rattle.words.proofs.InRange.{ok-range}
use Rattle.sharing.proofs.Faults.{few-holders, few_words}
use Rattle.sharing.proofs.check_deal.Goals as goal

pub overflow_mul-p : goal.overflow_mul-p
overflow_mul-p c =
    let p = c.args.p in
    let r = ok-range p c.in_ok-check_params.ensures.ok in
    omega (arith, few_words p r p.t (omega (arith, few-holders p r, r.t-high)))

pub overflow_mul-p-2 : goal.overflow_mul-p-2
overflow_mul-p-2 c =
    let p = c.args.p in
    let r = ok-range p c.in_ok-check_params.ensures.ok in
    omega (arith, few_words p r p.n (omega (arith, few-holders p r)))
