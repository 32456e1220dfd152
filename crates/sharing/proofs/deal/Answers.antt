-- `sharing::deal` meets its contract: where there is no fault, what `write_shares` writes. Assumes nothing.
use Rattle.std.proofs.Common.{sym, length, arith}
use Rattle.sharing.proofs.Faults.{deal-clear, few-holders}
use Rattle.sharing.proofs.deal.Goals as goal

pub write_shares-requires : goal.write_shares-requires
write_shares-requires c =
    let a = c.args in
    let k = deal-clear a.p a.secret.now a.coefficients.now (length a.out.now) (sym c.in_ok-check_deal.ensures) in
    let r = k.range in (
      (r.k-low, r.k-high),
      (r.d-low, r.d-high),
      (omega (arith, few-holders _ r), omega (arith, few-holders _ r, r.t-high)),
      k.secret-length,
      k.coefficients-length,
      k.out-length,
    )
