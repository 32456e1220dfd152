-- `hundredths`: the sign, the digits of a hundredth, the point, and the last two digits. Assumes nothing.
use Rattle.decimal.proofs.Signed.{hundredths-parts}
use Rattle.decimal.proofs.Puts.{puts-more}
use Rattle.decimal.proofs.Text.hundredths.Goals as goal

pub returns : goal.returns
returns c =
    rw (hundredths-parts c.args.h)
    (puts-more (puts-more (puts-more (puts-more c.sign.ensures c.decimal.ensures) c.byte.ensures) c.byte-2.ensures) c.byte-3.ensures)
