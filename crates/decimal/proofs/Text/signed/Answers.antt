-- `signed`: the sign and then the digits. Assumes nothing.
use Rattle.decimal.specs.Decimal.{signed_text}
use Rattle.decimal.proofs.Puts.{puts-more}
use Rattle.decimal.proofs.Text.signed.Goals as goal

pub returns : goal.returns
unfolding signed_text
returns c = puts-more c.sign.ensures c.decimal.ensures
