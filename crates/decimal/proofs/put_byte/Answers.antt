use mathlib.Core.Path.{refl}
use Rattle.decimal.proofs.Written.{written_byte}
use Rattle.decimal.proofs.put_byte.Goals as goal

pub returns : goal.returns
returns c = (written_byte c.args.out.now c.args.at c.args.b c.requires, refl)
