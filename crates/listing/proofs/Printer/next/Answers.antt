use native.Mathlib.Omega.{arith}
use Rattle.listing.proofs.Pieces.{pieces-few}
use Rattle.listing.proofs.Printer.next.Goals as goal

pub overflow_add-self : goal.overflow_add-self
overflow_add-self c = record { fits = omega (arith, c.in_ok-size.ensures.size, pieces-few c.args.self.now.bytes.now) }
