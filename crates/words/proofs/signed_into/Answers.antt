-- `words::signed_into` meets its contract: a fault, or the word's reading. Assumes nothing.
use Rattle.std.proofs.Common.{sym, ◌∙◌}
use Rattle.words.proofs.Signs.{bits-in-range}
use Rattle.words.proofs.Width.{in-width-lt}
use Rattle.words.proofs.signed_into.Goals as goal

pub twos_complement-requires : goal.twos_complement-requires
twos_complement-requires c =
    (bits-in-range c.args.k (sym c.bits_ok.ensures ∙ c.in_ok-unless.ensures.ok), in-width-lt c.args.k c.args.w (sym c.in_width.ensures ∙ c.in_ok-unless-2.ensures.ok))
