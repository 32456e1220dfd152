use Rattle.std.proofs.Common.{sym, ◌∙◌}
use Rattle.words.proofs.Width.{in-width-lt}
use Rattle.edges.proofs.reading.Goals as goal

pub read_signed-s-requires : goal.read_signed-s-requires
read_signed-s-requires g c =
    ((c.if-k-lt1.false, c.if-k-gt64.false), in-width-lt c.args.k c.args.w (sym c.in_width.ensures ∙ c.if-not-in_width.false))
