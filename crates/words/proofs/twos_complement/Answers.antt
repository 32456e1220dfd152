-- `words::twos_complement` meets its contract: a negative value is its magnitude below 2^64. Assumes nothing.
use Rattle.words.proofs.Signs.{some, negative-is, positive-is}
use Rattle.words.proofs.twos_complement.Goals as goal

pub overflow_sub-result : goal.overflow_sub-result
overflow_sub-result c =
    some c.args.k c.args.w c.read_signed-s.result c.read_signed-s.ensures c.requires.1
    c.if-s.true

pub returns-then-s : goal.returns-then-s
returns-then-s c =
    negative-is c.args.k c.args.w c.read_signed-s.result c.read_signed-s.ensures c.requires.1
    c.if-s.true

pub returns : goal.returns
returns c = positive-is c.args.k c.args.w c.read_signed-s.result c.read_signed-s.ensures c.if-s.false
