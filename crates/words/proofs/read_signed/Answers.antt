-- `words::read_signed` meets its contract: the top bit decides. Assumes nothing.
use Rattle.std.proofs.Common.{◌-◌, ◌^◌, ◌<◌, ◌≤◌, arith, pow_pos, le-ltb, lt-ltb}
use Rattle.words.specs.Signed.{signed_of}
use Rattle.words.proofs.Reading.{top-clear, top_set, negated}
use Rattle.words.proofs.read_signed.Goals as goal

pub returns-then-w-k-eq0 : goal.returns-then-w-k-eq0
unfolding signed_of
returns-then-w-k-eq0 c = rw (lt-ltb c.args.w (2 ^ (c.args.k - 1)) (top-clear c.args.w (2 ^ (c.args.k - 1)) (pow_pos (c.args.k - 1)) c.if-w-k-eq0.true))

pub returns : goal.returns
unfolding signed_of
returns c =
    let h : 2 ^ (c.args.k - 1) ≤ c.args.w = top_set c.args.w (2 ^ (c.args.k - 1)) c.if-w-k-eq0.false in
    let p : 0 < 2 ^ (c.args.k - 1) = pow_pos (c.args.k - 1) in
    rw (le-ltb c.args.w (2 ^ (c.args.k - 1)) h, c.sub.ensures, negated c.args.k c.args.w (omega arith) c.requires.1)
