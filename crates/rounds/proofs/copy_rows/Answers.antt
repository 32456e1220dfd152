-- `rounds::copy_rows` meets its contract. Assumes nothing.
use Rattle.rounds.proofs.Rows.{front}
use Rattle.rounds.proofs.copy_rows.Goals as goal

pub returns : goal.returns
returns c = front c.args.n c.args.p.now c.args.q.now _ c.requires.0 c.requires.2 c.requires.1 c.copy_from_slice.ensures.after
