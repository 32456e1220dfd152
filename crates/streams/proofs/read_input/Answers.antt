use Rattle.std.proofs.Common.{rules}
use Rattle.streams.proofs.Moved.{read-more}
use Rattle.streams.proofs.read_input.Goals as goal

pub loop-count-preserved-in-Ok : goal.loop-count-preserved-in-Ok
loop-count-preserved-in-Ok g c = record {
  within = search rules;
  taken = read-more _ _ _ c.loop-count.space c.read.new.buf c.loop-count.count c.in-Ok.more _ c.loop-count.invariant.within c.in-Ok.ensures.bound.0
      c.loop-count.invariant.taken c.in-Ok.ensures.bytes.0;
}
