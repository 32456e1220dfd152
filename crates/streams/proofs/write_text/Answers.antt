use Rattle.std.proofs.Common.{rules, ◌+◌}
use Rattle.std.proofs.KnownBytes.{Appends-kept}
use Rattle.streams.proofs.Moved.{written-more, start-take}
use Rattle.streams.proofs.write_text.Goals as goal

pub loop-done-preserved-in-Ok : goal.loop-done-preserved-in-Ok
loop-done-preserved-in-Ok g c = record {
  within = search rules;
  given = written-more _ _ _ c.args.text.now c.loop-done.done c.in-Ok.more c.loop-done.invariant.given c.in-Ok.ensures.bytes;
}

pub returns-in-Ok-eq0-clause-start : goal.returns-in-Ok-eq0-clause-start
returns-in-Ok-eq0-clause-start g c =
    start-take _ _ c.args.text.now (c.loop-done.done + c.in-Ok-eq0.field-0)
    (written-more _ _ _ c.args.text.now c.loop-done.done c.in-Ok-eq0.field-0 c.loop-done.invariant.given c.in-Ok-eq0.ensures.bytes)

pub returns-then-tries-eq0-clause-start : goal.returns-then-tries-eq0-clause-start
returns-then-tries-eq0-clause-start g c =
    start-take _ _ c.args.text.now c.loop-done.done (Appends-kept _ _ _ _ c.loop-done.invariant.given c.in-Err.ensures.bytes)
