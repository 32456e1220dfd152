-- `is_record`: a record of a known kind is short, and has its kind. Assumes nothing.
use native.Mathlib.Omega.{arith}
use Rattle.records.proofs.Lengths.{known-min, known-max}
use Rattle.records.proofs.is_record.Goals as goal

pub overflow_add-size : goal.overflow_add-size
overflow_add-size c = omega (arith, known-max c.args.kind c.args.len c.requires)

pub pair_at-requires : goal.pair_at-requires
pair_at-requires c = omega (arith, known-min c.args.kind c.args.len c.requires)
