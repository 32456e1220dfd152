-- `check_bundle`: the order, then the files. Assumes nothing.
use Rattle.records.proofs.Lengths.{known-order}
use Rattle.bundle.proofs.check_bundle.Goals as goal

pub is_record-requires : goal.is_record-requires
is_record-requires c = known-order
