-- `open_place`: a refusal ahead of the opening, or what the place opens to. Assumes nothing.
use Rattle.archive.proofs.open_place.Goals as goal

pub open_accepted-requires : goal.open_accepted-requires
open_accepted-requires c = let q = c.in_ok-bundle.ensures.bundle in (q.1, q.2, q.3, q.4)
