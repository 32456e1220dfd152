-- `lens_job`: each word is in width. Assumes nothing.
use Rattle.std.proofs.Common.{ℕ, ◌^◌, ◌<◌, ◌≤◌, get_or, arith, lit<}
use Rattle.words.proofs.Width.{width-at}
use Rattle.labelled.specs.JobText.{lens_job}
use Rattle.labelled.proofs.lens_job.Goals as goal
use Rattle.labelled.proofs.lens_job.Goals.{Start}

word : (s : Start) (i : ℕ) → i < 4 → ((1 ≤ s.args.k) × (s.args.k ≤ 64)) × (get_or s.args.words.now i 0 < 2 ^ s.args.k)
word s i h = (s.requires.0, width-at s.args.k s.args.words.now i s.requires.2 (omega (arith, s.requires.1, h)))

pub read_signed-requires : goal.read_signed-requires
read_signed-requires c = word (goal.at.read_signed-requires c).Start 0 (lit< tt)

pub read_signed-requires-2 : goal.read_signed-requires-2
read_signed-requires-2 c = word (goal.at.read_signed-requires-2 c).Start 1 (lit< tt)

pub read_signed-requires-3 : goal.read_signed-requires-3
read_signed-requires-3 c = word (goal.at.read_signed-requires-3 c).Start 2 (lit< tt)

pub read_signed-requires-4 : goal.read_signed-requires-4
read_signed-requires-4 c = word (goal.at.read_signed-requires-4 c).Start 3 (lit< tt)

pub returns : goal.returns
unfolding lens_job
returns c =
    rw (
      c.read_signed.ensures,
      c.read_signed-2.ensures,
      c.read_signed-3.ensures,
      c.read_signed-4.ensures,
    )
