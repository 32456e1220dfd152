-- `check_heading`: each exit is a case of the heading's fault. Assumes nothing.
use mathlib.Core.Path.{◌≡◌, sym, ◌∙◌}
use Prim.Native.Nat.{◌+◌, ◌≤◌}
use mathlib.Core.Bool.{true}
use lib.ListN.{length}
use native.Mathlib.Omega.{arith}
use Rattle.records.specs.Layout.{head_kind, head_len, head_size}
use Rattle.records.specs.Record.{framed, heading_of}
use Rattle.records.proofs.Lengths.{known-heading}
use Rattle.records.proofs.Record.{framed-frame}
use Rattle.bundle.proofs.check_heading.Goals as goal
use Rattle.bundle.proofs.check_heading.Goals.{In_ok-unless}

pub is_record-framed-requires : goal.is_record-framed-requires
unfolding head_kind head_len
is_record-framed-requires c = known-heading (heading_of c.args.bytes.now c.args.at)

-- past the first test there is a frame
framed-yes : (c : In_ok-unless) → let h = heading_of c.args.bytes.now c.args.at in framed c.args.bytes.now (head_kind h) (head_len h) c.args.at ≡ true
unfolding head_kind head_len
framed-yes c = sym c.is_record-framed.ensures ∙ c.in_ok-unless.ensures.ok

fits : (c : In_ok-unless) → c.args.at + head_size (heading_of c.args.bytes.now c.args.at) ≤ length c.args.bytes.now
fits c =
    let h = heading_of c.args.bytes.now c.args.at in
    (framed-frame c.args.bytes.now (head_kind h) (head_len h) c.args.at (framed-yes c)).within

pub heading_at-h-requires : goal.heading_at-h-requires
heading_at-h-requires c = fits c

pub heading_at-requires : goal.heading_at-requires
unfolding head_len
heading_at-requires c = omega (arith, fits (goal.at.heading_at-requires c).In_ok-unless, c.requires)
