-- `body`: the record's body, where nothing declines. Assumes nothing.
use mathlib.Core.Path.{◌≡◌, sym, ap, ◌∙◌}
use Prim.Native.Nat.{ℕ, ◌+◌, ◌-◌, ◌≤◌}
use native.Mathlib.Nat.{add-sub_cancel_left}
use native.Mathlib.Omega.{arith}
use mathlib.Core.List.{List}
use lib.ListN.{length, take, drop}
use Rattle.records.specs.Num.{part}
use Rattle.records.specs.Layout.{body_at, body_size, job_len}
use Rattle.records.specs.declared.Heading.{Heading}
use Rattle.bundle.specs.Bundle.{bundle_heading, job_at}
use Rattle.bundle.proofs.Bundles.{bundle-ok, ranges-of}
use Rattle.fetch.specs.Fetch.{file_of, body_fault}
use Rattle.fetch.proofs.Fetch.{body-none, body-within, body-part}
use Rattle.fetch.proofs.body.Goals as goal
use Rattle.fetch.proofs.body.Goals.{After-body_size, In_ok-start}

none : (c : In_ok-start) → body_fault c.in_ok-bundle.bundle.bytes.now c.args.holder c.args.place ≡ 0
none c =
    let b = c.in_ok-bundle.bundle in
    body-none b.bytes.now c.args.holder c.args.place b.sound b.heading b.headed c.in_ok-start.ensures.fault

pub body_size-requires : goal.body_size-requires
body_size-requires c = let b = c.in_ok-bundle.bundle in (ranges-of b.bytes.now (bundle-ok b.bytes.now b.sound) b.heading b.headed).book.d-high

size_is : (c : After-body_size) → c.body_size.result ≡ body_size (job_len (bundle_heading c.in_ok-bundle.bundle.bytes.now))
size_is c = c.body_size.ensures ∙ ap (λ (h : Heading). body_size (job_len h)) c.in_ok-bundle.bundle.headed

within : (c : After-body_size) → c.in_ok-start.start + c.body_size.result ≤ length c.args.bytes.now
within c =
    let b = c.in_ok-bundle.bundle in
    omega (
      arith,
      c.in_ok-start.ensures.start,
      size_is c,
      ap length c.in_ok-bundle.ensures.bundle,
      body-within b.bytes.now c.args.holder c.args.place (none (goal.at.After-body_size c).In_ok-start),
    )

pub overflow_add-result : goal.overflow_add-result
overflow_add-result c = omega (arith, within c, c.well_formed)

pub slice_bounds-result-end : goal.slice_bounds-result-end
slice_bounds-result-end c = omega (arith, within c)

-- the part that is taken
spot : (l : List ℕ) (at at' n n' : ℕ) → at ≡ at' → n ≡ n' → take (at + n - at) (drop at l) ≡ part at' n' l
unfolding part
spot l at at' n n' e f = rw (e, f, add-sub_cancel_left)

pub returns-clause-body : goal.returns-clause-body
returns-clause-body c =
    let b = c.in_ok-bundle.bundle in
    let bs = b.bytes.now in
    rw c.in_ok-bundle.ensures.bundle at
    (spot bs c.in_ok-start.start (body_at (job_at bs (file_of bs c.args.holder) c.args.place)) c.body_size.result
    (body_size (job_len (bundle_heading bs))) c.in_ok-start.ensures.start (size_is (goal.at.returns-clause-body c).After-body_size)
    ∙ sym (body-part bs c.args.holder c.args.place (none (goal.at.returns-clause-body c).In_ok-start)))
