-- The loop of `find_file`: no file passed is the holder's. Assumes nothing.
use mathlib.Core.Path.{◌≡◌, sym, ap, ◌∙◌}
use Prim.Native.Nat.{◌+◌, ◌≤◌, ◌<◌}
use native.Mathlib.Omega.{arith}
use lib.ListN.{length}
use Rattle.records.specs.Layout.{file_size, order_size}
use Rattle.records.specs.declared.Heading.{Heading}
use Rattle.bundle.specs.Bundle.{bundle_heading, files_of}
use Rattle.bundle.proofs.Bundles.{BundleOk, bundle-ok, ranges-of, file-within, heading-within}
use Rattle.fetch.specs.Fetch.{file_of}
use Rattle.fetch.proofs.Fetch.{find-start, find-yes, find-next, find-no, holder-none, holder-gone}
use Rattle.fetch.proofs.find_file.Goals as goal
use Rattle.fetch.proofs.find_file.Goals.{After-file_size-size, In-loop-f, Start, Then-h-holder}

whole : (c : Start) → BundleOk c.args.bundle.now.bytes.now
whole c = let b = c.args.bundle.now in bundle-ok b.bytes.now b.sound

pub file_size-size-requires : goal.file_size-size-requires
file_size-size-requires c =
    let b = c.args.bundle.now in
    let r = ranges-of b.bytes.now (whole (goal.at.file_size-size-requires c).Start) b.heading b.headed in
    (r.book.d-high, r.jobs_high)

size_is : (c : After-file_size-size) → c.file_size-size.result ≡ file_size (bundle_heading c.args.bundle.now.bytes.now)
size_is c = c.file_size-size.ensures ∙ ap file_size c.args.bundle.now.headed

pub loop-f-init : goal.loop-f-init
loop-f-init c = find-start c.args.bundle.now.bytes.now c.args.holder

-- there is a file f, within the bytes
low : (c : In-loop-f) → c.loop-f.f < files_of c.args.bundle.now.bytes.now
low c = omega (arith, c.loop-f-test.true, c.args.bundle.now.counted)

within : (c : In-loop-f) → let bs = c.args.bundle.now.bytes.now in c.loop-f.at + file_size (bundle_heading bs) ≤ length bs
within c =
    omega (
      arith,
      file-within c.args.bundle.now.bytes.now order_size (whole (goal.at.In-loop-f c).Start).files c.loop-f.f (low c),
      c.loop-f.invariant.at-is,
    )

pub heading_at-h-requires : goal.heading_at-h-requires
heading_at-h-requires c =
    rw c.loop-f.invariant.at-is
    (heading-within c.args.bundle.now.bytes.now (whole (goal.at.heading_at-h-requires c).Start) c.loop-f.f (low (goal.at.heading_at-h-requires c).In-loop-f))

found : (c : Then-h-holder) → c.loop-f.f ≡ file_of c.args.bundle.now.bytes.now c.args.holder
found c =
    let l = c.loop-f in
    find-yes c.args.bundle.now.bytes.now c.args.holder l.f l.at l.invariant (low (goal.at.Then-h-holder c).In-loop-f)
    (ap (λ (h : Heading). h.holder) (sym c.heading_at-h.ensures) ∙ c.if-h-holder.true)

pub returns-then-h-holder : goal.returns-then-h-holder
returns-then-h-holder c =
    let t = (goal.at.returns-then-h-holder c).Then-h-holder in
    record {
      fault = sym (holder-none c.args.bundle.now.bytes.now c.args.holder (omega (arith, found t, low (goal.at.Then-h-holder t).In-loop-f)));
      file = (found t, c.loop-f-test.true);
    }

pub overflow_add-at : goal.overflow_add-at
overflow_add-at c =
    omega (
      arith,
      within (goal.at.overflow_add-at c).In-loop-f,
      size_is (goal.at.overflow_add-at c).After-file_size-size,
      c.well_formed,
    )

pub loop-f-preserved : goal.loop-f-preserved
loop-f-preserved c =
    let l = c.loop-f in
    rw (size_is (goal.at.loop-f-preserved c).After-file_size-size)
    (find-next c.args.bundle.now.bytes.now c.args.holder l.f l.at l.invariant (low (goal.at.loop-f-preserved c).In-loop-f)
    (λ e. c.if-h-holder.false (ap (λ (h : Heading). h.holder) c.heading_at-h.ensures ∙ e)))

pub returns : goal.returns
returns c =
    let l = c.loop-f in
    let b = c.args.bundle.now in
    let e : files_of b.bytes.now ≤ l.f = omega (arith, c.loop-f-test.false, b.counted) in
    record {
      fault = holder-gone b.bytes.now c.args.holder (omega (arith, e, find-no b.bytes.now c.args.holder l.f l.at l.invariant e));
      file = tt;
    }
