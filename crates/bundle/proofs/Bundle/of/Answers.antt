-- `Bundle::of`: of bytes without a fault, the first heading and how many files fill the rest. Assumes nothing.
use mathlib.Core.Path.{◌≡◌, sym, ap, ◌∙◌}
use Prim.Native.Nat.{ℕ, ◌-◌, ◌/◌}
use lib.ListN.{length}
use native.Mathlib.Omega.{arith}
use Rattle.records.specs.Layout.{file_size, order_size}
use Rattle.bundle.specs.Bundle.{bundle_heading, files_in, files_of}
use Rattle.bundle.proofs.Files.{size_low}
use Rattle.bundle.specs.Acceptance.{BundleOk}
use Rattle.bundle.proofs.Bundles.{bundle-ok, bundle-ranges, bundle-within}
use Rattle.bundle.proofs.Bundle.of.Goals as goal
use Rattle.bundle.proofs.Bundle.of.Goals.{After-file_size}

pub heading_at-heading-requires : goal.heading_at-heading-requires
heading_at-heading-requires c = bundle-within c.args.bytes.now (bundle-ok c.args.bytes.now c.requires)

pub overflow_sub-files : goal.overflow_sub-files
overflow_sub-files c = omega (arith, bundle-within c.args.bytes.now (bundle-ok c.args.bytes.now c.requires))

pub file_size-requires : goal.file_size-requires
file_size-requires c =
    let r = bundle-ranges c.args.bytes.now (bundle-ok c.args.bytes.now c.requires) in
    rw c.heading_at-heading.ensures (r.book.d-high, r.jobs_high)

size_is : (c : After-file_size) → c.file_size.result ≡ file_size (bundle_heading c.args.bytes.now)
size_is c = c.file_size.ensures ∙ ap file_size c.heading_at-heading.ensures

pub nonzero_div-files : goal.nonzero_div-files
nonzero_div-files c = omega (arith, size_is c, size_low c.args.bytes.now order_size)

files-are : (c : After-file_size) → (length c.args.bytes.now - 7) / c.file_size.result ≡ files_of c.args.bytes.now
unfolding files_in
files-are c = ap (λ (n : ℕ). (length c.args.bytes.now - 7) / n) (size_is c)

pub invariant_of-result : goal.invariant_of-result
invariant_of-result c = record { sound = c.requires; headed = c.heading_at-heading.ensures; counted = files-are c }
