-- `file_at`: a product that does not overflow. Assumes nothing.
use mathlib.Core.Path.{ap}
use Prim.Native.Nat.{ℕ, ◌+◌, ◌*◌, ◌≤◌}
use native.Mathlib.Omega.{arith}
use Rattle.records.specs.Layout.{order_size}
use Rattle.records.proofs.Lengths.{files-high}
use Rattle.fetch.proofs.file_at.Goals as goal
use Rattle.fetch.proofs.file_at.Goals.{After-file_size}

small : (c : After-file_size) → c.args.f * c.file_size.result ≤ 4095000
small c =
    rw c.file_size.ensures
    (files-high c.args.h (omega (arith, c.requires)) (omega (arith, c.requires)) c.args.f
    (omega (arith, c.requires)))

pub overflow_mul-result : goal.overflow_mul-result
overflow_mul-result c = omega (arith, small c)

pub overflow_add-result : goal.overflow_add-result
overflow_add-result c = omega (arith, small c)

pub returns : goal.returns
returns c = ap (λ (n : ℕ). order_size + c.args.f * n) c.file_size.ensures
