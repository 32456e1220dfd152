-- Points as the bits of a number. Assumes nothing.
use mathlib.Core.Path.{◌≡◌, sym, ap, ◌∙◌}
use Prim.Native.Nat.{ℕ, zero, suc, ◌/◌, ◌%◌, ◌^◌, ◌<◌}
use native.Mathlib.Nat.{not-suc-le-zero, le_of_suc-le-suc, div-one}
use native.Mathlib.Nat.{div-div-eq-div-mul, pow-succ'}
use lib.ListN.{get_or}
use Rattle.galois.specs.Element.{point}

pub point_at : (d i j : ℕ) → j < d → get_or (point d i) j 0 ≡ i / 2 ^ j % 2
unfolding point
point_at zero i j h = absurd (not-suc-le-zero h)
point_at (suc d) i zero h = ap (λ (y : ℕ). y % 2) (sym (div-one i))
point_at (suc d) i (suc j) h =
    point_at d (i / 2) j (le_of_suc-le-suc h)
    ∙ ap (λ (y : ℕ). y % 2) (div-div-eq-div-mul i 2 (2 ^ j) ∙ ap (λ (y : ℕ). i / y) (sym (pow-succ' 2 j)))
