-- How an inverse is computed: by Fermat modulo two, then by Newton's step, which doubles the bits. Assumes nothing.
use Rattle.std.specs.Prelude.{ℕ, zero, suc, ◌-◌, ◌∷◌, take, replicate}
use Rattle.galois.specs.Element.{Element, lower, difference, product}

-- y starts at a², and is (y a)² modulo two n times: a^(2^(n + 2) - 2)
unfoldable pub fermat : ℕ → Element → ℕ → Element
unfolding product
fermat d a zero = product 1 (lower d) a a
fermat d a (suc n) =
    let y = product 1 (lower d) (fermat d a n) a in
    product 1 (lower d) y y

-- two, and Newton's step y (2 - a y)
abbrev pub two_e : ℕ → Element
two_e d = take d (2 ∷ replicate (d - 1) 0)

unfoldable pub newton : ℕ → ℕ → Element → Element → Element
newton k d a y = product k (lower d) y (difference k (two_e d) (product k (lower d) a y))

-- n steps
unfoldable pub newtons : ℕ → ℕ → Element → Element → ℕ → Element
newtons k d a y zero = y
newtons k d a y (suc n) = newton k d a (newtons k d a y n)
