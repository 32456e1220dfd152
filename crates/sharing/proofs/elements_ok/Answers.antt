-- `sharing::elements_ok` meets its contract: a product of d is what d divides, with the other factor for its quotient. Assumes nothing.
use mathlib.Core.Path.{◌≡◌, refl, sym, ◌∙◌, ap, ap₂}
use mathlib.Core.Bool.{Bool, true, false}
use Prim.Native.Nat.{ℕ, ◌+◌, ◌*◌, ◌/◌, ◌%◌, ◌<◌}
use native.Mathlib.Nat.{mul-div_cancel, mul-mod_left, mod-add-div}
use native.Mathlib.Omega.{arith}
use lib.Dec.{eqb}
use borrow.Author.Tests.{eqb-true, eqb-false, eq-eqb, ne_eqb}
use Rattle.sharing.proofs.elements_ok.Goals as goal

remainder : (m d n : ℕ) → n ≡ m * d → n % d ≡ 0
remainder m d n e = ap (λ (x : ℕ). x % d) e ∙ mul-mod_left m d

quotient : (m d n : ℕ) → 0 < d → n % d ≡ 0 → eqb (n / d) m ≡ eqb n (m * d)
quotient m d n h r =
    go (eqb (n / d) m) refl
  where
    go : (b : Bool) → eqb (n / d) m ≡ b → b ≡ eqb n (m * d)
    go true e =
        sym (eq-eqb n (m * d) (sym (mod-add-div n d) ∙ ap₂ (λ (x y : ℕ). x + d * y) r (eqb-true (n / d) m e) ∙ omega arith))
    go false e = sym (ne_eqb n (m * d) (λ z. eqb-false (n / d) m e (ap (λ (x : ℕ). x / d) z ∙ mul-div_cancel m h)))

pub returns-then-n-d-eq0 : goal.returns-then-n-d-eq0
returns-then-n-d-eq0 c = quotient c.args.m c.args.d c.args.n c.requires c.if-n-d-eq0.true

pub returns-else-n-d-eq0 : goal.returns-else-n-d-eq0
returns-else-n-d-eq0 c = let a = c.args in ne_eqb (a.n % a.d) 0 c.if-n-d-eq0.false ∙ sym (ne_eqb a.n (a.m * a.d) (λ e. c.if-n-d-eq0.false (remainder a.m a.d a.n e)))
