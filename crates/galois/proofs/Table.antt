-- What passes a test over a range passes it at each number; by it, that the table's row d has d coefficients. Assumes nothing.
use mathlib.Core.Path.{◌≡◌, refl}
use mathlib.Core.Bool.{Bool, true}
use Prim.Native.Nat.{ℕ, zero, suc, ◌+◌, ◌≤◌, ◌<◌}
use native.Mathlib.Decide.{ℕ_discrete}
use native.Mathlib.Omega.{arith}
use lib.Dec.{eqb}
use lib.ListN.{length}
use borrow.Author.Tests.{eqb-true}
use Rattle.words.proofs.Tests.{and_left, and_right}
use Rattle.galois.specs.Element.{lower}
use Rattle.galois.specs.Field.{passes}

pub passes_at : (f : ℕ → Bool) (i c : ℕ) → passes f i c ≡ true → (d : ℕ) → i ≤ d → d < i + c → f d ≡ true
unfolding passes
passes_at f i zero t d l h = absurd (omega arith)
passes_at f i (suc c) t d l h = go (λ m. passes_at f (suc i) c (and_right (f i) (passes f (suc i) c) t) d m (omega arith)) (ℕ_discrete i d)
  where
    go : (suc i ≤ d → f d ≡ true) → Dec (i ≡ d) → f d ≡ true
    go r (yes e) = rw e at (and_left (f i) (passes f (suc i) c) t)
    go r (no n) = r (omega arith)

pub length-lower : (d : ℕ) → 2 ≤ d → d ≤ 6 → length (lower d) ≡ d
unfolding passes lower
length-lower d l h = eqb-true (length (lower d)) d (passes_at (λ n. eqb (length (lower n)) n) 2 5 refl d l (omega arith))
