-- `ring::lower_of` meets its contract: row by row. Assumes nothing.
use mathlib.Core.Path.{◌≡◌, refl}
use mathlib.Core.List.{List, [], ◌∷◌}
use Prim.Native.Nat.{ℕ, ◌≤◌}
use lib.ListN.{get_or}
use Rattle.galois.specs.Element.{held, lower}
use Rattle.galois.proofs.Held.{to-six}
use native.Mathlib.Omega.{arith}
use Rattle.ring.proofs.lower_of.Goals as goal

-- the table as the program has it: each row in an array of six
abbrev table : List (List ℕ)
table =
    (0 ∷ 0 ∷ 0 ∷ 0 ∷ 0 ∷ 0 ∷ [])
    ∷ (0 ∷ 0 ∷ 0 ∷ 0 ∷ 0 ∷ 0 ∷ [])
    ∷ (1 ∷ 1 ∷ 0 ∷ 0 ∷ 0 ∷ 0 ∷ [])
    ∷ (1 ∷ 1 ∷ 0 ∷ 0 ∷ 0 ∷ 0 ∷ [])
    ∷ (1 ∷ 1 ∷ 0 ∷ 0 ∷ 0 ∷ 0 ∷ [])
    ∷ (1 ∷ 0 ∷ 1 ∷ 0 ∷ 0 ∷ 0 ∷ [])
    ∷ (1 ∷ 1 ∷ 0 ∷ 0 ∷ 0 ∷ 0 ∷ [])
    ∷ []

pub returns : goal.returns
unfolding lower
returns c =
    to-six (λ n. 2 ≤ n → get_or table n [] ≡ held n (lower n))
    (λ _. refl) (λ z. absurd (omega arith)) (λ _. refl) (λ _. refl) (λ _. refl) (λ _. refl) (λ _. refl)
    c.args.d c.requires.1 c.requires.0
