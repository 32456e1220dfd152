-- Six words that are known one by one. Assumes nothing.
use native.Mathlib.Omega.{arith}
use mathlib.Core.Path.{◌≡◌, sym, ◌∙◌}
use mathlib.Core.Bool.{cond}
use mathlib.Core.List.{[], ◌∷◌}
use Prim.Native.Nat.{ℕ, ◌%◌, ◌^◌, ◌≤◌, ◌<◌}
use lib.ListN.{length, get_or}
use Rattle.std.proofs.Common.{ltb}
use Rattle.galois.specs.Element.{Element, zip, held, reduce}
use Rattle.galois.proofs.Zip.{six-words, zip-six}
use Rattle.galois.proofs.Held.{held-six}
use Rattle.galois.proofs.Narrow.{reduce-six}

pub six-by : (f : ℕ → ℕ) (r : Element) → length r ≡ 6 → ((j : ℕ) → j < 6 → get_or r j 0 ≡ f j)
    → r ≡ f 0 ∷ f 1 ∷ f 2 ∷ f 3 ∷ f 4 ∷ f 5 ∷ []
six-by f r hr e =
    six-words r hr
    ∙ rw (e 0 (omega arith), e 1 (omega arith), e 2 (omega arith), e 3 (omega arith), e 4 (omega arith), e 5 (omega arith))

pub zip-by : (f : ℕ → ℕ → ℕ) (a b r : Element) → length a ≡ 6 → length b ≡ 6 → length r ≡ 6
    → ((j : ℕ) → j < 6 → get_or r j 0 ≡ f (get_or a j 0) (get_or b j 0)) → r ≡ zip f a b
zip-by f a b r ha hb hr e = six-by (λ j. f (get_or a j 0) (get_or b j 0)) r hr e ∙ sym (zip-six f a b ha hb)

pub held-by : (d : ℕ) (a r : Element) → d ≤ 6 → length a ≡ 6 → length r ≡ 6
    → ((j : ℕ) → j < 6 → get_or r j 0 ≡ cond (ltb j d) (get_or a j 0) 0) → r ≡ held d a
held-by d a r h ha hr e = six-by (λ j. cond (ltb j d) (get_or a j 0) 0) r hr e ∙ sym (held-six d a ha h)

pub reduce-by : (k : ℕ) (a r : Element) → length a ≡ 6 → length r ≡ 6
    → ((j : ℕ) → j < 6 → get_or r j 0 ≡ get_or a j 0 % 2 ^ k) → r ≡ reduce k a
reduce-by k a r ha hr e = six-by (λ j. get_or a j 0 % 2 ^ k) r hr e ∙ sym (reduce-six k a ha)
