-- The first in a list that passes a test: it is one of the list and passes (`find-some`), there is none exactly when none passes (`find_none`,
-- `none-find`), and the only one that passes is found (`find-only`). Assumes nothing.
use mathlib.Core.Path.{◌≡◌, refl, sym, ◌∙◌, ap}
use mathlib.Core.Bool.{Bool, true, false, true≢false}
use mathlib.Core.Logic.{◌⊎◌, inl, inr}
use mathlib.Core.List.Memᴰ
use mathlib.Core.List.{List, [], ◌∷◌, Memᴰ}
use mathlib.Core.Option.{Option, none, some, get_or, none-ne-some, some-injective}
use Rattle.words.proofs.Tests.{bool_cases, not-held}
use Rattle.galois.specs.Element.{find}

module _ {A : Type 0} where
  -- the first that passes a test is one of them and passes it
  pub find-some : (t : A → Bool) (xs : List A) (x : A) → find t xs ≡ some x → Memᴰ x xs × (t x ≡ true)
  unfolding find
  find-some t [] x h = absurd (none-ne-some x h)
  find-some t (y ∷ xs) x h = go (find-some t xs x) (t y) refl h
    where
      go : (find t xs ≡ some x → Memᴰ x xs × (t x ≡ true)) → (b : Bool) → t y ≡ b → find t (y ∷ xs) ≡ some x →
          Memᴰ x (y ∷ xs) × (t x ≡ true)
      go r true e h =
          let s : x ≡ y = sym (some-injective y x (rw e at h)) in
          (Memᴰ.head s, ap t s ∙ e)
      go r false e h = let s = r (rw e at h) in (Memᴰ.tail s.0, s.1)

  -- there is none exactly when none passes
  fails : (t : A → Bool) (xs : List A) (x : A) → Memᴰ x xs → t x ≡ true → find t xs ≡ none → ⊥
  unfolding find
  fails t [] x m e h = Memᴰ.not-nil m
  fails t (y ∷ xs) x m e h = go (λ n. fails t xs x n e) (Memᴰ.cases_cons m)
    where
      go : (Memᴰ x xs → find t xs ≡ none → ⊥) → (x ≡ y) ⊎ Memᴰ x xs → ⊥
      go r (inl q) = let p : t y ≡ true = rw q at e in none-ne-some y (sym (rw p at h))
      go r (inr n) = bool_cases (t y) (λ p. none-ne-some y (sym (rw p at h))) (λ p. r n (rw p at h))

  pub find_none : (t : A → Bool) (xs : List A) → find t xs ≡ none → (x : A) → Memᴰ x xs → t x ≡ false
  find_none t xs h x m = not-held (t x) (λ e. fails t xs x m e h)

  pub none-find : (t : A → Bool) (xs : List A) → ((x : A) → Memᴰ x xs → t x ≡ false) → find t xs ≡ none
  none-find t xs h = go (find t xs) refl
    where
      go : (o : Option A) → find t xs ≡ o → o ≡ none
      go none e = refl
      go (some x) e = let s = find-some t xs x e in absurd (true≢false (sym s.1 ∙ h x s.0))

  -- the only one that passes is found
  pub find-only : (t : A → Bool) (xs : List A) (x : A) → Memᴰ x xs → t x ≡ true →
      ((y : A) → Memᴰ y xs → t y ≡ true → y ≡ x) → find t xs ≡ some x
  find-only t xs x m e only = go (find t xs) refl
    where
      go : (o : Option A) → find t xs ≡ o → o ≡ some x
      go none h = absurd (true≢false (sym e ∙ find_none t xs h x m))
      go (some y) h = let s = find-some t xs y h in ap some (only y s.0 s.1)

  -- a test that says the same of each of them finds the same
  pub find-same : (t s : A → Bool) (xs : List A) → ((x : A) → Memᴰ x xs → t x ≡ s x) → find t xs ≡ find s xs
  unfolding find
  find-same t s [] h = refl
  find-same t s (y ∷ xs) h = rw (h y (Memᴰ.head refl), find-same t s xs (λ x m. h x (Memᴰ.tail m)))

  -- with another for where none passes: if one does, what is found passes; and what holds of all of them and of the other holds of it
  pub found-passes : (t : A → Bool) (xs : List A) (o x : A) → Memᴰ x xs → t x ≡ true → t (get_or (find t xs) o) ≡ true
  found-passes t xs o x m p = go (find t xs) refl
    where
      go : (r : Option A) → find t xs ≡ r → t (get_or r o) ≡ true
      go none e = absurd (true≢false (sym p ∙ find_none t xs e x m))
      go (some y) e = (find-some t xs y e).1

  pub found-is : (P : A → Type 0) (t : A → Bool) (xs : List A) (o : A) → ((x : A) → Memᴰ x xs → P x) → P o → P (get_or (find t xs) o)
  found-is P t xs o h p = go (find t xs) refl
    where
      go : (r : Option A) → find t xs ≡ r → P (get_or r o)
      go none e = p
      go (some y) e = h y (find-some t xs y e).0
