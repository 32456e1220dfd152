-- A text in pieces that are numbered: of a run of them, n from i on, joined one after another, by its two equations. Assumes nothing.
use mathlib.Core.Path.{◌≡◌, sym, ap, ap₂, ◌∙◌}
use mathlib.Core.List.{List, [], ◌++◌, append_assoc}
use Prim.Native.Nat.{ℕ, zero, suc, ◌+◌, ◌-◌, ◌≤◌, ◌<◌}
use native.Mathlib.Omega.{arith}

module _ (run : ℕ → ℕ → List ℕ) (piece : ℕ → List ℕ)
    (none : (i : ℕ) → run i 0 ≡ []) (more : (i n : ℕ) → run i (suc n) ≡ piece i ++ run (suc i) n) where
  -- i pieces, and then n more
  pub run-add : (a i n : ℕ) → run a i ++ run (a + i) n ≡ run a (i + n)
  run-add a zero n =
      ap (λ (l : List ℕ). l ++ run (a + 0) n) (none a)
      ∙ ap₂ run (let e : a + 0 ≡ a = omega arith in e) (let e : n ≡ 0 + n = omega arith in e)
  run-add a (suc i) n =
      let s : a + suc i ≡ suc a + i = omega arith in
      let m : suc (i + n) ≡ suc i + n = omega arith in
      ap (λ (l : List ℕ). l ++ run (a + suc i) n) (more a i)
      ∙ append_assoc (piece a) (run (suc a) i) (run (a + suc i) n)
      ∙ ap (λ (l : List ℕ). piece a ++ l) (ap (λ (k : ℕ). run (suc a) i ++ run k n) s ∙ run-add (suc a) i n)
      ∙ sym (more a (i + n))
      ∙ ap (run a) m

  -- of n from the start: i, and then the rest
  pub run-rest : (i n : ℕ) → i ≤ n → run 0 i ++ run i (n - i) ≡ run 0 n
  run-rest i n h =
      let e : i ≡ 0 + i = omega arith in
      let m : i + (n - i) ≡ n = omega (arith, h) in
      ap (λ (k : ℕ). run 0 i ++ run k (n - i)) e ∙ run-add 0 i (n - i) ∙ ap (run 0) m

  -- pieces with no bytes
  pub run-empty : (a n : ℕ) → ((i : ℕ) → a ≤ i → i < a + n → piece i ≡ []) → run a n ≡ []
  run-empty a zero h = none a
  run-empty a (suc n) h =
      more a n ∙ ap₂ ◌++◌ (h a (omega arith) (omega arith)) (run-empty (suc a) n (λ i l m. h i (omega arith) (omega arith)))
