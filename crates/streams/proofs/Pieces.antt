-- A text that a program writes a piece at a time: what stands on the output before each piece is the pieces before it, joined; at the end that is the
-- text, and where writing fails a beginning of it. Assumes nothing.
use Rattle.std.proofs.Common.{◌≡◌, ℕ, zero, suc, ◌+◌, ◌-◌, ◌<◌, List, [], ◌++◌, Option, sym, ap, ◌∙◌, subst, arith, append-nil, zero-add}
use Rattle.std.specs.Io.KnownBytes.{Appends}
use Rattle.std.proofs.KnownBytes.{Appends-nil, Appends-trans}
use Rattle.text.proofs.Runs.{run-add}
use Rattle.streams.specs.Moved.{AppendsStart}
use Rattle.streams.proofs.Moved.{start-part}

-- `from i n` is the n pieces from i on
module _ (from : ℕ → ℕ → List ℕ) (piece : ℕ → List ℕ) (none : (i : ℕ) → from i zero ≡ []) (more : (i n : ℕ) → from i (suc n) ≡ piece i ++ from (suc i) n) where
  -- before the first
  pub printed-none : (a : Option (List ℕ)) (i : ℕ) → i ≡ 0 → Appends a a (from 0 i)
  printed-none a i z = subst (Appends a a) (sym (ap (from 0) z ∙ none 0)) (Appends-nil a)

  module _ (a b c : Option (List ℕ)) (i : ℕ) (given : Appends a b (from 0 i)) where
    -- piece i was written
    pub printed-next : (n : ℕ) → n ≡ i + 1 → Appends b c (piece i) → Appends a c (from 0 n)
    printed-next n e p =
        let one : from (0 + i) 1 ≡ piece i = ap (λ k. from k 1) (zero-add i) ∙ more i 0 ∙ ap (λ t. piece i ++ t) (none (suc i)) ∙ append-nil (piece i) in
        let all : from 0 i ++ piece i ≡ from 0 n = ap (λ t. from 0 i ++ t) (sym one) ∙ run-add from piece none more 0 i 1 ∙ ap (from 0) (sym e) in
        subst (Appends a c) all (Appends-trans a b c _ _ given p)

    -- a beginning of piece i was, of m pieces that are the text
    pub printed-start : (m : ℕ) (text : List ℕ) → i < m → from 0 i ++ from i (m - i) ≡ text → AppendsStart b c (piece i) → AppendsStart a c text
    printed-start m text h e p =
        let n : m - i ≡ suc (m - (i + 1)) = omega (arith, h) in
        let s : text ≡ from 0 i ++ (piece i ++ from (suc i) (m - (i + 1))) =
        sym e ∙ ap (λ t. from 0 i ++ t) (ap (from i) n ∙ more i (m - (i + 1))) in
        start-part a b c (from 0 i) (piece i) (from (suc i) (m - (i + 1))) text s given p
