-- What the calls on lent elements have in common: what no fault tells, one operand is a pair of the same, and what the output holds. Assumes
-- nothing.
use mathlib.Core.Path.{◌≡◌, sym, ap, ◌∙◌}
use mathlib.Core.List.{List, ◌++◌}
use Prim.Native.Nat.{ℕ, ◌+◌}
use lib.ListN.{length, take, drop}
use Rattle.words.specs.declared.Params.{Params}
use Rattle.words.specs.Refusal.{first, kept}
use Rattle.words.proofs.Refusals.{first-left, first-right, first-twice, first-same, kept-none}
use Rattle.words.proofs.Faults.{params-clear, length-clear}
use Rattle.words.proofs.InRange.{InRange}
use Rattle.words.specs.Faults.{params_fault, length_fault, width_fault}
use Rattle.galois.specs.Element.{held}
use Rattle.ring.proofs.Stored.{stored}
use Rattle.arithmetic.specs.Calls.{operand_fault, operands_fault}

-- a call with no fault
pub record Clear (p : Params) (a b : List ℕ) (n : ℕ) : Type 0 where
  pub range : InRange p
  pub a-length : length a ≡ p.d
  pub b-length : length b ≡ p.d
  pub out-length : n ≡ p.d

pub clear : (p : Params) (a b : List ℕ) (n : ℕ) → operands_fault p a b n ≡ 0 → Clear p a b n
unfolding operands_fault
clear p a b n e =
    let e₂ = first-right (params_fault p) _ e in
    let e₃ = first-right (length_fault p.d (length a)) _ e₂ in
    let e₄ = first-right (length_fault p.d (length b)) _ e₃ in
    record {
      range = params-clear p (first-left (params_fault p) _ e);
      a-length = length-clear p.d (length a) (first-left (length_fault p.d (length a)) _ e₂);
      b-length = length-clear p.d (length b) (first-left (length_fault p.d (length b)) _ e₃);
      out-length = length-clear p.d n (first-left (length_fault p.d n) _ e₄);
    }

-- one operand is a pair of the same
pub one-operand : (p : Params) (a : List ℕ) (n : ℕ) → operands_fault p a a n ≡ operand_fault p a n
unfolding operands_fault operand_fault
one-operand p a n =
    let l = length_fault p.d (length a) in
    let w = width_fault p.k a in
    ap (λ (x : ℕ). first (params_fault p) (first l (first l (first (length_fault p.d n) x)))) (first-same w)
    ∙ ap (first (params_fault p)) (first-twice l (first (length_fault p.d n) w))

-- without a fault f the result w is stored over the output
module _ (f : ℕ) (out w : List ℕ) where
  pub wrote : (d : ℕ) (v last : List ℕ) → f ≡ 0 → length out ≡ d → length w ≡ d → v ≡ held d w →
      last ≡ take 0 out ++ take d v ++ drop (0 + d) out → (0 ≡ f) × (last ≡ kept f out w)
  wrote d v last z ho hw e x = (sym z, x ∙ stored d out v w ho e hw ∙ sym (kept-none f out w z))
