-- What is known where the calls have no fault, and that the lengths they ask for are small. Assumes nothing.
use mathlib.Core.Path.{◌≡◌}
use mathlib.Core.Bool.{true}
use mathlib.Core.List.{List}
use Prim.Native.Nat.{ℕ, ◌*◌, ◌≤◌, ◌<◌}
use native.Mathlib.Nat.{mul-le-mul, lt_of_lt_of_le, pow-le-pow_right}
use lib.Pow.{pow_pos}
use lib.ListN.{length}
use Rattle.words.specs.Faults.{params_fault, length_fault, width_fault}
use Rattle.words.specs.Word.{all_in_width}
use Rattle.words.specs.declared.Params.{Params}
use Rattle.words.proofs.Faults.{params-clear, length-clear, width-clear}
use Rattle.words.proofs.InRange.{InRange}
use Rattle.words.proofs.Refusals.{first-left, first-right}
use Rattle.sharing.specs.Dealing.{deal_fault}

-- n and t are below 64, so that n and t times d are small
pub few-holders : (p : Params) → InRange p → p.n < 64
few-holders p r = lt_of_lt_of_le r.n-high (pow-le-pow_right (pow_pos 1) r.d-high)

pub few_words : (p : Params) → InRange p → (m : ℕ) → m ≤ 63 → m * p.d ≤ 378
few_words p r m h = mul-le-mul h r.d-high

-- dealing with no fault
pub record DealClear (p : Params) (secret coefficients : List ℕ) (n : ℕ) : Type 0 where
  pub range : InRange p
  pub secret-length : length secret ≡ p.d
  pub coefficients-length : length coefficients ≡ p.t * p.d
  pub out-length : n ≡ p.n * p.d
  pub secret-width : all_in_width p.k secret ≡ true
  pub coefficients-width : all_in_width p.k coefficients ≡ true

pub deal-clear : (p : Params) (secret coefficients : List ℕ) (n : ℕ) → deal_fault p secret coefficients n ≡ 0 → DealClear p secret coefficients n
unfolding deal_fault
deal-clear p s c n e₁ =
    let e₂ = first-right (params_fault p) _ e₁ in
    let e₃ = first-right (length_fault p.d (length s)) _ e₂ in
    let e₄ = first-right (length_fault (p.t * p.d) (length c)) _ e₃ in
    let e₅ = first-right (length_fault (p.n * p.d) n) _ e₄ in
    record {
      range = params-clear p (first-left (params_fault p) _ e₁);
      secret-length = length-clear p.d (length s) (first-left (length_fault p.d (length s)) _ e₂);
      coefficients-length = length-clear (p.t * p.d) (length c) (first-left (length_fault (p.t * p.d) (length c)) _ e₃);
      out-length = length-clear (p.n * p.d) n (first-left (length_fault (p.n * p.d) n) _ e₄);
      secret-width = width-clear p.k s (first-left (width_fault p.k s) _ e₅);
      coefficients-width = width-clear p.k c (first-right (width_fault p.k s) _ e₅);
    }
