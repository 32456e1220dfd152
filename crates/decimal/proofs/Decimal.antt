-- The decimal digits of a number. Assumes nothing.
use mathlib.Core.Path.{◌≡◌, refl, ap, ◌∙◌}
use mathlib.Core.List.{List, [], ◌∷◌, ◌++◌}
use Prim.Native.Nat.{ℕ, zero, suc, ◌+◌, ◌-◌, ◌*◌, ◌/◌, ◌%◌, ◌^◌, ◌≤◌, ◌<◌}
use native.Mathlib.Nat.{mod-eq_of_lt, div-eq_of_lt, not-suc-le-zero, pow-suc}
use native.Mathlib.Omega.{arith}
use lib.ListN.{length, length-append}
use Rattle.decimal.specs.Decimal.{digits, decimal}

-- a bound that is large enough does not matter
digits_same : (n m x : ℕ) → x ≤ n → x ≤ m → digits n x ≡ digits m x
unfolding digits
digits_same zero zero x h k = refl
digits_same zero (suc m) zero h k = refl
digits_same zero (suc m) (suc x) h k = absurd (not-suc-le-zero h)
digits_same (suc n) zero zero h k = refl
digits_same (suc n) zero (suc x) h k = absurd (not-suc-le-zero k)
digits_same (suc n) (suc m) zero h k = refl
digits_same (suc n) (suc m) (suc x) h k =
    ap (λ (l : List ℕ). l ++ (48 + suc x % 10) ∷ []) (digits_same n m (suc x / 10) (omega arith) (omega arith))

-- the digits before the last one: none, or those of a tenth
pub front-none : (x : ℕ) → x < 10 → digits x (x / 10) ≡ []
unfolding digits
front-none zero h = refl
front-none (suc x) h = rw (div-eq_of_lt h) refl

pub front-some : (x : ℕ) → 10 ≤ x → digits x (x / 10) ≡ decimal (x / 10)
unfolding decimal digits
front-some x h = front x (x / 10) (omega arith) (omega arith)
  where
    front : (n y : ℕ) → 0 < y → y ≤ n → digits n y ≡ digits y (y / 10) ++ (48 + y % 10) ∷ []
    front zero y p q = absurd (omega arith)
    front (suc n) zero p q = absurd (not-suc-le-zero p)
    front (suc n) (suc y) p q =
        ap (λ (l : List ℕ). l ++ (48 + suc y % 10) ∷ []) (digits_same n (suc y) (suc y / 10) (omega arith) (omega arith))

pub decimal-small : (x : ℕ) → x < 10 → decimal x ≡ (48 + x) ∷ []
unfolding decimal
decimal-small x h = rw (front-none x h, mod-eq_of_lt h) refl

pub decimal-large : (x : ℕ) → 10 ≤ x → decimal x ≡ decimal (x / 10) ++ (48 + x % 10) ∷ []
unfolding decimal
decimal-large x h = ap (λ (l : List ℕ). l ++ (48 + x % 10) ∷ []) (front-some x h)

pub longer : (x : ℕ) → 10 ≤ x → length (decimal x) ≡ length (decimal (x / 10)) + 1
longer x h = ap length (decimal-large x h) ∙ length-append (decimal (x / 10)) ((48 + x % 10) ∷ [])

digits-length : (m n x : ℕ) → x < 10 ^ n → length (digits m x) ≤ n
unfolding digits
digits-length zero n x h = omega arith
digits-length (suc m) n zero h = omega arith
digits-length (suc m) zero (suc x) h = absurd (omega arith)
digits-length (suc m) (suc n) (suc x) h =
    let q : suc x < 10 ^ n * 10 = rw pow-suc at h in
    let i : length (digits m (suc x / 10)) ≤ n = digits-length m n (suc x / 10) (omega arith) in
    omega (arith, length-append (digits m (suc x / 10)) ((48 + suc x % 10) ∷ []))

-- a number below 10^(n + 1) has at most n + 1 digits, and at least one
pub decimal-length : (n x : ℕ) → x < 10 ^ suc n → length (decimal x) ≤ suc n
unfolding decimal
decimal-length n x h =
    let q : x < 10 ^ n * 10 = rw pow-suc at h in
    let i : length (digits x (x / 10)) ≤ n = digits-length x n (x / 10) (omega arith) in
    omega (arith, length-append (digits x (x / 10)) ((48 + x % 10) ∷ []))

pub twenty : (x : ℕ) → x ≤ 2 ^ 64 → length (decimal x) ≤ 20
twenty x h = decimal-length 19 x (omega arith)

-- the number that a text of digits stands for, after a number that stood before it
unfoldable pub value_after : ℕ → List ℕ → ℕ
value_after before [] = before
value_after before (c ∷ cs) = value_after (before * 10 + (c - 48)) cs

value-append : (before : ℕ) (a b : List ℕ) → value_after before (a ++ b) ≡ value_after (value_after before a) b
unfolding value_after
value-append before [] b = refl
value-append before (c ∷ cs) b = value-append (before * 10 + (c - 48)) cs b

digits_value : (n x : ℕ) → x ≤ n → value_after 0 (digits n x) ≡ x
unfolding digits value_after
digits_value zero x h = omega arith
digits_value (suc n) zero h = refl
digits_value (suc n) (suc x) h =
    let e : value_after 0 (digits n (suc x / 10)) ≡ suc x / 10 = digits_value n (suc x / 10) (omega arith) in
    value-append 0 (digits n (suc x / 10)) ((48 + suc x % 10) ∷ []) ∙ rw e (omega arith)

-- a number's digits stand for it
pub decimal-value : (x : ℕ) → value_after 0 (decimal x) ≡ x
unfolding decimal value_after
decimal-value x =
    let e : value_after 0 (digits x (x / 10)) ≡ x / 10 = digits_value x (x / 10) (omega arith) in
    value-append 0 (digits x (x / 10)) ((48 + x % 10) ∷ []) ∙ rw e (omega arith)
