-- Bit i of `^`, `&` and `|`, as the field of two elements has it, and of a bit put under a word. Assumes nothing.
use mathlib.Core.Path.{◌≡◌, refl, sym, ap, ◌∙◌}
use Prim.Native.Nat.{ℕ, zero, suc, ◌+◌, ◌*◌, ◌/◌, ◌%◌, ◌^◌, ◌≤◌, max}
use native.Mathlib.Nat.{zero-mul, one-mul, zero-div, div-div-eq-div-mul, pow-succ'}
use native.Mathlib.Omega.{arith}
use lib.Bits.{bit_and, bit_or, bit_xor, xor_shr, and_shr, or_shr, and_mod, or_mod, xor_add_and}
use Rattle.words.specs.Word.{add_w, neg_w, sub_w, mul_w}
use Rattle.galois.specs.Element.{down_w, plus_w}
use Rattle.sliced.specs.Lane.{under}

-- bit i of a word
abbrev pub bit : ℕ → ℕ → ℕ
bit i w = w / 2 ^ i % 2

pub zero_bit : (i : ℕ) → bit i 0 ≡ 0
zero_bit i = rw zero-div

-- what holds of 0 and 1 holds of a bit
pub bit-cases : (P : ℕ → Type 0) → P 0 → P 1 → (x : ℕ) → x ≤ 1 → P x
bit-cases P p q zero h = p
bit-cases P p q (suc zero) h = q
bit-cases P p q (suc (suc x)) h = absurd (omega arith)

bits-cases : (P : ℕ → ℕ → Type 0) → P 0 0 → P 0 1 → P 1 0 → P 1 1 → (x y : ℕ) → x ≤ 1 → y ≤ 1 → P x y
bits-cases P a b c e x y h l = bit-cases (λ z. P z y) (bit-cases (P 0) a b y l) (bit-cases (P 1) c e y l) x h

pub xor-bit : (x y i : ℕ) → bit i (bit_xor x y) ≡ add_w 1 (bit i x) (bit i y)
unfolding add_w
xor-bit x y i =
    let p = x / 2 ^ i in
    let q = y / 2 ^ i in
    ap (λ (n : ℕ). n % 2) (xor_shr x y i) ∙ omega (arith, xor_add_and p q)

pub and-bit : (x y i : ℕ) → bit i (bit_and x y) ≡ mul_w 1 (bit i x) (bit i y)
unfolding mul_w
and-bit x y i =
    let p = x / 2 ^ i in
    let q = y / 2 ^ i in
    ap (λ (n : ℕ). n % 2) (and_shr x y i)
    ∙ and_mod p q 1
    ∙ bits-cases (λ b c. bit_and b c ≡ (b * c) % 2) refl refl refl refl (p % 2) (q % 2) (omega arith) (omega arith)

pub or-bit : (x y i : ℕ) → bit i (bit_or x y) ≡ max (bit i x) (bit i y)
or-bit x y i =
    let p = x / 2 ^ i in
    let q = y / 2 ^ i in
    ap (λ (n : ℕ). n % 2) (or_shr x y i)
    ∙ or_mod p q 1
    ∙ bits-cases (λ b c. bit_or b c ≡ max b c) refl refl refl refl (p % 2) (q % 2) (omega arith) (omega arith)

-- modulo 2 the difference is the sum, and a product by a coefficient 0 or 1 takes the word or leaves it
pub down-bit : (top x m i : ℕ) → m ≤ 1 → bit i (bit_xor x (m * top)) ≡ down_w 1 (bit i top) (bit i x) m
unfolding add_w sub_w neg_w mul_w
down-bit top x m i h = xor-bit x (m * top) i ∙ bit-cases P zeros ones m h
  where
    P : ℕ → Type 0
    P n = add_w 1 (bit i x) (bit i (n * top)) ≡ down_w 1 (bit i top) (bit i x) n

    zeros : P 0
    zeros = rw (zero-mul, zero-div) (omega arith)

    ones : P 1
    ones = rw one-mul (omega arith)

pub plus-bit : (c x y i : ℕ) → bit i (bit_xor x (bit_and c y)) ≡ plus_w 1 (bit i c) (bit i x) (bit i y)
plus-bit c x y i = xor-bit x (bit_and c y) i ∙ ap (add_w 1 (bit i x)) (and-bit c y i)

-- a bit x put under a word: it is bit 0, and the others move up one place
pub under_low : (x w : ℕ) → x ≤ 1 → bit 0 (under x w) ≡ x
under_low x w h = omega arith

pub under-high : (x w i : ℕ) → x ≤ 1 → bit (suc i) (under x w) ≡ bit i w
under-high x w i h =
    let e : (x + 2 * w) / 2 ≡ w = omega arith in
    ap (λ (n : ℕ). (x + 2 * w) / n % 2) (pow-succ' 2 i)
    ∙ ap (λ (n : ℕ). n % 2) (sym (div-div-eq-div-mul (x + 2 * w) 2 (2 ^ i)) ∙ ap (λ (n : ℕ). n / 2 ^ i) e)
