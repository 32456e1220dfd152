-- Numbers with a sign, whole and in hundredths: the parts that are written one after another, and how long they are at most. Assumes nothing.
use mathlib.Core.Path.{◌≡◌, sym}
use mathlib.Core.Bool.{Bool, true, false}
use mathlib.Core.List.{[], ◌∷◌, ◌++◌, append_assoc}
use Prim.Native.Nat.{◌+◌, ◌/◌, ◌%◌, ◌^◌, ◌≤◌}
use native.Mathlib.Omega.{arith}
use lib.ListN.{length, length-append}
use Rattle.words.specs.declared.Signed.{Signed}
use Rattle.decimal.specs.Decimal.{ascii, decimal, sign, signed_text, hundredths_text}
use Rattle.decimal.proofs.Decimal.{twenty}

-- a minus sign, or none
pub sign-yes : (b : Bool) → b ≡ true → sign b ≡ 45 ∷ []
unfolding sign
sign-yes b e = rw e

pub sign-no : (b : Bool) → b ≡ false → sign b ≡ []
unfolding sign
sign-no b e = rw e

pub sign-length : (b : Bool) → length (sign b) ≤ 1
unfolding sign
sign-length true = omega arith
sign-length false = omega arith

pub signed-size : (s : Signed) → length (signed_text s) ≡ length (sign s.negative) + length (decimal s.magnitude)
unfolding signed_text
signed-size s = length-append (sign s.negative) (decimal s.magnitude)

pub signed-length : (s : Signed) → s.magnitude ≤ 2 ^ 64 → length (signed_text s) ≤ 21
signed-length s h = omega (arith, signed-size s, sign-length s.negative, twenty s.magnitude h)

-- the last two digits, one after the other
pub hundredths-parts : (s : Signed) → hundredths_text s
    ≡ sign s.negative ++ decimal (s.magnitude / 100) ++ ascii "." ++ (48 + s.magnitude / 10 % 10) ∷ [] ++ (48 + s.magnitude % 10) ∷ []
unfolding hundredths_text
hundredths-parts s =
    let whole = sign s.negative ++ decimal (s.magnitude / 100) ++ ascii "." in
    sym (append_assoc whole ((48 + s.magnitude / 10 % 10) ∷ []) ((48 + s.magnitude % 10) ∷ []))

pub hundredths-size : (s : Signed) → length (hundredths_text s) ≡ length (sign s.negative) + length (decimal (s.magnitude / 100)) + 3
unfolding hundredths_text
hundredths-size s =
    let a = sign s.negative in
    let b = decimal (s.magnitude / 100) in
    omega (
      arith,
      length-append a b,
      length-append (a ++ b) (ascii "."),
      length-append (a ++ b ++ ascii ".") ((48 + s.magnitude / 10 % 10) ∷ (48 + s.magnitude % 10) ∷ []),
    )

pub hundredths-length : (s : Signed) → s.magnitude ≤ 2 ^ 64 → length (hundredths_text s) ≤ 24
hundredths-length s h = omega (arith, hundredths-size s, sign-length s.negative, twenty (s.magnitude / 100) (omega arith))
