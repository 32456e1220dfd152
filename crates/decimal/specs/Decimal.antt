-- Numbers as text: decimal digits, a minus sign, two decimals. For the listing, the report of `mend` and job text. Assumes nothing.
use Rattle.std.specs.Prelude.{ℕ, zero, suc, ◌+◌, ◌/◌, ◌%◌, Bool, cond, List, [], ◌∷◌, ◌++◌, length, take, drop}
use Prim.Native.Char.{code}
use Prim.Native.String.{String, [] as []ₛ, ◌∷◌ as ◌∷ₛ◌}
use Rattle.words.specs.declared.Signed.{Signed}

-- the bytes of an ASCII text
abbrev pub ascii : String → List ℕ
ascii []ₛ = []
ascii (c ∷ₛ s) = code c ∷ ascii s

-- a buffer with a text written over it from a position on
abbrev pub written : ℕ → List ℕ → List ℕ → List ℕ
written at text old = take at old ++ text ++ drop (at + length text) old

-- "Numbers in this paper are decimal": the digits of a number, none of 0, and no more than n
unfoldable pub digits : ℕ → ℕ → List ℕ
digits zero x = []
digits (suc n) zero = []
digits (suc n) (suc x) = digits n (suc x / 10) ++ (48 + suc x % 10) ∷ []

-- and a last digit in any case
unfoldable pub decimal : ℕ → List ℕ
unfolding digits
decimal x = digits x (x / 10) ++ (48 + x % 10) ∷ []

-- "A minus sign stands only before a negative value" (paper 02, K6)
unfoldable pub sign : Bool → List ℕ
sign negative = cond negative (ascii "-") []

-- "the signed words"
unfoldable pub signed_text : Signed → List ℕ
unfolding sign decimal
signed_text s = sign s.negative ++ decimal s.magnitude

-- a number of hundredths with "exactly two decimals. [..] No leading zeros, but at least one digit, before any point" (paper 02, K6)
unfoldable pub hundredths_text : Signed → List ℕ
unfolding sign decimal
hundredths_text s =
    sign s.negative ++ decimal (s.magnitude / 100) ++ ascii "." ++ (48 + s.magnitude / 10 % 10) ∷ (48 + s.magnitude % 10) ∷ []
