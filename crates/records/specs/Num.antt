-- Little-endian numbers in a list of bytes, paper 01, "Bytes of a file": "all little-endian". Assumes nothing.
use Rattle.std.specs.Prelude.{ℕ, zero, suc, ◌+◌, ◌*◌, ◌/◌, ◌%◌, ◌<◌, List, [], ◌∷◌, get_or, take, drop}

-- every element is a byte
abbrev pub Bytes : List ℕ → Type 0
Bytes bs = (i : ℕ) → get_or bs i 0 < 256

-- the n bytes from position a, or as many of them as there are
unfoldable pub part : ℕ → ℕ → List ℕ → List ℕ
part a n bs = take n (drop a bs)

-- the number that bytes spell, lowest first
unfoldable pub le_num : List ℕ → ℕ
le_num [] = 0
le_num (b ∷ bs) = b + 256 * le_num bs

-- the number in the w bytes from position a
unfoldable pub le_at : ℕ → List ℕ → ℕ → ℕ
le_at w bs a = le_num (part a w bs)

-- a number as w bytes, lowest first
unfoldable pub le_bytes : ℕ → ℕ → List ℕ
le_bytes zero x = []
le_bytes (suc w) x = x % 256 ∷ le_bytes w (x / 256)
