-- Internal: the stored cases of a program, a line each: fields with bars between them, and a field is text, a number, or numbers with spaces
-- between them. Assumes nothing.
use Rattle.std.specs.Prelude.{◌≡◌, ℕ, zero, suc, ◌-◌, ◌≤◌, ◌==◌, List, [], ◌∷◌, ◌++◌, length, take, drop, codes, decimal}
use Rattle.std.specs.List.{position_or_len, flat_map}
use Rattle.words.specs.Word.{add_w, mul_w}

-- `&xs[..n]` is in bounds and has n elements. The second part follows from the first.
abbrev pub IsPrefixLen : ℕ → List ℕ → Type 0
IsPrefixLen n xs = (n ≤ length xs) × (n ≡ length (take n xs))

-- the position of the first byte b of a text, or its length
abbrev pub index_of : ℕ → List ℕ → ℕ
index_of b text = position_or_len (λ c. c == b) text

-- what stands before the first byte b of a text, and what stands after it
abbrev pub before : ℕ → List ℕ → List ℕ
before b text = take (index_of b text) text

abbrev pub after : ℕ → List ℕ → List ℕ
after b text = drop (suc (index_of b text)) text

-- a line from its field i on; bars are bytes 124
unfoldable pub fields_from : ℕ → List ℕ → List ℕ
fields_from zero line = line
fields_from (suc i) line = after 124 (fields_from i line)

unfoldable pub field_of : ℕ → List ℕ → List ℕ
unfolding fields_from
field_of i line = before 124 (fields_from i line)

-- a number of 64 bits and the decimal digits after it
unfoldable pub number_from : ℕ → List ℕ → ℕ
number_from x [] = x
number_from x (c ∷ cs) = number_from (add_w 64 (mul_w 64 x 10) (c - 48)) cs

-- the first n numbers of a text; spaces are bytes 32
unfoldable pub numbers_of : ℕ → List ℕ → List ℕ
unfolding number_from
numbers_of zero text = []
numbers_of (suc n) [] = []
numbers_of (suc n) (c ∷ cs) = number_from 0 (before 32 (c ∷ cs)) ∷ numbers_of n (after 32 (c ∷ cs))

-- what is printed for a number, a space and its digits; for a list of them, with the end of the line, byte 10
abbrev pub spaced : ℕ → List ℕ
spaced x = codes " " ++ decimal x

abbrev pub spaced_line : List ℕ → List ℕ
spaced_line xs = flat_map spaced xs ++ 10 ∷ []
