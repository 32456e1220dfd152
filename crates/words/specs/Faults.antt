-- The faults that any call can have, paper 01, "When a call declines", each for every input. Assumes nothing.
use Rattle.std.specs.Prelude.{ℕ, Bool, ◌&&◌, List, ◌==◌, nat_le}
use Rattle.words.specs.declared.Params.{Params}
use Rattle.words.specs.Params.{params_ok}
use Rattle.words.specs.Refusal.{first, unless, PARAMETERS, LENGTH, WIDE_WORD}
use Rattle.words.specs.Word.{in_width, all_in_width}

-- "k, d, n, t [..] is outside its range"
unfoldable pub params_fault : Params → ℕ
params_fault p = unless (params_ok p) PARAMETERS

-- "a lent list or output is not exactly the length its call needs"
unfoldable pub length_fault : ℕ → ℕ → ℕ
length_fault needed n = unless (n == needed) LENGTH

-- "a word used by the call is 2^k or more"
unfoldable pub width_fault : ℕ → List ℕ → ℕ
width_fault k s = unless (all_in_width k s) WIDE_WORD

-- the signed reading of a word into an output of n words, which is to have one: "k, the bits in a word, 1 to 64"
unfoldable pub bits_ok : ℕ → Bool
bits_ok k = nat_le 1 k && nat_le k 64

unfoldable pub signed_fault : ℕ → ℕ → ℕ → ℕ
unfolding first length_fault bits_ok
signed_fault k w n = first (unless (bits_ok k) PARAMETERS) (first (length_fault 1 n) (unless (in_width k w) WIDE_WORD))
