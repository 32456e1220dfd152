-- The bits of what a polynomial leaves of shares, all words' bits together (`bits_of`, `bits_of_all`): where they are zero nothing is left; below
-- the lowest of them no share differs from the polynomial, and at it some share does (`lowest`). Assumes nothing.
use mathlib.Core.Path.{◌≡◌, refl, sym, ◌∙◌, ap, ap₂}
use mathlib.Core.Bool.{true, ◌&&◌}
use mathlib.Core.List.{List, [], ◌∷◌, ◌++◌, map}
use Prim.Native.Nat.{ℕ, zero, suc, ◌-◌, ◌/◌, ◌%◌, ◌^◌, ◌≤◌, ◌<◌}
use native.Mathlib.Nat.{pow-le-pow_right, zero-div}
use native.Mathlib.Omega.{arith}
use lib.Bits.{bit_or, or_zero_l, or_zero_r, or_lt, xor_zero_r}
use lib.Pow.{pow_pos}
use lib.ListN.{length, take, get_or}
use Rattle.words.specs.Word.{in_width, all_in_width}
use Rattle.words.proofs.Width.{in-width-lt, lt-in-width, or-width}
use Rattle.algebra.specs.Shares.{All}
use Rattle.galois.specs.Element.{Element, zero_e, held}
use Rattle.galois.proofs.Zip.{six-words}
use Rattle.galois.proofs.Held.{zeros-after, held_same, held-length}
use Rattle.comparison.specs.Comparison.{gap}
use Rattle.comparison.proofs.Compared.{or-zero, or-below, or-clear, trailing, bit-room}
use Rattle.codewords.specs.Codeword.{Share, Polynomial}
use Rattle.codewords.specs.Residue.{residue, left, bit_of, AgreeBelow}
use Rattle.codewords.specs.WellFormed.{IsElement}
use Rattle.rounds.specs.Found.{lowest_bit}
use Rattle.rounds.specs.Residues.{bits_of, bits_of_all}

-- an element's words together
pub bits-zero : (a : Element) → bits_of a ≡ 0 → a ≡ zero_e (length a)
unfolding bits_of
bits-zero [] h = refl
bits-zero (w ∷ a) h = let z = or-zero w (bits_of a) h in ap₂ ◌∷◌ z.0 (bits-zero a z.1)

pub zero_bits : (n : ℕ) → bits_of (zero_e n) ≡ 0
unfolding bits_of
zero_bits zero = refl
zero_bits (suc n) = or_zero_l (bits_of (zero_e n)) ∙ zero_bits n

-- they are the bits at which it differs from zero
pub bits-gap : (a : Element) → gap a (zero_e (length a)) ≡ bits_of a
unfolding gap bits_of
bits-gap [] = refl
bits-gap (w ∷ a) = ap₂ bit_or (xor_zero_r w) (bits-gap a)

bits_below : (v : ℕ) (a : Element) → bits_of a % 2 ^ v ≡ 0 → All (λ w. w % 2 ^ v ≡ 0) a
unfolding bits_of
bits_below v [] h = tt
bits_below v (w ∷ a) h = let z = or-below w (bits_of a) v h in (z.0, bits_below v a z.1)

bits-clear : (v : ℕ) (a : Element) → All (λ b. b ≡ 0) (bit_of v a) → bits_of a / 2 ^ v % 2 ≡ 0
unfolding bits_of bit_of
bits-clear v [] h = rw (zero-div (2 ^ v))
bits-clear v (w ∷ a) h = or-clear w (bits_of a) v h.0 (bits-clear v a h.1)

bits-in-width : (k : ℕ) (a : Element) → in_width k (bits_of a) ≡ all_in_width k a
unfolding bits_of all_in_width
bits-in-width k [] = lt-in-width k 0 (pow_pos k)
bits-in-width k (w ∷ a) = or-width k w (bits_of a) ∙ ap (λ b. in_width k w && b) (bits-in-width k a)

bits-width : (k : ℕ) (a : Element) → all_in_width k a ≡ true → bits_of a < 2 ^ k
bits-width k a h = in-width-lt k (bits_of a) (bits-in-width k a ∙ h)

-- in an array of six: zeros after the words have no bits
bits-after : (a : Element) (n : ℕ) → bits_of (a ++ zero_e n) ≡ bits_of a
unfolding bits_of
bits-after [] n = zero_bits n
bits-after (w ∷ a) n = ap (bit_or w) (bits-after a n)

pub bits-held : (d : ℕ) (a : Element) → d ≤ 6 → bits_of (held d a) ≡ bits_of (take d a)
bits-held d a h = ap (λ (z : Element). bits_of (take d a ++ z)) (zeros-after d h) ∙ bits-after (take d a) (6 - d)

abbrev pub six_bits : Element → ℕ
six_bits u = bit_or (get_or u 0 0) (bit_or (get_or u 1 0) (bit_or (get_or u 2 0) (bit_or (get_or u 3 0) (bit_or (get_or u 4 0) (get_or u 5 0)))))

six-bits : (u : Element) → length u ≡ 6 → six_bits u ≡ bits_of u
unfolding bits_of
six-bits u h =
    ap (λ x. bit_or (get_or u 0 0) (bit_or (get_or u 1 0) (bit_or (get_or u 2 0) (bit_or (get_or u 3 0) (bit_or (get_or u 4 0) x)))))
    (sym (or_zero_r (get_or u 5 0)))
    ∙ ap bits_of (sym (six-words u h))

-- the first d words of an array are in width exactly when all six together are, with zeros after the d
pub width-six : (k d : ℕ) (a : Element) → d ≤ 6 → length (take d a) ≡ d → in_width k (six_bits (held d a)) ≡ all_in_width k (take d a)
width-six k d a h l =
    ap (in_width k)
    (six-bits (held d a) (ap length (held_same d a (take d a) refl l) ∙ held-length d (take d a) l h) ∙ bits-held d a h)
    ∙ bits-in-width k (take d a)

-- all shares together
module _ (k d : ℕ) (p : Polynomial) where
  abbrev left_bits : List Share → ℕ
  left_bits ss = bits_of_all (map (left k d p) ss)

  all-below : (v : ℕ) (ss : List Share) → left_bits ss % 2 ^ v ≡ 0 → AgreeBelow k d p v ss
  unfolding bits_of_all
  all-below v [] h = tt
  all-below v (s ∷ ss) h =
      let z = or-below (left_bits ss) (bits_of (residue k d p s)) v h in
      (bits_below v (residue k d p s) z.1, all-below v ss z.0)

  all-clear : (v : ℕ) (ss : List Share) → All (λ s. All (λ b. b ≡ 0) (bit_of v (residue k d p s))) ss → left_bits ss / 2 ^ v % 2 ≡ 0
  unfolding bits_of_all
  all-clear v [] h = rw (zero-div (2 ^ v))
  all-clear v (s ∷ ss) h = or-clear (left_bits ss) (bits_of (residue k d p s)) v (all-clear v ss h.1) (bits-clear v (residue k d p s) h.0)

  pub all-width : (ss : List Share) → All (λ s. IsElement k d (residue k d p s)) ss → left_bits ss < 2 ^ k
  unfolding bits_of_all
  all-width [] h = pow_pos k
  all-width (s ∷ ss) h = or_lt k (left_bits ss) (bits_of (residue k d p s)) (all-width ss h.1) (bits-width k (residue k d p s) h.0.1)

  pub all-zero : (ss : List Share) → left_bits ss ≡ 0 → All (λ s. bits_of (residue k d p s) ≡ 0) ss
  unfolding bits_of_all
  all-zero [] h = tt
  all-zero (s ∷ ss) h = let z = or-zero (left_bits ss) (bits_of (residue k d p s)) h in (z.1, all-zero ss z.0)

  -- the lowest bit at which a share differs
  pub record Lowest (ss : List Share) (v : ℕ) : Type 0 where
    pub room : v < k
    pub agree : AgreeBelow k d p v ss
    pub set : All (λ s. All (λ b. b ≡ 0) (bit_of v (residue k d p s))) ss → ⊥

  pub lowest : (ss : List Share) → All (λ s. IsElement k d (residue k d p s)) ss → k ≤ 64 → 0 < left_bits ss →
      Lowest ss (lowest_bit k d p ss)
  lowest ss h l z =
      let n = left_bits ss in
      let v = lowest_bit k d p ss in
      let w : n < 2 ^ k = all-width ss h in
      let q : 2 ^ k ≤ 2 ^ 64 = pow-le-pow_right (omega arith) l in
      let t = trailing 64 n z (omega (arith, w, q)) in
      record {
        room = bit-room k n v w t.1;
        agree = all-below v ss t.0;
        set = λ c. absurd (omega (arith, t.1, all-clear v ss c));
      }
