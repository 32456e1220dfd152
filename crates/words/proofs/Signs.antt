-- The signed reading in two's complement, by its sign; and what is known of a word where the call that reads it does not decline. Assumes
-- nothing.
use Rattle.std.proofs.Common.{◌≡◌, ℕ, ◌-◌, ◌^◌, ◌<◌, ◌≤◌, true, false, ltb, leb, sym, refl, ap, ◌∙◌, arith, lit<, eqb-true, leb-true}
use Rattle.words.specs.Faults.{bits_ok, length_fault, signed_fault}
use Rattle.words.specs.Refusal.{unless}
use Rattle.words.specs.Signed.{signed_of, twos_complement}
use Rattle.words.specs.declared.Signed.{Signed}
use Rattle.words.specs.Word.{in_width}
use Rattle.words.proofs.Refusals.{first-left, first-right, unless-held}
use Rattle.words.proofs.Tests.{true-false, bool_cases, and_left, and_right}
use Rattle.words.proofs.Width.{in-width-lt}

module _ (k w : ℕ) (s : Signed) (e : s ≡ signed_of k w) where
  pub positive-is : s.negative ≡ false → s.magnitude ≡ twos_complement (signed_of k w)
  unfolding twos_complement
  positive-is n = rw (sym e, n)

  module _ (l : w < 2 ^ k) (n : s.negative ≡ true) where
    -- a negative value is not zero
    pub some : 1 ≤ s.magnitude
    unfolding signed_of
    some =
        bool_cases (ltb w (2 ^ (k - 1)))
        (λ t. (let q : s.negative ≡ false = ap (λ (x : Signed). x.negative) e ∙ rw t in true-false (sym n ∙ q)))
        (λ t. (let q : s.magnitude ≡ 2 ^ k - w = ap (λ (x : Signed). x.magnitude) e ∙ rw t in omega (arith, q, l)))

    pub negative-is : 18446744073709551615 - (s.magnitude - 1) ≡ twos_complement (signed_of k w)
    unfolding twos_complement
    negative-is =
        let t : twos_complement s ≡ 2 ^ 64 - s.magnitude = rw n in
        omega (arith, some, t ∙ refl) ∙ ap twos_complement e

pub bits-in-range : (k : ℕ) → bits_ok k ≡ true → (1 ≤ k) × (k ≤ 64)
unfolding bits_ok
bits-in-range k b = (leb-true 1 k (and_left (leb 1 k) (leb k 64) b), leb-true k 64 (and_right (leb 1 k) (leb k 64) b))

-- an output of one word and a word of k bits
pub record SignedClear (k w n : ℕ) : Type 0 where
  pub low : 1 ≤ k
  pub high : k ≤ 64
  pub one : n ≡ 1
  pub narrow : w < 2 ^ k

pub signed-clear : (k w n : ℕ) → signed_fault k w n ≡ 0 → SignedClear k w n
unfolding signed_fault length_fault bits_ok
signed-clear k w n e =
    let b = bits-in-range k (unless-held (bits_ok k) 1 (lit< tt) (first-left (unless (bits_ok k) 1) _ e)) in
    let r = first-right (unless (bits_ok k) 1) _ e in
    record {
      low = b.0;
      high = b.1;
      one = eqb-true n 1 (unless-held _ 2 (lit< tt) (first-left (length_fault 1 n) _ r));
      narrow = in-width-lt k w (unless-held (in_width k w) 3 (lit< tt) (first-right (length_fault 1 n) _ r));
    }
