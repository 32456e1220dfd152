-- Shares compared with zero, one by one: which of them are not zero, by their bits, a turn of the loop that collects these, and that rows of zeros
-- add nothing (`zero_same`, `bits-all`); and where they are what a polynomial leaves of shares, that these are the ones that differ from it
-- (`left-set`). Assumes nothing.
use mathlib.Core.Path.{◌≡◌, refl, sym, ◌∙◌, ap, ap₂}
use mathlib.Core.Bool.{true, false}
use mathlib.Core.List.{List, [], ◌∷◌, map}
use Prim.Native.Nat.{ℕ, zero, suc, ◌+◌, ◌-◌, ◌^◌, ◌≤◌, ◌<◌}
use native.Mathlib.Nat.{le_of_eq}
use native.Mathlib.Omega.{arith}
use lib.Bits.{bit_or, or_zero_r}
use lib.ListN.{length, take, get_or, replicate, length-replicate, get_or-replicate}
use lib.Seq.{take_all, get_or-take}
use Rattle.words.proofs.Tests.{bool_cases}
use Rattle.algebra.specs.Shares.{All}
use Rattle.galois.specs.Element.{Element, zero_e, held}
use Rattle.galois.proofs.Held.{zeros-held}
use Rattle.polynomial.specs.Polynomial.{Polynomial, value}
use Rattle.polynomial.specs.Rows.{Rows}
use Rattle.comparison.specs.Comparison.{unequal, apart}
use Rattle.comparison.proofs.Compared.{none-same, same_none, compared-held}
use Rattle.codewords.specs.Codeword.{Share, when, comparison, differs, errors, error_set}
use Rattle.codewords.specs.Residue.{residue, left}
use Rattle.codewords.specs.WellFormed.{IsElement, IsPoly, InWidth}
use Rattle.codewords.proofs.Residue.{residue-element, residue-zero}
use Rattle.codewords.proofs.Value.{rows_of}
use Rattle.codewords.proofs.Without.{reword}
use Rattle.level.specs.Shares.{share_at, shares_from}
use Rattle.level.proofs.Shares.{from_start, from_next}
use Rattle.rounds.specs.Residues.{bits_of, bits_of_all}
use Rattle.rounds.proofs.Lowest.{bits-zero, zero_bits, all-zero, bits-held}

-- words are not zero exactly when they have bits
zero-false : (n : ℕ) (w : Element) → length w ≡ n → bits_of w ≡ 0 → apart w (zero_e n) ≡ false
zero-false n w l z = ap unequal (same_none w (zero_e n) (bits-zero w z ∙ ap zero_e l))

zero-true : (n : ℕ) (w : Element) → (bits_of w ≡ 0 → ⊥) → apart w (zero_e n) ≡ true
zero-true n w h = bool_cases (apart w (zero_e n)) (λ e. e) (λ e. absurd (h (ap bits_of (none-same w (zero_e n) e) ∙ zero_bits n)))

-- as shares of six words
pub differs_false : (s : Share) → length s.words ≡ 6 → bits_of s.words ≡ 0 → differs 64 6 [] s ≡ false
unfolding differs comparison value
differs_false s l z = zero-false 6 s.words l z

pub differs_true : (s : Share) → (bits_of s.words ≡ 0 → ⊥) → differs 64 6 [] s ≡ true
unfolding differs comparison value
differs_true s h = zero-true 6 s.words h

-- what is left of a share, in an array of six
abbrev pub left_six : ℕ → ℕ → Polynomial → Share → Share
left_six k d p = reword (λ s. held d (residue k d p s))

module _ (d : ℕ) (dl : 2 ≤ d) (dh : d ≤ 6) (k t : ℕ) (p : Polynomial) (i : IsPoly k d t p) where
  length-left : (s : Share) → IsElement k d s.words → length (residue k d p s) ≡ d
  length-left s w = (residue-element d dl dh k p (rows_of k d t p i) s w.0).0

  -- where no bits are left no share differs
  none_left : (ss : List Share) → InWidth k d ss → All (λ s. bits_of (residue k d p s) ≡ 0) ss → errors k d p ss ≡ 0
  unfolding errors
  none_left [] a h = refl
  none_left (s ∷ ss) a h =
      let e : differs k d p s ≡ false = residue-zero d dl dh k t p i s a.0 ∙ zero-false d (residue k d p s) (length-left s a.0) h.0 in
      rw (e, none_left ss a.1 h.1)

  pub no-errors : (ss : List Share) → InWidth k d ss → bits_of_all (map (left k d p) ss) ≡ 0 → errors k d p ss ≡ 0
  no-errors ss a z = none_left ss a (all-zero k d p ss z)

  left-differs : (s : Share) → IsElement k d s.words → differs 64 6 [] (left_six k d p s) ≡ differs k d p s
  unfolding differs comparison value
  left-differs s w =
      let u = residue k d p s in
      ap (apart (held d u)) (sym (zeros-held d dh))
      ∙ ap unequal (compared-held d u (zero_e d) dh (length-left s w) (length-replicate d 0))
      ∙ sym (residue-zero d dl dh k t p i s w)

  pub left-set : (ss : List Share) → InWidth k d ss → error_set 64 6 [] (map (left_six k d p) ss) ≡ error_set k d p ss
  unfolding error_set
  left-set [] a = refl
  left-set (s ∷ ss) a = ap₂ (λ b n. when b (2 ^ (s.holder - 1)) + n) (left-differs s a.0) (left-set ss a.1)

  pub left-bits : (ss : List Share) → InWidth k d ss → bits_of_all (map (left_six k d p) ss) ≡ bits_of_all (map (left k d p) ss)
  unfolding bits_of_all
  left-bits [] a = refl
  left-bits (s ∷ ss) a =
      let u = residue k d p s in
      ap₂ bit_or (left-bits ss a.1) (bits-held d u dh ∙ ap bits_of (take_all d u (le_of_eq (length-left s a.0))))

-- a turn of the loop: the bits
module _ (m : ℕ) (hs : List ℕ) (ys : Rows) where
  abbrev bits_from : ℕ → ℕ
  bits_from i = bits_of_all (shares_from 6 hs ys i (m - i))

  pub bits-start : 0 ≡ bits_from m
  unfolding bits_of_all
  bits-start = rw (from_start 6 hs ys m) refl

  pub bits-more : (i : ℕ) → 0 < i → i ≤ m → (b w : ℕ) → b ≡ bits_of (take 6 (get_or ys (i - 1) [])) → w ≡ bits_from i → bit_or w b ≡ bits_from (i - 1)
  unfolding bits_of_all
  bits-more i h l b w eb ew = rw (from_next 6 hs ys i m h l, eb, ew)

-- the first n rows are zero: none of these shares differs, and they have no bits
module _ (n m : ℕ) (h : n ≤ m) (hs : List ℕ) (ys : Rows) (z : take n ys ≡ replicate n (zero_e 6)) where
  zero_row : (i : ℕ) → i < n → (length (take 6 (get_or ys i [])) ≡ 6) × (bits_of (take 6 (get_or ys i [])) ≡ 0)
  zero_row i l =
      let e : get_or ys i [] ≡ zero_e 6 = sym (get_or-take n ys i [] l) ∙ ap (λ (r : Rows). get_or r i []) z ∙ get_or-replicate n i (zero_e 6) [] l in
      (ap (λ (w : Element). length (take 6 w)) e, ap (λ (w : Element). bits_of (take 6 w)) e ∙ zero_bits 6)

  pub zero_same : (i : ℕ) → i < n → differs 64 6 [] (share_at 6 hs ys i) ≡ false
  zero_same i l = let w = zero_row i l in differs_false (share_at 6 hs ys i) w.0 w.1

  pub bits-all : (i : ℕ) → i ≤ n → bits_from m hs ys i ≡ bits_from m hs ys 0
  bits-all zero l = refl
  bits-all (suc i) l =
      let e : suc i - 1 ≡ i = omega arith in
      sym (or_zero_r (bits_from m hs ys (suc i)))
      ∙ bits-more m hs ys (suc i) (omega arith) (omega arith) 0 (bits_from m hs ys (suc i)) (sym (zero_row (suc i - 1) (omega arith)).1) refl
      ∙ ap (bits_from m hs ys) e ∙ bits-all i (omega arith)
