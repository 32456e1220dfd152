-- Reading a byte at a time: how a number goes on by a byte, how a line is scanned, and how two texts are compared, from a position on. Assumes
-- nothing.
use Rattle.std.proofs.Common.{◌≡◌, ℕ, suc, ◌+◌, ◌-◌, ◌*◌, ◌%◌, ◌^◌, ◌<◌, ◌≤◌, true, ◌&&◌, ◌==◌, eqb, List, [], ◌∷◌, length, get_or, take, drop, refl, ap, arith, drop_of_length-le, drop-cons, ne_eqb, le-leb}
use Rattle.std.proofs.lemmas.Grind.{common_steps}
use lib.Pointwise.{pointwise}
use borrow.Author.Tests.{lt-leb}
use Rattle.words.specs.declared.Signed.{Signed}
use Rattle.words.proofs.Mod.{mods}
use Rattle.labelled.specs.Reading.{goes_on, number_from, after_line, same_text}

-- ---- a byte

module _ (s : Signed) (c : ℕ) where
  pub goes-minus : c ≡ 45 → record { negative = true; magnitude = s.magnitude } ≡ goes_on s c
  unfolding goes_on
  goes-minus e = rw e

  pub goes-low : (c ≡ 45 → ⊥) → c < 48 → s ≡ goes_on s c
  unfolding goes_on
  goes-low n h = rw (lt-leb 48 c h, ne_eqb c 45 n)

  pub goes-high : 57 < c → s ≡ goes_on s c
  unfolding goes_on
  goes-high h = rw (le-leb 48 c (omega arith), lt-leb c 57 h, ne_eqb c 45 (λ (e : c ≡ 45). omega arith))

  pub goes-digit : 48 ≤ c → c ≤ 57
      → record { negative = s.negative; magnitude = ((s.magnitude * 10) % 2 ^ 64 + (c - 48)) % 2 ^ 64 } ≡ goes_on s c
  unfolding goes_on
  goes-digit l h = rw (le-leb 48 c l, le-leb c 57 h) (simp mods)

-- ---- a line

module _ (text : List ℕ) (i : ℕ) where
  -- past the end
  pub number-end : (s : Signed) → length text ≤ i → number_from s (drop i text) ≡ s
  unfolding number_from
  number-end s h = rw (drop_of_length-le text {i = i} h)

  pub after-end : length text ≤ i → after_line (drop i text) ≡ drop i text
  unfolding after_line
  after-end h = rw (drop_of_length-le text {i = i} h)

  module _ (h : i < length text) where
    -- a line feed
    pub number-stop : (s : Signed) → get_or text i 0 ≡ 10 → number_from s (drop i text) ≡ s
    unfolding number_from
    number-stop s e = rw (drop-cons text i 0 h, e)

    pub after_stop : get_or text i 0 ≡ 10 → after_line (drop i text) ≡ drop (suc i) text
    unfolding after_line
    after_stop e = rw (drop-cons text i 0 h, e)

    -- any other byte
    pub number_step : (s : Signed) → (get_or text i 0 ≡ 10 → ⊥) → number_from s (drop i text) ≡ number_from (goes_on s (get_or text i 0)) (drop (suc i) text)
    unfolding number_from
    number_step s n = rw (drop-cons text i 0 h, ne_eqb (get_or text i 0) 10 n)

    pub after-step : (get_or text i 0 ≡ 10 → ⊥) → after_line (drop i text) ≡ after_line (drop (suc i) text)
    unfolding after_line
    after-step n = rw (drop-cons text i 0 h, ne_eqb (get_or text i 0) 10 n)

  -- all that is left from there
  pub left-whole : take (length text - i) (drop i text) ≡ drop i text
  left-whole = grind (arith, common_steps)

-- ---- two texts

pub same-pointwise : (a b : List ℕ) → pointwise eqb a b ≡ same_text a b
unfolding same_text
same-pointwise [] [] = refl
same-pointwise [] (d ∷ ds) = refl
same-pointwise (c ∷ cs) [] = refl
same-pointwise (c ∷ cs) (d ∷ ds) = ap (λ t. c == d && t) (same-pointwise cs ds)
