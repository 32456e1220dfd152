-- What the functions compute, in the terms of the definitions: six words written out, and one turn of each loop. Assumes nothing.
use mathlib.Core.Path.{◌≡◌, refl, sym, ap, ◌∙◌}
use mathlib.Core.Bool.{true}
use mathlib.Core.List.{List, [], ◌∷◌, map}
use Prim.Native.Nat.{ℕ, zero, suc, ◌-◌, ◌*◌, ◌^◌, ◌≤◌, ◌<◌}
use native.Mathlib.Nat.{le_of_eq, not-suc-le-zero, mod-eq_of_lt, zero-mul, one-mul}
use native.Mathlib.Omega.{arith}
use lib.Bits.{bit_and, bit_or, and_mask, and_zero_r, or_zero_r}
use lib.ListN.{length, get_or, take, drop, drop_of_length-le, length-map, length-take, length-drop}
use lib.Seq.{drop-cons, get_or-take, length-take-le, take_all}
use Rattle.words.specs.Word.{all_in_width}
use Rattle.algebra.specs.Shares.{All}
use Rattle.galois.specs.Element.{Element, zip, zero_e, held}
use Rattle.galois.proofs.Zip.{six-words}
use Rattle.galois.proofs.Held.{to-six}
use Rattle.ring.proofs.Words.{six-by}
use Rattle.sliced.specs.Lane.{lane, plus_lane, shift_lanes, horner, support_of, under, packed}
use Rattle.sliced.proofs.Bits.{bit, bit-cases}
use Rattle.sliced.proofs.Packed.{packed-width}

-- a word, or none of it
pub picked : (top m : ℕ) → m ≤ 1 → top < 2 ^ 64 → bit_and top (m * (2 ^ 64 - 1)) ≡ m * top
picked top m h l =
    bit-cases (λ n. bit_and top (n * (2 ^ 64 - 1)) ≡ n * top) (and_zero_r top ∙ sym (zero-mul top))
    (and_mask top 64 ∙ mod-eq_of_lt l ∙ sym (one-mul top)) m h

pub map-six : (f : ℕ → ℕ) (a : List ℕ) → length a ≡ 6
    → map f a ≡ f (get_or a 0 0) ∷ f (get_or a 1 0) ∷ f (get_or a 2 0) ∷ f (get_or a 3 0) ∷ f (get_or a 4 0) ∷ f (get_or a 5 0) ∷ []
map-six f a h = ap (map f) (six-words a h)

pub map-by : (f : ℕ → ℕ) (a r : List ℕ) → length a ≡ 6 → length r ≡ 6
    → ((j : ℕ) → j < 6 → get_or r j 0 ≡ f (get_or a j 0)) → r ≡ map f a
map-by f a r ha hr e = six-by (λ j. f (get_or a j 0)) r hr e ∙ sym (map-six f a ha)

pub lane-by : (a : List ℕ) (i : ℕ) (r : List ℕ) → length a ≡ 6 → length r ≡ 6
    → ((j : ℕ) → j < 6 → get_or r j 0 ≡ bit i (get_or a j 0)) → r ≡ lane 6 a i
unfolding lane
lane-by a i r ha hr e = map-by (bit i) a r ha hr e ∙ sym (ap (map (bit i)) (take_all 6 a (le_of_eq ha)))

abbrev pub any_of : List ℕ → ℕ
any_of w = bit_or (get_or w 0 0) (bit_or (get_or w 1 0) (bit_or (get_or w 2 0) (bit_or (get_or w 3 0) (bit_or (get_or w 4 0) (get_or w 5 0)))))

-- the words that are cleared add nothing
pub support-six : (d : ℕ) (a : List ℕ) → length a ≡ 6 → d ≤ 6 → any_of (held d a) ≡ support_of d a
unfolding support_of
support-six d a ha h =
    rw (six-words a ha) (six (get_or a 0 0) (get_or a 1 0) (get_or a 2 0) (get_or a 3 0) (get_or a 4 0) (get_or a 5 0) d h)
  where
    six : (x₀ x₁ x₂ x₃ x₄ x₅ : ℕ) (d : ℕ) → d ≤ 6
        → any_of (held d (x₀ ∷ x₁ ∷ x₂ ∷ x₃ ∷ x₄ ∷ x₅ ∷ [])) ≡ support_of d (x₀ ∷ x₁ ∷ x₂ ∷ x₃ ∷ x₄ ∷ x₅ ∷ [])
    six x₀ x₁ x₂ x₃ x₄ x₅ =
        to-six (λ n. any_of (held n (x₀ ∷ x₁ ∷ x₂ ∷ x₃ ∷ x₄ ∷ x₅ ∷ [])) ≡ support_of n (x₀ ∷ x₁ ∷ x₂ ∷ x₃ ∷ x₄ ∷ x₅ ∷ []))
        refl refl refl refl refl refl (rw (or_zero_r x₅))

-- a product: before the first turn, and one word more of the first factor
pub horner-start : (d : ℕ) (a b : List ℕ) → zero_e 6 ≡ horner d (drop d (take d a)) b
unfolding horner
horner-start d a b = let n : length (take d a) ≤ d = omega (arith, length-take d a) in rw (drop_of_length-le (take d a) n)

pub horner-turn : (d : ℕ) (a b : List ℕ) (i : ℕ) → 0 < i → i ≤ d → d ≤ length a
    → zip (plus_lane (get_or a (i - 1) 0)) (shift_lanes d (horner d (drop i (take d a)) b)) b ≡ horner d (drop (i - 1) (take d a)) b
unfolding horner
horner-turn d a b zero p h l = absurd (not-suc-le-zero p)
horner-turn d a b (suc j) p h l =
    let e : suc j - 1 ≡ j = omega arith in
    let n : j < length (take d a) = rw (length-take-le d a l) h in
    rw (e, drop-cons (take d a) j 0 n, get_or-take d a j 0 h)

-- elements packed: before the first turn, one element more, and that there is room for it
module _ {A : Type 0} (f : A → Element) (l : List A) (m : ℕ) where
  pub packed_start : zero_e 6 ≡ packed (map f (drop m (take m l)))
  unfolding packed
  packed_start = let n : length (take m l) ≤ m = omega (arith, length-take m l) in rw (drop_of_length-le (take m l) n)

  pub packed-turn : (z : A) (i : ℕ) → 0 < i → i ≤ m → m ≤ length l
      → zip under (f (get_or l (i - 1) z)) (packed (map f (drop i (take m l)))) ≡ packed (map f (drop (i - 1) (take m l)))
  unfolding packed
  packed-turn z zero p h n = absurd (not-suc-le-zero p)
  packed-turn z (suc j) p h n =
      let e : suc j - 1 ≡ j = omega arith in
      let q : j < length (take m l) = rw (length-take-le m l n) h in
      rw (e, drop-cons (take m l) j z q, get_or-take m l j z h)

  pub packed-room : ((x : A) → all_in_width 1 (f x) ≡ true) → m ≤ 63 → (i : ℕ) → all_in_width 63 (packed (map f (drop i (take m l)))) ≡ true
  packed-room b h i =
      let q = drop i (take m l) in
      let n : length (map f q) ≤ 63 = omega (arith, length-map q f, length-drop i (take m l), length-take m l) in
      packed-width 63 (map f q) (each q) n
    where
      each : (l : List A) → All (λ e. all_in_width 1 e ≡ true) (map f l)
      each [] = tt
      each (x ∷ l) = (b x, each l)
