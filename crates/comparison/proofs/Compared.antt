-- Words compared with words, paper 02, K4. They compare as none exactly when they are the same words (`none-same`, `same_none`), so that 'differs' is
-- what it was, paper 01's "any of its words differs" (`unequal-same`); and where words of 64 bits do not, the position is the lowest bit at which any
-- differs (`lowest_bit`). Zeros after the words change nothing (`compared-held`). Assumes nothing.
use mathlib.Core.Path.{◌≡◌, refl, sym, ◌∙◌, ap, ap₂}
use mathlib.Core.Bool.{Bool, true, false, not}
use mathlib.Core.Logic.{◌≢◌}
use mathlib.Core.List.{[], ◌∷◌, ◌++◌}
use Prim.Native.Nat.{ℕ, zero, suc, ◌+◌, ◌*◌, ◌-◌, ◌/◌, ◌%◌, ◌^◌, ◌≤◌, ◌<◌}
use native.Mathlib.Nat.{mod-lt, div-one, div-div-eq-div-mul, pow-succ', pow-suc, pow-le-pow_right, zero-div, suc_inj, suc-ne-zero, le_of_eq}
use native.Mathlib.Numerals.{add-one}
use native.Mathlib.Decide.{dec_le, ℕ_discrete}
use native.Mathlib.Omega.{arith}
use lib.Bits.{bit_or, bit_xor, or_zero_l, or_zero_r, or_lt, or_shr, or_mod, or_add_and, and_le_l, and_le_r, xor_add_and, xor_self, xor_lt, xor_shr, xor_mod}
use lib.Count.{count_trailing_zeros, trailing_le, under}
use lib.Dec.{lit<}
use lib.Pow.{pow_pos, shr_lt, split}
use lib.ListN.{length, get_or}
use lib.Seq.{take_all}
use Rattle.words.specs.Word.{in_width, all_in_width}
use Rattle.words.proofs.Width.{in-width-lt}
use Rattle.words.proofs.Tests.{and_left, and_right, true-false}
use Rattle.galois.specs.Element.{Element, zero_e, same, held}
use Rattle.galois.proofs.Elements.{same-eq, eq-same}
use Rattle.galois.proofs.Held.{zeros-after}
use Rattle.galois.proofs.Zip.{six-words}
use Rattle.comparison.specs.Comparison.{gap, lowest_in, compared, unequal, apart, position_of, LowestBit}
use Rattle.std.specs.Prelude.{Option}
use Rattle.std.specs.declared.option.Option.TheVariants.{Some, None}

-- ---- two numbers together: zero, below a bit, and at a bit

pub or-zero : (a b : ℕ) → bit_or a b ≡ 0 → (a ≡ 0) × (b ≡ 0)
or-zero a b h = (omega (arith, or_add_and a b, and_le_r a b), omega (arith, or_add_and a b, and_le_l a b))

pub or-below : (a b v : ℕ) → bit_or a b % 2 ^ v ≡ 0 → (a % 2 ^ v ≡ 0) × (b % 2 ^ v ≡ 0)
or-below a b v h = or-zero (a % 2 ^ v) (b % 2 ^ v) (sym (or_mod a b v) ∙ h)

pub or-clear : (a b v : ℕ) → a / 2 ^ v % 2 ≡ 0 → b / 2 ^ v % 2 ≡ 0 → bit_or a b / 2 ^ v % 2 ≡ 0
or-clear a b v x y =
    ap (λ n. n % 2) (or_shr a b v) ∙ or_mod (a / 2 ^ v) (b / 2 ^ v) 1 ∙ ap₂ bit_or x y ∙ or_zero_l 0

xor-eq : (x y : ℕ) → bit_xor x y ≡ 0 → x ≡ y
xor-eq x y h = omega (arith, xor_add_and x y, and_le_l x y, and_le_r x y)

xor_below : (x y v : ℕ) → bit_xor x y % 2 ^ v ≡ 0 → x % 2 ^ v ≡ y % 2 ^ v
xor_below x y v h = xor-eq (x % 2 ^ v) (y % 2 ^ v) (sym (xor_mod x y v) ∙ h)

xor-clear : (x y v : ℕ) → x / 2 ^ v % 2 ≡ y / 2 ^ v % 2 → bit_xor x y / 2 ^ v % 2 ≡ 0
xor-clear x y v e =
    ap (λ n. n % 2) (xor_shr x y v) ∙ xor_mod (x / 2 ^ v) (y / 2 ^ v) 1
    ∙ ap (bit_xor (x / 2 ^ v % 2)) (sym e) ∙ xor_self (x / 2 ^ v % 2)

-- the lowest bit of a number, and that it is below the number's width
pub trailing : (m n : ℕ) → 0 < n → n < 2 ^ m → (n % 2 ^ count_trailing_zeros m n ≡ 0) × (n / 2 ^ count_trailing_zeros m n % 2 ≡ 1)
unfolding count_trailing_zeros
trailing zero n p h = absurd (omega arith)
trailing (suc m) n p h = go (n % 2) refl (mod-lt n (lit< tt)) (λ l. trailing m (n / 2) l (shr_lt m 1 (rw add-one h)))
  where
    up : (z : ℕ) → n / 2 ^ suc z ≡ n / 2 / 2 ^ z
    up z = sym (div-div-eq-div-mul n 2 (2 ^ z) ∙ ap (λ (m : ℕ). n / m) (sym (pow-succ' 2 z)))

    go : (b : ℕ) → n % 2 ≡ b → b < 2 →
        (0 < n / 2 → (n / 2 % 2 ^ count_trailing_zeros m (n / 2) ≡ 0) × (n / 2 / 2 ^ count_trailing_zeros m (n / 2) % 2 ≡ 1)) →
        (n % 2 ^ under b (count_trailing_zeros m (n / 2)) ≡ 0) × (n / 2 ^ under b (count_trailing_zeros m (n / 2)) % 2 ≡ 1)
    go zero e l r =
        let z = count_trailing_zeros m (n / 2) in
        let s = r (omega arith) in
        let x : n / 2 / 2 ^ z * 2 ^ z + n / 2 % 2 ^ z ≡ n / 2 = split (n / 2) z in
        let y : n / 2 ^ suc z * 2 ^ suc z + n % 2 ^ suc z ≡ n = split n (suc z) in
        let w : n / 2 ^ suc z * 2 ^ suc z ≡ 2 * (n / 2 / 2 ^ z * 2 ^ z) = rw (up z, pow-suc 2 z) (omega arith) in
        (omega (arith, x, y, w, s.0), rw (up z) s.1)
    go (suc zero) e l r = (omega arith, rw (div-one) e)
    go (suc (suc b)) e l r = absurd (omega arith)

pub bit-room : (k n v : ℕ) → n < 2 ^ k → n / 2 ^ v % 2 ≡ 1 → v < k
bit-room k n v h b = go (dec_le k v)
  where
    go : Dec (k ≤ v) → v < k
    go (no l) = omega arith
    go (yes l) =
        let p : 2 ^ k ≤ 2 ^ v = pow-le-pow_right (omega arith) l in
        let z : n / 2 ^ v ≡ 0 = native.Mathlib.Nat.div-eq_of_lt (omega (arith, p)) in
        absurd (omega (arith, ap (λ x. x % 2) z))

-- ---- none

gap-self : (a : Element) → gap a a ≡ 0
unfolding gap
gap-self [] = refl
gap-self (x ∷ a) = ap₂ bit_or (xor_self x) (gap-self a) ∙ or_zero_l 0

gap_same : (a v : Element) → gap a v ≡ 0 → a ≡ v
unfolding gap
gap_same [] [] h = refl
gap_same [] (y ∷ v) h = absurd (omega arith)
gap_same (x ∷ a) [] h = absurd (omega arith)
gap_same (x ∷ a) (y ∷ v) h = let z = or-zero (bit_xor x y) (gap a v) h in ap₂ ◌∷◌ (xor-eq x y z.0) (gap_same a v z.1)

pub same_none : (a v : Element) → a ≡ v → compared a v ≡ None
unfolding compared
same_none a v e = ap lowest_in (ap (gap a) (sym e) ∙ gap-self a)

pub none-same : (a v : Element) → unequal (compared a v) ≡ false → a ≡ v
unfolding compared
none-same a v e = gap_same a v (go (gap a v) e)
  where
    go : (g : ℕ) → unequal (lowest_in g) ≡ false → g ≡ 0
    go zero e = refl
    go (suc g) e = true-false e

pub apart-not : (a : Element) → apart a a ≡ false
apart-not a = ap unequal (same_none a a refl)

pub unequal-same : (a v : Element) → unequal (compared a v) ≡ not (same a v)
unequal-same a v = go (same a v) refl (unequal (compared a v)) refl
  where
    go : (b : Bool) → same a v ≡ b → (c : Bool) → unequal (compared a v) ≡ c → c ≡ not b
    go true e c u = sym u ∙ ap unequal (same_none a v (same-eq a v e))
    go false e true u = refl
    go false e false u = true-false (sym (eq-same a v (none-same a v u)) ∙ e)

-- ---- the lowest bit

-- below a bit all words agree, or at a bit
gap_below : (a b : Element) (v : ℕ) → length a ≡ length b → gap a b % 2 ^ v ≡ 0 → (j : ℕ) → get_or a j 0 % 2 ^ v ≡ get_or b j 0 % 2 ^ v
unfolding gap
gap_below [] [] v l h j = refl
gap_below [] (y ∷ b) v l h j = absurd (suc-ne-zero (length b) (sym l))
gap_below (x ∷ a) [] v l h j = absurd (suc-ne-zero (length a) l)
gap_below (x ∷ a) (y ∷ b) v l h zero = xor_below x y v (or-below (bit_xor x y) (gap a b) v h).0
gap_below (x ∷ a) (y ∷ b) v l h (suc j) = gap_below a b v (suc_inj l) (or-below (bit_xor x y) (gap a b) v h).1 j

abbrev At : Element → Element → ℕ → Type 0
At a b v = (j : ℕ) × (get_or a j 0 / 2 ^ v % 2 ≢ get_or b j 0 / 2 ^ v % 2)

gap_at : (a b : Element) (v : ℕ) → length a ≡ length b → gap a b / 2 ^ v % 2 ≡ 1 → At a b v
unfolding gap
gap_at [] [] v l h = absurd (omega (arith, ap (λ n. n % 2) (zero-div (2 ^ v))))
gap_at [] (y ∷ b) v l h = absurd (suc-ne-zero (length b) (sym l))
gap_at (x ∷ a) [] v l h = absurd (suc-ne-zero (length a) l)
gap_at (x ∷ a) (y ∷ b) v l h =
    go (ℕ_discrete (x / 2 ^ v % 2) (y / 2 ^ v % 2)) (gap a b / 2 ^ v % 2) refl (mod-lt (gap a b / 2 ^ v) (lit< tt)) (λ e. gap_at a b v (suc_inj l) e)
  where
    go : Dec (x / 2 ^ v % 2 ≡ y / 2 ^ v % 2) → (n : ℕ) → gap a b / 2 ^ v % 2 ≡ n → n < 2 → (gap a b / 2 ^ v % 2 ≡ 1 → At a b v) →
        At (x ∷ a) (y ∷ b) v
    go (no f) n e m r = (0, f)
    go (yes f) zero e m r = absurd (omega (arith, h, or-clear (bit_xor x y) (gap a b) v (xor-clear x y v f) e))
    go (yes f) (suc zero) e m r = let s = r e in (suc s.0, s.1)
    go (yes f) (suc (suc n)) e m r = absurd (omega arith)

gap-width : (k : ℕ) (a b : Element) → length a ≡ length b → all_in_width k a ≡ true → all_in_width k b ≡ true → gap a b < 2 ^ k
unfolding gap all_in_width
gap-width k [] [] l h g = pow_pos k
gap-width k [] (y ∷ b) l h g = absurd (suc-ne-zero (length b) (sym l))
gap-width k (x ∷ a) [] l h g = absurd (suc-ne-zero (length a) l)
gap-width k (x ∷ a) (y ∷ b) l h g =
    or_lt k (bit_xor x y) (gap a b)
    (xor_lt k x y (in-width-lt k x (and_left (in_width k x) (all_in_width k a) h)) (in-width-lt k y (and_left (in_width k y) (all_in_width k b) g)))
    (gap-width k a b (suc_inj l) (and_right (in_width k x) (all_in_width k a) h) (and_right (in_width k y) (all_in_width k b) g))

-- words of 64 bits that differ: the position is their lowest bit
module _ (a b : Element) (l : length a ≡ length b) (x : all_in_width 64 a ≡ true) (y : all_in_width 64 b ≡ true) (u : unequal (compared a b) ≡ true) where
  is-lowest : LowestBit a b (position_of (compared a b)) × (position_of (compared a b) < 64)
  unfolding compared
  is-lowest = go (gap a b) refl u
    where
      go : (g : ℕ) → gap a b ≡ g → unequal (lowest_in g) ≡ true → LowestBit a b (position_of (lowest_in g)) × (position_of (lowest_in g) < 64)
      go zero e t = true-false (sym t)
      go (suc g) e t =
          let w : suc g < 2 ^ 64 = rw (← e) (gap-width 64 a b l x y) in
          let z = trailing 64 (suc g) (omega arith) w in
          let v = count_trailing_zeros 64 (suc g) in
          let p = gap_at a b v l (ap (λ n. n / 2 ^ v % 2) e ∙ z.1) in (
            record { place = p.0; differing = p.1; agreeing = gap_below a b v l (ap (λ n. n % 2 ^ v) e ∙ z.0) },
            bit-room 64 (suc g) v w z.1,
          )

  pub lowest_bit : LowestBit a b (position_of (compared a b))
  lowest_bit = is-lowest.0

  pub lowest-room : position_of (compared a b) < 64
  lowest-room = is-lowest.1

-- 255 is none's number and no other's
pub none-position : (c : Option ℕ) → unequal c ≡ false → position_of c ≡ 255
none-position None e = refl
none-position (Some v) e = true-false e

pub some-position : (a v : Element) → unequal (compared a v) ≡ true → position_of (compared a v) ≢ 255
unfolding compared
some-position a v = go (gap a v)
  where
    go : (g : ℕ) → unequal (lowest_in g) ≡ true → position_of (lowest_in g) ≢ 255
    go zero e f = true-false (sym e)
    go (suc g) e f = omega (arith, f, trailing_le 64 (suc g))

pub position-byte : (a v : Element) → position_of (compared a v) < 256
unfolding compared
position-byte a v = go (gap a v)
  where
    go : (g : ℕ) → position_of (lowest_in g) < 256
    go zero = omega arith
    go (suc g) = omega (arith, trailing_le 64 (suc g))

-- ---- as code finds it

abbrev pub six_gap : Element → Element → ℕ
six_gap a v =
    bit_or (bit_xor (get_or a 0 0) (get_or v 0 0))
    (bit_or (bit_xor (get_or a 1 0) (get_or v 1 0))
    (bit_or (bit_xor (get_or a 2 0) (get_or v 2 0))
    (bit_or (bit_xor (get_or a 3 0) (get_or v 3 0)) (bit_or (bit_xor (get_or a 4 0) (get_or v 4 0)) (bit_xor (get_or a 5 0) (get_or v 5 0))))))

pub gap-six : (a v : Element) → length a ≡ 6 → length v ≡ 6 → six_gap a v ≡ gap a v
unfolding gap
gap-six a v h g =
    let x : ℕ → ℕ = λ i. bit_xor (get_or a i 0) (get_or v i 0) in
    ap (λ n. bit_or (x 0) (bit_or (x 1) (bit_or (x 2) (bit_or (x 3) (bit_or (x 4) n))))) (sym (or_zero_r (x 5)))
    ∙ sym (ap₂ gap (six-words a h) (six-words v g))

pub compared-none : (a v : Element) → gap a v ≡ 0 → compared a v ≡ None
unfolding compared
compared-none a v e = ap lowest_in e

pub compared-some : (a v : Element) → (gap a v ≡ 0 → ⊥) → compared a v ≡ Some (count_trailing_zeros 64 (gap a v))
unfolding compared
compared-some a v = go (gap a v)
  where
    go : (g : ℕ) → (g ≡ 0 → ⊥) → lowest_in g ≡ Some (count_trailing_zeros 64 g)
    go zero n = absurd (n refl)
    go (suc g) n = refl

-- ---- zeros after the words

gap-after : (a v : Element) (n : ℕ) → length a ≡ length v → gap (a ++ zero_e n) (v ++ zero_e n) ≡ gap a v
unfolding gap
gap-after [] [] n l = gap-self (zero_e n)
gap-after [] (y ∷ v) n l = absurd (suc-ne-zero (length v) (sym l))
gap-after (x ∷ a) [] n l = absurd (suc-ne-zero (length a) l)
gap-after (x ∷ a) (y ∷ v) n l = ap (bit_or (bit_xor x y)) (gap-after a v n (suc_inj l))

pub gap-held : (d : ℕ) (a v : Element) → d ≤ 6 → length a ≡ d → length v ≡ d → gap (held d a) (held d v) ≡ gap a v
gap-held d a v h l m =
    ap₂ gap
    (ap₂ ◌++◌ (take_all d a (le_of_eq l)) (zeros-after d h))
    (ap₂ ◌++◌ (take_all d v (le_of_eq m)) (zeros-after d h))
    ∙ gap-after a v (6 - d) (l ∙ sym m)

pub compared-held : (d : ℕ) (a v : Element) → d ≤ 6 → length a ≡ d → length v ≡ d → compared (held d a) (held d v) ≡ compared a v
unfolding compared
compared-held d a v h l m = ap lowest_in (gap-held d a v h l m)
