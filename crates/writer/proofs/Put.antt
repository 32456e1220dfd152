-- Laws of writing: the lowest bytes of a number, and one piece after another. Assumes nothing.
use mathlib.Core.Path.{◌≡◌, refl, sym, ap, ap₂, ◌∙◌}
use Prim.Native.Nat.{ℕ, zero, suc, ◌+◌, ◌-◌, ◌/◌, ◌%◌, ◌≤◌, ◌<◌}
use native.Mathlib.Omega.{arith}
use mathlib.Core.List.{List, [], ◌∷◌, ◌++◌, append_assoc, append-nil}
use lib.ListN.{length, take, drop, length-append, length-drop, take-append-drop, drop_of_length-le}
use lib.Seq.{length-take-le, take_at, drop_at, drop-drop}
use borrow.Rule.Slice.PartMut.{put_mid}
use Rattle.records.specs.Num.{le_bytes}
use Rattle.records.proofs.Num.{length-le_bytes}

-- ---- the lowest bytes of a number

take-low : (w n x : ℕ) → w ≤ n → take w (le_bytes n x) ≡ le_bytes w x
unfolding le_bytes
take-low zero n x h = refl
take-low (suc w) zero x h = absurd (omega arith)
take-low (suc w) (suc n) x h = ap (λ (l : List ℕ). x % 256 ∷ l) (take-low w n (x / 256) (omega arith))

-- as the library has them
eight : (x : ℕ) → x % 256 ∷ x / 256 % 256 ∷ x / 65536 % 256 ∷ x / 16777216 % 256 ∷ x / 4294967296 % 256 ∷ x / 1099511627776 % 256
    ∷ x / 281474976710656 % 256 ∷ x / 72057594037927936 % 256 ∷ [] ≡ le_bytes 8 x
unfolding le_bytes
eight x =
    let e₂ : x / 65536 ≡ x / 256 / 256 = omega arith in
    let e₃ : x / 16777216 ≡ x / 65536 / 256 = omega arith in
    let e₄ : x / 4294967296 ≡ x / 16777216 / 256 = omega arith in
    let e₅ : x / 1099511627776 ≡ x / 4294967296 / 256 = omega arith in
    let e₆ : x / 281474976710656 ≡ x / 1099511627776 / 256 = omega arith in
    let e₇ : x / 72057594037927936 ≡ x / 281474976710656 / 256 = omega arith in
    rw (e₇, e₆, e₅, e₄, e₃, e₂) refl

-- the first w of them, copied to a place
pub number_put : (at w x : ℕ) (d s t : List ℕ) → w ≤ 8 → t ≡ take w s
    → s ≡ x % 256 ∷ x / 256 % 256 ∷ x / 65536 % 256 ∷ x / 16777216 % 256 ∷ x / 4294967296 % 256 ∷ x / 1099511627776 % 256
    ∷ x / 281474976710656 % 256 ∷ x / 72057594037927936 % 256 ∷ []
    → put_mid at (at + w - at) d t ≡ take at d ++ (le_bytes w x ++ drop (at + w) d)
number_put at w x d s t h e f =
    let z : at + w - at ≡ w = omega arith in
    let q : t ≡ le_bytes w x = e ∙ ap (take w) (f ∙ eight x) ∙ take-low w 8 x h in
    rw (q, z, drop-drop w at d) refl

-- ---- pieces written one after another

-- o is d with s written from at on
pub record Written (d : List ℕ) (at : ℕ) (s o : List ℕ) : Type 0 where
  pub fits : at + length s ≤ length d
  pub is : o ≡ take at d ++ (s ++ drop (at + length s) d)

pub written_none : (d : List ℕ) (at : ℕ) → at ≤ length d → Written d at [] d
written_none d at h =
    let z : at + 0 ≡ at = omega arith in
    record { fits = omega arith; is = rw z (sym (take-append-drop at d)) }

pub written-length : (d : List ℕ) (at : ℕ) (s o : List ℕ) → Written d at s o → length o ≡ length d
written-length d at s o w =
    let f = w.fits in
    ap length w.is ∙ simp (length-append, length-drop, length-take-le at d (omega arith)) (omega arith)

-- one more piece, as a callee writes it
module _ (d : List ℕ) (at : ℕ) (s o t o' : List ℕ) (here n : ℕ) (w : Written d at s o) (h : here ≡ at + length s) (l : n ≡ length t)
    (fits : here + n ≤ length d) (e : o' ≡ take here o ++ (t ++ drop (here + n) o)) where
  front : length (take at d ++ s) ≡ here
  front =
      let f = w.fits in
      length-append (take at d) s ∙ ap (λ (m : ℕ). m + length s) (length-take-le at d (omega arith)) ∙ sym h

  halves : o ≡ (take at d ++ s) ++ drop here d
  halves = w.is ∙ sym (append_assoc (take at d) s (drop (at + length s) d)) ∙ ap (λ (m : ℕ). (take at d ++ s) ++ drop m d) (sym h)

  pub written-more : Written d at (s ++ t) o'
  written-more =
      let a : take here o ≡ take at d ++ s = ap (take here) halves ∙ take_at (take at d ++ s) (drop here d) here front in
      let b : drop here o ≡ drop here d = ap (drop here) halves ∙ drop_at (take at d ++ s) (drop here d) here front in
      let c : drop (here + n) o ≡ drop (here + n) d = sym (drop-drop n here o) ∙ ap (drop n) b ∙ drop-drop n here d in
      let k : length (s ++ t) ≡ length s + length t = length-append s t in
      let z : here + n ≡ at + length (s ++ t) = omega arith in
      record {
        fits = omega arith;
        is = e ∙ ap₂ (λ (x y : List ℕ). x ++ (t ++ y)) a c
            ∙ ap (λ (m : ℕ). (take at d ++ s) ++ (t ++ drop m d)) z
            ∙ append_assoc (take at d) s (t ++ drop (at + length (s ++ t)) d)
            ∙ ap (λ (x : List ℕ). take at d ++ x) (sym (append_assoc s t (drop (at + length (s ++ t)) d)));
      }

-- all of d
pub written_all : (d s o : List ℕ) → Written d 0 s o → length s ≡ length d → o ≡ s
written_all d s o w e =
    w.is ∙ ap (λ (x : List ℕ). s ++ x) (drop_of_length-le d {i = 0 + length s} (omega arith)) ∙ append-nil s

-- the end of a run of pieces
pub written-end : (d : List ℕ) (at : ℕ) (s o : List ℕ) (n : ℕ) → Written d at s o → length s ≡ n → o ≡ take at d ++ (s ++ drop (at + n) d)
written-end d at s o n w e = w.is ∙ ap (λ (m : ℕ). take at d ++ (s ++ drop (at + m) d)) e

-- one more number
pub written-number : (d : List ℕ) (at : ℕ) (s o o' : List ℕ) (here w x : ℕ) → Written d at s o → here ≡ at + length s → here + w ≤ length d →
    o' ≡ take here o ++ (le_bytes w x ++ drop (here + w) o) → Written d at (s ++ le_bytes w x) o'
written-number d at s o o' here w x q h fits e = written-more d at s o (le_bytes w x) o' here w q h (sym (length-le_bytes w x)) fits e

-- a record's length and kind
pub prefix-length : (len kind : ℕ) → length (le_bytes 4 len ++ le_bytes 2 kind) ≡ 6
prefix-length len kind = length-append (le_bytes 4 len) (le_bytes 2 kind) ∙ ap₂ ◌+◌ (length-le_bytes 4 len) (length-le_bytes 2 kind)

-- one more byte
byte_one : (x : ℕ) → x < 256 → le_bytes 1 x ≡ x ∷ []
unfolding le_bytes
byte_one x h = let z : x % 256 ≡ x = omega arith in rw z

pub written_byte : (d : List ℕ) (at : ℕ) (s o o' : List ℕ) (here x : ℕ) → Written d at s o → here ≡ at + length s → here + 1 ≤ length d → x < 256 →
    o' ≡ take here o ++ (le_bytes 1 x ++ drop (here + 1) o) → Written d at (s ++ (x ∷ [])) o'
written_byte d at s o o' here x q h fits b e =
    rw (byte_one x b) at (written-number d at s o o' here 1 x q h fits e)
