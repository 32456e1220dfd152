-- Elements packed into a slice: bit i of its words is the element at place i (`packed-at`); and with at most n elements its words have n
-- bits (`packed-width`), so that no bit is pushed out. Assumes nothing.
use mathlib.Core.Path.{◌≡◌, refl, sym, ap₂, ◌∙◌}
use mathlib.Core.Bool.{true}
use mathlib.Core.List.{List, [], ◌∷◌, map}
use Prim.Native.Nat.{ℕ, zero, suc, ◌^◌, ◌≤◌, ◌<◌, suc-le-suc}
use native.Mathlib.Nat.{le_of_suc-le-suc, not-suc-le-zero, suc_inj, suc-ne-zero, pow-suc}
use native.Mathlib.Omega.{arith}
use lib.Pow.{pow_pos}
use lib.ListN.{length, get_or, replicate}
use Rattle.words.specs.Word.{in_width, all_in_width}
use Rattle.words.proofs.Tests.{and_left, and_right, and_both}
use Rattle.words.proofs.Width.{in-width-lt, lt-in-width}
use Rattle.algebra.specs.Shares.{All}
use Rattle.galois.specs.Element.{Element, zip}
use Rattle.galois.proofs.Lists.{length-zip}
use Rattle.sliced.specs.Lane.{under, packed}
use Rattle.sliced.proofs.Bits.{bit, under_low, under-high}

-- six words, each 0 or 1
abbrev pub SixBits : Element → Type 0
SixBits e = (length e ≡ 6) × (all_in_width 1 e ≡ true)

pub length-packed : (es : List Element) → All SixBits es → length (packed es) ≡ 6
unfolding packed
length-packed [] a = refl
length-packed (e ∷ es) a = let n = length-packed es a.1 in length-zip under e (packed es) (a.0.0 ∙ sym n) ∙ n

-- what is made of two lists word by word is no longer than either
pub zip-fits : (f : ℕ → ℕ → ℕ) (a b : List ℕ) (n : ℕ) → n ≤ length (zip f a b) → (n ≤ length a) × (n ≤ length b)
unfolding zip
zip-fits f a b zero h = (omega arith, omega arith)
zip-fits f [] b (suc n) h = absurd (not-suc-le-zero h)
zip-fits f (x ∷ a) [] (suc n) h = absurd (not-suc-le-zero h)
zip-fits f (x ∷ a) (y ∷ b) (suc n) h = let r = zip-fits f a b n (le_of_suc-le-suc h) in (suc-le-suc r.0, suc-le-suc r.1)

zip_low : (e p : List ℕ) → length e ≡ length p → all_in_width 1 e ≡ true → map (bit 0) (zip under e p) ≡ e
unfolding zip all_in_width
zip_low [] p h b = refl
zip_low (x ∷ e) [] h b = absurd (suc-ne-zero (length e) h)
zip_low (x ∷ e) (w ∷ p) h b =
    ap₂ ◌∷◌ (under_low x w (le_of_suc-le-suc (in-width-lt 1 x (and_left (in_width 1 x) (all_in_width 1 e) b))))
    (zip_low e p (suc_inj h) (and_right (in_width 1 x) (all_in_width 1 e) b))

zip_high : (i : ℕ) (e p : List ℕ) → length e ≡ length p → all_in_width 1 e ≡ true → map (bit (suc i)) (zip under e p) ≡ map (bit i) p
unfolding zip all_in_width
zip_high i [] [] h b = refl
zip_high i [] (w ∷ p) h b = absurd (suc-ne-zero (length p) (sym h))
zip_high i (x ∷ e) [] h b = absurd (suc-ne-zero (length e) h)
zip_high i (x ∷ e) (w ∷ p) h b =
    ap₂ ◌∷◌ (under-high x w i (le_of_suc-le-suc (in-width-lt 1 x (and_left (in_width 1 x) (all_in_width 1 e) b))))
    (zip_high i e p (suc_inj h) (and_right (in_width 1 x) (all_in_width 1 e) b))

pub packed-at : (es : List Element) → All SixBits es → (i : ℕ) (z : Element) → i < length es → map (bit i) (packed es) ≡ get_or es i z
unfolding packed
packed-at [] a i z h = absurd (not-suc-le-zero h)
packed-at (e ∷ es) a zero z h = zip_low e (packed es) (a.0.0 ∙ sym (length-packed es a.1)) a.0.1
packed-at (e ∷ es) a (suc i) z h =
    zip_high i e (packed es) (a.0.0 ∙ sym (length-packed es a.1)) a.0.1 ∙ packed-at es a.1 i z (le_of_suc-le-suc h)

zeros-width : (n j : ℕ) → all_in_width n (replicate j 0) ≡ true
unfolding all_in_width
zeros-width n zero = refl
zeros-width n (suc j) = and_both (in_width n 0) (all_in_width n (replicate j 0)) (lt-in-width n 0 (pow_pos n)) (zeros-width n j)

under-width : (n : ℕ) (e p : List ℕ) → all_in_width 1 e ≡ true → all_in_width n p ≡ true → all_in_width (suc n) (zip under e p) ≡ true
unfolding zip all_in_width
under-width n [] p b c = refl
under-width n (x ∷ e) [] b c = refl
under-width n (x ∷ e) (w ∷ p) b c =
    let hx : x < 2 = in-width-lt 1 x (and_left (in_width 1 x) (all_in_width 1 e) b) in
    let hw : w < 2 ^ n = in-width-lt n w (and_left (in_width n w) (all_in_width n p) c) in
    and_both (in_width (suc n) (under x w)) (all_in_width (suc n) (zip under e p)) (lt-in-width (suc n) (under x w) (omega (arith, pow-suc 2 n)))
    (under-width n e p (and_right (in_width 1 x) (all_in_width 1 e) b) (and_right (in_width n w) (all_in_width n p) c))

pub packed-width : (n : ℕ) (es : List Element) → All (λ e. all_in_width 1 e ≡ true) es → length es ≤ n → all_in_width n (packed es) ≡ true
unfolding packed
packed-width n [] a h = zeros-width n 6
packed-width zero (e ∷ es) a h = absurd (not-suc-le-zero h)
packed-width (suc n) (e ∷ es) a h = under-width n e (packed es) a.0 (packed-width n es a.1 (le_of_suc-le-suc h))
