-- Sums of elements. A sum has d words, in width (`sum-length`, `sum-width`). A sum over m + n places is that over m and that over the next n
-- (`sum-split`). Its word j is the sum of the elements' words j modulo 2^k (`sum-word`), and read as signed it is the sum of their signed readings
-- where that is in range (`sum-signed`). Assumes nothing.
use mathlib.Core.Path.{◌≡◌, refl, sym, ap, ap₂, ◌∙◌}
use mathlib.Core.Bool.{true}
use mathlib.Core.List.{[], ◌∷◌}
use Prim.Native.Nat.{ℕ, zero, suc, ◌+◌, ◌-◌, ◌%◌, ◌^◌, ◌≤◌, ◌<◌}
use native.Mathlib.Nat.{not-suc-le-zero, le_of_suc-le-suc, le_of_eq, zero-mod, mod-lt, mod-add-mod, add-zero, add_assoc, zero-add}
use native.Mathlib.Omega.{arith}
use lib.ListN.{length, get_or, take, length-replicate}
use lib.IntN.{pos, neg_ℤ}
use lib.Pow.{pow_pos}
use lib.Seq.{take_all}
use lib.Signed.{◌≤ℤ◌}
use Rattle.words.specs.Word.{add_w, in_width, all_in_width}
use Rattle.words.specs.Signed.{meaning, sum_of_meanings, sum_of}
use Rattle.words.proofs.Mod.{mods}
use Rattle.words.proofs.Tests.{and_both}
use Rattle.words.proofs.Width.{lt-in-width}
use Rattle.words.proofs.Reading.{signed-sum}
use Rattle.galois.specs.Element.{Element, zip, sum, zero_e, reduce}
use Rattle.galois.proofs.Lists.{length-zip, reduce-width}
use Rattle.galois.proofs.Narrow.{sum_comm}
use Rattle.totals.specs.Values.{values_from}
use Rattle.totals.specs.Total.{sum_to, words_no}

-- ---- word by word

zip-assoc : (f : ℕ → ℕ → ℕ) → ((x y z : ℕ) → f (f x y) z ≡ f x (f y z)) → (a b c : Element) → zip f (zip f a b) c ≡ zip f a (zip f b c)
unfolding zip
zip-assoc f h [] b c = refl
zip-assoc f h (x ∷ a) [] c = refl
zip-assoc f h (x ∷ a) (y ∷ b) [] = refl
zip-assoc f h (x ∷ a) (y ∷ b) (z ∷ c) = ap₂ ◌∷◌ (h x y z) (zip-assoc f h a b c)

add-words-assoc : (k x y z : ℕ) → add_w k (add_w k x y) z ≡ add_w k x (add_w k y z)
unfolding add_w
add-words-assoc k x y z = simp (mods, add_assoc)

pub sum-assoc : (k : ℕ) (a b c : Element) → sum k (sum k a b) c ≡ sum k a (sum k b c)
sum-assoc k = zip-assoc (add_w k) (add-words-assoc k)

-- zeros added cut each word to k bits, as far as they go
pub zeros-added : (k d : ℕ) (a : Element) → sum k a (zero_e d) ≡ reduce k (take d a)
unfolding zip add_w reduce
zeros-added k zero [] = refl
zeros-added k zero (x ∷ a) = refl
zeros-added k (suc d) [] = refl
zeros-added k (suc d) (x ∷ a) = ap₂ ◌∷◌ (rw add-zero) (zeros-added k d a)

pub sum-zero : (k d : ℕ) (a : Element) → length a ≤ d → all_in_width k a ≡ true → sum k a (zero_e d) ≡ a
sum-zero k d a l h = zeros-added k d a ∙ rw (take_all d a l) (reduce-width k a h)

pub zero_left : (k d : ℕ) (a : Element) → length a ≤ d → all_in_width k a ≡ true → sum k (zero_e d) a ≡ a
zero_left k d a l h = sum_comm k (zero_e d) a ∙ sum-zero k d a l h

-- a list that is longer than the other is used as far as that goes
pub zip-within : (f : ℕ → ℕ → ℕ) (a b : Element) (j : ℕ) → j < length b → length b ≤ length a → get_or (zip f a b) j 0 ≡ f (get_or a j 0) (get_or b j 0)
unfolding zip
zip-within f a [] j l u = absurd (not-suc-le-zero l)
zip-within f [] (y ∷ b) j l u = absurd (not-suc-le-zero u)
zip-within f (x ∷ a) (y ∷ b) zero l u = refl
zip-within f (x ∷ a) (y ∷ b) (suc j) l u = zip-within f a b j (le_of_suc-le-suc l) (le_of_suc-le-suc u)

pub zero-at : (d j : ℕ) → get_or (zero_e d) j 0 ≡ 0
zero-at zero j = refl
zero-at (suc d) zero = refl
zero-at (suc d) (suc j) = zero-at d j

sum-empty : (f : ℕ → ℕ) → sum_of (values_from f 0 0) ≡ 0
unfolding sum_of values_from
sum-empty f = refl

-- the last of the values, taken off their sum
sum-last : (f : ℕ → ℕ) (i n : ℕ) → sum_of (values_from f i (suc n)) ≡ sum_of (values_from f i n) + f (i + n)
unfolding sum_of values_from
sum-last f i zero =
    let e : f (i + 0) ≡ f i = ap f (add-zero i) in
    omega (arith, e)
sum-last f i (suc n) =
    let e : suc i + n ≡ i + suc n = omega arith in
    let r : sum_of (values_from f (suc i) (suc n)) ≡ sum_of (values_from f (suc i) n) + f (i + suc n) = sum-last f (suc i) n ∙ rw e in
    omega (arith, r)

-- ---- sums of elements

-- a sum of elements of d words has d words
pub sum-length : (k d : ℕ) (s : ℕ → Element) (n : ℕ) → ((i : ℕ) → i < n → length (s i) ≡ d) → length (sum_to k d s n) ≡ d
unfolding sum_to
sum-length k d s zero h = length-replicate d 0
sum-length k d s (suc n) h =
    length-zip (add_w k) (sum_to k d s n) (s n) (sum-length k d s n (λ i l. h i (omega arith)) ∙ sym (h n (omega arith))) ∙ h n (omega arith)

-- and words in width, whatever theirs are
pub zeros-width : (k n : ℕ) → all_in_width k (zero_e n) ≡ true
unfolding all_in_width
zeros-width k zero = refl
zeros-width k (suc n) = and_both (in_width k 0) _ (lt-in-width k 0 (pow_pos k)) (zeros-width k n)

pub words_width : (k : ℕ) (a b : Element) → all_in_width k (sum k a b) ≡ true
unfolding zip add_w all_in_width
words_width k [] b = refl
words_width k (x ∷ a) [] = refl
words_width k (x ∷ a) (y ∷ b) = and_both (in_width k ((x + y) % 2 ^ k)) _ (lt-in-width k _ (mod-lt (x + y) (pow_pos k))) (words_width k a b)

pub sum-width : (k d : ℕ) (s : ℕ → Element) (n : ℕ) → all_in_width k (sum_to k d s n) ≡ true
unfolding sum_to
sum-width k d s zero = zeros-width k d
sum-width k d s (suc n) = words_width k (sum_to k d s n) (s n)

pub sum_same : (k d : ℕ) (s r : ℕ → Element) (n : ℕ) → ((i : ℕ) → i < n → s i ≡ r i) → sum_to k d s n ≡ sum_to k d r n
unfolding sum_to
sum_same k d s r zero h = refl
sum_same k d s r (suc n) h = ap₂ (sum k) (sum_same k d s r n (λ i l. h i (omega arith))) (h n (omega arith))

module _ (k d : ℕ) (s : ℕ → Element) where
  pub sum-none : sum_to k d s 0 ≡ zero_e d
  unfolding sum_to
  sum-none = refl

  pub sum-split : (m n : ℕ) → ((i : ℕ) → i < m → length (s i) ≡ d) →
      sum_to k d s (m + n) ≡ sum k (sum_to k d s m) (sum_to k d (λ i. s (m + i)) n)
  unfolding sum_to
  sum-split m zero h = rw add-zero (sym (sum-zero k d (sum_to k d s m) (le_of_eq (sum-length k d s m h)) (sum-width k d s m)))
  sum-split m (suc n) h =
      let e : m + suc n ≡ suc (m + n) = omega arith in
      ap (sum_to k d s) e
      ∙ ap (λ (x : Element). sum k x (s (m + n))) (sum-split m n h)
      ∙ sum-assoc k (sum_to k d s m) (sum_to k d (λ i. s (m + i)) n) (s (m + n))

  -- word j
  pub sum-word : (j n : ℕ) → j < d → ((i : ℕ) → i < n → length (s i) ≡ d) → get_or (sum_to k d s n) j 0 ≡ sum_of (words_no j s n) % 2 ^ k
  unfolding sum_to add_w
  sum-word j zero l h = zero-at d j ∙ sym (zero-mod (2 ^ k)) ∙ ap (λ (x : ℕ). x % 2 ^ k) (sym (sum-empty (λ i. get_or (s i) j 0)))
  sum-word j (suc n) l h =
      let t = sum-length k d s n (λ i u. h i (omega arith)) in
      let g : length (s n) ≡ d = h n (omega arith) in
      zip-within (add_w k) (sum_to k d s n) (s n) j (rw g l) (le_of_eq (g ∙ sym t))
      ∙ ap (λ (x : ℕ). (x + get_or (s n) j 0) % 2 ^ k) (sum-word j n l (λ i u. h i (omega arith)))
      ∙ mod-add-mod (sum_of (words_no j s n)) (2 ^ k) (get_or (s n) j 0)
      ∙ ap (λ (x : ℕ). x % 2 ^ k) (sym (sum-last (λ i. get_or (s i) j 0) 0 n ∙ rw zero-add))

  -- "A total read so equals the sum of the jobs' signed values when that sum lies from −2^(k−1) to 2^(k−1) − 1."
  pub sum-signed : (j n : ℕ) → 1 ≤ k → j < d → ((i : ℕ) → i < n → length (s i) ≡ d) →
      neg_ℤ (pos (2 ^ (k - 1))) ≤ℤ sum_of_meanings k (words_no j s n) → sum_of_meanings k (words_no j s n) ≤ℤ pos (2 ^ (k - 1) - 1) →
      meaning k (get_or (sum_to k d s n) j 0) ≡ sum_of_meanings k (words_no j s n)
  sum-signed j n p l h u v = ap (meaning k) (sum-word j n l h) ∙ signed-sum k (words_no j s n) p u v
