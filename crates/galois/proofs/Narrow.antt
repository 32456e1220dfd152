-- Words of k bits may be cut to j bits at any time: a sum at k bits, cut to j, is the one at j bits (`reduce-product` of Lists says so of a
-- product), and the cut of an operand to as many bits as its result has changes nothing. And the cut of an array of six. Assumes nothing.
use mathlib.Core.Path.{◌≡◌, refl, sym, ap, ap₂, ◌∙◌}
use mathlib.Core.List.{[], ◌∷◌, ◌++◌}
use Prim.Native.Nat.{ℕ, zero, suc, ◌+◌, ◌-◌, ◌%◌, ◌^◌, ◌≤◌}
use native.Mathlib.Nat.{zero-mod, le_of_eq, le_refl, add_comm, add-mod-mod}
use lib.ListN.{length, get_or, take}
use lib.Seq.{take_all}
use Rattle.words.specs.Word.{add_w}
use Rattle.words.proofs.Mod.{mod-narrow}
use Rattle.galois.specs.Element.{Element, zero_e, zip, sum, lower, product, reduce, held}
use Rattle.galois.proofs.Lists.{length-reduce, length-product, of-reduce, reduce-product, product-same}
use Rattle.galois.proofs.Table.{length-lower}
use Rattle.galois.proofs.Zip.{six-words}
use Rattle.galois.proofs.Held.{zeros-after}

-- words
add-narrow : {j k : ℕ} → j ≤ k → (x y : ℕ) → add_w k x y % 2 ^ j ≡ add_w j x y
unfolding add_w
add-narrow {j} {k} h x y = mod-narrow (x + y) j k h

-- lists
pub reduce-at : (k : ℕ) (a : Element) (j : ℕ) → get_or (reduce k a) j 0 ≡ get_or a j 0 % 2 ^ k
unfolding reduce
reduce-at k [] j = sym (zero-mod (2 ^ k))
reduce-at k (x ∷ a) zero = refl
reduce-at k (x ∷ a) (suc j) = reduce-at k a j

reduce-zip : (j : ℕ) (f g : ℕ → ℕ → ℕ) → ((x y : ℕ) → f x y % 2 ^ j ≡ g x y) → (a b : Element) → reduce j (zip f a b) ≡ zip g a b
unfolding zip reduce
reduce-zip j f g e [] b = refl
reduce-zip j f g e (x ∷ a) [] = refl
reduce-zip j f g e (x ∷ a) (y ∷ b) = ap₂ ◌∷◌ (e x y) (reduce-zip j f g e a b)

pub reduce-sum : {j k : ℕ} → j ≤ k → (a b : Element) → reduce j (sum k a b) ≡ sum j a b
reduce-sum {j} {k} h = reduce-zip j (add_w k) (add_w j) (add-narrow h)

-- and the cut of an operand changes nothing
pub sum-reduce : (j : ℕ) (a b : Element) → sum j a (reduce j b) ≡ sum j a b
unfolding zip reduce add_w
sum-reduce j [] b = refl
sum-reduce j (x ∷ a) [] = refl
sum-reduce j (x ∷ a) (y ∷ b) = ap₂ ◌∷◌ (add-mod-mod x y (2 ^ j)) (sum-reduce j a b)

pub sum_comm : (k : ℕ) (a b : Element) → sum k a b ≡ sum k b a
unfolding zip add_w
sum_comm k [] [] = refl
sum_comm k [] (y ∷ b) = refl
sum_comm k (x ∷ a) [] = refl
sum_comm k (x ∷ a) (y ∷ b) = ap₂ ◌∷◌ (ap (λ (z : ℕ). z % 2 ^ k) (add_comm x y)) (sum_comm k a b)

pub reduce-left : (k : ℕ) (a b : Element) → sum k (reduce k a) b ≡ sum k a b
reduce-left k a b = sum_comm k (reduce k a) b ∙ sum-reduce k b a ∙ sum_comm k b a

pub product-reduce : (k d : ℕ) → 2 ≤ d → d ≤ 6 → (a b : Element) → length a ≡ d → length b ≡ d
    → product k (lower d) a (reduce k b) ≡ product k (lower d) a b
product-reduce k d dl dh a b l m =
    product-same k d (lower d) (length-lower d dl dh) a (reduce k b) a b l (length-reduce k b ∙ m) l m refl (of-reduce (le_refl k) d b)

-- arrays of six
pub reduce-six : (k : ℕ) (a : Element) → length a ≡ 6
    → reduce k a
    ≡ get_or a 0 0 % 2 ^ k
    ∷ get_or a 1 0 % 2 ^ k
    ∷ get_or a 2 0 % 2 ^ k
    ∷ get_or a 3 0 % 2 ^ k
    ∷ get_or a 4 0 % 2 ^ k
    ∷ get_or a 5 0 % 2 ^ k
    ∷ []
unfolding reduce
reduce-six k a h = ap (reduce k) (six-words a h)

reduce-append : (k : ℕ) (a b : Element) → reduce k (a ++ b) ≡ reduce k a ++ reduce k b
unfolding reduce
reduce-append k [] b = refl
reduce-append k (x ∷ a) b = ap (λ (l : Element). x % 2 ^ k ∷ l) (reduce-append k a b)

pub reduce-take : (k n : ℕ) (a : Element) → reduce k (take n a) ≡ take n (reduce k a)
unfolding reduce
reduce-take k zero a = refl
reduce-take k (suc n) [] = refl
reduce-take k (suc n) (x ∷ a) = ap (λ (l : Element). x % 2 ^ k ∷ l) (reduce-take k n a)

pub reduce-zeros : (k n : ℕ) → reduce k (zero_e n) ≡ zero_e n
unfolding reduce
reduce-zeros k zero = refl
reduce-zeros k (suc n) = ap₂ ◌∷◌ (zero-mod (2 ^ k)) (reduce-zeros k n)

pub reduce-held : (k d : ℕ) (e : Element) → length e ≡ d → d ≤ 6 → reduce k (held d e) ≡ held d (reduce k e)
reduce-held k d e l h =
    let t : take d e ≡ e = take_all d e (le_of_eq l) in
    let u : take d (reduce k e) ≡ reduce k e = take_all d (reduce k e) (le_of_eq (length-reduce k e ∙ l)) in
    rw (t, u, zeros-after d h) (reduce-append k e (zero_e (6 - d)) ∙ ap (λ (l : Element). reduce k e ++ l) (reduce-zeros k (6 - d)))

-- a product in more bits, in its array, cut to fewer
pub narrow-product : {j k : ℕ} → j ≤ k → (d : ℕ) → 2 ≤ d → d ≤ 6 → (a b : Element) → length a ≡ d → length b ≡ d
    → reduce j (held d (product k (lower d) a b)) ≡ held d (product j (lower d) a b)
narrow-product {j} {k} h d dl dh a b la lb =
    let hl : length (lower d) ≡ d = length-lower d dl dh in
    reduce-held j d (product k (lower d) a b) (length-product k (lower d) a b (lb ∙ sym hl) ∙ hl) dh
    ∙ ap (held d) (reduce-product h d (lower d) hl a b la lb)
