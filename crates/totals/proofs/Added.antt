-- An element added to the first words of a list (`added_to`), as the passes over a run do it: where the words stand (`fill_here`), in words of 64
-- bits, whose lowest k bits are those of the sum in words of k bits (`added_none`, `added_more`); over the whole of a list, over zeros; and taken
-- off again (`taken-off`). Assumes nothing.
use mathlib.Core.Path.{◌≡◌, refl, sym, ap, ap₂, ◌∙◌}
use mathlib.Core.Bool.{true}
use mathlib.Core.List.{List, [], ◌∷◌, ◌++◌, append-nil}
use Prim.Native.Nat.{ℕ, zero, suc, ◌+◌, ◌-◌, ◌/◌, ◌%◌, ◌^◌, ◌≤◌, ◌<◌}
use native.Mathlib.Nat.{le_of_eq, le_refl, suc_inj, suc-ne-zero, mod-lt, mod-add-div, mod-eq_of_lt, mod-add-mod, add-mod-mod}
use native.Mathlib.Nat.{add-mul-mod_self_left}
use native.Mathlib.Numerals.{add-one}
use native.Mathlib.Omega.{arith}
use lib.ListN.{length, get_or, set, take, drop, drop_of_length-le}
use lib.Pow.{pow_pos}
use lib.Seq.{paste, length-take-le, take_at, drop_at}
use Rattle.words.specs.Word.{add_w, sub_w, neg_w, in_width, all_in_width}
use Rattle.words.proofs.Fill.{fill-next, fill-ahead}
use Rattle.words.proofs.Mod.{mods, sub-law}
use Rattle.words.proofs.Tests.{and_left, and_right}
use Rattle.words.proofs.Width.{in-width-lt}
use Rattle.galois.specs.Element.{Element, zip, sum, difference, zero_e, held, reduce}
use Rattle.galois.proofs.Lists.{length-zip}
use Rattle.galois.proofs.Narrow.{reduce-sum, reduce-left}
use Rattle.galois.proofs.Zip.{zip-short}
use Rattle.totals.specs.Total.{sum_to, added_to}
use Rattle.totals.proofs.Sums.{sum-assoc, zeros-added, zero_left}
use Rattle.totals.proofs.Words.{padded}

-- ---- word by word

pub zip-count : (f : ℕ → ℕ → ℕ) (a b : Element) → length b ≤ length a → length (zip f a b) ≡ length b
zip-count f a b u = ap length (sym (zip-short f (length b) a b (le_refl _))) ∙ length-zip f (take (length b) a) b (length-take-le (length b) a u)

-- a loop that changes each word where it stands: word j of s is what f makes of the word that is there
pub fill_here : (f : ℕ → ℕ) (old s x : List ℕ) (j v : ℕ) → x ≡ paste old 0 s j → j < length s → length s ≤ length old →
    get_or s j 0 ≡ f (get_or old j 0) → v ≡ f (get_or x j 0) → set x j v ≡ paste old 0 s (j + 1)
fill_here f old s x j v e h u g q = fill-next old s x j 0 v e (omega arith) h (q ∙ ap f (fill-ahead old s x j 0 e (omega arith)) ∙ sym g)

-- ---- elements of d words, one after another, added to the first d words of a list

module _ (d : ℕ) (ws : List ℕ) (s : ℕ → Element) where
  pub added_none : (k : ℕ) → reduce k (take d ws) ≡ sum k ws (sum_to k d s 0)
  unfolding sum_to
  added_none k = sym (zeros-added k d ws)

  module _ (n : ℕ) (long : length (s n) ≡ d) (x y : List ℕ) (u : d ≤ length x) (e : y ≡ added_to 64 x (s n)) where
    sum-count : length (sum 64 x (s n)) ≡ d
    sum-count = zip-count (add_w 64) x (s n) (rw long u) ∙ long

    pub added_more : (k : ℕ) → k ≤ 64 → reduce k (take d x) ≡ sum k ws (sum_to k d s n) → reduce k (take d y) ≡ sum k ws (sum_to k d s (n + 1))
    unfolding sum_to
    added_more k h q =
        ap (λ (l : List ℕ). reduce k (take d l)) e
        ∙ ap (reduce k) (take_at (sum 64 x (s n)) _ d sum-count)
        ∙ reduce-sum h x (s n)
        ∙ sym (zip-short (add_w k) d x (s n) (le_of_eq long))
        ∙ sym (reduce-left k (take d x) (s n))
        ∙ ap (λ (l : Element). sum k l (s n)) q
        ∙ sum-assoc k ws (sum_to k d s n) (s n)
        ∙ rw add-one

    pub added-rest : drop d x ≡ drop d ws → drop d y ≡ drop d ws
    added-rest q = ap (drop d) e ∙ drop_at (sum 64 x (s n)) _ d sum-count ∙ rw long q

-- ---- an element added to all words of a list, to zeros, and taken off

pub added-whole : (k : ℕ) (ws : List ℕ) (e : Element) → length ws ≡ length e → added_to k ws e ≡ sum k ws e
added-whole k ws e l = rw (drop_of_length-le ws {i = length e} (le_of_eq l)) (append-nil (sum k ws e))

pub added-zeros : (k d : ℕ) (e : Element) → d ≤ 6 → length e ≡ d → all_in_width k e ≡ true → added_to k (zero_e 6) e ≡ held d e
added-zeros k d e u l w = ap₂ (λ (x : Element) (n : ℕ). x ++ drop n (zero_e 6)) (zero_left k 6 e (rw l u) w) l ∙ padded d e l

negative : (k x t : ℕ) → sub_w k 0 (add_w k (sub_w k 0 x) t) ≡ sub_w k x t
unfolding sub_w add_w neg_w
negative k x t =
    let m = 2 ^ k in
    let p = pow_pos k in
    sym
    (sub-law (x + (m - t % m)) 0 (add_w k (sub_w k 0 x) t) m p
    (simp mods (ap (λ (z : ℕ). z % m) (omega (arith, mod-add-div x m, mod-lt x p, mod-add-div t m, mod-lt t p))
    ∙ add-mul-mod_self_left 0 m (x / m + t / m + 2))))
    ∙ sym (add-mod-mod x (m - t % m) m)

-- the negative of an element, with another added, is the negative of the difference
pub negative-added : (k d : ℕ) (a b : Element) → length a ≡ d → length b ≡ d →
    difference k (zero_e d) (sum k (difference k (zero_e d) a) b) ≡ difference k a b
unfolding zip
negative-added k zero [] b l m = refl
negative-added k zero (x ∷ a) b l m = absurd (suc-ne-zero (length a) l)
negative-added k (suc d) [] b l m = absurd (suc-ne-zero d (sym l))
negative-added k (suc d) (x ∷ a) [] l m = refl
negative-added k (suc d) (x ∷ a) (y ∷ b) l m = ap₂ ◌∷◌ (negative k x y) (negative-added k d a b (suc_inj l) (suc_inj m))

-- what was added is taken off again
pub taken-off : (k : ℕ) (a b : Element) → length a ≡ length b → all_in_width k a ≡ true → difference k (sum k a b) b ≡ a
unfolding zip add_w sub_w neg_w all_in_width
taken-off k [] b l w = refl
taken-off k (x ∷ a) [] l w = absurd (suc-ne-zero (length a) l)
taken-off k (x ∷ a) (y ∷ b) l w =
    let off : sub_w k (add_w k x y) y ≡ x % 2 ^ k = mod-add-mod (x + y) (2 ^ k) (neg_w k y) ∙ sym (sub-law x (x + y) y (2 ^ k) (pow_pos k) refl) in
    ap₂ ◌∷◌ (off ∙ mod-eq_of_lt (in-width-lt k x (and_left (in_width k x) _ w))) (taken-off k a b (suc_inj l) (and_right (in_width k x) _ w))
