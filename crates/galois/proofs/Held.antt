-- Elements in arrays of six: d words and zeros after them. Assumes nothing.
use mathlib.Core.Path.{◌≡◌, refl, sym, ap, ap₂, ◌∙◌}
use mathlib.Core.Logic.{◌≢◌}
use mathlib.Core.Bool.{cond}
use mathlib.Core.List.{List, [], ◌∷◌, ◌++◌}
use Prim.Native.Nat.{ℕ, zero, suc, ◌+◌, ◌-◌, ◌^◌, ◌≤◌, ◌<◌}
use native.Mathlib.Nat.{le_of_eq, suc-ne-zero, mod-mod, mod-eq_of_lt, mod_self, zero-mod}
use native.Mathlib.Nat.{zero-add, add-zero, zero-mul, mul-zero, one-mul, mul-one, sub-zero}
use native.Mathlib.Omega.{arith}
use lib.Dec.{ltb}
use lib.ListN.{length, get_or, take, drop, replicate, length-append, length-drop}
use lib.Seq.{take_at, take_all, length-take-le}
use mir.Syntax.{w64}
use mir.Val.{Val}
use denote.Array.{Array}
use denote.Plain.{UInt}
use denote.Laws.{Is}
use borrow.Author.Rules.{elem_Fits}
use Rattle.words.specs.Word.{add_w, neg_w, sub_w, mul_w}
use Rattle.words.proofs.Mod.{mods}
use Rattle.galois.specs.Element.{Element, zero_e, zip, sum, difference, held, lower, down_w, plus_w, add_scaled}
use Rattle.galois.proofs.Lists.{length-zip}
use Rattle.galois.proofs.Zip.{six-words, zip-append, zip-zeros, zip-by, zip_first}

pub held-take : (d : ℕ) (e : Element) → length e ≡ d → take d (held d e) ≡ e
held-take d e h = take_at (take d e) (drop d (replicate 6 0)) d (length-take-le d e (le_of_eq (sym h))) ∙ take_all d e (le_of_eq h)

pub held-length : (d : ℕ) (e : Element) → length e ≡ d → d ≤ 6 → length (held d e) ≡ 6
held-length d e h l =
    length-append (take d e) (drop d (replicate 6 0))
    ∙ ap₂ ◌+◌ (length-take-le d e (le_of_eq (sym h))) (length-drop d (replicate 6 0))
    ∙ omega arith

-- what holds of 0 to 6 holds of each d that is at most 6
pub to-six : (P : ℕ → Type 0) → P 0 → P 1 → P 2 → P 3 → P 4 → P 5 → P 6 → (d : ℕ) → d ≤ 6 → P d
to-six P p0 p1 p2 p3 p4 p5 p6 zero h = p0
to-six P p0 p1 p2 p3 p4 p5 p6 (suc zero) h = p1
to-six P p0 p1 p2 p3 p4 p5 p6 (suc (suc zero)) h = p2
to-six P p0 p1 p2 p3 p4 p5 p6 (suc (suc (suc zero))) h = p3
to-six P p0 p1 p2 p3 p4 p5 p6 (suc (suc (suc (suc zero)))) h = p4
to-six P p0 p1 p2 p3 p4 p5 p6 (suc (suc (suc (suc (suc zero))))) h = p5
to-six P p0 p1 p2 p3 p4 p5 p6 (suc (suc (suc (suc (suc (suc zero)))))) h = p6
to-six P p0 p1 p2 p3 p4 p5 p6 (suc (suc (suc (suc (suc (suc (suc d))))))) h = absurd (omega arith)

pub zeros-after : (d : ℕ) → d ≤ 6 → drop d (zero_e 6) ≡ zero_e (6 - d)
zeros-after = to-six (λ n. drop n (zero_e 6) ≡ zero_e (6 - n)) refl refl refl refl refl refl refl

pub zeros-held : (d : ℕ) → d ≤ 6 → held d (zero_e d) ≡ zero_e 6
zeros-held = to-six (λ n. held n (zero_e n) ≡ zero_e 6) refl refl refl refl refl refl refl

-- one, two and the like: a word and zeros
pub const-held : (c d : ℕ) → 1 ≤ d → d ≤ 6 → held d (take d (c ∷ replicate (d - 1) 0)) ≡ c ∷ 0 ∷ 0 ∷ 0 ∷ 0 ∷ 0 ∷ []
const-held c d l h =
    to-six (λ n. 1 ≤ n → held n (take n (c ∷ replicate (n - 1) 0)) ≡ c ∷ 0 ∷ 0 ∷ 0 ∷ 0 ∷ 0 ∷ [])
    (λ z. absurd (omega arith)) (λ z. refl) (λ z. refl) (λ z. refl) (λ z. refl) (λ z. refl) (λ z. refl) d h l

-- an array is known by its first d words
pub held_same : (d : ℕ) (x e : Element) → take d x ≡ e → length e ≡ d → held d x ≡ held d e
held_same d x e p h = ap (λ (l : Element). l ++ drop d (zero_e 6)) (p ∙ sym (take_all d e (le_of_eq h)))

-- the six words of an element, each there where its place is below d
pub held-six : (d : ℕ) (a : Element) → length a ≡ 6 → d ≤ 6
    → held d a
    ≡ cond (ltb 0 d) (get_or a 0 0) 0
    ∷ cond (ltb 1 d) (get_or a 1 0) 0
    ∷ cond (ltb 2 d) (get_or a 2 0) 0
    ∷ cond (ltb 3 d) (get_or a 3 0) 0
    ∷ cond (ltb 4 d) (get_or a 4 0) 0
    ∷ cond (ltb 5 d) (get_or a 5 0) 0
    ∷ []
held-six d a ha h =
    ap (held d) (six-words a ha) ∙ six (get_or a 0 0) (get_or a 1 0) (get_or a 2 0) (get_or a 3 0) (get_or a 4 0) (get_or a 5 0) d h
  where
    six : (x₀ x₁ x₂ x₃ x₄ x₅ : ℕ) (d : ℕ) → d ≤ 6
        → held d (x₀ ∷ x₁ ∷ x₂ ∷ x₃ ∷ x₄ ∷ x₅ ∷ [])
        ≡ cond (ltb 0 d) x₀ 0
        ∷ cond (ltb 1 d) x₁ 0
        ∷ cond (ltb 2 d) x₂ 0
        ∷ cond (ltb 3 d) x₃ 0
        ∷ cond (ltb 4 d) x₄ 0
        ∷ cond (ltb 5 d) x₅ 0
        ∷ []
    six x₀ x₁ x₂ x₃ x₄ x₅ =
        to-six
        (λ n. held n (x₀ ∷ x₁ ∷ x₂ ∷ x₃ ∷ x₄ ∷ x₅ ∷ [])
        ≡ cond (ltb 0 n) x₀ 0
        ∷ cond (ltb 1 n) x₁ 0
        ∷ cond (ltb 2 n) x₂ 0
        ∷ cond (ltb 3 n) x₃ 0
        ∷ cond (ltb 4 n) x₄ 0
        ∷ cond (ltb 5 n) x₅ 0
        ∷ [])
        refl refl refl refl refl refl refl

-- the moduli's rows: 1 for the constant and for X, or for X squared where X has none
pub row-second : (d : ℕ) → 2 ≤ d → d ≤ 6 → get_or (held d (lower d)) 1 0 ≡ 0 → held d (lower d) ≡ 1 ∷ 0 ∷ 1 ∷ 0 ∷ 0 ∷ 0 ∷ []
unfolding lower
row-second d l h =
    to-six (λ n. 2 ≤ n → get_or (held n (lower n)) 1 0 ≡ 0 → held n (lower n) ≡ 1 ∷ 0 ∷ 1 ∷ 0 ∷ 0 ∷ 0 ∷ [])
    (λ z e. absurd (omega arith)) (λ z e. absurd (omega arith)) (λ z e. absurd (suc-ne-zero 0 e)) (λ z e. absurd (suc-ne-zero 0 e))
    (λ z e. absurd (suc-ne-zero 0 e)) (λ z e. refl) (λ z e. absurd (suc-ne-zero 0 e)) d h l

pub row_first : (d : ℕ) → 2 ≤ d → d ≤ 6 → get_or (held d (lower d)) 1 0 ≢ 0 → held d (lower d) ≡ 1 ∷ 1 ∷ 0 ∷ 0 ∷ 0 ∷ 0 ∷ []
unfolding lower
row_first d l h =
    to-six (λ n. 2 ≤ n → get_or (held n (lower n)) 1 0 ≢ 0 → held n (lower n) ≡ 1 ∷ 1 ∷ 0 ∷ 0 ∷ 0 ∷ 0 ∷ [])
    (λ z e. absurd (omega arith)) (λ z e. absurd (omega arith)) (λ z e. refl) (λ z e. refl) (λ z e. refl) (λ z e. absurd (e refl)) (λ z e. refl) d h l

-- the words of an array are below 2^64; `good` is the parameter's part of `c.good`
pub word_good : (xs : List ℕ) (vs : List Val) → Is (Array (UInt w64) 6) xs vs → (i : ℕ) → get_or xs i 0 < 2 ^ 64
word_good xs vs good i = (elem_Fits w64 w64 xs good.0 i good.1.1 tt).fits

-- an operation word by word that takes two zeros to zero keeps the zeros after the d words
pub zip-held : (f : ℕ → ℕ → ℕ) → f 0 0 ≡ 0 → (d : ℕ) (a b : Element) → length a ≡ d → length b ≡ d → d ≤ 6
    → zip f (held d a) (held d b) ≡ held d (zip f a b)
zip-held f z d a b ha hb h =
    let ea : take d a ≡ a = take_all d a (le_of_eq ha) in
    let eb : take d b ≡ b = take_all d b (le_of_eq hb) in
    let ez : take d (zip f a b) ≡ zip f a b = take_all d (zip f a b) (le_of_eq (length-zip f a b (ha ∙ sym hb) ∙ hb)) in
    rw (ea, eb, ez, zeros-after d h) (zip-append f a b (replicate (6 - d) 0) (replicate (6 - d) 0) (ha ∙ sym hb)
    ∙ ap (λ (l : Element). zip f a b ++ l) (zip-zeros f (6 - d) z))

zero-sum : (k : ℕ) → add_w k 0 0 ≡ 0
unfolding add_w
zero-sum k = zero-mod (2 ^ k)

zero-difference : (k : ℕ) → sub_w k 0 0 ≡ 0
unfolding sub_w neg_w
zero-difference k = rw (zero-mod, zero-add, mod-mod, sub-zero, mod_self)

pub sum-held : (k d : ℕ) (a b : Element) → length a ≡ d → length b ≡ d → d ≤ 6 → sum k (held d a) (held d b) ≡ held d (sum k a b)
sum-held k d a b = zip-held (add_w k) (zero-sum k) d a b

pub difference-held : (k d : ℕ) (a b : Element) → length a ≡ d → length b ≡ d → d ≤ 6
    → difference k (held d a) (held d b) ≡ held d (difference k a b)
difference-held k d a b = zip-held (sub_w k) (zero-difference k) d a b

-- the operations of a product with a coefficient 0 or 1 need no product
pub down-one : (k top x : ℕ) → down_w k top x 1 ≡ sub_w k x top
unfolding sub_w neg_w mul_w
down-one k top x = rw (mod-mod, mul-one)

pub down-none : (k top x : ℕ) → x < 2 ^ k → down_w k top x 0 ≡ x
unfolding sub_w neg_w mul_w
down-none k top x h = rw (mul-zero, zero-mod, zero-mod, sub-zero, mod_self, add-zero) (mod-eq_of_lt h)

plus_one : (k x y : ℕ) → plus_w k 1 x y ≡ add_w k x y
unfolding add_w mul_w
plus_one k x y = rw one-mul (simp mods)

plus_none : (k x y : ℕ) → x < 2 ^ k → plus_w k 0 x y ≡ x
unfolding add_w mul_w
plus_none k x y h = rw (zero-mul, zero-mod, add-zero) (mod-eq_of_lt h)

pub scaled-one : (k : ℕ) (s b : Element) → add_scaled k 1 s b ≡ sum k s b
scaled-one k = zip-by (plus_w k 1) (add_w k) (plus_one k)

pub scaled-none : (k : ℕ) (s b : Element) → length s ≡ length b → ((i : ℕ) → get_or s i 0 < 2 ^ k) → add_scaled k 0 s b ≡ s
scaled-none k s b h fit = zip_first (plus_w k 0) s b h (λ i. plus_none k (get_or s i 0) (get_or b i 0) (fit i))
