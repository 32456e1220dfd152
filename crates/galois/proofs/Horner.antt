-- A product by Horner's rule, one word of the first factor a turn, over all six words of an array: what stands at d and above never comes down.
-- Assumes nothing.
use mathlib.Core.Path.{◌≡◌, refl, sym, ap, ◌∙◌}
use mathlib.Core.Logic.{◌≢◌}
use mathlib.Core.List.{[], ◌∷◌}
use Prim.Native.Nat.{ℕ, zero, suc, ◌-◌, ◌^◌, ◌≤◌, ◌<◌}
use native.Mathlib.Nat.{not-suc-le-zero, le_of_eq}
use native.Mathlib.Omega.{arith}
use lib.ListN.{length, get_or, take, drop, drop_of_length-le}
use lib.Seq.{drop-cons, get_or-take, length-take-le}
use Rattle.words.specs.Word.{sub_w}
use Rattle.galois.specs.Element.{Element, zero_e, zip, down_w, plus_w, add_scaled, times_x, product, held, lower}
use Rattle.galois.proofs.Table.{length-lower}
use Rattle.galois.proofs.Zip.{zip-take, zip-short, zip-six, zip-shifted}
use Rattle.galois.proofs.Held.{held-take, to-six, row_first, row-second, down-one, down-none}

-- X times an element, over six words
pub shift-take : (k d : ℕ) (l r : Element) → length l ≡ d → 1 ≤ d → d ≤ length r
    → take d (zip (down_w k (get_or r (d - 1) 0)) (0 ∷ r) (held d l)) ≡ times_x k l (take d r)
unfolding times_x zip
shift-take k d l r hl h hr =
    let f = down_w k (get_or r (d - 1) 0) in
    let et : length (take d r) ≡ d = length-take-le d r hr in
    let top : get_or r (d - 1) 0 ≡ get_or (take d r) (length (take d r) - 1) 0 =
    sym (ap (λ (n : ℕ). get_or (take d r) (n - 1) 0) et ∙ get_or-take d r (d - 1) 0 (omega arith)) in
    zip-take f d (0 ∷ r) (held d l)
    ∙ ap (zip f (take d (0 ∷ r))) (held-take d l hl)
    ∙ zip-short f d (0 ∷ r) l (le_of_eq hl)
    ∙ sym (zip-short f (suc d) (0 ∷ r) l (omega arith))
    ∙ ap (λ (x : ℕ). zip (down_w k x) (0 ∷ take d r) l) top

-- a shift in 64 bits, as its words are computed: the modulus has a 1 for X squared and none for X, or one for X
pub shift-second : (d t : ℕ) (low r : Element) → low ≡ held d (lower d) → 2 ≤ d → d ≤ 6 → length r ≡ 6 → ((i : ℕ) → get_or r i 0 < 2 ^ 64)
    → get_or low 1 0 ≡ 0
    → sub_w 64 0 t ∷ get_or r 0 0 ∷ sub_w 64 (get_or r 1 0) t ∷ get_or r 2 0 ∷ get_or r 3 0 ∷ get_or r 4 0 ∷ [] ≡ zip (down_w 64 t) (0 ∷ r) low
shift-second d t low r e dl dh hr fit z =
    let row : low ≡ 1 ∷ 0 ∷ 1 ∷ 0 ∷ 0 ∷ 0 ∷ [] = e ∙ row-second d dl dh (rw e at z) in
    rw (
      row,
      zip-shifted (down_w 64 t) r (1 ∷ 0 ∷ 1 ∷ 0 ∷ 0 ∷ 0 ∷ []) hr refl,
      down-one 64 t 0,
      down-none 64 t (get_or r 0 0) (fit 0),
      down-one 64 t (get_or r 1 0),
      down-none 64 t (get_or r 2 0) (fit 2),
      down-none 64 t (get_or r 3 0) (fit 3),
      down-none 64 t (get_or r 4 0) (fit 4),
    )

pub shift-first : (d t : ℕ) (low r : Element) → low ≡ held d (lower d) → 2 ≤ d → d ≤ 6 → length r ≡ 6 → ((i : ℕ) → get_or r i 0 < 2 ^ 64)
    → get_or low 1 0 ≢ 0
    → sub_w 64 0 t ∷ sub_w 64 (get_or r 0 0) t ∷ get_or r 1 0 ∷ get_or r 2 0 ∷ get_or r 3 0 ∷ get_or r 4 0 ∷ [] ≡ zip (down_w 64 t) (0 ∷ r) low
shift-first d t low r e dl dh hr fit z =
    let row : low ≡ 1 ∷ 1 ∷ 0 ∷ 0 ∷ 0 ∷ 0 ∷ [] = e ∙ row_first d dl dh (rw e at z) in
    rw (
      row,
      zip-shifted (down_w 64 t) r (1 ∷ 1 ∷ 0 ∷ 0 ∷ 0 ∷ 0 ∷ []) hr refl,
      down-one 64 t 0,
      down-one 64 t (get_or r 0 0),
      down-none 64 t (get_or r 1 0) (fit 1),
      down-none 64 t (get_or r 2 0) (fit 2),
      down-none 64 t (get_or r 3 0) (fit 3),
      down-none 64 t (get_or r 4 0) (fit 4),
    )

-- one word more of the first factor
pub product-step : (k : ℕ) (l a b : Element) (i : ℕ) → 0 < i → i ≤ length a
    → product k l (drop (i - 1) a) b ≡ add_scaled k (get_or a (i - 1) 0) (times_x k l (product k l (drop i a) b)) b
unfolding product
product-step k l a b zero p h = absurd (not-suc-le-zero p)
product-step k l a b (suc j) p h =
    let e : suc j - 1 ≡ j = omega arith in
    rw (e, drop-cons a j 0 h)

-- a turn: c is the word of the first factor a at i - 1
pub turn : (k d : ℕ) (r a b : Element) (i c : ℕ) → 2 ≤ d → d ≤ 6 → d ≤ length r → 0 < i → i ≤ length a → c ≡ get_or a (i - 1) 0
    → take d r ≡ product k (lower d) (drop i a) (take d b)
    → take d (add_scaled k c (zip (down_w k (get_or r (d - 1) 0)) (0 ∷ r) (held d (lower d))) b) ≡ product k (lower d) (drop (i - 1) a) (take d b)
turn k d r a b i c h₂ h₆ hr p hi ec e =
    zip-take (plus_w k c) d (zip (down_w k (get_or r (d - 1) 0)) (0 ∷ r) (held d (lower d))) b
    ∙ ap (λ (x : Element). add_scaled k c x (take d b))
    (shift-take k d (lower d) r (length-lower d h₂ h₆) (omega arith) hr ∙ ap (times_x k (lower d)) e)
    ∙ ap (λ (x : ℕ). add_scaled k x (times_x k (lower d) (product k (lower d) (drop i a) (take d b))) (take d b)) ec
    ∙ sym (product-step k (lower d) a (take d b) i p hi)

-- before the first turn
pub product-none : (k d : ℕ) (b : Element) → 2 ≤ d → d ≤ 6 → take d (zero_e 6) ≡ product k (lower d) [] b
unfolding product
product-none k d b h₂ h₆ =
    rw (length-lower d h₂ h₆) (to-six (λ n. take n (zero_e 6) ≡ zero_e n) refl refl refl refl refl refl refl d h₆)

pub no-turn : (k d : ℕ) (a b : Element) → 2 ≤ d → d ≤ 6 → length a ≡ d → take d (zero_e 6) ≡ product k (lower d) (drop d a) b
no-turn k d a b h₂ h₆ ha = rw (drop_of_length-le a (le_of_eq ha)) (product-none k d b h₂ h₆)

pub turn-length : (f g : ℕ → ℕ → ℕ) (r low b : Element) → length r ≡ 6 → length low ≡ 6 → length b ≡ 6 → length (zip f (zip g (0 ∷ r) low) b) ≡ 6
turn-length f g r low b hr hl hb = ap length (zip-six f (zip g (0 ∷ r) low) b (ap length (zip-shifted g r low hr hl)) hb)
