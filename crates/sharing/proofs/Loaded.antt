-- Lent shares in arrays: once holders and words are loaded, the decoder's shares are the lent ones. Assumes nothing.
use mathlib.Core.Path.{◌≡◌, sym, ◌∙◌, ap, ap₂}
use mathlib.Core.List.{List, [], ◌∷◌, ◌++◌}
use Prim.Native.Nat.{ℕ, zero, suc, ◌+◌, ◌*◌, ◌<◌}
use native.Mathlib.Nat.{le_of_eq, zero-add, zero-mul}
use native.Mathlib.Omega.{arith}
use lib.ListN.{length, take, drop, get_or, drop_of_length-le, length-map}
use lib.Seq.{paste, take_at, take_all, drop-cons, drop-drop, get_or-take}
use Rattle.polynomial.specs.Rows.{Rows, coefs}
use Rattle.level.specs.Shares.{shares_from, shares_of}
use Rattle.sharing.specs.Dealing.{elements_of}
use Rattle.sharing.specs.Opening.{lent}
use Rattle.sharing.proofs.Elements.{elements-length, element-at, map_at}

-- what a loop has written, in front of an array
pub front : {A : Type 0} (x s r : List A) (n : ℕ) → r ≡ paste x 0 s n → length s ≡ n → take n r ≡ s
front x s r n e h =
    ap (take n) (e ∙ ap (λ (l : List _). l ++ drop (0 + n) x) (take_all n s (le_of_eq h))) ∙ take_at s (drop (0 + n) x) n h

module _ (d m : ℕ) (hs ws xs : List ℕ) (ys : Rows) (long : length hs ≡ m) (holders : take m xs ≡ hs)
    (words : coefs d m ys ≡ elements_of d m ws) where
  deep : length (take m ys) ≡ m
  deep = sym (length-map (take m ys) (take d)) ∙ ap length words ∙ elements-length d m ws

  holder-at : (i : ℕ) → i < m → get_or xs i 0 ≡ get_or hs i 0
  holder-at i h = sym (get_or-take m xs i 0 h) ∙ ap (λ (l : List ℕ). get_or l i 0) holders

  words-at : (i : ℕ) → i < m → take d (get_or ys i []) ≡ take d (drop (i * d) ws)
  words-at i h =
      ap (take d) (sym (get_or-take m ys i [] h))
      ∙ sym (map_at (take d) (take m ys) i [] [] (rw deep h))
      ∙ ap (λ (l : Rows). get_or l i []) words
      ∙ element-at d m ws i h

  from : (n i : ℕ) → i + n ≡ m → shares_from d xs ys i n ≡ lent d (drop i hs) (drop (i * d) ws)
  unfolding shares_from lent
  from zero i e = ap (λ (l : List ℕ). lent d l (drop (i * d) ws)) (sym (drop_of_length-le hs {i = i} (omega (arith, long))))
  from (suc n) i e =
      let h : i < m = omega arith in
      let c : drop i hs ≡ get_or hs i 0 ∷ drop (suc i) hs = drop-cons hs i 0 (omega (arith, long)) in
      let f : i * d + d ≡ suc i * d = omega arith in
      ap₂ ◌∷◌
      (ap₂ (λ (x : ℕ) (y : List ℕ). record { holder = x; words = y }) (holder-at i h) (words-at i h))
      (from n (suc i) (omega arith)
      ∙ ap (lent d (drop (suc i) hs)) (ap (λ (j : ℕ). drop j ws) (sym f) ∙ sym (drop-drop d (i * d) ws)))
      ∙ ap (λ (l : List ℕ). lent d l (drop (i * d) ws)) (sym c)

  pub loaded : shares_of d m xs ys ≡ lent d hs ws
  loaded = from m 0 (zero-add m) ∙ ap (λ (j : ℕ). lent d hs (drop j ws)) (zero-mul d)
