-- The words that holders have of a polynomial: those of dealt shares, of their sums and of their multiples. Assumes nothing.
use mathlib.Core.Path.{◌≡◌, refl, sym, ◌∙◌, ap, ap₂}
use mathlib.Core.Bool.{Bool, true}
use mathlib.Core.List.{List, [], ◌∷◌, ◌++◌}
use Prim.Native.Nat.{ℕ, ◌+◌, ◌-◌, ◌*◌, ◌^◌, ◌≤◌, ◌<◌}
use native.Mathlib.Nat.{zero-mul}
use native.Mathlib.Omega.{arith}
use lib.Dec.{leb, ltb}
use lib.ListN.{length, take, drop, length-append}
use lib.Seq.{take_at, drop_at}
use borrow.Author.Tests.{leb-true, ltb-true}
use Rattle.words.proofs.Tests.{and_left, and_right}
use Rattle.galois.specs.Element.{Element, sum, product, lower, point}
use Rattle.galois.proofs.Lists.{product-comm}
use Rattle.galois.proofs.Table.{length-lower}
use Rattle.galois.proofs.Points.{length-point}
use Rattle.polynomial.specs.Polynomial.{Polynomial, value}
use Rattle.comparison.specs.Comparison.{apart}
use Rattle.comparison.proofs.Compared.{apart-not}
use Rattle.codewords.specs.Codeword.{Share, when, differs, error_set}
use Rattle.codewords.proofs.Value.{Rows}
use Rattle.codewords.specs.Linear.{sums, multiple}
use Rattle.codewords.proofs.Linear.{value-sum, value-multiple}
use Rattle.sharing.specs.Dealing.{dealt_from}
use Rattle.sharing.specs.Dealt.{values_at}
use Rattle.sharing.specs.Lists.{of_holders, on_each, on_pairs, changed_set}
use Rattle.sharing.specs.Opening.{lent, rising_to}
use Rattle.sharing.proofs.Dealt.{share-length, share-at}

module _ (k d : ℕ) (dl : 2 ≤ d) (dh : d ≤ 6) where
  module _ (q : Polynomial) (rows : Rows d q) where
    long : (h : ℕ) → length (value k d q (point d h)) ≡ d
    long = share-length k d dl dh q rows

    pub values_length : (hs : List ℕ) → length (values_at k d q hs) ≡ length hs * d
    unfolding values_at
    values_length [] = sym (zero-mul d)
    values_length (h ∷ hs) = length-append (value k d q (point d h)) (values_at k d q hs) ∙ omega (arith, long h, values_length hs)

    -- the first words are the first holder's
    first : (h : ℕ) (hs : List ℕ) → take d (value k d q (point d h) ++ values_at k d q hs) ≡ value k d q (point d h)
    first h hs = take_at (value k d q (point d h)) (values_at k d q hs) d (long h)

    rest : (h : ℕ) (hs : List ℕ) → drop d (value k d q (point d h) ++ values_at k d q hs) ≡ values_at k d q hs
    rest h hs = drop_at (value k d q (point d h)) (values_at k d q hs) d (long h)

    -- of dealt shares, those of some holders
    pub of-dealt : (n prev : ℕ) (hs : List ℕ) → rising_to n prev hs ≡ true → of_holders d hs (dealt_from k d q n 1) ≡ values_at k d q hs
    unfolding of_holders values_at rising_to
    of-dealt n prev [] e = refl
    of-dealt n prev (h ∷ hs) e =
        let l : prev < h = ltb-true prev h (and_left (ltb prev h) _ e) in
        let r = and_right (ltb prev h) _ e in
        let m : h ≤ n = leb-true h n (and_left (leb h n) _ r) in
        let f : 1 + (h - 1) ≡ h = omega arith in
        ap₂ ◌++◌ (share-at k d dl dh q rows n 1 (h - 1) (omega arith) ∙ ap (λ (i : ℕ). value k d q (point d i)) f)
        (of-dealt n h hs (and_right (leb h n) _ r))

    -- lent with changes, or without: the shares that differ are those that are changed
    pub errors-changed : (hs ws : List ℕ) → error_set k d q (lent d hs ws) ≡ changed_set (lent d hs (values_at k d q hs)) (lent d hs ws)
    unfolding error_set differs lent values_at changed_set
    errors-changed [] ws = refl
    errors-changed (h ∷ hs) ws =
        ap₂ ◌+◌
        (ap (λ (v : Element). when (apart (take d ws) v) (2 ^ (h - 1))) (sym (first h hs)))
        (errors-changed hs (drop d ws)
        ∙ ap (λ (vs : List ℕ). changed_set (lent d hs vs) (lent d hs (drop d ws))) (sym (rest h hs)))

    -- a call on each
    pub each-value : (f : Element → Element) (r : Polynomial) → ((h : ℕ) → f (value k d q (point d h)) ≡ value k d r (point d h))
        → (hs : List ℕ) → on_each f d (length hs) (values_at k d q hs) ≡ values_at k d r hs
    unfolding on_each values_at
    each-value f r e [] = refl
    each-value f r e (h ∷ hs) =
        ap₂ (λ (a : Element) (vs : List ℕ). f a ++ on_each f d (length hs) vs) (first h hs) (rest h hs)
        ∙ ap₂ ◌++◌ (e h) (each-value f r e hs)

  pub multiple-values : (q : Polynomial) → Rows d q → (a : Element) → length a ≡ d → (hs : List ℕ)
      → on_each (product k (lower d) a) d (length hs) (values_at k d q hs) ≡ values_at k d (multiple k d a q) hs
  multiple-values q rows a l =
      each-value q rows (product k (lower d) a) (multiple k d a q) (λ h. sym (value-multiple d dl dh k a l q rows (point d h) (length-point d h)))

  -- in the other order
  pub multiple-values-by : (q : Polynomial) → Rows d q → (a : Element) → length a ≡ d → (hs : List ℕ)
      → on_each (λ (v : Element). product k (lower d) v a) d (length hs) (values_at k d q hs) ≡ values_at k d (multiple k d a q) hs
  multiple-values-by q rows a l =
      each-value q rows (λ (v : Element). product k (lower d) v a) (multiple k d a q)
      (λ h. product-comm k d (lower d) (length-lower d dl dh) (value k d q (point d h)) a (share-length k d dl dh q rows h) l
      ∙ sym (value-multiple d dl dh k a l q rows (point d h) (length-point d h)))

  pub sum-values : (q r : Polynomial) → Rows d q → Rows d r → length q ≡ length r → (hs : List ℕ)
      → on_pairs (sum k) d (length hs) (values_at k d q hs) (values_at k d r hs) ≡ values_at k d (sums k q r) hs
  unfolding on_pairs values_at
  sum-values q r x y l [] = refl
  sum-values q r x y l (h ∷ hs) =
      let ws = value k d r (point d h) ++ values_at k d r hs in
      ap₂ (λ (a : Element) (vs : List ℕ). sum k a (take d ws) ++ on_pairs (sum k) d (length hs) vs (drop d ws)) (first q x h hs) (rest q x h hs)
      ∙ ap₂ (λ (b : Element) (vs : List ℕ). sum k (value k d q (point d h)) b ++ on_pairs (sum k) d (length hs) (values_at k d q hs) vs)
      (first r y h hs) (rest r y h hs)
      ∙ ap₂ ◌++◌ (sym (value-sum d dl dh k q r x y l (point d h) (length-point d h))) (sum-values q r x y l hs)

-- nothing is changed where nothing is
pub changed-none : (ss : List Share) → changed_set ss ss ≡ 0
unfolding changed_set
changed-none [] = refl
changed-none (s ∷ ss) = ap₂ (λ (b : Bool) (n : ℕ). when b (2 ^ (s.holder - 1)) + n) (apart-not s.words) (changed-none ss)
