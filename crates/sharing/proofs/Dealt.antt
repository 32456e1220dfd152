-- The shares that dealing writes: how long they are, and whose stands where. Assumes nothing.
use mathlib.Core.Path.{◌≡◌, sym, ◌∙◌, ap}
use mathlib.Core.List.{[]}
use Prim.Native.Nat.{ℕ, zero, suc, ◌+◌, ◌*◌, ◌≤◌, ◌<◌}
use native.Mathlib.Nat.{not-suc-le-zero, le_of_suc-le-suc, zero-mul, add-zero}
use native.Mathlib.Omega.{arith}
use lib.ListN.{length, take, drop, length-append}
use lib.Seq.{take_at, drop-append-add}
use Rattle.galois.specs.Element.{point}
use Rattle.polynomial.specs.Polynomial.{Polynomial, value}
use Rattle.codewords.proofs.Value.{Rows, value-element}
use Rattle.sharing.specs.Dealing.{dealt_from}

module _ (k d : ℕ) (dl : 2 ≤ d) (dh : d ≤ 6) (q : Polynomial) (rows : Rows d q) where
  pub share-length : (i : ℕ) → length (value k d q (point d i)) ≡ d
  share-length i = (value-element d dl dh k q rows (record { holder = i; words = [] })).0

  pub shares-length : (n i : ℕ) → length (dealt_from k d q n i) ≡ n * d
  unfolding dealt_from
  shares-length zero i = sym (zero-mul d)
  shares-length (suc n) i =
      length-append (value k d q (point d i)) (dealt_from k d q n (suc i)) ∙ omega (arith, share-length i, shares-length n (suc i))

  -- d words for each holder
  pub share-at : (n i j : ℕ) → j < n → take d (drop (j * d) (dealt_from k d q n i)) ≡ value k d q (point d (i + j))
  unfolding dealt_from
  share-at zero i j h = absurd (not-suc-le-zero h)
  share-at (suc n) i zero h =
      rw (zero-mul, add-zero) (take_at (value k d q (point d i)) (dealt_from k d q n (suc i)) d (share-length i))
  share-at (suc n) i (suc j) h =
      let e : suc j * d ≡ length (value k d q (point d i)) + j * d = omega (arith, share-length i) in
      let f : suc i + j ≡ i + suc j = omega arith in
      ap (λ (m : ℕ). take d (drop m (dealt_from k d q (suc n) i))) e
      ∙ ap (take d) (drop-append-add (value k d q (point d i)) (dealt_from k d q n (suc i)) (j * d))
      ∙ share-at n (suc i) j (le_of_suc-le-suc h)
      ∙ ap (λ (m : ℕ). value k d q (point d m)) f
