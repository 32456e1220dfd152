-- Shares in two arrays: the first of them, and those with other words under the same holders. Assumes nothing.
use mathlib.Core.Path.{◌≡◌, refl, ap, ap₂}
use mathlib.Core.List.{List, [], ◌∷◌, map}
use Prim.Native.Nat.{ℕ, zero, suc, ◌+◌, ◌≤◌, ◌<◌}
use native.Mathlib.Nat.{not-suc-le-zero, le_of_suc-le-suc, zero-add}
use native.Mathlib.Omega.{arith}
use lib.ListN.{take, get_or}
use Rattle.galois.specs.Element.{Element}
use Rattle.polynomial.specs.Rows.{Rows}
use Rattle.codewords.specs.Codeword.{Share}
use Rattle.codewords.proofs.Without.{reword}
use Rattle.level.specs.Shares.{share, share_at, shares_from, shares_of}

-- the first n
take-from : (d : ℕ) (hs : List ℕ) (ys : Rows) (i n m : ℕ) → n ≤ m → take n (shares_from d hs ys i m) ≡ shares_from d hs ys i n
unfolding shares_from
take-from d hs ys i zero m h = refl
take-from d hs ys i (suc n) zero h = absurd (not-suc-le-zero h)
take-from d hs ys i (suc n) (suc m) h = ap (λ (l : List Share). share_at d hs ys i ∷ l) (take-from d hs ys (suc i) n m (le_of_suc-le-suc h))

pub take-of : (d : ℕ) (hs : List ℕ) (ys : Rows) (n m : ℕ) → n ≤ m → take n (shares_of d m hs ys) ≡ shares_of d n hs ys
take-of d hs ys n m h = take-from d hs ys 0 n m h

-- other words
reword-from : (d e : ℕ) (hs : List ℕ) (ys zs : Rows) (f : Share → Element) (i n : ℕ) →
    ((j : ℕ) → j < i + n → take e (get_or zs j []) ≡ f (share_at d hs ys j)) → shares_from e hs zs i n ≡ map (reword f) (shares_from d hs ys i n)
unfolding shares_from
reword-from d e hs ys zs f i zero h = refl
reword-from d e hs ys zs f i (suc n) h =
    ap₂ ◌∷◌ (ap (share (get_or hs i 0)) (h i (omega arith))) (reword-from d e hs ys zs f (suc i) n (λ j l. h j (omega arith)))

pub reword-of : (d e : ℕ) (hs : List ℕ) (ys zs : Rows) (f : Share → Element) (m : ℕ) →
    ((j : ℕ) → j < m → take e (get_or zs j []) ≡ f (share_at d hs ys j)) → shares_of e m hs zs ≡ map (reword f) (shares_of d m hs ys)
reword-of d e hs ys zs f m h = reword-from d e hs ys zs f 0 m (λ j l. h j (rw zero-add at l))
