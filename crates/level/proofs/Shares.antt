-- The shares that a loop going down has passed, `shares_from d hs ys i (m - i)`: one more each turn, none at first, all at the end.
-- Arrays that hold m shares have m places (`numbered-length`, `sized-length`). Assumes nothing.
use mathlib.Core.Path.{◌≡◌, refl, ◌∙◌, ap}
use mathlib.Core.List.{List, [], ◌∷◌}
use Prim.Native.Nat.{ℕ, zero, suc, ◌+◌, ◌-◌, ◌^◌, ◌≤◌, ◌<◌}
use native.Mathlib.Nat.{zero-add, not-suc-le-zero, le_of_suc-le-suc, pow-le-pow_right}
use native.Mathlib.Decide.{dec_le}
use native.Mathlib.Omega.{arith}
use lib.ListN.{length, take, drop, get_or, get_or-eq_default}
use lib.Seq.{take-nil}
use Rattle.algebra.proofs.Shares.{all-at}
use Rattle.polynomial.specs.Rows.{Rows}
use Rattle.codewords.specs.Codeword.{Share}
use Rattle.codewords.specs.WellFormed.{Holders}
use Rattle.level.specs.Shares.{share, share_at, shares_from, shares_of, Sized, Numbered}

-- within a list the default does not matter
pub default : {A : Type 0} (l : List A) (i : ℕ) (y z : A) → i < length l → get_or l i y ≡ get_or l i z
default [] i y z h = absurd (not-suc-le-zero h)
default (x ∷ l) zero y z h = refl
default (x ∷ l) (suc i) y z h = default l i y z (le_of_suc-le-suc h)

pub holders-drop : (d : ℕ) (ss : List Share) (i : ℕ) → Holders d ss → Holders d (drop i ss)
holders-drop d ss zero a = a
holders-drop d [] (suc i) a = a
holders-drop d (s ∷ ss) (suc i) a = holders-drop d ss i (a.0.1, a.1.1)

module _ (d : ℕ) (hs : List ℕ) (ys : Rows) where
  pub length_from : (i n : ℕ) → length (shares_from d hs ys i n) ≡ n
  unfolding shares_from
  length_from i zero = refl
  length_from i (suc n) = ap suc (length_from (suc i) n)

  -- the share at a place
  pub from_at : (i n j : ℕ) (z : Share) → j < n → get_or (shares_from d hs ys i n) j z ≡ share_at d hs ys (i + j)
  unfolding shares_from
  from_at i zero j z h = absurd (not-suc-le-zero h)
  from_at i (suc n) zero z h = let e : i ≡ i + 0 = omega arith in ap (share_at d hs ys) e
  from_at i (suc n) (suc j) z h = let e : suc i + j ≡ i + suc j = omega arith in from_at (suc i) n j z (omega arith) ∙ ap (share_at d hs ys) e

  pub of_at : (m j : ℕ) (z : Share) → j < m → get_or (shares_of d m hs ys) j z ≡ share_at d hs ys j
  of_at m j z h = from_at 0 m j z h ∙ ap (share_at d hs ys) (zero-add j)

  pub from_start : (m : ℕ) → shares_from d hs ys m (m - m) ≡ []
  unfolding shares_from
  from_start m = let e : m - m ≡ 0 = omega arith in rw e

  pub from_next : (i m : ℕ) → 0 < i → i ≤ m →
      shares_from d hs ys (i - 1) (m - (i - 1)) ≡ share_at d hs ys (i - 1) ∷ shares_from d hs ys i (m - i)
  unfolding shares_from
  from_next zero m h l = absurd (not-suc-le-zero h)
  from_next (suc j) m h l =
      let e : suc j - 1 ≡ j = omega arith in
      let f : m - j ≡ suc (m - suc j) = omega arith in
      rw (e, f)

  pub from_end : (i m : ℕ) → i ≡ 0 → shares_from d hs ys i (m - i) ≡ shares_of d m hs ys
  from_end i m e = let f : m - 0 ≡ m = omega arith in ap (λ j. shares_from d hs ys j (m - j)) e ∙ ap (shares_from d hs ys 0) f

  -- what passes to the tail of a list holds of them if it holds of all
  from_all : (P : List Share → Type 0) → ((s : Share) (ss : List Share) → P (s ∷ ss) → P ss) → (i m : ℕ) → i ≤ m → P (shares_of d m hs ys) →
      P (shares_from d hs ys i (m - i))
  unfolding shares_from
  from_all P f zero m l p = let e : m - 0 ≡ m = omega arith in rw e p
  from_all P f (suc i) m l p =
      let e : m - i ≡ suc (m - suc i) = omega arith in
      f (share_at d hs ys i) (shares_from d hs ys (suc i) (m - suc i)) (rw e at (from_all P f i m (omega arith) p))

  pub holders-from : (i m : ℕ) → i ≤ m → Holders d (shares_of d m hs ys) → Holders d (shares_from d hs ys i (m - i))
  holders-from = from_all (Holders d) (λ s ss a. (a.0.1, a.1.1))

  pub sized-from : (i m : ℕ) → i ≤ m → Sized d (shares_of d m hs ys) → Sized d (shares_from d hs ys i (m - i))
  sized-from = from_all (Sized d) (λ s ss a. a.1)

-- holders are not 0, which stands for what is beyond the end
pub numbered-length : (m : ℕ) (hs : List ℕ) → Numbered m hs → m ≤ length hs
numbered-length m hs n = go (dec_le m (length hs))
  where
    go : Dec (m ≤ length hs) → m ≤ length hs
    go (yes l) = l
    go (no l) = absurd (omega (arith, (n (length hs) (omega arith)).0, get_or-eq_default hs 0 {n = length hs} (omega arith)))

pub holders-numbered : (d : ℕ) → d ≤ 6 → (m : ℕ) (hs : List ℕ) (ys : Rows) → Holders d (shares_of d m hs ys) → Numbered m hs
holders-numbered d dh m hs ys a i h =
    let s = get_or (shares_of d m hs ys) i (share 0 []) in
    let e : s.holder ≡ get_or hs i 0 = ap (λ (s : Share). s.holder) (of_at d hs ys m i (share 0 []) h) in
    let b : (1 ≤ s.holder) × (s.holder < 2 ^ d) =
    all-at (λ (s : Share). (1 ≤ s.holder) × (s.holder < 2 ^ d)) (shares_of d m hs ys) i (share 0 []) a.0 (rw (length_from d hs ys 0 m) h) in
    let p : 2 ^ d ≤ 2 ^ 6 = pow-le-pow_right (omega arith) dh in
    (omega (arith, b.0), omega (arith, b.1))

-- the share at a place has d words, and beyond the end there are none
pub sized-at : (d : ℕ) (hs : List ℕ) (ys : Rows) (m i : ℕ) → Sized d (shares_of d m hs ys) → i < m → length (take d (get_or ys i [])) ≡ d
sized-at d hs ys m i w h =
    rw (of_at d hs ys m i (share 0 []) h) at
    (all-at (λ (s : Share). length s.words ≡ d) (shares_of d m hs ys) i (share 0 []) w (rw (length_from d hs ys 0 m) h))

pub sized-length : (d : ℕ) → 1 ≤ d → (hs : List ℕ) (ys : Rows) (m : ℕ) → Sized d (shares_of d m hs ys) → m ≤ length ys
sized-length d dl hs ys m w = go (dec_le m (length ys))
  where
    go : Dec (m ≤ length ys) → m ≤ length ys
    go (yes l) = l
    go (no l) =
        let e : take d (get_or ys (length ys) []) ≡ [] = ap (take d) (get_or-eq_default ys [] {n = length ys} (omega arith)) ∙ take-nil d in
        absurd (omega (arith, ap length e, sized-at d hs ys m (length ys) w (omega arith)))
