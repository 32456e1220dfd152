-- A loop over shares, from the last on, that collects in a set the holders whose shares pass a test: where it starts, a turn for a share that passes
-- and for one that does not, and where it may end, if those before do not pass. Assumes nothing.
use mathlib.Core.Path.{◌≡◌, refl, ◌∙◌, ap}
use mathlib.Core.Bool.{Bool, true, false}
use mathlib.Core.List.{List, ◌∷◌}
use Prim.Native.Nat.{ℕ, zero, suc, ◌-◌, ◌*◌, ◌/◌, ◌%◌, ◌^◌, ◌≤◌, ◌<◌}
use native.Mathlib.Nat.{one-mul, mod-eq_of_lt, pow-le-pow_right}
use native.Mathlib.Omega.{arith}
use lib.Bits.{bit_or}
use lib.Pow.{pow-lt}
use lib.ListN.{get_or}
use Rattle.algebra.proofs.Shares.{all_map}
use Rattle.polynomial.specs.Rows.{Rows}
use Rattle.codewords.specs.Codeword.{Share}
use Rattle.codewords.specs.WellFormed.{Holders}
use Rattle.codewords.proofs.ErrorSet.{or_new, set-clear}
use Rattle.codewords.proofs.Without.{tally, set_of}
use Rattle.level.specs.Shares.{share_at, shares_from, shares_of}
use Rattle.level.proofs.Shares.{from_start, from_next, holders-from}

module _ (d : ℕ) (dh : d ≤ 6) (b : Share → Bool) (m : ℕ) (hs : List ℕ) (ys : Rows) (a : Holders d (shares_of d m hs ys)) where
  abbrev set_from : ℕ → ℕ
  set_from i = set_of b (shares_from d hs ys i (m - i))

  pub set-start : 0 ≡ set_from m
  unfolding tally
  set-start = rw (from_start d hs ys m) refl

  module _ (i : ℕ) (h : 0 < i) (l : i ≤ m) where
    next : Holders d (share_at d hs ys (i - 1) ∷ shares_from d hs ys i (m - i))
    next = rw (from_next d hs ys i m h l) at (holders-from d hs ys (i - 1) m (omega arith) a)

    -- the holder's bit fits
    pub holder-low : 1 ≤ get_or hs (i - 1) 0
    holder-low = next.0.0.0

    pub holder-high : get_or hs (i - 1) 0 ≤ 63
    holder-high = let few : 2 ^ d ≤ 2 ^ 6 = pow-le-pow_right (omega arith) dh in omega (arith, next.0.0.1, few)

    pub set_same : b (share_at d hs ys (i - 1)) ≡ false → set_from i ≡ set_from (i - 1)
    unfolding tally
    set_same e = rw (from_next d hs ys i m h l, e) (omega arith)

    pub set_more : b (share_at d hs ys (i - 1)) ≡ true → (w : ℕ) → w ≡ set_from i →
        bit_or w ((1 * 2 ^ (get_or hs (i - 1) 0 - 1)) % 2 ^ 64) ≡ set_from (i - 1)
    unfolding tally
    set_more e w q =
        let j = get_or hs (i - 1) 0 - 1 in
        let f : (1 * 2 ^ j) % 2 ^ 64 ≡ 2 ^ j = mod-eq_of_lt (rw one-mul (pow-lt {i = j} {j = 64} (omega (arith, holder-high)))) ∙ one-mul (2 ^ j) in
        let ss = shares_from d hs ys i (m - i) in
        let n : suc j ≡ get_or hs (i - 1) 0 = omega (arith, holder-low) in
        let z : w / 2 ^ j % 2 ≡ 0 = rw q (set-clear b ss j (all_map (λ s x. x.0) ss next.0.1) next.1.1 (rw n next.1.0)) in
        rw (f, or_new w j z, from_next d hs ys i m h l, e, q) (omega arith)

  pub set_all : (i : ℕ) → i ≤ m → ((j : ℕ) → j < i → b (share_at d hs ys j) ≡ false) → set_from i ≡ set_from 0
  set_all zero l f = refl
  set_all (suc i) l f =
      let e : suc i - 1 ≡ i = omega arith in
      set_same (suc i) (omega arith) l (f (suc i - 1) (omega arith)) ∙ ap set_from e ∙ set_all i (omega arith) (λ j h. f j (omega arith))
