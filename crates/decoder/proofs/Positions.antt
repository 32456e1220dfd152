-- The positions of shares in two arrays, as a loop going down finds them: those of the shares passed, `shares_from d hs ys i (m - i)`, one more each
-- turn. A share differs exactly when its holder is in the set of the wrong. Assumes nothing.
use mathlib.Core.Path.{◌≡◌, refl, sym, ◌∙◌, ap}
use mathlib.Core.Bool.{Bool, true, false}
use mathlib.Core.List.{List, [], ◌∷◌}
use Prim.Native.Nat.{ℕ, ◌-◌, ◌/◌, ◌%◌, ◌^◌, ◌≤◌, ◌<◌}
use native.Mathlib.Nat.{zero-div, pow-le-pow_right}
use native.Mathlib.Omega.{arith}
use lib.ListN.{get_or, set, replicate}
use Rattle.words.specs.declared.Params.{Params}
use Rattle.words.proofs.InRange.{InRange}
use Rattle.algebra.proofs.Shares.{all_map, all-at}
use Rattle.polynomial.specs.Rows.{Rows}
use Rattle.comparison.specs.Comparison.{position_of}
use Rattle.codewords.specs.Codeword.{Share, Polynomial, when, comparison, differs, error_set, positions}
use Rattle.codewords.specs.WellFormed.{Holders}
use Rattle.codewords.proofs.ErrorSet.{set-marks}
use Rattle.codewords.proofs.Positions.{positions-none, positions-put, positions-kept, positions-clean}
use Rattle.codewords.proofs.Without.{Marks, error_set-tally, rising-different}
use Rattle.level.specs.Shares.{share, share_at, shares_from, shares_of}
use Rattle.level.proofs.Shares.{length_from, from_start, from_next, of_at, holders-from, holders-numbered}
use Rattle.decoder.specs.Decoded.{Ordered}

-- holders that rise from 1 to n are holders of the archive
pub ordered-holders : (p : Params) → InRange p → (ss : List Share) → Ordered p.n ss → Holders p.d ss
ordered-holders p r ss o =
    (all_map (λ (s : Share) h. (h.0, omega (arith, h.1, r.n-high))) ss o.0, rising-different ss o.1)

-- t is below 63
pub low-degree : (p : Params) → InRange p → p.t ≤ 62
low-degree p r =
    let few : 2 ^ p.d ≤ 2 ^ 6 = pow-le-pow_right (omega arith) r.d-high in
    omega (arith, r.t-high, r.n-high, few)

-- what a bit tells
unset : (b : Bool) → (when b 1 ≡ 1 → ⊥) → b ≡ false
unset true h = absurd (h refl)
unset false h = refl

module _ (d : ℕ) (dh : d ≤ 6) (k : ℕ) (p : Polynomial) (m : ℕ) (hs : List ℕ) (ys : Rows) (a : Holders d (shares_of d m hs ys))
    (w : ℕ) (e : w ≡ error_set k d p (shares_of d m hs ys)) where
  abbrev pub positions_after : ℕ → List ℕ
  positions_after i = positions k d p (shares_from d hs ys i (m - i))

  marks : Marks w (differs k d p) (shares_of d m hs ys)
  marks =
      rw (e, error_set-tally k d p (shares_of d m hs ys))
      (set-marks (differs k d p) (shares_of d m hs ys) (all_map (λ (s : Share) x. x.0) (shares_of d m hs ys) a.0) a.1)

  pub positions-start : replicate 64 255 ≡ positions_after m
  positions-start = positions-none k d p ∙ ap (positions k d p) (sym (from_start d hs ys m))

  -- where nobody is wrong
  pub nobody : w ≡ 0 → replicate 64 255 ≡ positions k d p (shares_of d m hs ys)
  nobody z =
      positions-clean k d p (shares_of d m hs ys) a.1
      (all_map
      (λ (s : Share) (x : w / 2 ^ (s.holder - 1) % 2 ≡ when (differs k d p s) 1).
      unset (differs k d p s)
      (λ u. absurd (omega (arith, x, u, ap (λ n. n / 2 ^ (s.holder - 1) % 2) z, ap (λ n. n % 2) (zero-div (2 ^ (s.holder - 1)))))))
      (shares_of d m hs ys) marks)

  -- a turn
  module _ (i : ℕ) (h : 0 < i) (l : i ≤ m) where
    abbrev s : Share
    s = share_at d hs ys (i - 1)

    next : Holders d (s ∷ shares_from d hs ys i (m - i))
    next = rw (from_next d hs ys i m h l) at (holders-from d hs ys (i - 1) m (omega arith) a)

    bit_at : w / 2 ^ (s.holder - 1) % 2 ≡ when (differs k d p s) 1
    bit_at =
        rw (of_at d hs ys m (i - 1) (share 0 []) (omega arith)) at
        (all-at (λ (r : Share). w / 2 ^ (r.holder - 1) % 2 ≡ when (differs k d p r) 1) (shares_of d m hs ys) (i - 1) (share 0 []) marks
        (rw (length_from d hs ys 0 m) (omega arith)))

    pub holder_in : (1 ≤ get_or hs (i - 1) 0) × (get_or hs (i - 1) 0 ≤ 63)
    holder_in = holders-numbered d dh m hs ys a (i - 1) (omega arith)

    pub put_in : (x : List ℕ) → x ≡ positions_after i → (v : ℕ) → v ≡ position_of (comparison k d p s) →
        set x (get_or hs (i - 1) 0 - 1) v ≡ positions_after (i - 1)
    put_in x f v g =
        rw (f, g, from_next d hs ys i m h l) (positions-put k d p s (shares_from d hs ys i (m - i)) holder_in.0 (omega (arith, holder_in)))

    pub left_out : (w / 2 ^ (get_or hs (i - 1) 0 - 1) % 2 ≡ 1 → ⊥) → positions_after i ≡ positions_after (i - 1)
    left_out n =
        rw (from_next d hs ys i m h l)
        (positions-kept k d p s (shares_from d hs ys i (m - i)) (unset (differs k d p s) (λ u. n (bit_at ∙ u))) next.1.0)
