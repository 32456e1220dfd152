-- What the field decoder decides, from what its parts compute: the slices hold the shares of one bit, so the verdict is the codeword's.
-- Assumes nothing.
use mathlib.Core.Path.{◌≡◌, refl, sym, ◌∙◌, ap}
use mathlib.Core.List.{List, map}
use Prim.Native.Nat.{ℕ, suc, ◌+◌, ◌*◌, ◌≤◌, ◌<◌}
use native.Mathlib.Omega.{arith}
use lib.Count.{ones}
use lib.ListN.{length, get_or}
use Rattle.galois.specs.Element.{point}
use Rattle.polynomial.specs.Rows.{Rows}
use Rattle.codewords.specs.Codeword.{Share, codeword}
use Rattle.codewords.specs.Opening.{fault_of, from_codeword}
use Rattle.codewords.specs.Residue.{bit_of, bit_share}
use Rattle.codewords.specs.WellFormed.{InWidth, Holders}
use Rattle.codewords.proofs.Without.{holders-reword}
use Rattle.sliced.specs.Lane.{lane, support_of, slice_of, points_of}
use Rattle.sliced.proofs.Lanes.{length-points}
use Rattle.level.specs.Level.{level_of, level_fault}
use Rattle.level.specs.Shares.{shares_of, Sized, Numbered, holder_set}
use Rattle.level.specs.KeyEquation.{start_lanes, run_lanes}
use Rattle.level.specs.Interpolation.{Newton, start_newton, gather_lanes}
use Rattle.std.specs.Prelude.{Option}
use Rattle.std.specs.declared.option.Option.TheVariants.{Some, None}
use Rattle.level.proofs.Shares.{numbered-length, holders-numbered, sized-length}
use Rattle.level.proofs.AtBit.{bit-elements, bit_length, none, lane-words, lane-holder, lane-point}
use Rattle.level.proofs.FieldDecoder.{level-fault, verdict-few, verdict-found, verdict-none}

module _ (d : ℕ) (dl : 2 ≤ d) (dh : d ≤ 6) (v t e m : ℕ) (hs : List ℕ) (ys : Rows) (mh : m ≤ 63) (a : Holders d (shares_of d m hs ys))
    (b : Sized d (shares_of d m hs ys)) (enough : suc t + 2 * e ≤ m) where
  abbrev W : List Share
  W = map (bit_share v) (shares_of d m hs ys)

  -- the answer at that bit, and its number
  abbrev Decided : Option ℕ → Type 0
  Decided r = (r ≡ level_of d W (codeword 1 d t e W)) × (level_fault r ≡ fault_of (from_codeword (codeword 1 d t e W)))

  told : (r : Option ℕ) → r ≡ level_of d W (codeword 1 d t e W) → Decided r
  told r x = (x, ap level_fault x ∙ level-fault d W (codeword 1 d t e W))

  pub numbered : Numbered m hs
  numbered = holders-numbered d dh m hs ys a

  pub holders-length : m ≤ length hs
  holders-length = numbered-length m hs numbered

  pub rows-length : m ≤ length ys
  rows-length = sized-length d (omega arith) hs ys m b

  module _ (y : List ℕ) (ey : y ≡ slice_of v m ys) (ly : length y ≡ 6) (x : List ℕ) (ex : x ≡ points_of m hs) (w : ℕ)
      (ew : w ≡ support_of d (run_lanes d x (start_lanes y t) m m).b1) (n : ℕ) (gap : List ℕ)
      (es : (n ≡ (gather_lanes d x t w (start_newton y) m m).n) × (gap ≡ (gather_lanes d x t w (start_newton y) m m).gap)) where
    abbrev s : Newton
    s = gather_lanes d x t w (start_newton y) m m

    abbrev z : Share
    z = none d v m hs ys

    words : (i : ℕ) → i < m → lane d y i ≡ (get_or W i z).words
    words i h = ap (λ l. lane d l i) ey ∙ lane-words d v m hs ys dl dh i h b (sym (ap length ey) ∙ ly)

    points : (i : ℕ) → i < m → lane d x i ≡ point d (get_or W i z).holder
    points i h = ap (λ l. lane d l i) ex ∙ lane-point d v m hs ys dl dh i h numbered

    holders : (i : ℕ) → i < m → (get_or W i z).holder ≡ get_or hs i 0
    holders i h = lane-holder d v m hs ys dl dh i h

    lx : length x ≡ 6
    lx = ap length ex ∙ length-points m hs

    lw : length W ≡ m
    lw = bit_length d v m hs ys

    ha : Holders d W
    ha = holders-reword (λ (s : Share). bit_of v s.words) d (shares_of d m hs ys) a

    hb : InWidth 1 d W
    hb = bit-elements d v (shares_of d m hs ys) b

    pub decides-few : n ≤ t → Decided None
    decides-few h =
        told _ (verdict-few d dl dh t e W z m lw mh ha hb enough x y hs lx ly points words holders w ew s refl (omega (arith, es.0)))

    module _ (full : t < n) (g : ℕ) (eg : g ≡ support_of d gap) (o : ℕ) (eo : o ≡ holder_set g hs 0 m) where
      full-s : t < s.n
      full-s = omega (arith, es.0)

      eo-s : o ≡ holder_set (support_of d s.gap) hs 0 m
      eo-s = eo ∙ ap (λ l. holder_set l hs 0 m) (eg ∙ ap (support_of d) es.1)

      pub decides-found : ones o ≤ e → Decided (Some o)
      decides-found h =
          told _ (verdict-found d dl dh t e W z m lw mh ha hb enough x y hs lx ly points words holders w ew s refl full-s o eo-s h)

      pub decides-none : e < ones o → Decided None
      decides-none h =
          told _ (verdict-none d dl dh t e W z m lw mh ha hb enough x y hs lx ly points words holders w ew s refl full-s o eo-s h)
