-- One bit of shares, as the slices have it: shares of one bit (`bit-elements`), whose words and points are the lanes (`lane-words`,
-- `lane-point`). Assumes nothing.
use mathlib.Core.Path.{◌≡◌, refl, sym, ◌∙◌, ap}
use mathlib.Core.Bool.{true}
use mathlib.Core.List.{List, [], ◌∷◌, map}
use Prim.Native.Nat.{ℕ, suc, ◌/◌, ◌%◌, ◌^◌, ◌≤◌, ◌<◌}
use native.Mathlib.Omega.{arith}
use lib.ListN.{length, take, get_or, length-map, get_or-map}
use borrow.Author.Tests.{lt-ltb}
use Rattle.words.specs.Word.{all_in_width}
use Rattle.words.proofs.Tests.{and_both}
use Rattle.galois.specs.Element.{Element, point}
use Rattle.polynomial.specs.Rows.{Rows}
use Rattle.codewords.specs.Codeword.{Share}
use Rattle.codewords.specs.Residue.{bit_of, bit_share}
use Rattle.codewords.specs.WellFormed.{InWidth}
use Rattle.sliced.specs.Lane.{lane, slice_of, points_of}
use Rattle.sliced.proofs.Lanes.{lane-slice, lane-points}
use Rattle.level.specs.Shares.{share, share_at, shares_of, Sized, Numbered}
use Rattle.level.proofs.Shares.{length_from, of_at, numbered-length, sized-length}

-- bits of words
length-bits : (v : ℕ) (a : Element) → length (bit_of v a) ≡ length a
unfolding bit_of
length-bits v [] = refl
length-bits v (w ∷ a) = ap suc (length-bits v a)

bits-map : (v : ℕ) (a : Element) → map (λ w. w / 2 ^ v % 2) a ≡ bit_of v a
unfolding bit_of
bits-map v [] = refl
bits-map v (w ∷ a) = ap (λ r. w / 2 ^ v % 2 ∷ r) (bits-map v a)

bits-width : (v : ℕ) (a : Element) → all_in_width 1 (bit_of v a) ≡ true
unfolding bit_of all_in_width
bits-width v [] = refl
bits-width v (w ∷ a) = and_both _ (all_in_width 1 (bit_of v a)) (lt-ltb (w / 2 ^ v % 2) 2 (omega arith)) (bits-width v a)

pub bit-elements : (d v : ℕ) (ss : List Share) → Sized d ss → InWidth 1 d (map (bit_share v) ss)
bit-elements d v [] a = tt
bit-elements d v (s ∷ ss) a = ((length-bits v s.words ∙ a.0, bits-width v s.words), bit-elements d v ss a.1)

-- the lanes
module _ (d v m : ℕ) (hs : List ℕ) (ys : Rows) where
  abbrev pub none : Share
  none = bit_share v (share 0 [])

  abbrev bits : List Share
  bits = map (bit_share v) (shares_of d m hs ys)

  pub bit_length : length bits ≡ m
  bit_length = length-map (shares_of d m hs ys) (bit_share v) ∙ length_from d hs ys 0 m

  module _ (dl : 2 ≤ d) (dh : d ≤ 6) (i : ℕ) (h : i < m) where
    at : get_or bits i none ≡ bit_share v (share_at d hs ys i)
    at = get_or-map (bit_share v) (shares_of d m hs ys) i (share 0 []) ∙ ap (bit_share v) (of_at d hs ys m i (share 0 []) h)

    pub lane-holder : (get_or bits i none).holder ≡ get_or hs i 0
    lane-holder = ap (λ (s : Share). s.holder) at

    pub lane-words : Sized d (shares_of d m hs ys) → length (slice_of v m ys) ≡ 6 → lane d (slice_of v m ys) i ≡ (get_or bits i none).words
    lane-words w l =
        lane-slice d v m ys i dh (sized-length d (omega arith) hs ys m w) l h
        ∙ bits-map v (take d (get_or ys i [])) ∙ sym (ap (λ (s : Share). s.words) at)

    pub lane-point : Numbered m hs → lane d (points_of m hs) i ≡ point d (get_or bits i none).holder
    lane-point l = lane-points d m hs i dh (numbered-length m hs l) h ∙ ap (point d) (sym lane-holder)
