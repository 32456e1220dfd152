-- The positions of the wrong holders, paper 02, K4: holder by holder (`position_at`); a holder has one exactly when it is wrong (`positioned`,
-- `unpositioned`), and it is the lowest bit at which its share differs from the polynomial's value (`all-positions`). And as code finds them, a share
-- at a time: none at first (`positions-none`), a share that differs puts in its own (`positions-put`), and one that does not leaves all as they are
-- (`positions-kept`). Assumes nothing.
use mathlib.Core.Path.{◌≡◌, refl, sym, ◌∙◌, ap, subst}
use mathlib.Core.Bool.{Bool, true, false, cond}
use mathlib.Core.Logic.{◌≢◌, ◌↔◌, ◌⊎◌, inl, inr}
use mathlib.Core.List.Memᴰ
use mathlib.Core.List.{List, [], ◌∷◌, Memᴰ}
use Prim.Native.Nat.{ℕ, zero, suc, ◌+◌, ◌-◌, ◌/◌, ◌%◌, ◌^◌, ◌≤◌, ◌<◌}
use native.Mathlib.Nat.{pow-le-pow_right}
use native.Mathlib.Decide.{dec_le, ℕ_discrete}
use native.Mathlib.Omega.{arith}
use borrow.Author.Tests.{eq-eqb, ne_eqb}
use lib.Dec.{eqb}
use lib.Pow.{field}
use lib.ListN.{length, get_or, set, replicate, length-set, length-replicate, get_or-replicate, get_or-eq_default}
use lib.Seq.{get_or-set_same, get_or-set_other, ext_get_or}
use Rattle.words.specs.Word.{in_width, all_in_width}
use Rattle.words.specs.declared.Params.{Params}
use Rattle.words.proofs.InRange.{InRange}
use Rattle.words.proofs.Mod.{mod-narrow}
use Rattle.words.proofs.Tests.{and_left, and_right, and_both}
use Rattle.words.proofs.Width.{in-width-lt, lt-in-width}
use Rattle.algebra.specs.Shares.{All}
use Rattle.algebra.proofs.Shares.{all_map}
use Rattle.galois.specs.Element.{Element, point, reduce}
use Rattle.galois.proofs.Narrow.{reduce-at}
use Rattle.comparison.specs.Comparison.{position_of, LowestBit}
use Rattle.std.specs.declared.option.Option.TheVariants.{None}
use Rattle.comparison.proofs.Compared.{none-position, some-position, position-byte, lowest_bit, lowest-room}
use Rattle.codewords.specs.Codeword.{Share, Polynomial, value, comparison, differs, comparison_of, positions_from, positions}
use Rattle.codewords.specs.Demand.{Wrong, position_for, value_at, Positions}
use Rattle.codewords.specs.WellFormed.{IsElement, IsPoly, InWidth, Different, Holders}
use Rattle.codewords.proofs.ErrorSet.{Has, look, all_in}
use Rattle.codewords.proofs.Value.{rows_of, value-element}
use Rattle.codewords.proofs.Wide.{wide-differs}

module _ (k d : ℕ) (p : Polynomial) where
  -- a list of 64
  from-length : (ss : List Share) (i n : ℕ) → length (positions_from k d p ss i n) ≡ n
  unfolding positions_from
  from-length ss i zero = refl
  from-length ss i (suc n) = ap suc (from-length ss (suc i) n)

  from_at : (ss : List Share) (i n j : ℕ) → j < n → get_or (positions_from k d p ss i n) j 255 ≡ position_of (comparison_of k d p ss (i + j))
  unfolding positions_from
  from_at ss i zero j h = absurd (omega arith)
  from_at ss i (suc n) zero h = let e : i ≡ i + 0 = omega arith in ap (λ m. position_of (comparison_of k d p ss m)) e
  from_at ss i (suc n) (suc j) h =
      let e : suc i + j ≡ i + suc j = omega arith in
      from_at ss (suc i) n j (omega arith) ∙ ap (λ m. position_of (comparison_of k d p ss m)) e

  pub positions-length : (ss : List Share) → length (positions k d p ss) ≡ 64
  unfolding positions
  positions-length ss = from-length ss 1 64

  entry : (ss : List Share) (j : ℕ) → j < 64 → get_or (positions k d p ss) j 255 ≡ position_of (comparison_of k d p ss (1 + j))
  unfolding positions
  entry ss j h = from_at ss 1 64 j h

  -- two lists of positions are the same where holder by holder they are
  same_entries : (xs : List ℕ) (ss : List Share) → length xs ≡ 64 → ((j : ℕ) → j < 64 → get_or xs j 255 ≡ position_of (comparison_of k d p ss (1 + j))) →
      xs ≡ positions k d p ss
  same_entries xs ss l h =
      ext_get_or 255 xs (positions k d p ss) (l ∙ sym (positions-length ss)) (λ j m. let n : j < 64 = rw l at m in h j n ∙ sym (entry ss j n))

  -- each is a byte
  of-byte : (ss : List Share) (i : ℕ) → position_of (comparison_of k d p ss i) < 256
  unfolding comparison_of comparison
  of-byte [] i = omega arith
  of-byte (s ∷ ss) i = go (eqb s.holder i) (of-byte ss i)
    where
      go : (b : Bool) → position_of (comparison_of k d p ss i) < 256 → position_of (cond b (comparison k d p s) (comparison_of k d p ss i)) < 256
      go true h = position-byte s.words (value k d p (point d s.holder))
      go false h = h

  from_bytes : (ss : List Share) (i n j : ℕ) → get_or (positions_from k d p ss i n) j 0 < 256
  unfolding positions_from
  from_bytes ss i zero j = omega arith
  from_bytes ss i (suc n) zero = of-byte ss i
  from_bytes ss i (suc n) (suc j) = from_bytes ss (suc i) n j

  pub positions-bytes : (ss : List Share) (i : ℕ) → get_or (positions k d p ss) i 0 < 256
  unfolding positions
  positions-bytes ss i = from_bytes ss 1 64 i

  -- holder by holder
  of-own : (s : Share) (ss : List Share) (i : ℕ) → s.holder ≡ i → comparison_of k d p (s ∷ ss) i ≡ comparison k d p s
  unfolding comparison_of
  of-own s ss i e = rw (eq-eqb s.holder i e)

  of_other : (s : Share) (ss : List Share) (i : ℕ) → s.holder ≢ i → comparison_of k d p (s ∷ ss) i ≡ comparison_of k d p ss i
  unfolding comparison_of
  of_other s ss i e = rw (ne_eqb s.holder i e)

  of-absent : (ss : List Share) (i : ℕ) → All (λ (s : Share). i ≢ s.holder) ss → comparison_of k d p ss i ≡ None
  unfolding comparison_of
  of-absent [] i a = refl
  of-absent (s ∷ ss) i a = of_other s ss i (λ e. a.0 (sym e)) ∙ of-absent ss i a.1

  pub of-present : (ss : List Share) → Different ss → (s : Share) → Memᴰ s ss → comparison_of k d p ss s.holder ≡ comparison k d p s
  of-present [] u s m = absurd (Memᴰ.not-nil m)
  of-present (r ∷ ss) u s m = go (of-present ss u.1 s) (Memᴰ.cases_cons m)
    where
      go : (Memᴰ s ss → comparison_of k d p ss s.holder ≡ comparison k d p s) → (s ≡ r) ⊎ Memᴰ s ss →
          comparison_of k d p (r ∷ ss) s.holder ≡ comparison k d p s
      go f (inl e) = of-own r ss s.holder (ap (λ (x : Share). x.holder) (sym e)) ∙ ap (comparison k d p) (sym e)
      go f (inr n) = of_other r ss s.holder (all_in (λ (x : Share). r.holder ≢ x.holder) ss u.0 n) ∙ f n

  -- ---- a share at a time

  pub positions-none : replicate 64 255 ≡ positions k d p []
  unfolding comparison_of
  positions-none = same_entries (replicate 64 255) [] (length-replicate {A = ℕ} 64 255) (λ j h. get_or-replicate {A = ℕ} 64 j 255 255 h)

  -- the position of a share that differs, put in for its holder
  pub positions-put : (s : Share) (ss : List Share) → 1 ≤ s.holder → s.holder ≤ 64 →
      set (positions k d p ss) (s.holder - 1) (position_of (comparison k d p s)) ≡ positions k d p (s ∷ ss)
  positions-put s ss l h =
      let v = position_of (comparison k d p s) in
      let xs = positions k d p ss in
      same_entries (set xs (s.holder - 1) v) (s ∷ ss) (length-set xs (s.holder - 1) v ∙ positions-length ss) (λ j m. go j m (ℕ_discrete (1 + j) s.holder))
    where
      go : (j : ℕ) → j < 64 → Dec (1 + j ≡ s.holder) →
          get_or (set (positions k d p ss) (s.holder - 1) (position_of (comparison k d p s))) j 255 ≡ position_of (comparison_of k d p (s ∷ ss) (1 + j))
      go j m (yes e) =
          let f : s.holder - 1 ≡ j = omega arith in
          ap (λ i. get_or (set (positions k d p ss) i (position_of (comparison k d p s))) j 255) f
          ∙ get_or-set_same (positions k d p ss) j (position_of (comparison k d p s)) 255 (rw (positions-length ss) m)
          ∙ ap position_of (sym (of-own s ss (1 + j) (sym e)))
      go j m (no n) =
          get_or-set_other (positions k d p ss) (s.holder - 1) j (position_of (comparison k d p s)) 255 (λ e. n (omega arith))
          ∙ entry ss j m ∙ ap position_of (sym (of_other s ss (1 + j) (λ e. n (sym e))))

  -- one that does not differ
  right-none : (s : Share) → differs k d p s ≡ false → position_of (comparison k d p s) ≡ 255
  unfolding differs
  right-none s e = none-position (comparison k d p s) e

  pub positions-kept : (s : Share) (ss : List Share) → differs k d p s ≡ false → All (λ (r : Share). s.holder ≢ r.holder) ss →
      positions k d p ss ≡ positions k d p (s ∷ ss)
  positions-kept s ss e a =
      same_entries (positions k d p ss) (s ∷ ss) (positions-length ss) (λ j m. entry ss j m ∙ go j (ℕ_discrete s.holder (1 + j)))
    where
      go : (j : ℕ) → Dec (s.holder ≡ 1 + j) → position_of (comparison_of k d p ss (1 + j)) ≡ position_of (comparison_of k d p (s ∷ ss) (1 + j))
      go j (yes f) =
          ap position_of (of-absent ss (1 + j) (rw f at a)) ∙ sym (ap position_of (of-own s ss (1 + j) f) ∙ right-none s e)
      go j (no f) = ap position_of (sym (of_other s ss (1 + j) f))

  -- where no share differs nobody has a position
  pub positions-clean : (ss : List Share) → Different ss → All (λ (s : Share). differs k d p s ≡ false) ss → replicate 64 255 ≡ positions k d p ss
  positions-clean [] u a = positions-none
  positions-clean (s ∷ ss) u a = positions-clean ss u.1 a.1 ∙ positions-kept s ss a.0 u.0

-- ---- what a call returned

-- words in width are in any larger width
pub width-up : (j k : ℕ) → j ≤ k → (a : Element) → all_in_width j a ≡ true → all_in_width k a ≡ true
unfolding all_in_width
width-up j k h [] e = refl
width-up j k h (w ∷ a) e =
    let l : w < 2 ^ j = in-width-lt j w (and_left (in_width j w) (all_in_width j a) e) in
    let p : 2 ^ j ≤ 2 ^ k = pow-le-pow_right (omega arith) h in
    and_both (in_width k w) (all_in_width k a) (lt-in-width k w (omega (arith, l, p))) (width-up j k h a (and_right (in_width j w) (all_in_width j a) e))

-- the bits of a word below bit k are those of what is left of it modulo 2^k
bit-narrow : (x k v : ℕ) → v < k → x % 2 ^ k / 2 ^ v % 2 ≡ x / 2 ^ v % 2
bit-narrow x k v h =
    let e : k ≡ k - v + v = omega arith in
    ap (λ n. x % 2 ^ n / 2 ^ v % 2) e ∙ ap (λ n. n % 2) (field x (k - v) v) ∙ mod-narrow (x / 2 ^ v) 1 (k - v) (omega arith)

high_bit : (k : ℕ) (a b : Element) → reduce k a ≡ b → (v : ℕ) → LowestBit a b v → k ≤ v
high_bit k a b e v l = go (dec_le k v)
  where
    j : ℕ
    j = l.place

    go : Dec (k ≤ v) → k ≤ v
    go (yes h) = h
    go (no h) =
        let f : get_or b j 0 ≡ get_or a j 0 % 2 ^ k = ap (λ (c : Element). get_or c j 0) (sym e) ∙ reduce-at k a j in
        absurd (l.differing (sym (ap (λ n. n / 2 ^ v % 2) f ∙ bit-narrow (get_or a j 0) k v (omega arith))))

module _ (p : Params) (range : InRange p) (ss : List Share) (holders : Holders p.d ss) (q : Polynomial) where
  abbrev xs : List ℕ
  xs = positions p.k p.d q ss

  -- a number above 64 is no holder's
  beyond : (i : ℕ) → 64 < i → All (λ (s : Share). i ≢ s.holder) ss
  beyond i h =
      let few : 2 ^ p.d ≤ 2 ^ 6 = pow-le-pow_right (omega arith) range.d-high in
      all_map {Q = λ (s : Share). i ≢ s.holder} (λ (s : Share) b e. omega (arith, b.1, few)) ss holders.0

  position_at : (i : ℕ) → 1 ≤ i → position_for i xs ≡ position_of (comparison_of p.k p.d q ss i)
  position_at i l = go (dec_le i 64)
    where
      go : Dec (i ≤ 64) → position_for i xs ≡ position_of (comparison_of p.k p.d q ss i)
      go (yes h) =
          let e : 1 + (i - 1) ≡ i = omega arith in
          entry p.k p.d q ss (i - 1) (omega arith) ∙ ap (λ n. position_of (comparison_of p.k p.d q ss n)) e
      go (no h) =
          get_or-eq_default xs 255 {n = i - 1} (rw (positions-length p.k p.d q ss) (omega arith))
          ∙ sym (ap position_of (of-absent p.k p.d q ss i (beyond i (omega arith))))

  -- that of a share that is present
  own-position : (s : Share) → Memᴰ s ss → position_for s.holder xs ≡ position_of (comparison p.k p.d q s)
  own-position s m =
      position_at s.holder (all_in (λ (r : Share). (1 ≤ r.holder) × (r.holder < 2 ^ p.d)) ss holders.0 m).0
      ∙ ap position_of (of-present p.k p.d q ss holders.1 s m)

  wrong-position : (i : ℕ) (w : Wrong p ss q i) → position_for i xs ≡ position_of (comparison p.k p.d q w.share)
  wrong-position i w = ap (λ j. position_for j xs) (sym w.under) ∙ own-position w.share w.present

  differing : (s : Share) → differs p.k p.d q s ≡ true → position_of (comparison p.k p.d q s) ≢ 255
  unfolding differs comparison
  differing s e = some-position s.words (value_at p q s.holder) e

  pub positioned : (i : ℕ) → 1 ≤ i → (position_for i xs ≢ 255) ↔ Wrong p ss q i
  positioned i l = (λ n. found n (look i ss), λ w e. differing w.share w.differing (sym (wrong-position i w) ∙ e))
    where
      found : position_for i xs ≢ 255 → Has i ss ⊎ All (λ (s : Share). i ≢ s.holder) ss → Wrong p ss q i
      found n (inl f) = go (differs p.k p.d q f.0) refl
        where
          go : (b : Bool) → differs p.k p.d q f.0 ≡ b → Wrong p ss q i
          go true e = record { share = f.0; present = f.1; under = f.2; differing = e }
          go false e =
              absurd (n (ap (λ j. position_for j xs) (sym f.2) ∙ own-position f.0 f.1 ∙ right-none p.k p.d q f.0 e))
      found n (inr a) = absurd (n (position_at i l ∙ ap position_of (of-absent p.k p.d q ss i a)))

  pub unpositioned : (i : ℕ) → 1 ≤ i → (position_for i xs ≡ 255) ↔ (Wrong p ss q i → ⊥)
  unpositioned i l = (λ e w. (positioned i l).1 w e, λ n. go n (ℕ_discrete (position_for i xs) 255))
    where
      go : (Wrong p ss q i → ⊥) → Dec (position_for i xs ≡ 255) → position_for i xs ≡ 255
      go n (yes e) = e
      go n (no f) = absurd (n ((positioned i l).0 f))

  -- shares of d words of 64 bits
  module _ (poly : IsPoly p.k p.d p.t q) (words : InWidth 64 p.d ss) where
    element : (s : Share) → IsElement p.k p.d (value_at p q s.holder)
    element s = value-element p.d range.d-low range.d-high p.k q (rows_of p.k p.d p.t q poly) s

    module _ (s : Share) (m : Memᴰ s ss) (e : differs p.k p.d q s ≡ true) where
      w : IsElement 64 p.d s.words
      w = all_in (λ (r : Share). IsElement 64 p.d r.words) ss words m

      v : IsElement p.k p.d (value_at p q s.holder)
      v = element s

      share-lowest : LowestBit s.words (value_at p q s.holder) (position_of (comparison p.k p.d q s))
          × (position_of (comparison p.k p.d q s) < 64)
      unfolding differs comparison
      share-lowest =
          let b = value_at p q s.holder in
          let l : length s.words ≡ length b = w.0 ∙ sym v.0 in
          let y : all_in_width 64 b ≡ true = width-up p.k 64 range.k-high b v.1 in
          (lowest_bit s.words b l w.1 y e, lowest-room s.words b l w.1 y e)

    pub all-positions : Positions p ss q xs
    all-positions =
        record {
          lowest_bit =
              λ i w.
              rw (wrong-position i w)
              (subst (λ j. LowestBit w.share.words (value_at p q j) (position_of (comparison p.k p.d q w.share))) w.under
              (share-lowest w.share w.present w.differing).0);
          below_64 = λ i w. rw (wrong-position i w) (share-lowest w.share w.present w.differing).1;
          wide_high =
              λ s m e r.
              let f = wide-differs p.d range.d-low range.d-high p.k p.t q poly s e in
              rw (own-position s m)
              (high_bit p.k s.words (value_at p q s.holder) r (position_of (comparison p.k p.d q s)) (share-lowest s m f).0);
        }
