-- A set of holders as a number: bit h − 1 of it is set for each holder h whose share passes a test, and for no other (`set-marks`,
-- `set-clear`), so it has as many ones as shares pass (`set-ones`), whatever order the holders come in; the test of the error set is that the
-- share differs (`ones-errors`), so that its bits are exactly the holders whose shares differ (`bit-wrong`, `bit-right`). Assumes nothing.
use mathlib.Core.Path.{◌≡◌, refl, sym, ◌∙◌, ap, subst}
use mathlib.Core.Bool.{Bool, true, false}
use mathlib.Core.Logic.{◌≢◌, ◌↔◌, ◌⊎◌, inl, inr, ⊎_elim}
use mathlib.Core.List.Memᴰ
use mathlib.Core.List.{List, [], ◌∷◌, Memᴰ}
use Prim.Native.Nat.{ℕ, suc, ◌+◌, ◌-◌, ◌*◌, ◌/◌, ◌%◌, ◌^◌, ◌≤◌, ◌<◌}
use native.Mathlib.Nat.{mod-lt, zero-div, zero-add, add_comm, add-div_right, add-mul-div_right, le_dest, pow-suc}
use native.Mathlib.Decide.{dec_le, ℕ_discrete}
use native.Mathlib.Omega.{arith}
use lib.Pow.{pow_pos, pow-add, split, shr-shr}
use lib.Bits.{bit_or, or_step, or_zero_r, or_block}
use lib.Count.{ones, ones_step, ones_cat}
use Rattle.words.specs.declared.Params.{Params}
use Rattle.algebra.specs.Shares.{All}
use Rattle.algebra.proofs.Shares.{all_map}
use Rattle.codewords.specs.Codeword.{Share, Polynomial, when, differs, errors, error_set}
use Rattle.codewords.specs.Demand.{Wrong, bit_for}
use Rattle.codewords.specs.WellFormed.{Different, Holders}
use Rattle.codewords.proofs.Without.{Marks, tally, count_of, set_of, errors-tally, error_set-tally}

-- a bit that is clear, put in: one more is set, `|` is the sum, and no other bit changes
pub ones-new : (w j : ℕ) → w / 2 ^ j % 2 ≡ 0 → ones (w + 2 ^ j) ≡ ones w + 1
ones-new w j h =
    let q = w / 2 ^ j in
    let r = w % 2 ^ j in
    let e : w + 2 ^ j ≡ suc q * 2 ^ j + r = omega (arith, split w j) in
    let hr : r < 2 ^ j = mod-lt w (pow_pos j) in
    let up : suc q / 2 ≡ q / 2 = omega arith in
    let a : ones (w + 2 ^ j) ≡ ones (suc q) + ones r = ap ones e ∙ ones_cat j (suc q) r hr in
    let b : ones w ≡ ones q + ones r = ap ones (sym (split w j)) ∙ ones_cat j q r hr in
    let s : ones (suc q / 2) ≡ ones (q / 2) = ap ones up in
    omega (arith, a, b, s, ones_step (suc q), ones_step q)

pub or_new : (w j : ℕ) → w / 2 ^ j % 2 ≡ 0 → bit_or w (2 ^ j) ≡ w + 2 ^ j
or_new w j h =
    let q = w / 2 ^ j in
    let e : bit_or q 1 ≡ q + 1 = omega (arith, or_step q 1, or_zero_r (q / 2)) in
    let p : 2 ^ j ≡ 1 * 2 ^ j + 0 = omega arith in
    (λ i. bit_or (sym (split w j) i) (p i))
    ∙ or_block j q 1 (w % 2 ^ j) 0 (mod-lt w (pow_pos j)) (pow_pos j)
    ∙ rw (e, or_zero_r) (omega (arith, split w j))

below-bit : (w j m : ℕ) → (w + 2 ^ (suc j + m)) / 2 ^ j % 2 ≡ w / 2 ^ j % 2
below-bit w j m =
    let e : 2 ^ (suc j + m) ≡ 2 * 2 ^ m * 2 ^ j = pow-add 2 (suc j) m ∙ rw pow-suc (omega arith) in
    rw (e, add-mul-div_right w (2 * 2 ^ m) (pow_pos j)) (omega arith)

above-bit : (w i m : ℕ) → w / 2 ^ i % 2 ≡ 0 → (w + 2 ^ i) / 2 ^ (suc i + m) ≡ w / 2 ^ (suc i + m)
above-bit w i m h = sym (shift (w + 2 ^ i)) ∙ ap (λ x. x / 2 ^ m) half ∙ shift w
  where
    shift : (x : ℕ) → x / 2 ^ i / 2 / 2 ^ m ≡ x / 2 ^ (suc i + m)
    shift x =
        let e : i + 1 + m ≡ suc i + m = omega arith in
        ap (λ y. y / 2 ^ m) (shr-shr x i 1) ∙ shr-shr x (i + 1) m ∙ ap (λ n. x / 2 ^ n) e

    half : (w + 2 ^ i) / 2 ^ i / 2 ≡ w / 2 ^ i / 2
    half = rw (add-div_right w (pow_pos i)) (omega arith)

pub bit-other : (w i j : ℕ) → i ≢ j → w / 2 ^ i % 2 ≡ 0 → (w + 2 ^ i) / 2 ^ j % 2 ≡ w / 2 ^ j % 2
bit-other w i j n h = go (dec_le (suc j) i)
  where
    go : Dec (suc j ≤ i) → (w + 2 ^ i) / 2 ^ j % 2 ≡ w / 2 ^ j % 2
    go (yes l) = let m = le_dest l in rw (← m.1) (below-bit w j m.0)
    go (no l) =
        let g : suc i ≤ j = omega arith in
        let m = le_dest g in
        rw (← m.1) (ap (λ x. x % 2) (above-bit w i m.0 h))

up : (h : ℕ) → 1 ≤ h → suc (h - 1) ≡ h
up h l = omega arith

no_ones : ones 0 ≡ 0
unfolding ones
no_ones = refl

module _ (b : Share → Bool) where
  -- the bit of a holder that is not there is clear
  pub set-clear : (ss : List Share) (j : ℕ) → All (λ (s : Share). 1 ≤ s.holder) ss → Different ss → All (λ (s : Share). suc j ≢ s.holder) ss →
      set_of b ss / 2 ^ j % 2 ≡ 0
  unfolding tally
  set-clear [] j a u n = rw (zero-div (2 ^ j))
  set-clear (s ∷ ss) j a u n =
      go (b s) (set-clear ss (s.holder - 1) a.1 u.1 (rw (up s.holder a.0) u.0)) (set-clear ss j a.1 u.1 n.1)
    where
      go : (c : Bool) → set_of b ss / 2 ^ (s.holder - 1) % 2 ≡ 0 → set_of b ss / 2 ^ j % 2 ≡ 0 →
          (when c (2 ^ (s.holder - 1)) + set_of b ss) / 2 ^ j % 2 ≡ 0
      go true x y = ap (λ w. w / 2 ^ j % 2) (omega arith) ∙ bit-other (set_of b ss) (s.holder - 1) j (λ e. n.0 (omega (arith, a.0))) x ∙ y
      go false x y = rw zero-add y

  -- as many ones as shares pass
  pub set-ones : (ss : List Share) → All (λ (s : Share). 1 ≤ s.holder) ss → Different ss → ones (set_of b ss) ≡ count_of b ss
  unfolding tally
  set-ones [] a u = no_ones
  set-ones (s ∷ ss) a u = go (b s) (set-ones ss a.1 u.1)
    where
      go : (c : Bool) → ones (set_of b ss) ≡ count_of b ss → ones (when c (2 ^ (s.holder - 1)) + set_of b ss) ≡ when c 1 + count_of b ss
      go true h =
          ap ones (omega arith)
          ∙ ones-new (set_of b ss) (s.holder - 1) (set-clear ss (s.holder - 1) a.1 u.1 (rw (up s.holder a.0) u.0))
          ∙ omega arith
      go false h = ap ones (zero-add (set_of b ss)) ∙ h ∙ sym (zero-add (count_of b ss))

  -- the bit of a holder that is there is set exactly where its share passes
  pub set-marks : (ss : List Share) → All (λ (s : Share). 1 ≤ s.holder) ss → Different ss → Marks (set_of b ss) b ss
  unfolding tally
  set-marks [] a u = tt
  set-marks (s ∷ ss) a u =
      let x = set-clear ss (s.holder - 1) a.1 u.1 (rw (up s.holder a.0) u.0) in
      (own (b s) x, others (b s) x ss a.1 u.0 (set-marks ss a.1 u.1))
    where
      w : ℕ
      w = set_of b ss

      j : ℕ
      j = s.holder - 1

      own : (c : Bool) → w / 2 ^ j % 2 ≡ 0 → (when c (2 ^ j) + w) / 2 ^ j % 2 ≡ when c 1
      own true x = ap (λ n. n / 2 ^ j % 2) (add_comm (2 ^ j) w) ∙ ap (λ n. n % 2) (add-div_right w (pow_pos j)) ∙ omega arith
      own false x = rw zero-add x

      others : (c : Bool) → w / 2 ^ j % 2 ≡ 0 → (rs : List Share) → All (λ (r : Share). 1 ≤ r.holder) rs →
          All (λ (r : Share). s.holder ≢ r.holder) rs → Marks w b rs → Marks (when c (2 ^ j) + w) b rs
      others c x [] l n h = tt
      others c x (r ∷ rs) l n h = (one c, others c x rs l.1 n.1 h.1)
        where
          one : (c : Bool) → (when c (2 ^ j) + w) / 2 ^ (r.holder - 1) % 2 ≡ when (b r) 1
          one true =
              ap (λ n. n / 2 ^ (r.holder - 1) % 2) (add_comm (2 ^ j) w)
              ∙ bit-other w j (r.holder - 1) (λ e. n.0 (omega (arith, a.0, l.0))) x ∙ h.0
          one false = rw zero-add h.0

-- the same of the error set
module _ (k d : ℕ) (p : Polynomial) (ss : List Share) where
  pub bit-clear : (j : ℕ) → All (λ (s : Share). 1 ≤ s.holder) ss → Different ss → All (λ (s : Share). suc j ≢ s.holder) ss →
      error_set k d p ss / 2 ^ j % 2 ≡ 0
  bit-clear j a u n = rw (error_set-tally k d p ss) (set-clear (differs k d p) ss j a u n)

  pub ones-errors : All (λ (s : Share). 1 ≤ s.holder) ss → Different ss → ones (error_set k d p ss) ≡ errors k d p ss
  ones-errors a u = rw (error_set-tally k d p ss, errors-tally k d p ss) (set-ones (differs k d p) ss a u)

-- ---- holder by holder

pub all_in : (P : Share → Type 0) (ss : List Share) {s : Share} → All P ss → Memᴰ s ss → P s
all_in P [] a m = absurd (Memᴰ.not-nil m)
all_in P (r ∷ ss) {s} a m = ⊎_elim {C = P s} (λ e. subst P (sym e) a.0) (λ n. all_in P ss a.1 n) (Memᴰ.cases_cons m)

-- a share of holder i is present, or none
abbrev pub Has : ℕ → List Share → Type 0
Has i ss = (s : Share) × Memᴰ s ss × (s.holder ≡ i)

pub look : (i : ℕ) (ss : List Share) → Has i ss ⊎ All (λ (s : Share). i ≢ s.holder) ss
look i [] = inr tt
look i (s ∷ ss) = go (ℕ_discrete s.holder i) (look i ss)
  where
    go : Dec (s.holder ≡ i) → Has i ss ⊎ All (λ (r : Share). i ≢ r.holder) ss → Has i (s ∷ ss) ⊎ All (λ (r : Share). i ≢ r.holder) (s ∷ ss)
    go (yes e) l = inl (s, Memᴰ.head refl, e)
    go (no n) (inl f) = inl (f.0, Memᴰ.tail f.1, f.2)
    go (no n) (inr a) = inr (λ e. n (sym e), a)

set-bit : (b : Bool) → when b 1 ≡ 1 → b ≡ true
set-bit true e = refl
set-bit false e = absurd (omega arith)

module _ (p : Params) (ss : List Share) (holders : Holders p.d ss) (q : Polynomial) where
  abbrev x : ℕ
  x = error_set p.k p.d q ss

  low : All (λ (s : Share). 1 ≤ s.holder) ss
  low = all_map (λ (s : Share) h. h.0) ss holders.0

  mark : (s : Share) → Memᴰ s ss → bit_for s.holder x ≡ when (differs p.k p.d q s) 1
  mark s m =
      all_in (λ (r : Share). bit_for r.holder x ≡ when (differs p.k p.d q r) 1) ss
      (rw (error_set-tally p.k p.d q ss) (set-marks (differs p.k p.d q) ss low holders.1)) m

  pub bit-wrong : (i : ℕ) → 1 ≤ i → (bit_for i x ≡ 1) ↔ Wrong p ss q i
  bit-wrong i l = (λ e. found e (look i ss), set)
    where
      set : Wrong p ss q i → bit_for i x ≡ 1
      set w = ap (λ j. bit_for j x) (sym w.under) ∙ mark w.share w.present ∙ ap (λ b. when b 1) w.differing

      found : bit_for i x ≡ 1 → Has i ss ⊎ All (λ (s : Share). i ≢ s.holder) ss → Wrong p ss q i
      found e (inl f) =
          record {
            share = f.0;
            present = f.1;
            under = f.2;
            differing = set-bit (differs p.k p.d q f.0) (sym (mark f.0 f.1) ∙ ap (λ j. bit_for j x) f.2 ∙ e);
          }
      found e (inr a) =
          let up : suc (i - 1) ≡ i = omega arith in
          let z : bit_for i x ≡ 0 = bit-clear p.k p.d q ss (i - 1) low holders.1 (rw up a) in
          absurd (omega (arith, e, z))

  pub bit-right : (i : ℕ) → 1 ≤ i → (bit_for i x ≡ 0) ↔ (Wrong p ss q i → ⊥)
  bit-right i l = (λ e w. let u = (bit-wrong i l).1 w in absurd (omega (arith, e, u)), λ n. clear (x / 2 ^ (i - 1)) (λ e. n ((bit-wrong i l).0 e)))
    where
      clear : (y : ℕ) → (y % 2 ≡ 1 → ⊥) → y % 2 ≡ 0
      clear y n = omega arith
