-- What the parts of the code compute, as laws over lists: the step by which pair leads, and turns of the loops. Assumes nothing.
use mathlib.Core.Path.{◌≡◌, refl, sym, ◌∙◌, ap, ap₂}
use mathlib.Core.Bool.{Bool, false}
use mathlib.Core.List.{List}
use Prim.Native.Nat.{ℕ, suc, ◌+◌, ◌-◌, ◌*◌, ◌/◌, ◌%◌, ◌^◌, ◌≤◌, ◌<◌}
use native.Mathlib.Nat.{one-mul, mod-eq_of_lt}
use native.Mathlib.Omega.{arith}
use lib.Bits.{bit_or}
use lib.Pow.{pow-lt}
use lib.Dec.{leb, eqb}
use lib.ListN.{get_or, replicate}
use borrow.Author.Tests.{le-leb, lt-leb, eq-eqb}
use Rattle.algebra.specs.KeyEquation.{Pivot, none, first, second, pivot}
use Rattle.sliced.specs.Lane.{plus_lanes, times_lanes, spread_lane}
use Rattle.level.specs.Shares.{holder_set}
use Rattle.level.specs.KeyEquation.{Pairs, lead_of, zero_at, mix_lanes, root_lanes, raised, move_lanes, step_lanes, ones, start_lanes, run_lanes}
use Rattle.level.specs.Interpolation.{Newton, newton_of, taken, trust_lanes, start_newton, gather_lanes}
use Rattle.level.specs.declared.Lead.{Lead}

-- which pair leads
lead-inj : (x y : Pivot) → lead_of x ≡ lead_of y → x ≡ y
lead-inj none none e = refl
lead-inj none first e = cc
lead-inj none second e = cc
lead-inj first none e = cc
lead-inj first first e = refl
lead-inj first second e = cc
lead-inj second none e = cc
lead-inj second first e = cc
lead-inj second second e = refl

module _ (d : ℕ) (xs : List ℕ) where
  -- a step by the pair that leads
  pub step-lead : (i : ℕ) (p : Pairs) (z₀ z₁ : Bool) (l : Lead) → z₀ ≡ zero_at d p.v0 i → z₁ ≡ zero_at d p.v1 i →
      l ≡ lead_of (pivot z₀ z₁ (leb p.d0 p.d1)) → (q : Pivot) → l ≡ lead_of q → move_lanes d xs i q p ≡ step_lanes d xs i p
  unfolding step_lanes
  step-lead i p z₀ z₁ l f₀ f₁ h q k =
      ap (λ v. move_lanes d xs i v p)
      (sym (lead-inj (pivot z₀ z₁ (leb p.d0 p.d1)) q (sym h ∙ k)) ∙ λ j. pivot (f₀ j) (f₁ j) (leb p.d0 p.d1))

  -- two slices p and o after a turn at share i, by the values of u and v there
  pub turned : (i : ℕ) (u v : List ℕ) {s w c e : List ℕ} → s ≡ spread_lane xs i → w ≡ plus_lanes xs s → c ≡ spread_lane u i → e ≡ spread_lane v i →
      (p o p₁ o₁ : List ℕ) → (p₁ ≡ times_lanes d w p) × (o₁ ≡ mix_lanes d c o e p) →
      (p₁ ≡ times_lanes d (root_lanes xs i) p) × (o₁ ≡ mix_lanes d (spread_lane u i) o (spread_lane v i) p)
  turned i u v hs hw hc he p o p₁ o₁ h =
      (h.0 ∙ ap (λ x. times_lanes d x p) (hw ∙ ap (plus_lanes xs) hs), h.1 ∙ ap₂ (λ x y. mix_lanes d x o y p) hc he)

  -- the pairs after it, slice by slice
  pub raised_by : (i : ℕ) (p : Pairs) {v₀ b₀ v₁ b₁ : List ℕ} →
      (let r = raised d xs i p in
      (v₀ ≡ r.v0) × (b₀ ≡ r.b0) × (v₁ ≡ r.v1) × (b₁ ≡ r.b1) →
      ◌≡◌ {A = Pairs} (record { v0 = v₀; b0 = b₀; d0 = r.d0; v1 = v₁; b1 = b₁; d1 = r.d1 }) r)
  raised_by i p h = λ j. record { v0 = h.0 j; b0 = h.1 j; d0 = p.d0 + 1; v1 = h.2 j; b1 = h.3 j; d1 = p.d1 }

  -- a degree rises by one at most
  step-degrees : (i : ℕ) (p : Pairs) → ((step_lanes d xs i p).d0 ≤ p.d0 + 1) × ((step_lanes d xs i p).d1 ≤ p.d1 + 1)
  unfolding step_lanes
  step-degrees i p = go (pivot (zero_at d p.v0 i) (zero_at d p.v1 i) (leb p.d0 p.d1))
    where
      go : (v : Pivot) → ((move_lanes d xs i v p).d0 ≤ p.d0 + 1) × ((move_lanes d xs i v p).d1 ≤ p.d1 + 1)
      go none = (omega arith, omega arith)
      go first = (omega arith, omega arith)
      go second = (omega arith, omega arith)

  -- the pairs while i of m shares are to come
  abbrev pub Ran : ℕ → ℕ → Pairs → ℕ → Pairs → Type 0
  Ran t m p₀ i p = (i ≤ m) × (p.d0 ≤ m - i) × (p.d1 ≤ t + (m - i)) × (p ≡ run_lanes d xs p₀ m (m - i))

  pub run-start : (t m : ℕ) (p : Pairs) → p.d0 ≤ 0 → p.d1 ≤ t → Ran t m p m p
  unfolding run_lanes
  run-start t m p h l = let e : m - m ≡ 0 = omega arith in (omega arith, omega arith, omega arith, rw e)

  pub run-turn : (t m : ℕ) (p₀ : Pairs) (i : ℕ) {p q : Pairs} → 0 < i → Ran t m p₀ i p → q ≡ step_lanes d xs (i - 1) p → Ran t m p₀ (i - 1) q
  unfolding run_lanes
  run-turn t m p₀ i {p} {q} h r e =
      let f : m - (i - 1) ≡ suc (m - i) = omega (arith, r.0) in
      let g : m - suc (m - i) ≡ i - 1 = omega (arith, r.0) in
      let b = step-degrees (i - 1) p in
      let e₀ : q.d0 ≡ (step_lanes d xs (i - 1) p).d0 = ap (λ (x : Pairs). x.d0) e in
      let e₁ : q.d1 ≡ (step_lanes d xs (i - 1) p).d1 = ap (λ (x : Pairs). x.d1) e in
      (omega (arith, r.0), omega (arith, r.1), omega (arith, r.2), rw (e, f, g, ← r.3))

  pub run_end : (t m : ℕ) (ys : List ℕ) {o b : List ℕ} (i : ℕ) {p : Pairs} → o ≡ ones → b ≡ ones → i ≤ 0 →
      Ran t m (record { v0 = o; b0 = replicate 6 0; d0 = 0; v1 = ys; b1 = b; d1 = t }) i p → p ≡ run_lanes d xs (start_lanes ys t) m m
  run_end t m ys i ho hb h r = let f : m - i ≡ m = omega (arith, r.0) in r.3 ∙ rw (f, ho, hb)

  -- the interpolation: the three ends of a turn
  module _ (t w i : ℕ) (s : Newton) where
    pub trust-late : t < s.n → s ≡ trust_lanes d xs t w i s
    unfolding trust_lanes
    trust-late h = rw (lt-leb s.n t h)

    pub trust-out : s.n ≤ t → w / 2 ^ i % 2 ≡ 0 → s ≡ trust_lanes d xs t w i s
    unfolding trust_lanes
    trust-out h z = rw (le-leb s.n t h, eq-eqb (w / 2 ^ i % 2) 0 z)

    pub trust-in : s.n ≤ t → eqb (w / 2 ^ i % 2) 0 ≡ false → taken d xs i s ≡ trust_lanes d xs t w i s
    unfolding trust_lanes
    trust-in h z = rw (le-leb s.n t h, z)

  pub gather-start : (t w m : ℕ) (s : Newton) → s ≡ gather_lanes d xs t w s m (m - m)
  unfolding gather_lanes
  gather-start t w m s = let e : m - m ≡ 0 = omega arith in rw e

  pub gather-turn : (t w m : ℕ) (s₀ : Newton) (i : ℕ) {s r : Newton} → 0 < i → i ≤ m → s ≡ gather_lanes d xs t w s₀ m (m - i) →
      r ≡ trust_lanes d xs t w (i - 1) s → r ≡ gather_lanes d xs t w s₀ m (m - (i - 1))
  unfolding gather_lanes
  gather-turn t w m s₀ i h l e n =
      let f : m - (i - 1) ≡ suc (m - i) = omega arith in
      let g : m - suc (m - i) ≡ i - 1 = omega arith in
      rw (n, f, g, ← e)

  pub gather-end : (t w m : ℕ) (ys : List ℕ) {o : List ℕ} (i : ℕ) {s : Newton} → o ≡ ones → i ≤ 0 →
      s ≡ gather_lanes d xs t w (newton_of 0 ys o) m (m - i) → s ≡ gather_lanes d xs t w (start_newton ys) m m
  gather-end t w m ys i ho h e = let f : m - i ≡ m = omega arith in e ∙ rw (f, ho)

-- the set of holders
module _ (w m : ℕ) (hs : List ℕ) where
  pub set-start : 0 ≡ holder_set w hs m (m - m)
  unfolding holder_set
  set-start = let e : m - m ≡ 0 = omega arith in rw e

  module _ (i : ℕ) (h : 0 < i) (l : i ≤ m) (r : ℕ) (q : r ≡ holder_set w hs i (m - i)) where
    next : suc (i - 1) ≡ i
    next = omega arith

    left : m - (i - 1) ≡ suc (m - i)
    left = omega arith

    pub set-in : w / 2 ^ (i - 1) % 2 ≡ 1 → get_or hs (i - 1) 0 ≤ 63 →
        bit_or r ((1 * 2 ^ (get_or hs (i - 1) 0 - 1)) % 2 ^ 64) ≡ holder_set w hs (i - 1) (m - (i - 1))
    unfolding holder_set
    set-in e b =
        let j = get_or hs (i - 1) 0 - 1 in
        let k : (1 * 2 ^ j) % 2 ^ 64 ≡ 2 ^ j = mod-eq_of_lt (rw one-mul (pow-lt {i = j} {j = 64} (omega arith))) ∙ one-mul (2 ^ j) in
        rw (k, left, eq-eqb (w / 2 ^ (i - 1) % 2) 1 e, next, ← q)

    pub set_out : eqb (w / 2 ^ (i - 1) % 2) 1 ≡ false → r ≡ holder_set w hs (i - 1) (m - (i - 1))
    unfolding holder_set
    set_out e = rw (left, e, next, ← q)
