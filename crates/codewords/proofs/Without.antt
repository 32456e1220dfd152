-- Shares under the same holders, with other words (`reword`) or some of them left out (`without`): what the theorems ask of holders is kept.
-- Errors and error sets are sums over the shares that pass a test (`tally`); what is left out by the bits of a set is the sum over those
-- that the set marks (`tally-without`, `tally-length`). Assumes nothing.
use mathlib.Core.Path.{◌≡◌, refl, sym, ap, ap₂}
use mathlib.Core.Bool.{Bool, true, false, true≢false}
use mathlib.Core.Logic.{◌≢◌}
use mathlib.Core.List.{List, [], ◌∷◌, map}
use Prim.Native.Nat.{ℕ, zero, suc, ◌+◌, ◌-◌, ◌/◌, ◌%◌, ◌^◌, ◌≤◌, ◌<◌}
use native.Mathlib.Decide.{ℕ_discrete}
use native.Mathlib.Omega.{arith}
use lib.ListN.{length, take}
use Rattle.algebra.specs.Shares.{All}
use Rattle.algebra.proofs.Shares.{all_map, all_take}
use Rattle.galois.specs.Element.{Element}
use Rattle.codewords.specs.Codeword.{Share, Polynomial, when, differs, errors, error_set}
use Rattle.codewords.specs.Residue.{without}
use Rattle.codewords.specs.WellFormed.{IsElement, InWidth, Pairwise, Different, Rising, Holders}

-- rising holders are different
pub rising-different : (ss : List Share) → Rising ss → Different ss
rising-different [] a = tt
rising-different (s ∷ ss) a = (all_map (λ r l e. absurd (omega arith)) ss a.0, rising-different ss a.1)

-- other words under the same holder
abbrev pub reword : (Share → Element) → Share → Share
reword f s = record { holder = s.holder; words = f s }

module _ (f : Share → Element) where
  pub all-reword : (P : Share → Type 0) (ss : List Share) → All (λ s. P (reword f s)) ss → All P (map (reword f) ss)
  all-reword P [] a = tt
  all-reword P (s ∷ ss) a = (a.0, all-reword P ss a.1)

  pub reword-all : (P : Share → Type 0) (ss : List Share) → All P (map (reword f) ss) → All (λ s. P (reword f s)) ss
  reword-all P [] a = tt
  reword-all P (s ∷ ss) a = (a.0, reword-all P ss a.1)

  pub pairwise-reword : (R : ℕ → ℕ → Type 0) (ss : List Share) → Pairwise R ss → Pairwise R (map (reword f) ss)
  pairwise-reword R [] a = tt
  pairwise-reword R (s ∷ ss) a = (all-reword (λ r. R s.holder r.holder) ss a.0, pairwise-reword R ss a.1)

  pub holders-reword : (d : ℕ) (ss : List Share) → Holders d ss → Holders d (map (reword f) ss)
  holders-reword d ss a =
      (all-reword (λ r. (1 ≤ r.holder) × (r.holder < 2 ^ d)) ss a.0, pairwise-reword ◌≢◌ ss a.1)

-- the first n
pub pairwise_take : (R : ℕ → ℕ → Type 0) (n : ℕ) (ss : List Share) → Pairwise R ss → Pairwise R (take n ss)
pairwise_take R zero ss a = tt
pairwise_take R (suc n) [] a = tt
pairwise_take R (suc n) (s ∷ ss) a = (all_take (λ r x. x) n ss a.0, pairwise_take R n ss a.1)

pub holders-take : (d n : ℕ) (ss : List Share) → Holders d ss → Holders d (take n ss)
holders-take d n ss a = (all_take (λ r x. x) n ss a.0, pairwise_take ◌≢◌ n ss a.1)

-- a share is left out exactly when its holder's bit is set
module _ (w : ℕ) (s : Share) (ss : List Share) where
  pub without-keeps : w / 2 ^ (s.holder - 1) % 2 ≡ 0 → without w (s ∷ ss) ≡ s ∷ without w ss
  unfolding without
  without-keeps e = rw e

  pub without-drops : w / 2 ^ (s.holder - 1) % 2 ≡ 1 → without w (s ∷ ss) ≡ without w ss
  unfolding without
  without-drops e = rw e

  without-either : (P : List Share → Type 0) → P (s ∷ without w ss) → P (without w ss) → P (without w (s ∷ ss))
  without-either P x y = go (ℕ_discrete (w / 2 ^ (s.holder - 1) % 2) 0)
    where
      go : Dec (w / 2 ^ (s.holder - 1) % 2 ≡ 0) → P (without w (s ∷ ss))
      go (yes e) = rw (without-keeps e) x
      go (no n) = rw (without-drops (omega arith)) y

module _ (w : ℕ) where
  pub all_without : (P : Share → Type 0) (ss : List Share) → All P ss → All P (without w ss)
  unfolding without
  all_without P [] a = tt
  all_without P (s ∷ ss) a = without-either w s ss (All P) (a.0, all_without P ss a.1) (all_without P ss a.1)

  pub pairwise-without : (R : ℕ → ℕ → Type 0) (ss : List Share) → Pairwise R ss → Pairwise R (without w ss)
  unfolding without
  pairwise-without R [] a = tt
  pairwise-without R (s ∷ ss) a =
      let x = pairwise-without R ss a.1 in
      without-either w s ss (Pairwise R) (all_without (λ r. R s.holder r.holder) ss a.0, x) x

  pub holders-without : (d : ℕ) (ss : List Share) → Holders d ss → Holders d (without w ss)
  holders-without d ss a = (all_without (λ r. (1 ≤ r.holder) × (r.holder < 2 ^ d)) ss a.0, pairwise-without ◌≢◌ ss a.1)

  pub rising-without : (ss : List Share) → Rising ss → Rising (without w ss)
  rising-without = pairwise-without ◌<◌

  pub in-width-without : (k d : ℕ) (ss : List Share) → InWidth k d ss → InWidth k d (without w ss)
  in-width-without k d = all_without (λ r. IsElement k d r.words)

-- w has the bits of exactly those holders whose shares pass a test
abbrev pub Marks : ℕ → (Share → Bool) → List Share → Type 0
Marks w b = All (λ (s : Share). w / 2 ^ (s.holder - 1) % 2 ≡ when (b s) 1)

-- what the holders whose shares pass a test weigh together
unfoldable pub tally : (ℕ → ℕ) → (Share → Bool) → List Share → ℕ
tally f b [] = 0
tally f b (s ∷ ss) = when (b s) (f s.holder) + tally f b ss

-- how many pass, and the set of their holders
abbrev pub count_of : (Share → Bool) → List Share → ℕ
count_of = tally (λ i. 1)

abbrev pub set_of : (Share → Bool) → List Share → ℕ
set_of = tally (λ i. 2 ^ (i - 1))

pub errors-tally : (k d : ℕ) (p : Polynomial) (ss : List Share) → errors k d p ss ≡ count_of (differs k d p) ss
unfolding errors tally
errors-tally k d p [] = refl
errors-tally k d p (s ∷ ss) = ap (λ n. when (differs k d p s) 1 + n) (errors-tally k d p ss)

pub error_set-tally : (k d : ℕ) (p : Polynomial) (ss : List Share) → error_set k d p ss ≡ set_of (differs k d p) ss
unfolding error_set tally
error_set-tally k d p [] = refl
error_set-tally k d p (s ∷ ss) = ap (λ n. when (differs k d p s) (2 ^ (s.holder - 1)) + n) (error_set-tally k d p ss)

-- none differs exactly when there are no errors
pub none-differs : (k d : ℕ) (p : Polynomial) (ss : List Share) → errors k d p ss ≡ 0 → All (λ s. differs k d p s ≡ false) ss
unfolding errors
none-differs k d p [] h = tt
none-differs k d p (s ∷ ss) h = go (differs k d p s) refl (none-differs k d p ss) h
  where
    go : (b : Bool) → differs k d p s ≡ b → (errors k d p ss ≡ 0 → All (λ s. differs k d p s ≡ false) ss) → when b 1 + errors k d p ss ≡ 0 →
        All (λ s. differs k d p s ≡ false) (s ∷ ss)
    go true e r x = absurd (omega arith)
    go false e r x = (e, r (omega arith))

pub none-errors : (k d : ℕ) (p : Polynomial) (ss : List Share) → All (λ s. differs k d p s ≡ false) ss → errors k d p ss ≡ 0
unfolding errors
none-errors k d p [] h = refl
none-errors k d p (s ∷ ss) h = ap₂ (λ b n. when b 1 + n) h.0 (none-errors k d p ss h.1)

module _ (f : ℕ → ℕ) where
  pub tally-reword : (c : Share → Element) (b : Share → Bool) (ss : List Share) → tally f b (map (reword c) ss) ≡ tally f (λ s. b (reword c s)) ss
  unfolding tally
  tally-reword c b [] = refl
  tally-reword c b (s ∷ ss) = ap (λ n. when (b (reword c s)) (f s.holder) + n) (tally-reword c b ss)

  module _ (b c : Share → Bool) where
    pub tally-le : (ss : List Share) → All (λ s. b s ≡ true → c s ≡ true) ss → tally f b ss ≤ tally f c ss
    unfolding tally
    tally-le [] h = omega arith
    tally-le (s ∷ ss) h = go (b s) (c s) h.0 (tally-le ss h.1)
      where
        go : (x y : Bool) → (x ≡ true → y ≡ true) → tally f b ss ≤ tally f c ss →
            when x (f s.holder) + tally f b ss ≤ when y (f s.holder) + tally f c ss
        go true true i l = omega arith
        go true false i l = absurd (true≢false (sym (i refl)))
        go false true i l = omega arith
        go false false i l = omega arith

    module _ (w : ℕ) where
      -- what is left out passes b
      pub tally-without-le : (ss : List Share) → Marks w b ss → tally f c ss ≤ tally f b ss + tally f c (without w ss)
      unfolding tally without
      tally-without-le [] h = omega arith
      tally-without-le (s ∷ ss) h = go (b s) (c s) refl h.0 (tally-without-le ss h.1)
        where
          go : (x y : Bool) → c s ≡ y → w / 2 ^ (s.holder - 1) % 2 ≡ when x 1 → tally f c ss ≤ tally f b ss + tally f c (without w ss) →
              when y (f s.holder) + tally f c ss ≤ when x (f s.holder) + tally f b ss + tally f c (without w (s ∷ ss))
          go true true q e l = rw (without-drops w s ss e) (omega arith)
          go true false q e l = rw (without-drops w s ss e) (omega arith)
          go false y q e l = rw (without-keeps w s ss e, q) (omega arith)

      -- and, where everything that passes b passes c, nothing is lost
      pub tally-without : (ss : List Share) → Marks w b ss → All (λ s. b s ≡ true → c s ≡ true) ss →
          tally f c ss ≡ tally f b ss + tally f c (without w ss)
      unfolding tally without
      tally-without [] h i = refl
      tally-without (s ∷ ss) h i = go (b s) (c s) refl h.0 i.0 (tally-without ss h.1 i.1)
        where
          go : (x y : Bool) → c s ≡ y → w / 2 ^ (s.holder - 1) % 2 ≡ when x 1 → (x ≡ true → y ≡ true) →
              tally f c ss ≡ tally f b ss + tally f c (without w ss) →
              when y (f s.holder) + tally f c ss ≡ when x (f s.holder) + tally f b ss + tally f c (without w (s ∷ ss))
          go true true q e j l = rw (without-drops w s ss e) (omega arith)
          go true false q e j l = absurd (true≢false (sym (j refl)))
          go false y q e j l = rw (without-keeps w s ss e, q) (omega arith)

-- as many are left out as pass
pub tally-length : (b : Share → Bool) (w : ℕ) (ss : List Share) → Marks w b ss →
    length (without w ss) + count_of b ss ≡ length ss
unfolding tally without
tally-length b w [] h = refl
tally-length b w (s ∷ ss) h = go (b s) h.0 (tally-length b w ss h.1)
  where
    go : (x : Bool) → w / 2 ^ (s.holder - 1) % 2 ≡ when x 1 → length (without w ss) + count_of b ss ≡ length ss →
        length (without w (s ∷ ss)) + (when x 1 + count_of b ss) ≡ suc (length ss)
    go true e l = rw (without-drops w s ss e) (omega arith)
    go false e l = rw (without-keeps w s ss e) (omega arith)

-- errors of one list are at most those of another where what differs in it does in the other
pub errors-le : (j k d : ℕ) (q p : Polynomial) (c : Share → Element) (ss : List Share) →
    All (λ s. differs j d q (reword c s) ≡ true → differs k d p s ≡ true) ss → errors j d q (map (reword c) ss) ≤ errors k d p ss
errors-le j k d q p c ss h =
    rw (errors-tally j d q (map (reword c) ss), tally-reword (λ i. 1) c (differs j d q) ss, errors-tally k d p ss)
    (tally-le (λ i. 1) (λ s. differs j d q (reword c s)) (differs k d p) ss h)
