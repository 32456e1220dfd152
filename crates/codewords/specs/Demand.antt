-- Demand 3 of paper 01, "What is proved": what it says of an opening of shares, and of a call that opens them by what the call returned. Assumes
-- nothing.
use Rattle.std.specs.Prelude.{ℕ, ◌+◌, ◌-◌, ◌*◌, ◌/◌, ◌%◌, ◌^◌, ◌≤◌, ◌<◌, ◌≡◌, true, ◌⊎◌, ◌↔◌, ◌≢◌, length, get_or}
use mathlib.Core.List.{List, [], ◌∷◌, Memᴰ}
use Rattle.std.specs.Int.Count.{ones}
use Rattle.algebra.specs.Shares.{All}
use Rattle.words.specs.Refusal.{TOO_FEW_SHARES, NO_CODEWORD}
use Rattle.words.specs.declared.Params.{Params}
use Rattle.galois.specs.Element.{Element, point, reduce}
use Rattle.comparison.specs.Comparison.{LowestBit}
use Rattle.codewords.specs.Codeword.{Share, Polynomial, value, differs, errors, error_set, wide, wide_set}
use Rattle.codewords.specs.Opening.{Opening, declines, opens, fault_of, secret_into, wrong_into, lowest_into, lowest_room}
use Rattle.codewords.specs.WellFormed.{IsPoly}

-- ---- an opening

-- q is "a polynomial of degree at most t" that "differs from e shares or fewer"
pub record Within (p : Params) (e : ℕ) (ss : List Share) (q : Polynomial) : Type 0 where
  pub poly : IsPoly p.k p.d p.t q
  pub near : errors p.k p.d q ss ≤ e

-- there is none
abbrev pub NoneWithin : Params → ℕ → List Share → Type 0
NoneWithin p e ss = (q : Polynomial) → IsPoly p.k p.d p.t q → e < errors p.k p.d q ss

-- o is the polynomial within e exactly when there is one, and declines with 6 exactly when there is none; at most e holders are named
pub record Decides (p : Params) (e : ℕ) (ss : List Share) (o : Opening) : Type 0 where
  pub finds : (q : Polynomial) → Within p e ss q → o ≡ opens q
  pub found : (q : Polynomial) → o ≡ opens q → Within p e ss q
  pub names_few : (q : Polynomial) → o ≡ opens q → ones (error_set p.k p.d q ss) ≤ e
  pub no_curve : NoneWithin p e ss → o ≡ declines NO_CODEWORD
  pub none_within : (c : ℕ) → o ≡ declines c → (c ≡ NO_CODEWORD) × NoneWithin p e ss

-- ---- a call, by what it returned

-- its outputs: for the job's words, for the wrong holders, and for the lowest bits at which their shares differ
pub record Outputs : Type 0 where
  pub job : List ℕ
  pub wrong : List ℕ
  pub lowest : List ℕ

-- what the contract of such a call says: where the shares ss open to o it returns the number r, and leaves the outputs new where old were lent
pub record Returned (p : Params) (ss : List Share) (o : Opening) (old : Outputs) (r : ℕ) (new : Outputs) : Type 0 where
  pub fault : r ≡ fault_of o
  pub job : new.job ≡ secret_into old.job o
  pub wrong : new.wrong ≡ wrong_into p.k p.d ss old.wrong o
  pub lowest : new.lowest ≡ lowest_into p.k p.d ss old.lowest o

-- 5 is "m is below t + 1 + 2e", m being how many shares there are
abbrev pub EnoughShares : Params → ℕ → List Share → Type 0
EnoughShares p e ss = p.t + 1 + 2 * e ≤ length ss

abbrev pub TooFewShares : Params → ℕ → List Share → Type 0
TooFewShares p e ss = length ss < p.t + 1 + 2 * e

-- a share of holder i is present and differs from q: "A missing holder neither differs nor agrees."
pub record Wrong (p : Params) (ss : List Share) (q : Polynomial) (i : ℕ) : Type 0 where
  pub share : Share
  pub present : Memᴰ share ss
  pub under : share.holder ≡ i
  pub differing : differs p.k p.d q share ≡ true

-- "a set held as a 64-bit number, bit i − 1 for holder i"
abbrev pub bit_for : ℕ → ℕ → ℕ
bit_for i x = x / 2 ^ (i - 1) % 2

-- entry i − 1 for holder i, of an output that has one for each of 64 holders, and 255 for any other
abbrev pub position_for : ℕ → List ℕ → ℕ
position_for i xs = get_or xs (i - 1) 255

-- the outputs are exact: there is one polynomial within e, the first output is its free term, the second is one word whose bits are exactly the
-- holders whose shares differ from it, at most e of them, and exactly these have a position in the third, which others have 255 in
pub record Exact (p : Params) (e : ℕ) (ss : List Share) (new : Outputs) : Type 0 where
  pub q : Polynomial
  pub within : Within p e ss q
  pub only : (s : Polynomial) → Within p e ss s → s ≡ q
  pub job : new.job ≡ get_or q 0 []
  pub x : ℕ
  pub wrong : new.wrong ≡ x ∷ []
  pub named : (i : ℕ) → 1 ≤ i → (bit_for i x ≡ 1) ↔ Wrong p ss q i
  pub others : (i : ℕ) → 1 ≤ i → (bit_for i x ≡ 0) ↔ (Wrong p ss q i → ⊥)
  pub few : ones x ≤ e
  pub places : length new.lowest ≡ lowest_room
  pub positioned : (i : ℕ) → 1 ≤ i → (position_for i new.lowest ≢ 255) ↔ Wrong p ss q i
  pub unpositioned : (i : ℕ) → 1 ≤ i → (position_for i new.lowest ≡ 255) ↔ (Wrong p ss q i → ⊥)

-- What the number r tells, Clear being that none of the refusals ahead of 5 applies. It is 0 exactly when besides there are shares enough and a
-- polynomial within e, and then the outputs are exact; 6 exactly when there are shares enough and no such polynomial; one of these two exactly when
-- there are shares enough; 5 exactly when there are too few. "Outputs keep their old contents" wherever it is not 0.
pub record Tells (p : Params) (e : ℕ) (ss : List Share) (Clear : Type 0) (old : Outputs) (r : ℕ) (new : Outputs) : Type 0 where
  pub opened : (r ≡ 0) ↔ (Clear × EnoughShares p e ss × ((q : Polynomial) × Within p e ss q))
  pub no_curve : (r ≡ NO_CODEWORD) ↔ (Clear × EnoughShares p e ss × NoneWithin p e ss)
  pub decided : ((r ≡ 0) ⊎ (r ≡ NO_CODEWORD)) ↔ (Clear × EnoughShares p e ss)
  pub too_few : (r ≡ TOO_FEW_SHARES) ↔ (Clear × TooFewShares p e ss)
  pub exact : r ≡ 0 → Exact p e ss new
  pub kept : (r ≡ 0 → ⊥) → new ≡ old

-- The same of shares with a wide word, paper 02, K1: "It uses up the allowance and its holder is named."
pub record TellsWide (p : Params) (e : ℕ) (ss : List Share) (Clear : Type 0) (r : ℕ) (new : Outputs) : Type 0 where
  pub named : r ≡ 0 → All (λ (s : Share). wide p.k s ≡ true → bit_for s.holder (get_or new.wrong 0 0) ≡ 1) ss
  pub too_many : Clear → EnoughShares p e ss → e < ones (wide_set p.k ss) → r ≡ NO_CODEWORD

-- ---- the lowest bits, paper 02, K4

-- the codeword's value at holder i's point
abbrev pub value_at : Params → Polynomial → ℕ → Element
value_at p q i = value p.k p.d q (point p.d i)

-- The third output of a call whose outputs are exact: each wrong holder's position is the lowest bit at which its share differs from the codeword's
-- value there. "A wide word is compared at its full 64 bits with the value": a share with one that is right in its low k bits has a position of k or
-- more.
pub record Positions (p : Params) (ss : List Share) (q : Polynomial) (lowest : List ℕ) : Type 0 where
  pub lowest_bit : (i : ℕ) (w : Wrong p ss q i) → LowestBit w.share.words (value_at p q i) (position_for i lowest)
  pub below_64 : (i : ℕ) → Wrong p ss q i → position_for i lowest < 64
  pub wide_high : (s : Share) → Memᴰ s ss → wide p.k s ≡ true → reduce p.k s.words ≡ value_at p q s.holder →
      p.k ≤ position_for s.holder lowest

abbrev pub TellsLowest : Params → ℕ → List Share → ℕ → Outputs → Type 0
TellsLowest p e ss r new = r ≡ 0 → (x : Exact p e ss new) × Positions p ss x.q new.lowest
