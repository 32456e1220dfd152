-- What one level of the search gives, by its cases (`by_level`); that the parts which the code computes come to it (`found-few`,
-- `found-field`); and its number (`told`). Assumes nothing.
use mathlib.Core.Path.{◌≡◌, refl, ◌∙◌, ap}
use mathlib.Core.Bool.{Bool, true, false, cond}
use mathlib.Core.List.{List, [], ◌∷◌, map}
use mathlib.Core.Option.{Option as Perhaps, none, some}
use Prim.Native.Nat.{ℕ, zero, suc, ◌≤◌, ◌<◌}
use native.Mathlib.Omega.{arith}
use borrow.Author.Tests.{leb-true, leb-false, le-leb, lt-leb}
use lib.Count.{ones, count_trailing_zeros}
use lib.Dec.{leb}
use Rattle.algebra.specs.Shares.{All}
use Rattle.algebra.proofs.Shares.{all_map}
use Rattle.polynomial.specs.Polynomial.{Polynomial}
use Rattle.codewords.specs.Codeword.{Share, errors, error_set, codeword}
use Rattle.codewords.specs.Opening.{fault_of, from_codeword}
use Rattle.codewords.specs.Residue.{residue, left, bit_share, at_bit}
use Rattle.codewords.specs.WellFormed.{IsElement, IsPoly, InWidth, Holders}
use Rattle.codewords.proofs.ErrorSet.{ones-errors}
use Rattle.codewords.proofs.Residue.{residue-element}
use Rattle.codewords.proofs.Value.{rows_of}
use Rattle.level.specs.Level.{level_of}
use Rattle.rounds.specs.Found.{lowest_bit, named, level_found, found_fault, round_fault}
use Rattle.rounds.specs.Residues.{bits_of_all}
use Rattle.rounds.specs.declared.Found.{Found}
use Rattle.std.specs.Prelude.{Option}
use Rattle.std.specs.declared.option.Option.TheVariants.{Some, None}
use Rattle.rounds.proofs.Compared.{no-errors}
use Rattle.rounds.proofs.Lowest.{Lowest, lowest}

-- the answer of a level that names the wrong holders
abbrev pub found_wrong : ℕ → Bool → Option Found
found_wrong w b = Some (record { wrong = w; all = b })

-- bit v of what is left
bits_left : (k d : ℕ) (p : Polynomial) (v : ℕ) (ss : List Share) → map (bit_share v) (map (left k d p) ss) ≡ map (at_bit k d p v) ss
bits_left k d p v [] = refl
bits_left k d p v (s ∷ ss) = ap (λ (l : List Share). at_bit k d p v s ∷ l) (bits_left k d p v ss)

-- the number of shares that differ
pub ones-of : (k d : ℕ) (p : Polynomial) (ss : List Share) → Holders d ss → ones (error_set k d p ss) ≡ errors k d p ss
ones-of k d p ss a = ones-errors k d p ss (all_map (λ s x. x.0) ss a.0) a.1

-- if any differs there is a lowest bit at which one does
pub lowest-at : (d : ℕ) → 2 ≤ d → d ≤ 6 → (k t : ℕ) (p : Polynomial) (ss : List Share) → k ≤ 64 → IsPoly k d t p → InWidth k d ss →
    0 < errors k d p ss → Lowest k d p ss (lowest_bit k d p ss)
lowest-at d dl dh k t p ss kh i w h = lowest k d p ss residues kh (some_bits (bits_of_all (map (left k d p) ss)) refl)
  where
    residues : All (λ s. IsElement k d (residue k d p s)) ss
    residues = all_map (λ s x. residue-element d dl dh k p (rows_of k d t p i) s x.0) ss w

    some_bits : (n : ℕ) → bits_of_all (map (left k d p) ss) ≡ n → 0 < n
    some_bits zero z = absurd (omega (arith, h, no-errors d dl dh k t p i ss w z))
    some_bits (suc n) z = omega arith

module _ (k d t e : ℕ) (p : Polynomial) (ss : List Share) where
  abbrev W : List Share
  W = map (at_bit k d p (lowest_bit k d p ss)) ss

  -- the cases
  pub by_level : (P : Option Found → Type 0) → (errors k d p ss ≤ e → P (found_wrong (error_set k d p ss) true)) →
      (e < errors k d p ss → codeword 1 d t e W ≡ none → P None) →
      (e < errors k d p ss → (g : Polynomial) → codeword 1 d t e W ≡ some g → P (found_wrong (error_set 1 d g W) false)) → P (level_found k d t e p ss)
  unfolding level_found level_of
  by_level P few nothing wrong = go (leb (errors k d p ss) e) refl
    where
      field : e < errors k d p ss → (o : Perhaps Polynomial) → codeword 1 d t e W ≡ o → P (named (level_of d W o))
      field m none x = nothing m x
      field m (some g) x = wrong m g x

      go : (b : Bool) → leb (errors k d p ss) e ≡ b → P (level_found k d t e p ss)
      go true x = rw x (few (leb-true (errors k d p ss) e x))
      go false x = rw x (field (leb-false (errors k d p ss) e x) (codeword 1 d t e W) refl)

  -- few enough differ
  pub found-few : (set : ℕ) → set ≡ error_set k d p ss → errors k d p ss ≤ e → found_wrong set true ≡ level_found k d t e p ss
  unfolding level_found
  found-few set es h = rw (le-leb (errors k d p ss) e h) (ap (λ x. found_wrong x true) es)

  -- too many differ: the field decoder's answer, of the shares that are left
  pub found-field : e < errors k d p ss → (rs : List Share) → rs ≡ map (left k d p) ss → (bits : ℕ) → bits ≡ bits_of_all (map (left k d p) ss) →
      (got : Option ℕ) →
      (let bs = map (bit_share (count_trailing_zeros 64 bits)) rs in
      got ≡ level_of d bs (codeword 1 d t e bs)) → named got ≡ level_found k d t e p ss
  unfolding level_found
  found-field h rs er bits eb got el =
      ap named (rw (er, eb, bits_left k d p (lowest_bit k d p ss) ss) at el) ∙ rw (lt-leb (errors k d p ss) e h)

  -- the number of what it gives
  fault-of : (o : Perhaps Polynomial) → found_fault (named (level_of d W o)) ≡ fault_of (from_codeword o)
  unfolding found_fault level_of
  fault-of none = refl
  fault-of (some g) = refl

  pub told : (r : Option Found) → r ≡ level_found k d t e p ss → (r ≡ level_found k d t e p ss) × (found_fault r ≡ round_fault k d t e p ss)
  unfolding level_found found_fault round_fault
  told r x = (x, ap found_fault x ∙ go (leb (errors k d p ss) e))
    where
      go : (b : Bool) → found_fault (cond b (found_wrong (error_set k d p ss) true) (named (level_of d W (codeword 1 d t e W))))
          ≡ cond b 0 (fault_of (from_codeword (codeword 1 d t e W)))
      go true = refl
      go false = fault-of (codeword 1 d t e W)
