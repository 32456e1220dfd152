-- A share with a wide word differs from every polynomial (`wide-differs`). So the law of dropping holds of these shares: the codeword is that of the
-- others within what is left of the bound (`wide-codeword`), and its error set is that of the wide and of the others (`wide-error-set`). The others
-- are in width (`others-in-width`), and more wide shares than the bound leave no codeword (`wide-none`). Assumes nothing.
use mathlib.Core.Path.{◌≡◌, refl, sym, ◌∙◌, ap}
use mathlib.Core.Bool.{Bool, true, false, true≢false, not}
use mathlib.Core.List.{List, [], ◌∷◌}
use mathlib.Core.Option.{some}
use Prim.Native.Nat.{ℕ, suc, ◌+◌, ◌-◌, ◌*◌, ◌/◌, ◌%◌, ◌^◌, ◌≤◌, ◌<◌}
use native.Mathlib.Omega.{arith}
use lib.Count.{ones}
use lib.ListN.{length}
use Rattle.words.specs.Word.{all_in_width}
use Rattle.algebra.specs.Shares.{All}
use Rattle.algebra.proofs.Shares.{all_map}
use Rattle.codewords.specs.Codeword.{Share, Polynomial, when, differs, errors, error_set, wide, wide_set, codeword}
use Rattle.codewords.specs.Residue.{without}
use Rattle.codewords.specs.WellFormed.{IsPoly, InWidth, Holders}
use Rattle.codewords.proofs.Value.{rows_of, right-value, value-element}
use Rattle.codewords.proofs.Unique.{codeword-sound}
use Rattle.codewords.proofs.ErrorSet.{set-ones}
use Rattle.codewords.proofs.Drop.{marked, drop-enough, drop-error-set, drop-codeword}
use Rattle.codewords.proofs.Without.{Marks, tally, count_of, set_of, errors-tally, tally-le, tally-length, without-keeps, without-drops}

pub wide-tally : (k : ℕ) (ss : List Share) → wide_set k ss ≡ set_of (wide k) ss
unfolding wide_set tally
wide-tally k [] = refl
wide-tally k (s ∷ ss) = ap (λ n. when (wide k s) (2 ^ (s.holder - 1)) + n) (wide-tally k ss)

-- what is not marked as wide is in width
unmarked : (k d w : ℕ) (ss : List Share) → Marks w (wide k) ss → All (λ (s : Share). length s.words ≡ d) ss → InWidth k d (without w ss)
unfolding without wide
unmarked k d w [] m l = tt
unmarked k d w (s ∷ ss) m l = go (all_in_width k s.words) refl m.0 (unmarked k d w ss m.1 l.1)
  where
    go : (b : Bool) → all_in_width k s.words ≡ b → w / 2 ^ (s.holder - 1) % 2 ≡ when (not b) 1 → InWidth k d (without w ss) →
        InWidth k d (without w (s ∷ ss))
    go true e x r = rw (without-keeps w s ss x) ((l.0, e), r)
    go false e x r = rw (without-drops w s ss x) r

module _ (d : ℕ) (dl : 2 ≤ d) (dh : d ≤ 6) (k t : ℕ) where
  pub wide-differs : (p : Polynomial) → IsPoly k d t p → (s : Share) → wide k s ≡ true → differs k d p s ≡ true
  unfolding wide
  wide-differs p j s w = go (differs k d p s) refl
    where
      go : (b : Bool) → differs k d p s ≡ b → b ≡ true
      go true e = refl
      go false e =
          absurd (true≢false
          (sym w ∙ ap not (ap (all_in_width k) (right-value k d p s e) ∙ (value-element d dl dh k p (rows_of k d t p j) s).1)))

  all-differ : (p : Polynomial) → IsPoly k d t p → (ss : List Share) → All (λ s. wide k s ≡ true → differs k d p s ≡ true) ss
  all-differ p j [] = tt
  all-differ p j (s ∷ ss) = (wide-differs p j s, all-differ p j ss)

  module _ (ss : List Share) (a : Holders d ss) where
    wide-ones : ones (wide_set k ss) ≡ count_of (wide k) ss
    wide-ones = ap ones (wide-tally k ss) ∙ set-ones (wide k) ss (all_map (λ s x. x.0) ss a.0) a.1

    pub wide-few : ones (wide_set k ss) ≤ length ss
    wide-few = omega (arith, wide-ones, tally-length (wide k) (set_of (wide k) ss) ss (marked d ss a (wide k)))

    pub others-in-width : All (λ (s : Share). length s.words ≡ d) ss → InWidth k d (without (wide_set k ss) ss)
    others-in-width = rw (wide-tally k ss) (unmarked k d (set_of (wide k) ss) ss (marked d ss a (wide k)))

    pub wide-none : (e : ℕ) → e < ones (wide_set k ss) → (p : Polynomial) → IsPoly k d t p → e < errors k d p ss
    wide-none e h p j =
        omega (arith, h, wide-ones, errors-tally k d p ss, tally-le (λ i. 1) (wide k) (differs k d p) ss (all-differ p j ss))

    module _ (e : ℕ) (m : suc t + 2 * e ≤ length ss) (n : ones (wide_set k ss) ≤ e) where
      few : count_of (wide k) ss ≤ e
      few = rw (← wide-ones) n

      pub wide_enough : suc t + 2 * (e - ones (wide_set k ss)) ≤ length (without (wide_set k ss) ss)
      wide_enough = rw (wide-ones, wide-tally k ss) (drop-enough d ss a (wide k) t e m few)

      pub wide-codeword : codeword k d t e ss ≡ codeword k d t (e - ones (wide_set k ss)) (without (wide_set k ss) ss)
      wide-codeword = rw (wide-ones, wide-tally k ss) (drop-codeword d ss a (wide k) t e m few k (λ p j h. all-differ p j ss) dl dh)

      pub wide-error-set : (p : Polynomial) → codeword k d t e ss ≡ some p →
          error_set k d p ss ≡ wide_set k ss + error_set k d p (without (wide_set k ss) ss)
      wide-error-set p y =
          let s = codeword-sound k d t e ss p y in
          rw (wide-tally k ss) (drop-error-set d ss a (wide k) t e m few k (λ p j h. all-differ p j ss) p s.0 s.1)
