-- Dropping shares is one law: let every polynomial within the error bound differ from all the shares that pass a test. Then the codeword is
-- that of the other shares within what is left of the bound (`drop-codeword`), and its error set is that of the dropped and of the others
-- (`drop-with`). Assumes nothing.
use mathlib.Core.Path.{◌≡◌, refl, sym, ◌∙◌, ap}
use mathlib.Core.Bool.{Bool, true}
use mathlib.Core.List.{List}
use mathlib.Core.Option.{Option, none, some, map}
use Prim.Native.Nat.{ℕ, suc, ◌+◌, ◌*◌, ◌-◌, ◌^◌, ◌≤◌}
use native.Mathlib.Omega.{arith}
use lib.ListN.{length}
use Rattle.algebra.specs.Shares.{All}
use Rattle.algebra.proofs.Shares.{all_map}
use Rattle.codewords.specs.Codeword.{Share, Polynomial, differs, errors, error_set, codeword}
use Rattle.codewords.specs.Residue.{without}
use Rattle.codewords.specs.WellFormed.{IsPoly, Holders}
use Rattle.codewords.proofs.Unique.{codeword-sound, codeword-none, none-codeword, codeword-complete}
use Rattle.codewords.proofs.ErrorSet.{set-marks}
use Rattle.codewords.proofs.Without.{Marks, count_of, set_of, errors-tally, error_set-tally, tally-without, tally-without-le, tally-length, holders-without}

module _ (d : ℕ) (ss : List Share) (a : Holders d ss) (b : Share → Bool) where
  -- the shares that do not pass
  abbrev others : List Share
  others = without (set_of b ss) ss

  pub marked : Marks (set_of b ss) b ss
  marked = set-marks b ss (all_map (λ s x. x.0) ss a.0) a.1

  module _ (t e : ℕ) (m : suc t + 2 * e ≤ length ss) (n : count_of b ss ≤ e) where
    -- they are still enough
    pub drop-enough : suc t + 2 * (e - count_of b ss) ≤ length others
    drop-enough = omega (arith, tally-length b (set_of b ss) ss marked)

    module _ (k : ℕ)
        (always : (p : Polynomial) → IsPoly k d t p → errors k d p ss ≤ e → All (λ s. b s ≡ true → differs k d p s ≡ true) ss) where
      -- the errors of a polynomial within the bound are the dropped and its errors among the others
      module _ (p : Polynomial) (j : IsPoly k d t p) (h : errors k d p ss ≤ e) where
        pub drop-errors : errors k d p ss ≡ count_of b ss + errors k d p others
        drop-errors =
            errors-tally k d p ss ∙ tally-without (λ i. 1) b (differs k d p) (set_of b ss) ss marked (always p j h)
            ∙ ap (λ n. count_of b ss + n) (sym (errors-tally k d p others))

        pub drop-error-set : error_set k d p ss ≡ set_of b ss + error_set k d p others
        drop-error-set =
            error_set-tally k d p ss ∙ tally-without (λ i. 2 ^ (i - 1)) b (differs k d p) (set_of b ss) ss marked (always p j h)
            ∙ ap (λ n. set_of b ss + n) (sym (error_set-tally k d p others))

      -- of any polynomial they are at most so many
      drop-errors-le : (p : Polynomial) → errors k d p ss ≤ count_of b ss + errors k d p others
      drop-errors-le p =
          rw (errors-tally k d p ss, errors-tally k d p others) (tally-without-le (λ i. 1) b (differs k d p) (set_of b ss) ss marked)

      module _ (dl : 2 ≤ d) (dh : d ≤ 6) where
        pub drop-codeword : codeword k d t e ss ≡ codeword k d t (e - count_of b ss) others
        drop-codeword = go (codeword k d t e ss) refl
          where
            go : (o : Option Polynomial) → codeword k d t e ss ≡ o → o ≡ codeword k d t (e - count_of b ss) others
            go none y =
                sym (none-codeword k d t (e - count_of b ss) others (λ p j. omega (arith, codeword-none k d t e ss y p j, drop-errors-le p, n)))
            go (some p) y =
                let s = codeword-sound k d t e ss p y in
                sym (codeword-complete d dl dh k t (e - count_of b ss) others p (holders-without (set_of b ss) d ss a) drop-enough s.0
                (omega (arith, s.1, n, drop-errors p s.0 s.1)))

        -- the same of what is made of the codeword and its error set
        pub drop-with : {X : Type 0} (f : Polynomial → ℕ → X) →
            map (λ p. f p (error_set k d p ss)) (codeword k d t e ss)
            ≡ map (λ p. f p (set_of b ss + error_set k d p others)) (codeword k d t (e - count_of b ss) others)
        drop-with {X} f =
            go (codeword k d t e ss) refl ∙ ap (map (λ p. f p (set_of b ss + error_set k d p others))) drop-codeword
          where
            go : (o : Option Polynomial) → codeword k d t e ss ≡ o →
                map (λ p. f p (error_set k d p ss)) o ≡ map (λ p. f p (set_of b ss + error_set k d p others)) o
            go none y = refl
            go (some p) y = let s = codeword-sound k d t e ss p y in ap (λ n. some (f p n)) (drop-error-set p s.0 s.1)
