-- What holds before each round of the search: the codeword asked for, with its error set, is that of the shares still in, with the holders
-- dropped so far added to its error set (`same`). It holds at the start; a level that names some of the wrong holders keeps it and drops
-- at least one share, and any other ends the search, with the codeword or with none (`round`). What a first round drops can be left out
-- (`left_out`). Assumes nothing.
use mathlib.Core.Path.{◌≡◌, refl, sym, ◌∙◌, ap}
use mathlib.Core.Bool.{Bool, true, false}
use mathlib.Core.List.{List, [], ◌∷◌, map}
use mathlib.Core.Option as Perhaps
use mathlib.Core.Option.{Option as Perhaps, none, some, none-ne-some, some-injective}
use Prim.Native.Nat.{ℕ, zero, suc, ◌+◌, ◌*◌, ◌-◌, ◌^◌, ◌≤◌, ◌<◌}
use native.Mathlib.Nat.{add_assoc, zero-add, pow-suc, pow-le-pow_right}
use native.Mathlib.Omega.{arith}
use lib.Count.{ones}
use lib.ListN.{length, take}
use Rattle.words.specs.Refusal.{NO_CODEWORD}
use Rattle.algebra.specs.Shares.{All}
use Rattle.algebra.proofs.Shares.{all_map}
use Rattle.polynomial.specs.Rows.{Rows, coefs}
use Rattle.codewords.specs.Codeword.{Share, Polynomial, differs, errors, error_set, codeword}
use Rattle.codewords.specs.Opening.{wrong_of, from_codeword, opening_in}
use Rattle.codewords.specs.Residue.{residue, bit_of, at_bit, without}
use Rattle.codewords.specs.WellFormed.{InWidth, Rising, Holders}
use Rattle.codewords.proofs.Unique.{codeword-sound, codeword-complete}
use Rattle.codewords.proofs.Without.{holders-without, rising-without, in-width-without, tally, error_set-tally, tally-reword, tally-le, tally-without}
use Rattle.codewords.proofs.Jump.{bit-differs-at, ones-at, enough-without, jump-none, jump-with, progress}
use Rattle.rounds.specs.Found.{lowest_bit, level_found}
use Rattle.decoder.specs.LeftOut.{LeftOut}
use Rattle.rounds.specs.Residues.{Through}
use Rattle.rounds.specs.declared.Found.{Found}
use Rattle.std.specs.Prelude.{Option}
use Rattle.std.specs.declared.option.Option.TheVariants.{Some, None}
use Rattle.rounds.proofs.LevelFound.{found_wrong, by_level, lowest-at}
use Rattle.rounds.proofs.Lowest.{Lowest}

-- bit i − 1 for holder i, and the set of all holders
abbrev holder_bit : ℕ → ℕ
holder_bit i = 2 ^ (i - 1)

abbrev any : Share → Bool
any s = true

abbrev holder_set : List Share → ℕ
holder_set = tally holder_bit any

all_any : (b : Share → Bool) (ss : List Share) → All (λ s. b s ≡ true → true ≡ true) ss
all_any b [] = tt
all_any b (s ∷ ss) = (λ e. refl, all_any b ss)

error_set-le : (k d : ℕ) (p : Polynomial) (ss : List Share) → error_set k d p ss ≤ holder_set ss
error_set-le k d p ss = rw (error_set-tally k d p ss) (tally-le holder_bit (differs k d p) any ss (all_any (differs k d p) ss))

-- it has room among the numbers, if they rise: all of them above a, none above b
room : (b a : ℕ) (ss : List Share) → Rising ss → All (λ (s : Share). a < s.holder) ss → All (λ (s : Share). s.holder ≤ b) ss → a ≤ b →
    holder_set ss + 2 ^ a ≤ 2 ^ b
unfolding tally
room b a [] u l m h = rw zero-add (pow-le-pow_right (omega arith) h)
room b a (s ∷ ss) u l m h = omega (arith, below, up s.holder l.0, room b s.holder ss u.1 u.0 m.1 m.0)
  where
    up : (x : ℕ) → a < x → 2 ^ x ≡ 2 * 2 ^ (x - 1)
    up (suc x) q = let e : suc x - 1 ≡ x = omega arith in rw e (pow-suc 2 x ∙ omega arith)
    up zero q = absurd (omega arith)

    below : 2 ^ a ≤ 2 ^ (s.holder - 1)
    below = pow-le-pow_right (omega arith) (omega (arith, l.0))

holder-room : (d : ℕ) → d ≤ 6 → (ss : List Share) → Holders d ss → Rising ss → holder_set ss < 2 ^ 63
holder-room d dh ss a u =
    let few : 2 ^ d ≤ 2 ^ 6 = pow-le-pow_right (omega arith) dh in
    omega (arith, room 63 0 ss u (all_map (λ s x. x.0) ss a.0) (all_map (λ s x. omega (arith, x.1, few)) ss a.0) (omega arith))

pub error-set-room : (k d : ℕ) → d ≤ 6 → (p : Polynomial) (ss : List Share) → Holders d ss → Rising ss → error_set k d p ss < 2 ^ 63
error-set-room k d dh p ss a u = omega (arith, error_set-le k d p ss, holder-room d dh ss a u)

-- a codeword and its error set
abbrev Outcome : Type 0
Outcome = Polynomial × ℕ

abbrev outcome : Polynomial → ℕ → Outcome
outcome p w = (p, w)

-- e₀ errors at most in the shares ss₀; ss are still in, e errors at most; w is the set of the holders dropped
pub record Sought (k d t e₀ : ℕ) (ss₀ : List Share) (e w : ℕ) (ss : List Share) : Type 0 where
  pub holders : Holders d ss
  pub rising : Rising ss
  pub width : InWidth k d ss
  pub enough : suc t + 2 * e ≤ length ss
  pub fits : w + holder_set ss < 2 ^ 63
  pub same : Perhaps.map (λ p. outcome p (error_set k d p ss₀)) (codeword k d t e₀ ss₀)
      ≡ Perhaps.map (λ p. outcome p (w + error_set k d p ss)) (codeword k d t e ss)

-- after a round that drops the shares of the holders in u
pub record Jumped (k d t e₀ : ℕ) (ss₀ : List Share) (e w : ℕ) (ss : List Share) (u : ℕ) : Type 0 where
  pub within : ones u ≤ e
  pub drops : 0 < ones u
  pub next : Sought k d t e₀ ss₀ (e - ones u) (w + u) (without u ss)

module _ (k d t e₀ : ℕ) (ss₀ : List Share) where
  -- the search's answer: a number, a set and the rows
  abbrev Ends : ℕ → ℕ → Rows → Type 0
  Ends c u q =
      (opening_in d t c q ≡ from_codeword (codeword k d t e₀ ss₀)) × (u ≡ wrong_of k d ss₀ (from_codeword (codeword k d t e₀ ss₀)))

  -- what the search makes of a level's answer; the polynomial is in q
  module _ (e w : ℕ) (ss : List Share) (q : Rows) where
    abbrev After : ℕ → Bool → Type 0
    After u true = Ends 0 (w + u) q
    After u false = Jumped k d t e₀ ss₀ e w ss u

    abbrev pub Round : Option Found → Type 0
    Round (Some f) = (w + f.wrong < 2 ^ 63) × After f.wrong f.all
    Round None = Ends NO_CODEWORD 0 q

module _ (d : ℕ) (dl : 2 ≤ d) (dh : d ≤ 6) (k t e₀ : ℕ) (ss₀ : List Share) where
  pub start : Holders d ss₀ → Rising ss₀ → InWidth k d ss₀ → suc t + 2 * e₀ ≤ length ss₀ → Sought k d t e₀ ss₀ e₀ 0 ss₀
  start a u w m =
      record {
        holders = a;
        rising = u;
        width = w;
        enough = m;
        fits = omega (arith, holder-room d dh ss₀ a u);
        same = ap (λ (f : Polynomial → Outcome). Perhaps.map f (codeword k d t e₀ ss₀)) (λ i p. outcome p (sym (zero-add (error_set k d p ss₀)) i));
      }

  module _ (e w : ℕ) (ss : List Share) (r : Sought k d t e₀ ss₀ e w ss) where
    -- the two ends
    found_some : (p : Polynomial) → codeword k d t e ss ≡ some p → (codeword k d t e₀ ss₀ ≡ some p) × (error_set k d p ss₀ ≡ w + error_set k d p ss)
    found_some p x =
        go (codeword k d t e₀ ss₀) (r.same ∙ ap (Perhaps.map (λ q. outcome q (w + error_set k d q ss))) x)
      where
        go : (o : Perhaps Polynomial) → Perhaps.map (λ q. outcome q (error_set k d q ss₀)) o ≡ some (outcome p (w + error_set k d p ss)) →
            (o ≡ some p) × (error_set k d p ss₀ ≡ w + error_set k d p ss)
        go none y = absurd (none-ne-some (outcome p (w + error_set k d p ss)) y)
        go (some q) y =
            let z = some-injective (outcome q (error_set k d q ss₀)) (outcome p (w + error_set k d p ss)) y in
            let s : q ≡ p = ap (λ (u : Outcome). u.0) z in
            (ap some s, ap (λ u. error_set k d u ss₀) (sym s) ∙ ap (λ (u : Outcome). u.1) z)

    found_none : codeword k d t e ss ≡ none → codeword k d t e₀ ss₀ ≡ none
    found_none x = go (codeword k d t e₀ ss₀) (r.same ∙ ap (Perhaps.map (λ q. outcome q (w + error_set k d q ss))) x)
      where
        go : (o : Perhaps Polynomial) → Perhaps.map (λ q. outcome q (error_set k d q ss₀)) o ≡ none → o ≡ none
        go none y = refl
        go (some q) y = absurd (none-ne-some (outcome q (error_set k d q ss₀)) (sym y))

    module _ (q : Rows) (th : Through k d t (take (suc t) ss) q) where
      abbrev P : Polynomial
      P = coefs d (suc t) q

      -- few enough differ
      ends : errors k d P ss ≤ e → Round k d t e₀ ss₀ e w ss q (found_wrong (error_set k d P ss) true)
      ends h =
          let f = found_some P (codeword-complete d dl dh k t e ss P r.holders r.enough th.0 h) in
          (omega (arith, r.fits, error_set-le k d P ss), rw f.0 (refl, sym f.1))

      -- too many differ
      module _ (kh : k ≤ 64) (far : e < errors k d P ss) where
        abbrev v : ℕ
        v = lowest_bit k d P ss

        abbrev W : List Share
        W = map (at_bit k d P v) ss

        at : Lowest k d P ss v
        at = lowest-at d dl dh k t P ss kh th.0 r.width (omega arith)

        nothing : codeword 1 d t e W ≡ none → Round k d t e₀ ss₀ e w ss q None
        nothing x =
            rw (found_none (jump-none d dl dh k t e ss P v r.holders r.width r.enough th.0 at.room at.agree x)) (refl, refl)

        -- a level's codeword: the shares that differ from it are dropped
        module _ (g : Polynomial) (x : codeword 1 d t e W ≡ some g) where
          abbrev u : ℕ
          u = error_set 1 d g W

          ones-u : ones u ≡ errors 1 d g W
          ones-u = ones-at d k P v ss r.holders g

          within : errors 1 d g W ≤ e
          within = (codeword-sound 1 d t e W g x).1

          parts : holder_set ss ≡ u + holder_set (without u ss)
          parts =
              let f : u ≡ tally holder_bit (λ s. differs 1 d g (at_bit k d P v s)) ss =
              error_set-tally 1 d g W ∙ tally-reword holder_bit (λ s. bit_of v (residue k d P s)) (differs 1 d g) ss in
              tally-without holder_bit (λ s. differs 1 d g (at_bit k d P v s)) any u ss (bit-differs-at d k P v ss r.holders g)
              (all_any (λ s. differs 1 d g (at_bit k d P v s)) ss)
              ∙ ap (λ n. n + holder_set (without u ss)) (sym f)

          dropped : 0 < ones u
          dropped = go (ones u) refl
            where
              go : (n : ℕ) → ones u ≡ n → 0 < n
              go zero y =
                  absurd (at.set (progress d dl dh k t e ss P v r.holders r.width r.enough th.0 th.1 g x (sym ones-u ∙ y)))
              go (suc n) y = omega arith

          after : Sought k d t e₀ ss₀ (e - ones u) (w + u) (without u ss)
          after =
              record {
                holders = holders-without u d ss r.holders;
                rising = rising-without u ss r.rising;
                width = in-width-without u k d ss r.width;
                enough = rw ones-u (enough-without d k P v ss r.holders g t e r.enough within);
                fits = omega (arith, r.fits, parts);
                same =
                    r.same
                    ∙ rw ones-u
                    (jump-with d dl dh k t e ss P v r.holders r.width r.enough th.0 at.room at.agree g x (λ p n. outcome p (w + n))
                    ∙ ap (λ (f : Polynomial → Outcome). Perhaps.map f (codeword k d t (e - errors 1 d g W) (without u ss)))
                    (λ i p. outcome p (sym (add_assoc w u (error_set k d p (without u ss))) i)));
              }

          jumped : Round k d t e₀ ss₀ e w ss q (found_wrong u false)
          jumped = (omega (arith, r.fits, parts), record { within = rw ones-u within; drops = dropped; next = after })

      pub round : k ≤ 64 → (result got : Option Found) → result ≡ level_found k d t e P ss → result ≡ got → Round k d t e₀ ss₀ e w ss q got
      round kh result got x y = rw (sym y ∙ x) (by_level k d t e P ss (Round k d t e₀ ss₀ e w ss q) ends (nothing kh) (jumped kh))

  -- the first round
  pub left_out : (w : ℕ) → Jumped k d t e₀ ss₀ e₀ 0 ss₀ w → LeftOut k d t e₀ ss₀ w
  left_out w j = record { few = j.within; width = n.width; enough = n.enough; same = same; both = both }
    where
      rs : List Share
      rs = without w ss₀

      e : ℕ
      e = e₀ - ones w

      n : Sought k d t e₀ ss₀ e (0 + w) rs
      n = j.next

      same : codeword k d t e₀ ss₀ ≡ codeword k d t e rs
      same = go (codeword k d t e rs) refl
        where
          go : (o : Perhaps Polynomial) → codeword k d t e rs ≡ o → codeword k d t e₀ ss₀ ≡ o
          go none x = found_none e (0 + w) rs n x
          go (some p) x = (found_some e (0 + w) rs n p x).0

      both : (p : Polynomial) → codeword k d t e₀ ss₀ ≡ some p → error_set k d p ss₀ ≡ w + error_set k d p rs
      both p x = (found_some e (0 + w) rs n p (sym same ∙ x)).1 ∙ ap (λ u. u + error_set k d p rs) (zero-add w)
