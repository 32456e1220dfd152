-- Demand 3 of a call, by what it returned (`tells`), whatever the refusals ahead of 5 and 6 are: all that is asked of them is a number that is 0
-- exactly when none applies, and neither 5 nor 6 (`Ahead`). The same of shares with a wide word (`tells-wide`), and of the lowest bits at which wrong
-- shares differ (`tells-lowest`). Assumes nothing.
use mathlib.Core.Path.{◌≡◌, refl, sym, ◌∙◌, ap, subst}
use mathlib.Core.Bool.{Bool, true, false, true≢false, not, ◌||◌}
use mathlib.Core.Logic.{inl, inr, ⊎_elim}
use mathlib.Core.List.{List, [], ◌∷◌, Memᴰ}
use Prim.Native.Nat.{ℕ, ◌+◌, ◌*◌, ◌^◌, ◌≤◌, ◌<◌}
use native.Mathlib.Decide.{dec_le, ℕ_discrete}
use native.Mathlib.Omega.{arith}
use lib.Dec.{eqb}
use lib.ListN.{length, get_or}
use Rattle.algebra.specs.Shares.{All}
use Rattle.words.specs.Params.{params_ok}
use Rattle.words.specs.Refusal.{TOO_FEW_SHARES, NO_CODEWORD}
use Rattle.words.specs.declared.Params.{Params}
use Rattle.words.proofs.InRange.{InRange, ok-range}
use Rattle.codewords.specs.Codeword.{Share, Polynomial, error_set, positions, wide}
use Rattle.codewords.specs.Demand.{Within, NoneWithin, Decides, Outputs, Returned, EnoughShares, TooFewShares, bit_for, Exact, Tells, TellsWide, Positions, TellsLowest}
use Rattle.codewords.specs.Opening.{Opening, declines, opens, fault_of, secret_into, wrong_into, lowest_into, unless_fault, answer_to}
use Rattle.codewords.specs.WellFormed.{InWidth, Holders}
use Rattle.codewords.proofs.ErrorSet.{bit-wrong, bit-right}
use Rattle.codewords.proofs.Positions.{positions-length, positioned, unpositioned, all-positions}
use Rattle.codewords.proofs.Wide.{wide-differs, wide-none}
use Rattle.codewords.proofs.Opening.{opens-inj, opens_not, unless-none, unless-some, answer-few, answer-decides}

-- ---- refusals ahead of 5 and 6

-- neither 5 nor 6
abbrev pub other : ℕ → Bool
other c = not (eqb c TOO_FEW_SHARES || eqb c NO_CODEWORD)

-- f is the first of them, 0 exactly when Clear holds, by which the parameters are in their ranges and the holders as they should be
pub record Ahead (p : Params) (ss : List Share) (Clear : Type 0) (f : ℕ) : Type 0 where
  pub clear : f ≡ 0 → Clear
  pub none : Clear → f ≡ 0
  pub apart : other f ≡ true
  pub params : Clear → params_ok p ≡ true
  pub holders : Clear → Holders p.d ss

module _ (p : Params) (e : ℕ) (ss : List Share) {Clear : Type 0} {f : ℕ} (ahead : Ahead p ss Clear f) where
  abbrev call : Opening
  call = unless_fault f (answer_to p e ss)

  call-clear : Clear → call ≡ answer_to p e ss
  call-clear c = unless-none f (answer_to p e ss) (ahead.none c)

  pub call-decides : Clear → EnoughShares p e ss → Decides p e ss (unless_fault f (answer_to p e ss))
  call-decides c m =
      subst (Decides p e ss) (sym (call-clear c)) (answer-decides p (ahead.params c) e ss (ahead.holders c) m)

  -- what the call does, of four
  data Case : Type 0 where
    refuses : (Clear → ⊥) → call ≡ declines f → Case
    has-few : Clear → TooFewShares p e ss → call ≡ declines TOO_FEW_SHARES → Case
    has-none : Clear → EnoughShares p e ss → NoneWithin p e ss → call ≡ declines NO_CODEWORD → Case
    has_one : Clear → EnoughShares p e ss → (q : Polynomial) → Within p e ss q → call ≡ opens q → Case

  cases : Case
  cases = at (ℕ_discrete f 0) (dec_le (p.t + 1 + 2 * e) (length ss))
    where
      decided : Clear → EnoughShares p e ss → (o : Opening) → call ≡ o → Case
      decided c m (declines n) g = let x = (call-decides c m).none_within n g in has-none c m x.1 (g ∙ ap declines x.0)
      decided c m (opens q) g = has_one c m q ((call-decides c m).found q g) g

      at : Dec (f ≡ 0) → Dec (EnoughShares p e ss) → Case
      at (no n) m = refuses (λ c. n (ahead.none c)) (unless-some f (answer_to p e ss) n)
      at (yes z) (yes m) = decided (ahead.clear z) m call refl
      at (yes z) (no m) =
          let few : TooFewShares p e ss = omega arith in
          has-few (ahead.clear z) few (call-clear (ahead.clear z) ∙ answer-few p e ss few)

  pub call-opened : (q : Polynomial) → unless_fault f (answer_to p e ss) ≡ opens q → Clear × EnoughShares p e ss
  call-opened q g = by cases
    where
      by : Case → Clear × EnoughShares p e ss
      by (refuses n z) = opens_not (sym g ∙ z)
      by (has-few c m z) = opens_not (sym g ∙ z)
      by (has-none c m n z) = opens_not (sym g ∙ z)
      by (has_one c m r w z) = (c, m)

  module _ (old : Outputs) (r : ℕ) (new : Outputs) (g : Returned p ss (unless_fault f (answer_to p e ss)) old r new) where
    number : {o : Opening} → call ≡ o → r ≡ fault_of o
    number z = g.fault ∙ ap fault_of z

    same : (c : ℕ) → call ≡ declines c → new ≡ old
    same c z i =
        record {
          job = (g.job ∙ ap (secret_into old.job) z) i;
          wrong = (g.wrong ∙ ap (wrong_into p.k p.d ss old.wrong) z) i;
          lowest = (g.lowest ∙ ap (lowest_into p.k p.d ss old.lowest) z) i;
        }

    apart-not : {X : Type 0} (c : ℕ) → other c ≡ false → f ≡ c → X
    apart-not c h z = absurd (true≢false (sym ahead.apart ∙ ap other z ∙ h))

    range : Clear → InRange p
    range c = ok-range p (ahead.params c)

    lowest : (q : Polynomial) → call ≡ opens q → new.lowest ≡ positions p.k p.d q ss
    lowest q z = g.lowest ∙ ap (lowest_into p.k p.d ss old.lowest) z

    one : Clear → EnoughShares p e ss → (q : Polynomial) → Within p e ss q → call ≡ opens q → Exact p e ss new
    one c m q w z =
        record {
          q = q;
          within = w;
          only = λ s v. opens-inj (sym ((call-decides c m).finds s v) ∙ z);
          job = g.job ∙ ap (secret_into old.job) z;
          x = error_set p.k p.d q ss;
          wrong = g.wrong ∙ ap (wrong_into p.k p.d ss old.wrong) z;
          named = bit-wrong p ss (ahead.holders c) q;
          others = bit-right p ss (ahead.holders c) q;
          few = (call-decides c m).names_few q z;
          places = ap length (lowest q z) ∙ positions-length p.k p.d q ss;
          positioned = rw (lowest q z) (positioned p (range c) ss (ahead.holders c) q);
          unpositioned = rw (lowest q z) (unpositioned p (range c) ss (ahead.holders c) q);
        }

    told : Case → Tells p e ss Clear old r new
    told (refuses n z) =
        let a : r ≡ f = number z in
        let no : (r ≡ 0 → ⊥) = λ y. n (ahead.clear (sym a ∙ y)) in
        record {
          opened = (λ y. absurd (no y), λ x. absurd (n x.0));
          no_curve = (λ y. apart-not NO_CODEWORD refl (sym a ∙ y), λ x. absurd (n x.0));
          decided = (⊎_elim (λ y. absurd (no y)) (λ y. apart-not NO_CODEWORD refl (sym a ∙ y)), λ x. absurd (n x.0));
          too_few = (λ y. apart-not TOO_FEW_SHARES refl (sym a ∙ y), λ x. absurd (n x.0));
          exact = λ y. absurd (no y);
          kept = λ y. same f z;
        }
    told (has-few c m z) =
        let a : r ≡ TOO_FEW_SHARES = number z in
        record {
          opened = (λ y. absurd (omega (arith, a, y)), λ x. absurd (omega (arith, m, x.1)));
          no_curve = (λ y. absurd (omega (arith, a, y)), λ x. absurd (omega (arith, m, x.1)));
          decided = (⊎_elim (λ y. absurd (omega (arith, a, y))) (λ y. absurd (omega (arith, a, y))), λ x. absurd (omega (arith, m, x.1)));
          too_few = (λ y. (c, m), λ x. a);
          exact = λ y. absurd (omega (arith, a, y));
          kept = λ y. same TOO_FEW_SHARES z;
        }
    told (has-none c m n z) =
        let a : r ≡ NO_CODEWORD = number z in
        record {
          opened = (λ y. absurd (omega (arith, a, y)), λ x. absurd (omega (arith, x.2.1.near, n x.2.0 x.2.1.poly)));
          no_curve = (λ y. (c, m, n), λ x. a);
          decided = (λ y. (c, m), λ x. inr a);
          too_few = (λ y. absurd (omega (arith, a, y)), λ x. absurd (omega (arith, m, x.1)));
          exact = λ y. absurd (omega (arith, a, y));
          kept = λ y. same NO_CODEWORD z;
        }
    told (has_one c m q w z) =
        let a : r ≡ 0 = number z in
        record {
          opened = (λ y. (c, m, (q, w)), λ x. a);
          no_curve = (λ y. absurd (omega (arith, a, y)), λ x. absurd (omega (arith, w.near, x.2 q w.poly)));
          decided = (λ y. (c, m), λ x. inl a);
          too_few = (λ y. absurd (omega (arith, a, y)), λ x. absurd (omega (arith, m, x.1)));
          exact = λ y. one c m q w z;
          kept = λ y. absurd (y a);
        }

    pub tells : Tells p e ss Clear old r new
    tells = told cases

    pub tells-wide : TellsWide p e ss Clear r new
    tells-wide =
        record {
          named = λ z. let x = tells.exact z in let c = (tells.opened.0 z).0 in each x c ss (λ s m. m) (ahead.holders c).0;
          too_many = λ c m h. tells.no_curve.1 (c, m, let b = range c in wide-none p.d b.d-low b.d-high p.k p.t ss (ahead.holders c) e h);
        }
      where
        one : (x : Exact p e ss new) → Clear → (s : Share) → Memᴰ s ss → 1 ≤ s.holder → wide p.k s ≡ true →
            bit_for s.holder (get_or new.wrong 0 0) ≡ 1
        one x c s m l v =
            let b = range c in
            rw x.wrong
            ((x.named s.holder l).1
            (record {
              share = s;
              present = m;
              under = refl;
              differing = wide-differs p.d b.d-low b.d-high p.k p.t x.q x.within.poly s v;
            }))

        each : (x : Exact p e ss new) → Clear → (rs : List Share) → ((s : Share) → Memᴰ s rs → Memᴰ s ss) →
            All (λ (s : Share). (1 ≤ s.holder) × (s.holder < 2 ^ p.d)) rs →
            All (λ (s : Share). wide p.k s ≡ true → bit_for s.holder (get_or new.wrong 0 0) ≡ 1) rs
        each x c [] i h = tt
        each x c (s ∷ rs) i h = (one x c s (i s (Memᴰ.head refl)) h.0.0, each x c rs (λ r m. i r (Memᴰ.tail m)) h.1)

    -- shares of d words of 64 bits
    pub tells-lowest : InWidth 64 p.d ss → TellsLowest p e ss r new
    unfolding one
    tells-lowest h z = by cases
      where
        by : Case → (x : Exact p e ss new) × Positions p ss x.q new.lowest
        by (refuses n y) = absurd (n (ahead.clear (sym (number y) ∙ z)))
        by (has-few c m y) = absurd (omega (arith, z, number y))
        by (has-none c m n y) = absurd (omega (arith, z, number y))
        by (has_one c m q w y) =
            let a = all-positions p (range c) ss (ahead.holders c) q w.poly h in
            (one c m q w y, subst (Positions p ss q) (sym (lowest q y)) a)
