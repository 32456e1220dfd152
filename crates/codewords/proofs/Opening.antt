-- Openings: their cases, none of which is 3 (`answer-states`, `never-wide`), what demand 3 says of the answer to shares (`answer-decides`), and how a
-- number and rows stand for one (`handed`). Assumes nothing.
use mathlib.Core.Path.{◌≡◌, refl, sym, ◌∙◌, ap}
use mathlib.Core.Bool.{Bool, true, false, true≢false, cond, not}
use mathlib.Core.Logic.{inl, inr}
use mathlib.Core.List.{List, [], ◌∷◌}
use mathlib.Core.Option.{Option, none, some}
use Prim.Native.Nat.{ℕ, zero, suc, ◌+◌, ◌*◌, ◌≤◌, ◌<◌}
use native.Mathlib.Nat.{suc-ne-zero}
use native.Mathlib.Decide.{dec_le}
use native.Mathlib.Omega.{arith}
use lib.Dec.{leb, eqb}
use lib.ListN.{length, take, get_or}
use borrow.Author.Tests.{le-leb, lt-leb}
use Rattle.words.specs.Params.{params_ok}
use Rattle.words.specs.Refusal.{kept, WIDE_WORD, TOO_FEW_SHARES, NO_CODEWORD}
use Rattle.words.specs.declared.Params.{Params}
use Rattle.words.proofs.InRange.{ok-range}
use Rattle.algebra.proofs.Shares.{all_map}
use Rattle.polynomial.specs.Rows.{Rows, Shaped, coefs}
use Rattle.polynomial.proofs.Shape.{shaped-length}
use Rattle.codewords.specs.Codeword.{Share, Polynomial, error_set, positions, codeword}
use Rattle.codewords.specs.Demand.{Within, NoneWithin, Decides}
use Rattle.codewords.specs.Opening.{Opening, declines, opens, fault_of, secret_into, wrong_of, wrong_into, lowest_into, unless_fault}
use Rattle.codewords.specs.Opening.{from_codeword, answer_to, JobState, opening_in}
use Rattle.codewords.specs.WellFormed.{IsPoly, Holders}
use Rattle.codewords.proofs.ErrorSet.{ones-errors}
use Rattle.codewords.proofs.Unique.{codeword-sound, codeword-none, none-codeword, codeword-complete}

-- a polynomial is given by one opening, and is no refusal
pub opens-inj : {q r : Polynomial} → opens q ≡ opens r → q ≡ r
opens-inj e = ap given e
  where
    given : Opening → Polynomial
    given (declines c) = []
    given (opens q) = q

pub opens_not : {X : Type 0} {q : Polynomial} {c : ℕ} → opens q ≡ declines c → X
opens_not e = absurd (let z : ◌≡◌ {A = ℕ} 0 1 = ap side e in omega arith)
  where
    side : Opening → ℕ
    side (declines c) = 1
    side (opens q) = 0

-- a fault ahead of an opening, or none
pub unless-none : (c : ℕ) (o : Opening) → c ≡ 0 → unless_fault c o ≡ o
unless-none c o e = rw e

pub unless-some : (c : ℕ) (o : Opening) → (c ≡ 0 → ⊥) → unless_fault c o ≡ declines c
unless-some zero o f = absurd (f refl)
unless-some (suc c) o f = refl

-- the cases of an answer
pub answer-few : (p : Params) (e : ℕ) (ss : List Share) → length ss < p.t + 1 + 2 * e → answer_to p e ss ≡ declines TOO_FEW_SHARES
unfolding answer_to
answer-few p e ss h = rw (lt-leb (p.t + 1 + 2 * e) (length ss) h)

pub answer-from : (p : Params) (e : ℕ) (ss : List Share) → p.t + 1 + 2 * e ≤ length ss →
    answer_to p e ss ≡ from_codeword (codeword p.k p.d p.t e ss)
unfolding answer_to
answer-from p e ss h = rw (le-leb (p.t + 1 + 2 * e) (length ss) h)

pub answer-states : (p : Params) (e : ℕ) (ss : List Share) → JobState (answer_to p e ss)
unfolding answer_to
answer-states p e ss = go (leb (p.t + 1 + 2 * e) (length ss)) (codeword p.k p.d p.t e ss)
  where
    go : (b : Bool) (c : Option Polynomial) → JobState (cond b (from_codeword c) (declines TOO_FEW_SHARES))
    go true (some q) = inl (q, refl)
    go true none = inr (inr refl)
    go false c = inr (inl refl)

-- a number that is not 3; and with no 3 ahead of it one job never gives 3
abbrev pub narrow : ℕ → Bool
narrow c = not (eqb c WIDE_WORD)

pub never-wide : (c : ℕ) (o : Opening) → narrow c ≡ true → JobState o → fault_of (unless_fault c o) ≡ WIDE_WORD → ⊥
never-wide c o g s e = true≢false (sym (past c g s) ∙ ap narrow e)
  where
    past : (c : ℕ) → narrow c ≡ true → JobState o → narrow (fault_of (unless_fault c o)) ≡ true
    past (suc c) g x = g
    past zero g (inl x) = ap (λ y. narrow (fault_of y)) x.1
    past zero g (inr (inl x)) = ap (λ y. narrow (fault_of y)) x
    past zero g (inr (inr x)) = ap (λ y. narrow (fault_of y)) x

-- what opens is a polynomial of degree at most t
pub answer-poly : (p : Params) (e : ℕ) (ss : List Share) (q : Polynomial) → answer_to p e ss ≡ opens q → IsPoly p.k p.d p.t q
answer-poly p e ss q g = at (dec_le (p.t + 1 + 2 * e) (length ss))
  where
    go : p.t + 1 + 2 * e ≤ length ss → (o : Option Polynomial) → codeword p.k p.d p.t e ss ≡ o → IsPoly p.k p.d p.t q
    go h none c = opens_not (sym g ∙ answer-from p e ss h ∙ ap from_codeword c)
    go h (some r) c =
        rw (opens-inj (sym g ∙ answer-from p e ss h ∙ ap from_codeword c)) (codeword-sound p.k p.d p.t e ss r c).0

    at : Dec (p.t + 1 + 2 * e ≤ length ss) → IsPoly p.k p.d p.t q
    at (yes h) = go h (codeword p.k p.d p.t e ss) refl
    at (no h) = opens_not (sym g ∙ answer-few p e ss (omega arith))

-- demand 3
module _ (p : Params) (ok : params_ok p ≡ true) (e : ℕ) (ss : List Share) (holders : Holders p.d ss) (enough : p.t + 1 + 2 * e ≤ length ss) where
  from : (o : Option Polynomial) → codeword p.k p.d p.t e ss ≡ o → answer_to p e ss ≡ from_codeword o
  from o c = answer-from p e ss enough ∙ ap from_codeword c

  source : (q : Polynomial) → answer_to p e ss ≡ opens q → Within p e ss q
  source q g = go (codeword p.k p.d p.t e ss) refl
    where
      go : (o : Option Polynomial) → codeword p.k p.d p.t e ss ≡ o → Within p e ss q
      go none c = opens_not (sym g ∙ from none c)
      go (some r) c =
          let s = codeword-sound p.k p.d p.t e ss r c in
          rw (opens-inj (sym g ∙ from (some r) c)) (record { poly = s.0; near = s.1 })

  nothing : (c : ℕ) → answer_to p e ss ≡ declines c → (c ≡ NO_CODEWORD) × NoneWithin p e ss
  nothing c g = go (codeword p.k p.d p.t e ss) refl
    where
      go : (o : Option Polynomial) → codeword p.k p.d p.t e ss ≡ o → (c ≡ NO_CODEWORD) × NoneWithin p e ss
      go none o = (ap fault_of (sym g ∙ from none o), codeword-none p.k p.d p.t e ss o)
      go (some q) o = opens_not (sym (from (some q) o) ∙ g)

  pub answer-decides : Decides p e ss (answer_to p e ss)
  answer-decides =
      record {
        finds = λ q w. (let r = ok-range p ok in
            from (some q) (codeword-complete p.d r.d-low r.d-high p.k p.t e ss q holders (omega (arith, enough)) w.poly w.near));
        found = source;
        names_few = λ q g.
            rw (ones-errors p.k p.d q ss (all_map (λ (r : Share) x. x.0) ss holders.0) holders.1) (source q g).near;
        no_curve = λ f. from none (none-codeword p.k p.d p.t e ss f);
        none_within = nothing;
      }

-- what a call hands out of a number c, of rows and of a set w that stand for an opening o
pub record Handed (k d t : ℕ) (ss : List Share) (c : ℕ) (rows : Rows) (w : ℕ) (o : Opening) : Type 0 where
  pub fault : c ≡ fault_of o
  pub secret : (old : List ℕ) → kept c old (take d (get_or rows 0 [])) ≡ secret_into old o
  pub wrong : (old : List ℕ) → kept c old (w ∷ []) ≡ wrong_into k d ss old o
  pub lowest : (old : List ℕ) → kept c old (positions k d (coefs d (suc t) rows) ss) ≡ lowest_into k d ss old o
  pub set : c ≡ 0 → w ≡ error_set k d (coefs d (suc t) rows) ss

pub handed : (k d t : ℕ) (ss : List Share) (c : ℕ) (rows : Rows) (w : ℕ) (o : Opening) → Shaped rows → opening_in d t c rows ≡ o →
    w ≡ wrong_of k d ss o → Handed k d t ss c rows w o
handed k d t ss zero [] w o h e x = absurd (suc-ne-zero 63 (sym (shaped-length [] h)))
handed k d t ss zero (r ∷ rows) w o h e x =
    let y = x ∙ sym (ap (wrong_of k d ss) e) in
    rw (← e) (record { fault = refl; secret = λ old. refl; wrong = λ old. ap (λ u. u ∷ []) y; lowest = λ old. refl; set = λ z. y })
handed k d t ss (suc c) rows w o h e x =
    rw (← e)
    (record { fault = refl; secret = λ old. refl; wrong = λ old. refl; lowest = λ old. refl; set = λ z. absurd (suc-ne-zero c z) })
