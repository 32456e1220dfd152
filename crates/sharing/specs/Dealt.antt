-- What the theorems on dealt shares speak of, paper 01's demand 2: shares of a dealt job, their sums and multiples, such shares changed, and
-- what they open to. Assumes nothing.
use Rattle.std.specs.Prelude.{ℕ, ◌+◌, ◌*◌, ◌≤◌, ◌≡◌, true, List, [], ◌∷◌, ◌++◌, length}
use Rattle.std.specs.Int.Count.{ones}
use Rattle.words.specs.declared.Params.{Params}
use Rattle.galois.specs.Element.{Element, sum, product, lower, point}
use Rattle.polynomial.specs.Polynomial.{Polynomial, value}
use Rattle.codewords.specs.Linear.{sums}
use Rattle.codewords.specs.Opening.{opens, secret_into, wrong_into}
use Rattle.codewords.specs.WellFormed.{IsPoly}
use Rattle.sharing.specs.Dealing.{dealing, dealt, deal_fault}
use Rattle.sharing.specs.Lists.{of_holders, on_each, on_pairs, changed_set}
use Rattle.sharing.specs.Opening.{lent, rising_to, opening}

-- a job and coefficients that the call deals, into an output of some length
pub record Dealable (p : Params) (secret coefficients : List ℕ) : Type 0 where
  pub n : ℕ
  pub no_fault : deal_fault p secret coefficients n ≡ 0

-- dealt shares of the holders hs, sums of shares, and shares times an element
abbrev pub dealt_shares : Params → List ℕ → List ℕ → List ℕ → List ℕ
dealt_shares p hs secret coefficients = of_holders p.d hs (dealt p secret coefficients)

abbrev pub sums_of : Params → List ℕ → List ℕ → List ℕ → List ℕ
sums_of p hs vs ws = on_pairs (sum p.k) p.d (length hs) vs ws

abbrev pub multiples_of : Params → List ℕ → Element → List ℕ → List ℕ
multiples_of p hs c vs = on_each (product p.k (lower p.d) c) p.d (length hs) vs

-- the same with the element as the second factor
abbrev pub multiples_by : Params → List ℕ → List ℕ → Element → List ℕ
multiples_by p hs vs c = on_each (λ (v : Element). product p.k (lower p.d) v c) p.d (length hs) vs

-- a second job and more, added one after another: to the shares of the first, to its polynomial and to its words
pub record Job : Type 0 where
  pub secret : List ℕ
  pub coefficients : List ℕ

abbrev pub total_of : Params → List ℕ → List ℕ → List Job → List ℕ
total_of p hs vs [] = vs
total_of p hs vs (j ∷ js) = total_of p hs (sums_of p hs vs (dealt_shares p hs j.secret j.coefficients)) js

abbrev pub total_shares : Params → List ℕ → Job → List Job → List ℕ
total_shares p hs j js = total_of p hs (dealt_shares p hs j.secret j.coefficients) js

abbrev pub total_dealing : Params → Polynomial → List Job → Polynomial
total_dealing p q [] = q
total_dealing p q (j ∷ js) = total_dealing p (sums p.k q (dealing p j.secret j.coefficients)) js

abbrev pub total_secret : Params → Element → List Job → Element
total_secret p a [] = a
total_secret p a (j ∷ js) = total_secret p (sum p.k a j.secret) js

-- the words that the holders hs have of a polynomial: its values at their points
unfoldable pub values_at : ℕ → ℕ → Polynomial → List ℕ → List ℕ
unfolding value point
values_at k d q [] = []
values_at k d q (h ∷ hs) = value k d q (point d h) ++ values_at k d q hs

-- the shares vs of the holders hs are those of the polynomial q, which is of degree at most t
pub record Through (p : Params) (hs vs : List ℕ) (q : Polynomial) : Type 0 where
  pub poly : IsPoly p.k p.d p.t q
  pub values : vs ≡ values_at p.k p.d q hs

-- shares present at an opening: of holders that rise from 1 to n, at least t + 1 + 2e
pub record Present (p : Params) (hs : List ℕ) (e : ℕ) : Type 0 where
  pub rising : rising_to p.n 0 hs ≡ true
  pub enough : p.t + 1 + 2 * e ≤ length hs

-- the holders of the shares in ws that are not as in vs
abbrev pub changed_in : Params → List ℕ → List ℕ → List ℕ → ℕ
changed_in p hs vs ws = changed_set (lent p.d hs vs) (lent p.d hs ws)

-- the shares ws in place of vs: as many words, whatever they are, and at most e shares changed
pub record Changed (p : Params) (hs vs ws : List ℕ) (e : ℕ) : Type 0 where
  pub sized : length ws ≡ length hs * p.d
  pub few : ones (changed_in p hs vs ws) ≤ e

-- the shares ws, lent with outputs of d words, of one and of 64 bytes, open to the polynomial q: the outputs then hold the job a and the set w
pub record OpensTo (p : Params) (hs ws : List ℕ) (e : ℕ) (q : Polynomial) (a : Element) (w : ℕ) : Type 0 where
  pub opened : opening p hs ws e p.d 1 64 ≡ opens q
  pub secret : (old : List ℕ) → secret_into old (opening p hs ws e p.d 1 64) ≡ a
  pub wrong : (old : List ℕ) → wrong_into p.k p.d (lent p.d hs ws) old (opening p hs ws e p.d 1 64) ≡ w ∷ []
