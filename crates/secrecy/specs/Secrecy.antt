-- What t labs together can see, paper 02, K7: of shares under different holders, as a polynomial goes through them and as dealing writes them, and
-- how often dealing does. Assumes nothing.
use Rattle.std.specs.Prelude.{ℕ, ◌*◌, ◌≤◌, ◌≡◌, Bool, true, ◌&&◌, List, [], ◌∷◌, length, get_or}
use Rattle.words.specs.declared.Params.{Params}
use Rattle.algebra.specs.Shares.{All, count}
use Rattle.galois.specs.Element.{Element, same, elements}
use Rattle.codewords.specs.Codeword.{Share, Polynomial}
use Rattle.codewords.specs.Demand.{value_at}
use Rattle.codewords.specs.WellFormed.{IsPoly, InWidth, Different}
use Rattle.sharing.specs.Dealt.{Job}
use Rattle.promises.specs.Written.{Deals, share_of}

-- exactly one has a property
module _ {A : Type 0} where
  pub record ExactlyOne (P : A → Type 0) : Type 0 where
    pub it : A
    pub has : P it
    pub only : (x : A) → P x → x ≡ it

-- "Holder i (1 to n)"
abbrev pub IsHolder : Params → ℕ → Type 0
IsHolder p i = (1 ≤ i) × (i ≤ p.n)

-- "every t different holders, every t shares with words in width": what a group of t labs has of one job
pub record Group (p : Params) (ss : List Share) : Type 0 where
  pub size : length ss ≡ p.t
  pub holders : All (λ (s : Share). IsHolder p s.holder) ss
  pub different : Different ss
  pub in_width : InWidth p.k p.d ss

-- a "polynomial of degree at most t has those shares and that job as free term"
pub record Consistent (p : Params) (ss : List Share) (a : Element) (q : Polynomial) : Type 0 where
  pub poly : IsPoly p.k p.d p.t q
  pub shares : All (λ (s : Share). s.words ≡ value_at p q s.holder) ss
  pub free_term : get_or q 0 [] ≡ a

-- a job with the coefficients c that dealing is lent for it, t elements one after another
abbrev pub job_with : Element → List ℕ → Job
job_with a c = record { secret = a; coefficients = c }

-- the call of dealing returns 0 for them, and what it writes for each of the holders is its share
pub record DealsTo (p : Params) (ss : List Share) (a : Element) (c : List ℕ) : Type 0 where
  pub deals : Deals p (job_with a c)
  pub shares : All (λ (s : Share). s.words ≡ share_of p (job_with a c) s.holder) ss

-- ---- how often

-- all that dealing can be lent: t·d words, each 0 to 2^k − 1
abbrev pub coefficient_lists : Params → List (List ℕ)
coefficient_lists p = elements p.k (p.t * p.d)

-- whether what dealing writes for each of the holders is its share
unfoldable pub gives : Params → List Share → Element → List ℕ → Bool
gives p [] a c = true
gives p (s ∷ ss) a c = same s.words (share_of p (job_with a c) s.holder) && gives p ss a c

-- over all coefficients, how often dealing the job gives these shares: "t files alone fit all possible jobs equally"
abbrev pub how_often : Params → List Share → Element → ℕ
how_often p ss a = count (gives p ss a) (coefficient_lists p)
