-- What the theorems on dealt jobs in a bundle speak of: the polynomials that deal the jobs of a run and their sum, the files that hold something
-- else, and what a place or a run opens to. Assumes nothing.
use Rattle.std.specs.Prelude.{ℕ, zero, suc, ◌+◌, ◌-◌, ◌<◌, ◌≡◌, Bool, not, List, [], ◌∷◌, get_or, replicate}
use Rattle.algebra.specs.Shares.{count}
use Rattle.galois.specs.Element.{Element, zero_e}
use Rattle.codewords.specs.Codeword.{Share, Polynomial, differs, error_set}
use Rattle.codewords.specs.Linear.{sums}
use Rattle.codewords.specs.Opening.{Opening, opens, secret_into, wrong_into}
use Rattle.codewords.specs.WellFormed.{IsPoly}
use Rattle.bundle.specs.Bundle.{params_of, files_of}
use Rattle.bundle.specs.Contents.{words_of}
use Rattle.totals.specs.Total.{sum_to}
use Rattle.totals.specs.Values.{values_from, every}
use Rattle.archive.specs.Archive.{share_by, shares_at, shares_over, open_place, open_run}

-- ---- the polynomials q 0, .., q (n - 1) that deal the jobs of a run of n places

-- each is of degree at most t
abbrev pub Polys : List ℕ → (ℕ → Polynomial) → ℕ → Type 0
Polys bs q n = (i : ℕ) → i < n → IsPoly (params_of bs).k (params_of bs).d (params_of bs).t (q i)

-- the free terms: "A dealing polynomial is one whose free term is the job."
abbrev pub free_terms : (ℕ → Polynomial) → ℕ → Element
free_terms q i = get_or (q i) 0 []

-- the sum of n polynomials of degree at most t, that of none being zero
unfoldable pub sum_polys : ℕ → ℕ → ℕ → (ℕ → Polynomial) → ℕ → Polynomial
unfolding sums
sum_polys k d t q zero = replicate (suc t) (zero_e d)
sum_polys k d t q (suc n) = sums k (sum_polys k d t q n) (q n)

-- the sum of the dealing polynomials, and the sum of the jobs
abbrev pub sum_poly : List ℕ → (ℕ → Polynomial) → ℕ → Polynomial
sum_poly bs q n = sum_polys (params_of bs).k (params_of bs).d (params_of bs).t q n

abbrev pub sum_of_jobs : List ℕ → (ℕ → Polynomial) → ℕ → Element
sum_of_jobs bs q n = sum_to (params_of bs).k (params_of bs).d (free_terms q) n

-- ---- files

-- whether file f holds its holder's share of each of the n jobs from place a on, where the job at place a + i is dealt by q i
unfoldable pub holds_dealt : List ℕ → (ℕ → Polynomial) → ℕ → ℕ → ℕ → Bool
unfolding every differs
holds_dealt bs q a n f =
    every (λ i. not (differs (params_of bs).k (params_of bs).d (q i) (share_by bs (λ g. words_of bs g (a + i)) f))) n

-- how many files hold something else somewhere in the run
abbrev pub changed_files : List ℕ → (ℕ → Polynomial) → ℕ → ℕ → ℕ
changed_files bs q a n = count (λ f. not (holds_dealt bs q a n f)) (values_from (λ f. f) 0 (files_of bs))

-- the holders whose share of a run differs from a polynomial
abbrev pub named : List ℕ → ℕ → ℕ → Polynomial → ℕ
named bs a n p = error_set (params_of bs).k (params_of bs).d p (shares_over bs a n)

-- ---- what is opened

-- the opening o of a bundle's shares ss gives the polynomial q, so that the outputs then hold the words s and the set x
pub record BundleOpensTo (bs : List ℕ) (ss : List Share) (o : Opening) (q : Polynomial) (s : Element) (x : ℕ) : Type 0 where
  pub opened : o ≡ opens q
  pub secret : (old : List ℕ) → secret_into old o ≡ s
  pub wrong : (old : List ℕ) → wrong_into (params_of bs).k (params_of bs).d ss old o ≡ x ∷ []

-- the job at place p, and the run of the places a to b - 1, with outputs of n and of w words and of l bytes
abbrev pub PlaceOpensTo : List ℕ → ℕ → ℕ → ℕ → ℕ → Polynomial → Element → ℕ → Type 0
PlaceOpensTo bs p n w l = BundleOpensTo bs (shares_at bs p) (open_place bs p n w l)

abbrev pub RunOpensTo : List ℕ → ℕ → ℕ → ℕ → ℕ → ℕ → Polynomial → Element → ℕ → Type 0
RunOpensTo bs a b n w l = BundleOpensTo bs (shares_over bs a (b - a)) (open_run bs a b n w l)
