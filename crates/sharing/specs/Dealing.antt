-- Dealing a job, paper 01, "Ring, points, shares" and "When a call declines". Assumes nothing.
use Rattle.std.specs.Prelude.{ℕ, zero, suc, ◌*◌, List, [], ◌∷◌, ◌++◌, length, take, drop}
use Rattle.words.specs.Faults.{params_fault, length_fault, width_fault}
use Rattle.words.specs.Refusal.{first}
use Rattle.words.specs.declared.Params.{Params}
use Rattle.galois.specs.Element.{Element, point}
use Rattle.polynomial.specs.Polynomial.{Polynomial, value}

-- n elements of d words, one after another
unfoldable pub elements_of : ℕ → ℕ → List ℕ → List Element
elements_of d zero ws = []
elements_of d (suc n) ws = take d ws ∷ elements_of d n (drop d ws)

-- "A dealing polynomial is one whose free term is the job."
unfoldable pub dealing : Params → List ℕ → List ℕ → Polynomial
unfolding elements_of
dealing p secret coefficients = secret ∷ elements_of p.d p.t coefficients

-- "Holder i's share is the value at point i": the shares of n holders, from holder i on
unfoldable pub dealt_from : ℕ → ℕ → Polynomial → ℕ → ℕ → List ℕ
unfolding value point
dealt_from k d q zero i = []
dealt_from k d q (suc n) i = value k d q (point d i) ++ dealt_from k d q n (suc i)

-- the shares of all holders, from a job and t further coefficients
unfoldable pub dealt : Params → List ℕ → List ℕ → List ℕ
unfolding dealing dealt_from
dealt p secret coefficients = dealt_from p.k p.d (dealing p secret coefficients) p.n 1

-- the fault of dealing into an output of length n; "Order outside files: 1, 2, [..] 3"
unfoldable pub deal_fault : Params → List ℕ → List ℕ → ℕ → ℕ
unfolding first params_fault length_fault width_fault
deal_fault p secret coefficients n =
    first (params_fault p)
    (first (length_fault p.d (length secret))
    (first (length_fault (p.t * p.d) (length coefficients))
    (first (length_fault (p.n * p.d) n) (first (width_fault p.k secret) (width_fault p.k coefficients)))))
