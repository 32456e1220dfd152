-- A dealt share in the paper's own words: holder i's d words are the sum of the job, the second coefficient times point i, the third times its
-- square, and so on. Assumes nothing.
use mathlib.Core.Path.{◌≡◌, ◌∙◌, ap}
use mathlib.Core.List.{List}
use Prim.Native.Nat.{ℕ, ◌+◌, ◌-◌, ◌*◌, ◌≤◌}
use native.Mathlib.Omega.{arith}
use lib.ListN.{take, drop}
use Rattle.words.specs.declared.Params.{Params}
use Rattle.words.proofs.InRange.{InRange}
use Rattle.galois.specs.Element.{sum, point}
use Rattle.galois.proofs.Points.{length-point}
use Rattle.polynomial.specs.Polynomial.{value, terms}
use Rattle.polynomial.proofs.Powers.{value-terms}
use Rattle.codewords.proofs.Value.{Rows, rows_of}
use Rattle.sharing.specs.Dealing.{elements_of, dealing, dealt}
use Rattle.sharing.specs.Dealt.{Dealable}
use Rattle.sharing.proofs.Dealt.{share-at}
use Rattle.sharing.proofs.DealtOpens.{dealing-poly}
use Rattle.sharing.proofs.Faults.{deal-clear}

pub share-powers : (p : Params) (secret coefficients : List ℕ) → Dealable p secret coefficients → (i : ℕ) → 1 ≤ i → i ≤ p.n
    → take p.d (drop ((i - 1) * p.d) (dealt p secret coefficients))
    ≡ sum p.k secret (terms p.k p.d 1 (elements_of p.d p.t coefficients) (point p.d i))
unfolding dealt dealing
share-powers p secret coefficients able i l h =
    let k = p.k in
    let d = p.d in
    let q = dealing p secret coefficients in
    let r : InRange p = (deal-clear p secret coefficients able.n able.no_fault).range in
    let rows : Rows d q = rows_of k d p.t q (dealing-poly p secret coefficients able.n able.no_fault) in
    let e : 1 + (i - 1) ≡ i = omega arith in
    share-at k d r.d-low r.d-high q rows p.n 1 (i - 1) (omega arith)
    ∙ ap (λ (j : ℕ). value k d q (point d j)) e
    ∙ value-terms k d r.d-low r.d-high (point d i) (length-point d i) secret (elements_of d p.t coefficients) rows.1
