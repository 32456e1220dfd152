-- Any calls at one desk after a start: the record has the Q of the last start and the number of openings that gave words since (`month`). Assumes
-- nothing.
use mathlib.Core.Path.{◌≡◌, refl, sym, ap, ◌∙◌, subst}
use mathlib.Core.List.{List, [], ◌∷◌}
use Prim.Native.Nat.{ℕ, zero, suc, ◌+◌, ◌≤◌, ◌<◌}
use native.Mathlib.Omega.{arith}
use lib.ListN.{length}
use Rattle.words.specs.Faults.{length_fault}
use Rattle.words.specs.Refusal.{kept}
use Rattle.words.proofs.Refusals.{first-right, kept-none}
use Rattle.codewords.specs.Opening.{fault_of}
use Rattle.desk.specs.Desk.{largest_allowance}
use Rattle.desk.specs.Lent.{lent_opening, lent_start_fault}
use Rattle.desk.specs.Runs.{Call, starting, opening, number_of, after, record_after, returned, given, allowed, Counts}
use Rattle.desk.proofs.Laws.{fits-allowance, lent-proper, record-kept}
use Rattle.desk.proofs.Tells.{lent-open}

started : (r : List ℕ) (q : ℕ) → lent_start_fault r q ≡ 0 → q ≤ largest_allowance
unfolding lent_start_fault
started r q e = fits-allowance q (first-right (length_fault 2 (length r)) _ e)

-- what holds of the record after the calls cs, lent the record r, where the answers since the last start are l; and from any two words on
abbrev Kept : ℕ → ℕ → List ℕ → List (Call × ℕ) → List Call → Type 0
Kept a c r l cs = (record_after r cs ≡ allowed a l ∷ given c l ∷ []) × (given c l ≤ allowed a l) × (allowed a l ≤ largest_allowance)

abbrev Holds : ℕ → ℕ → List Call → Type 0
Holds a c cs = c ≤ a → a ≤ largest_allowance → Kept a c (a ∷ c ∷ []) (returned (a ∷ c ∷ []) cs) cs

-- after a start that returned f, and after an opening
start-holds : (a c q : ℕ) (cs : List Call) (f : ℕ) → (f ≡ 0 → q ≤ largest_allowance) → Holds q 0 cs → Holds a c cs → c ≤ a → a ≤ largest_allowance →
    let r = kept f (a ∷ c ∷ []) (q ∷ 0 ∷ []) in Kept a c r ((starting q, f) ∷ returned r cs) cs
unfolding given allowed
start-holds a c q cs zero g x y h b = x (omega arith) (g refl)
start-holds a c q cs (suc f) g x y h b = y h b

open-holds : (a c : ℕ) (bs : List ℕ) (p n w l : ℕ) (cs : List Call) (f : ℕ) → (f ≡ 0 → c < a) → Holds a (c + 1) cs → Holds a c cs → c ≤ a →
    a ≤ largest_allowance → let r = kept f (a ∷ c ∷ []) (a ∷ (c + 1) ∷ []) in Kept a c r ((opening bs p n w l, f) ∷ returned r cs) cs
unfolding given allowed
open-holds a c bs p n w l cs zero g x y h b = x (let z = g refl in omega (arith, z)) b
open-holds a c bs p n w l cs (suc f) g x y h b = y h b

holds : (a c : ℕ) (cs : List Call) → Holds a c cs
unfolding record_after returned after number_of given allowed
holds a c [] h b = (refl, h, b)
holds a c (starting q ∷ cs) h b =
    start-holds a c q cs (lent_start_fault (a ∷ c ∷ []) q) (started (a ∷ c ∷ []) q) (holds q 0 cs) (holds a c cs) h b
holds a c (opening bs p n w l ∷ cs) h b =
    let o = lent_opening (a ∷ c ∷ []) bs p n w l in
    subst (λ r. Kept a c r ((opening bs p n w l, fault_of o) ∷ returned r cs) cs)
    (sym (record-kept (a ∷ c ∷ []) o (lent-proper (a ∷ c ∷ []) bs p n w l)))
    (open-holds a c bs p n w l cs (fault_of o) (λ e. (lent-open (a ∷ c ∷ []) bs p n w l e).below) (holds a (c + 1) cs) (holds a c cs) h b)

-- after a start that returned 0
pub month : (r : List ℕ) (q : ℕ) (cs : List Call) → number_of r (starting q) ≡ 0 → Counts r q cs
unfolding number_of record_after after
month r q cs e =
    let s : kept (lent_start_fault r q) r (q ∷ 0 ∷ []) ≡ q ∷ 0 ∷ [] = kept-none (lent_start_fault r q) r (q ∷ 0 ∷ []) e in
    let k = holds q 0 cs (omega arith) (started r q e) in
    record {
      words = ap (λ x. record_after x cs) s ∙ k.0;
      within = k.1;
      most = k.2;
    }
