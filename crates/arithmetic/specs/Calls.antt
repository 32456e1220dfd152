-- The calls on lent elements, paper 01, "When a call declines": which fault counts, for every input. Assumes nothing.
use Rattle.std.specs.Prelude.{ℕ, List, length}
use Rattle.words.specs.declared.Params.{Params}
use Rattle.words.specs.Faults.{params_fault, length_fault, width_fault}
use Rattle.words.specs.Refusal.{first}

-- a call with one operand, or two, and an output of n words; "Order outside files: 1, 2, [..] 3"
unfoldable pub operand_fault : Params → List ℕ → ℕ → ℕ
unfolding first params_fault length_fault width_fault
operand_fault p a n =
    first (params_fault p) (first (length_fault p.d (length a)) (first (length_fault p.d n) (width_fault p.k a)))

unfoldable pub operands_fault : Params → List ℕ → List ℕ → ℕ → ℕ
unfolding first params_fault length_fault width_fault
operands_fault p a b n =
    first (params_fault p)
    (first (length_fault p.d (length a))
    (first (length_fault p.d (length b)) (first (length_fault p.d n) (first (width_fault p.k a) (width_fault p.k b)))))
