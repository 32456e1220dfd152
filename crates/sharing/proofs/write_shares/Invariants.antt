-- `sharing::write_shares` meets its contract: a turn of the loop writes one share more. Assumes nothing.
use mathlib.Core.Path.{◌≡◌}
use mathlib.Core.List.{◌∷◌}
use Prim.Native.Nat.{◌*◌, ◌-◌}
use lib.Seq.{paste}
use Rattle.sharing.specs.Dealing.{elements_of, dealt_from}
use Rattle.sharing.proofs.write_shares.Given as goal

abbrev pub invariant-loop-x : goal.invariant-loop-x
invariant-loop-x l = l.out ≡ paste l.initial.out 0 (dealt_from l.p.k l.p.d (l.secret ∷ elements_of l.p.d l.p.t l.coefficients) l.p.n 1) ((l.x - 1) * l.p.d)
