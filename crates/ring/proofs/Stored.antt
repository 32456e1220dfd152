-- An element stored over the whole of an output. Assumes nothing.
use mathlib.Core.Path.{◌≡◌}
use mathlib.Core.List.{◌++◌, append-nil}
use Prim.Native.Nat.{ℕ, ◌+◌}
use native.Mathlib.Nat.{zero-add, le_of_eq}
use lib.ListN.{length, take, drop, drop_of_length-le}
use Rattle.galois.specs.Element.{Element, held}
use Rattle.galois.proofs.Held.{held-take}

pub stored : (d : ℕ) (out e s : Element) → length out ≡ d → e ≡ held d s → length s ≡ d → take 0 out ++ take d e ++ drop (0 + d) out ≡ s
stored d out e s ho he hs =
    rw (zero-add, drop_of_length-le out (le_of_eq ho), append-nil, he) (held-take d s hs)
