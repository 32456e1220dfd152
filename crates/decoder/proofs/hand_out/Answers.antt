-- `decoder::hand_out` meets its contract. Assumes nothing.
use mathlib.Core.Path.{◌≡◌, refl, ◌∙◌}
use mathlib.Core.List.{List, [], ◌++◌, append-nil}
use Prim.Native.Nat.{ℕ, ◌+◌}
use native.Mathlib.Omega.{arith}
use native.Mathlib.Nat.{zero-add, le_of_eq}
use lib.ListN.{length, take, drop, get_or, drop_of_length-le}
use Rattle.words.proofs.InRange.{ok-range}
use Rattle.words.proofs.Fill.{set_single}
use Rattle.decoder.proofs.hand_out.Goals as goal
use Rattle.decoder.proofs.hand_out.Goals.{After-lowest_bits, After-store}

-- d words stored in an output of as many
over : (d : ℕ) (out e : List ℕ) → length out ≡ d → take 0 out ++ take d e ++ drop (0 + d) out ≡ take d e
over d out e h = rw (zero-add, drop_of_length-le out (le_of_eq h)) (append-nil (take d e))

pub store-requires : goal.store-requires
store-requires c =
    let r = ok-range c.args.p c.requires.0 in
    ((r.d-low, r.d-high), omega (arith, c.requires.4))

pub lowest_bits-requires : goal.lowest_bits-requires
lowest_bits-requires c =
    let p = c.requires in
    (p.0, p.1, p.2, p.3, p.6, rw c.in_ok-found.was at p.7)

pub returns : goal.returns
returns c =
    let l = (goal.at.returns c).After-lowest_bits in
    let t = (goal.at.After-lowest_bits l).After-store in
    let a = t.args in
    rw t.in_ok-found.was (record {
      fault = refl;
      out = t.store.ensures ∙ over a.p.d a.out.now (get_or a.rows.now 0 []) t.requires.4;
      wrong = set_single a.wrong.now t.in_ok-found.found t.requires.5;
      lowest = l.lowest_bits.ensures;
    })
