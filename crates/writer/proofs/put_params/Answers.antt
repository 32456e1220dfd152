-- `put_params`: four bytes, one after another. Assumes nothing.
use mathlib.Core.Path.{refl}
use Prim.Native.Nat.{◌+◌}
use mathlib.Core.List.{[], ◌∷◌}
use native.Mathlib.Omega.{arith}
use Rattle.writer.proofs.Put.{Written, written_none, written_byte, written-end}
use Rattle.writer.proofs.put_params.Goals as goal

pub returns : goal.returns
returns c =
    let p = c.args.p in
    let at = c.args.at in
    let d = c.args.out.now in
    let f = c.requires in
    let o₁ = c.put_number.new.out in
    let o₂ = c.put_number-2.new.out in
    let o₃ = c.put_number-3.new.out in
    let o₄ = c.put_number-4.new.out in
    let w₀ : Written d at [] d = written_none d at (omega arith) in
    let w₁ : Written d at (p.k ∷ []) o₁ = written_byte d at [] d o₁ at p.k w₀ (omega arith) (omega arith) f.1
    c.put_number.ensures in
    let w₂ : Written d at (p.k ∷ p.d ∷ []) o₂ =
    written_byte d at (p.k ∷ []) o₁ o₂ (at + 1) p.d w₁ refl (omega arith) f.2
    c.put_number-2.ensures in
    let w₃ : Written d at (p.k ∷ p.d ∷ p.n ∷ []) o₃ =
    written_byte d at (p.k ∷ p.d ∷ []) o₂ o₃ (at + 2) p.n w₂ refl (omega arith) f.3
    c.put_number-3.ensures in
    let w₄ : Written d at (p.k ∷ p.d ∷ p.n ∷ p.t ∷ []) o₄ =
    written_byte d at (p.k ∷ p.d ∷ p.n ∷ []) o₃ o₄ (at + 3) p.t w₃ refl (omega arith) f.4 c.put_number-4.ensures in
    written-end d at (p.k ∷ p.d ∷ p.n ∷ p.t ∷ []) o₄ 4 w₄ refl
