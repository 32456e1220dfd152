-- `decoder::position_by` meets its contract: the share's words and the value, each in an array of six, compared. Assumes nothing.
use native.Mathlib.Omega.{arith}
use mathlib.Core.Path.{◌≡◌, refl, ◌∙◌, ap, ap₂}
use Prim.Native.Nat.{suc, ◌+◌}
use lib.ListN.{length, take}
use lib.Seq.{length-take-le}
use Rattle.galois.specs.Element.{held, point}
use Rattle.galois.proofs.Held.{held_same}
use Rattle.galois.proofs.Points.{length-point}
use Rattle.polynomial.specs.Polynomial.{value}
use Rattle.polynomial.specs.Rows.{coefs}
use Rattle.polynomial.proofs.OverRing.{value-length}
use Rattle.polynomial.proofs.Shape.{shaped-all}
use Rattle.comparison.specs.Comparison.{compared, position_of}
use Rattle.comparison.proofs.Compared.{compared-held}
use Rattle.codewords.specs.Codeword.{comparison}
use Rattle.decoder.proofs.position_by.Goals as goal

pub returns : goal.returns
unfolding comparison
returns c =
    let a = c.args in
    let d = a.d in
    let h = c.requires.1 in
    let hw : length a.words ≡ 6 = omega (arith, c.well_formed) in
    let lw : length (take d a.words) ≡ d = length-take-le d a.words (rw hw h.1) in
    let v = value a.k d (coefs d (suc a.t) a.rows.now) (point d a.x) in
    let lv : length v ≡ d =
    value-length a.k d h.0 h.1 (suc a.t) a.rows.now (point d a.x) (shaped-all a.rows.now c.requires.3) (length-point d a.x) in
    let n : a.t + 1 ≡ suc a.t = omega arith in
    let e = c.eval_lent-value.ensures ∙ ap (λ l. held d (value a.k d (coefs d l a.rows.now) (point d a.x))) n in
    c.position.ensures
    ∙ ap position_of
    (c.compare.ensures
    ∙ ap₂ compared (c.keep.ensures ∙ held_same d a.words (take d a.words) refl lw) e
    ∙ compared-held d (take d a.words) v h.1 lw lv)
