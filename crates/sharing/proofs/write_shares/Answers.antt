-- `sharing::write_shares` meets its contract: a turn of the loop writes one share more. Assumes nothing.
use native.Mathlib.Omega.{arith}
use mathlib.Core.Path.{◌≡◌, sym, ap, ◌∙◌}
use mathlib.Core.List.{List, ◌∷◌}
use Prim.Native.Nat.{ℕ, suc, ◌+◌, ◌-◌, ◌*◌, ◌≤◌}
use native.Mathlib.Nat.{zero-mul, mul-le-mul_right}
use lib.ListN.{length, take, drop}
use lib.Seq.{paste-zero}
use Rattle.words.proofs.Fill.{fill-chunk, fill-all}
use Rattle.galois.specs.Element.{point}
use Rattle.galois.proofs.Held.{held-take}
use Rattle.polynomial.specs.Polynomial.{Polynomial, value}
use Rattle.codewords.proofs.Value.{Rows}
use Rattle.sharing.specs.Dealing.{elements_of, dealt_from, dealing, dealt}
use Rattle.sharing.proofs.Elements.{elements-rows}
use Rattle.sharing.proofs.Horner.{narrow-value}
use Rattle.sharing.proofs.Dealt.{share-length, shares-length, share-at}
use Rattle.sharing.proofs.write_shares.Goals as goal
use Rattle.sharing.proofs.write_shares.Goals.{After-share_at-e, At-loop-x, Start}

-- the polynomial, that its coefficients have d words each, and what is to be written
abbrev Q : Start → Polynomial
Q s = s.args.secret.now ∷ elements_of s.args.p.d s.args.p.t s.args.coefficients.now

rows : (s : Start) → Rows s.args.p.d (Q s)
rows s = (s.requires.3, elements-rows s.args.p.d s.args.p.t s.args.coefficients.now (omega (arith, s.requires.4)))

abbrev S : Start → List ℕ
S s = dealt_from s.args.p.k s.args.p.d (Q s) s.args.p.n 1

pub loop-x-init : goal.loop-x-init
loop-x-init c =
    let s = (goal.at.loop-x-init c).Start in
    rw zero-mul (paste-zero s.args.out.now 0 (S s))

pub store-requires : goal.store-requires
store-requires c =
    let l = (goal.at.store-requires c).At-loop-x in
    let h : suc (l.loop-x.x - 1) ≤ l.args.p.n = omega arith in
    ((omega arith, omega arith), omega (arith, mul-le-mul_right l.args.p.d h, l.requires.5))

pub loop-x-preserved : goal.loop-x-preserved
loop-x-preserved c =
    let v = (goal.at.loop-x-preserved c).After-share_at-e in
    let l = (goal.at.After-share_at-e v).At-loop-x in
    let s = (goal.at.At-loop-x l).Start in
    let k = s.args.p.k in
    let d = s.args.p.d in
    let n = s.args.p.n in
    let x = l.loop-x.x in
    let i = x - 1 in
    let q = Q s in
    let dl : 2 ≤ d = omega arith in
    let dh : d ≤ 6 = omega arith in
    let kh : k ≤ 64 = omega arith in
    let hi : suc i ≤ n = omega arith in
    let ex : 1 + i ≡ x = omega arith in
    let fx : i + 1 ≡ x + 1 - 1 = omega arith in
    let f : i * d + d ≡ (x + 1 - 1) * d = omega arith ∙ ap (λ (m : ℕ). m * d) fx in
    let hs : length (S s) ≡ n * d = shares-length k d dl dh q (rows s) n 1 in
    let te : take d c.reduce.result ≡ take d (drop (i * d) (S s)) =
    ap (take d) (c.reduce.ensures ∙ rw v.share_at-e.ensures (narrow-value kh d dl dh q (rows s) x))
    ∙ held-take d (value k d q (point d x)) (share-length k d dl dh q (rows s) x)
    ∙ ap (λ (y : ℕ). value k d q (point d y)) (sym ex)
    ∙ sym (share-at k d dl dh q (rows s) n 1 i hi) in
    c.store.ensures
    ∙ rw (te, ← f)
    (fill-chunk s.args.out.now (S s) l.loop-x.out (i * d) d l.loop-x.invariant (omega (arith, mul-le-mul_right d hi, hs)))

pub returns : goal.returns
unfolding dealt dealing
returns c =
    let l = (goal.at.returns c).At-loop-x in
    let s = (goal.at.At-loop-x l).Start in
    let p = s.args.p in
    let hs : length (S s) ≡ p.n * p.d = shares-length p.k p.d (omega arith) (omega arith) (Q s) (rows s) p.n 1 in
    let e : l.loop-x.x - 1 ≡ p.n = omega arith in
    fill-all s.args.out.now (S s) l.loop-x.out (p.n * p.d) (rw e at l.loop-x.invariant) hs (omega arith)
