-- Of t shares in width under different holders and any job, exactly one polynomial of degree at most t has those shares and that job as free term
-- (`one-polynomial`): interpolation, with the job as a further share, at 0. Assumes nothing.
use mathlib.Core.Path.{◌≡◌, sym, ◌∙◌, ap}
use mathlib.Core.Bool.{true}
use mathlib.Core.List.{List, ◌∷◌}
use mathlib.Core.Logic.{◌≢◌}
use Prim.Native.Nat.{ℕ, suc, ◌^◌, ◌<◌}
use native.Mathlib.Omega.{arith}
use lib.ListN.{length}
use lib.Pow.{pow_pos}
use Rattle.words.specs.Params.{params_ok}
use Rattle.words.specs.declared.Params.{Params}
use Rattle.words.proofs.InRange.{InRange, ok-range}
use Rattle.algebra.specs.Shares.{All}
use Rattle.algebra.proofs.Shares.{all_map}
use Rattle.galois.specs.Element.{Element}
use Rattle.codewords.specs.Codeword.{Share, Polynomial}
use Rattle.codewords.specs.WellFormed.{IsElement, InWidth, Different}
use Rattle.codewords.proofs.Interpolation.{Meets, interpolant, value-zero, interpolant-poly, interpolant-meets, interpolant-only}
use Rattle.secrecy.specs.Secrecy.{ExactlyOne, IsHolder, Group, Consistent}

module _ (p : Params) (ok : params_ok p ≡ true) (ss : List Share) (g : Group p ss) (a : Element) (e : IsElement p.k p.d a) where
  abbrev k : ℕ
  k = p.k

  abbrev d : ℕ
  d = p.d

  range : InRange p
  range = ok-range p ok

  -- the job as a share: 0 is no holder, and its point no holder's
  abbrev all : List Share
  all = record { holder = 0; words = a } ∷ ss

  count : length all ≡ suc p.t
  count = ap suc g.size

  below : All (λ (s : Share). s.holder < 2 ^ p.d) all
  below = (pow_pos d, all_map (λ (s : Share) (x : IsHolder p s.holder). omega (arith, x.1, range.n-high)) ss g.holders)

  none : (s : Share) → IsHolder p s.holder → 0 ≢ s.holder
  none s x z = omega (arith, x.0, z)

  different : Different all
  different = (all_map none ss g.holders, g.different)

  width : InWidth p.k p.d all
  width = (e, g.in_width)

  -- the polynomials that have the shares and the job are those through all of these
  through : (q : Polynomial) → Consistent p ss a q → Meets p.k p.d q all
  through q c = (sym (value-zero d range.d-low range.d-high k p.t q c.poly ∙ c.free_term), c.shares)

  pub one-polynomial : ExactlyOne (Consistent p ss a)
  one-polynomial =
      let dl = range.d-low in
      let dh = range.d-high in
      let q = interpolant k d all in
      let i = interpolant-poly d dl dh k range.k-low p.t all count below different width in
      let m = interpolant-meets d dl dh k range.k-low p.t all count below different width in
      record {
        it = q;
        has = record { poly = i; shares = m.1; free_term = sym (m.0 ∙ value-zero d dl dh k p.t q i) };
        only = λ r c. interpolant-only d dl dh k range.k-low p.t all count below different width r c.poly (through r c);
      }
