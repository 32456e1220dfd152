-- `decoder::decode` meets its contract: too few shares, or what the search finds. Assumes nothing.
use native.Mathlib.Omega.{arith}
use mathlib.Core.Path.{◌≡◌, refl}
use mathlib.Core.List.{List}
use Prim.Native.Nat.{suc, ◌+◌, ◌*◌, ◌^◌, ◌≤◌, ◌<◌}
use native.Mathlib.Nat.{pow-le-pow_right}
use lib.ListN.{length}
use borrow.Author.Tests.{leb-true, leb-false, ltb-true, ltb-false}
use Rattle.std.proofs.lemmas.Result.{err_from_is_err_and}
use Rattle.words.specs.Refusal.{TOO_FEW_SHARES}
use Rattle.words.proofs.InRange.{ok-range}
use Rattle.algebra.proofs.Shares.{all_map}
use Rattle.codewords.specs.Codeword.{Share}
use Rattle.codewords.specs.Opening.{declines, answer_to}
use Rattle.codewords.specs.WellFormed.{Holders}
use Rattle.codewords.proofs.Opening.{answer-few, answer-from}
use Rattle.codewords.proofs.Without.{rising-different}
use Rattle.level.specs.Shares.{shares_of}
use Rattle.level.proofs.Shares.{length_from}
use Rattle.decoder.proofs.Declined.{failed}
use Rattle.decoder.proofs.decode.Goals as goal
use Rattle.decoder.proofs.decode.Goals.{In_ok-unless, In_ok-unless-2, Else-narrow, Start, Then-narrow}

-- the shares, m of them; too few, or enough
abbrev ss : Start → List Share
ss s = shares_of s.args.p.d s.args.m s.args.holders.now s.args.shares.now

count : (s : Start) → length (ss s) ≡ s.args.m
count s = length_from s.args.p.d s.args.holders.now s.args.shares.now 0 s.args.m

few : (s : Start) → s.args.m < s.args.p.t + 1 + 2 * s.args.e → answer_to s.args.p s.args.e (ss s) ≡ declines TOO_FEW_SHARES
few s h = answer-few s.args.p s.args.e (ss s) (rw (count s) h)

below : (c : In_ok-unless) → c.args.p.t < c.args.m
below c = ltb-true _ _ c.in_ok-unless.ensures.ok

enough : (c : In_ok-unless-2) → c.args.p.t + 1 + 2 * c.args.e ≤ c.args.m
enough c = omega (arith, below (goal.at.In_ok-unless-2 c).In_ok-unless, leb-true _ _ c.in_ok-unless-2.ensures.ok)

pub returns-in_err-unless : goal.returns-in_err-unless
returns-in_err-unless c =
    let s = (goal.at.returns-in_err-unless c).Start in
    let o = err_from_is_err_and c.from_residual.result c.from_residual.ensures.1 in
    let f = failed _ _ _ c.in_err-unless.ensures.fault in
    rw (o.1, o.2, f.1, few s (omega (arith, ltb-false _ _ f.0))) (record { opening = refl; wrong = refl; shaped = s.requires.7 })

pub returns-in_err-unless-2 : goal.returns-in_err-unless-2
returns-in_err-unless-2 c =
    let s = (goal.at.returns-in_err-unless-2 c).Start in
    let t = below (goal.at.returns-in_err-unless-2 c).In_ok-unless in
    let o = err_from_is_err_and c.from_residual-in_err-unless-2.result c.from_residual-in_err-unless-2.ensures.1 in
    let f = failed _ _ _ c.in_err-unless-2.ensures.fault in
    rw (o.1, o.2, f.1, few s (omega (arith, t, leb-false _ _ f.0))) (record { opening = refl; wrong = refl; shaped = s.requires.7 })

-- what both searches ask
asks : (c : In_ok-unless-2) →
    let s = (goal.at.In_ok-unless-2 c).Start in
    let p = s.args.p in
    ((1 ≤ p.k) × (p.k ≤ 64)) × ((2 ≤ p.d) × (p.d ≤ 6)) × (p.t ≤ 62) × (suc p.t + 2 * s.args.e ≤ s.args.m) × Holders p.d (ss s)
asks c =
    let s = (goal.at.In_ok-unless-2 c).Start in
    let r = ok-range s.args.p s.requires.0 in
    let few : 2 ^ s.args.p.d ≤ 2 ^ 6 = pow-le-pow_right (omega arith) r.d-high in (
      (r.k-low, r.k-high),
      (r.d-low, r.d-high),
      omega (arith, r.t-high, r.n-high, few),
      omega (arith, enough c),
      (all_map (λ x h. (h.0, omega (arith, h.1, r.n-high))) (ss s) s.requires.2.0, rising-different (ss s) s.requires.2.1),
    )

pub search_lent-requires : goal.search_lent-requires
search_lent-requires c =
    let n = (goal.at.search_lent-requires c).Then-narrow in
    let a = asks (goal.at.Then-narrow n).In_ok-unless-2 in
    (a.0, a.1, a.2, n.requires.1, a.3, a.4, n.requires.2.1, n.requires.4 n.if-narrow.true, n.requires.5, n.requires.6, n.requires.7)

pub returns-then-narrow : goal.returns-then-narrow
returns-then-narrow c =
    let f = (goal.at.returns-then-narrow c).In_ok-unless-2 in
    let s = (goal.at.In_ok-unless-2 f).Start in
    rw (answer-from s.args.p s.args.e (ss s) (rw (count s) (enough f))) c.search_lent.ensures

pub search_in_width-requires : goal.search_in_width-requires
search_in_width-requires c =
    let n = (goal.at.search_in_width-requires c).Else-narrow in
    let a = asks (goal.at.Else-narrow n).In_ok-unless-2 in
    (a.0, a.1, a.2, n.requires.1, a.3, a.4, n.requires.2.1, n.requires.3, n.requires.5, n.requires.6, n.requires.7)

pub returns : goal.returns
returns c =
    let f = (goal.at.returns c).In_ok-unless-2 in
    let s = (goal.at.In_ok-unless-2 f).Start in
    rw (answer-from s.args.p s.args.e (ss s) (rw (count s) (enough f))) c.search_in_width.ensures
