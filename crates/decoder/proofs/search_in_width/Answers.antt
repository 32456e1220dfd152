-- `decoder::search_in_width` meets its contract: the search can leave out the shares with a wide word. Assumes nothing.
use native.Mathlib.Omega.{arith}
use mathlib.Core.Path.{refl}
use mathlib.Core.List.{List}
use Prim.Native.Nat.{suc, ◌+◌, ◌*◌, ◌≤◌}
use lib.Count.{ones}
use lib.ListN.{length}
use borrow.Author.Tests.{leb-true, leb-false}
use Rattle.std.proofs.lemmas.Result.{err_from_is_err_and}
use Rattle.codewords.specs.Codeword.{Share}
use Rattle.level.specs.Shares.{shares_of}
use Rattle.level.proofs.Shares.{length_from}
use Rattle.decoder.proofs.Declined.{failed}
use Rattle.decoder.proofs.WideDropped.{few_ones, too_many, wide-left-out}
use Rattle.decoder.proofs.search_in_width.Goals as goal
use Rattle.decoder.proofs.search_in_width.Goals.{In_ok-unless, Start}

-- all shares; there are enough
abbrev whole : Start → List Share
whole s = let a = s.args in shares_of a.d a.m a.hs.now a.ys.now

enough : (s : Start) → suc s.args.t + 2 * s.args.e ≤ length (whole s)
enough s = let a = s.args in rw (length_from a.d a.hs.now a.ys.now 0 a.m) s.requires.4

pub overflow_cast-errors : goal.overflow_cast-errors
overflow_cast-errors c =
    let s = (goal.at.overflow_cast-errors c).Start in
    let a = s.args in
    let p = s.requires in
    omega (
      arith,
      length_from a.d a.hs.now a.ys.now 0 a.m,
      p.3,
      few_ones a.d p.1.0 p.1.1 a.k a.t a.e (whole s) p.5 (enough s) c.wide_holders-wide.result c.wide_holders-wide.ensures,
    )

pub returns-in_err-unless : goal.returns-in_err-unless
returns-in_err-unless c =
    let s = (goal.at.returns-in_err-unless c).Start in
    let a = s.args in
    let p = s.requires in
    let w = c.wide_holders-wide in
    let o = err_from_is_err_and c.from_residual.result c.from_residual.ensures.1 in
    let f = failed _ _ _ c.in_err-unless.ensures.fault in
    let l = leb-false (ones w.result) a.e f.0 in
    rw (o.1, o.2, f.1, too_many a.d p.1.0 p.1.1 a.k a.t a.e (whole s) p.5 (enough s) w.result w.ensures l)
    (record { opening = refl; wrong = refl; shaped = p.10 })

pub search_without-requires : goal.search_without-requires
search_without-requires c =
    let n = (goal.at.search_without-requires c).In_ok-unless in
    let s = (goal.at.In_ok-unless n).Start in
    let a = s.args in
    let p = s.requires in
    let w = n.wide_holders-wide in
    let o = wide-left-out a.d p.1.0 p.1.1 a.k a.t a.e (whole s) p.5 (enough s) w.result w.ensures p.7
    (leb-true (ones w.result) a.e n.in_ok-unless.ensures.ok) in
    (p.0, p.1, p.2, p.3, p.5, p.6, o, p.8, p.9, p.10)
