-- `decoder::search_without` meets its contract: the search's answer for the shares that are not left out is that of all. Assumes nothing.
use borrow.Author.Rules.{rules}
use native.Mathlib.Omega.{arith}
use mathlib.Core.List.{List}
use mathlib.Core.Path.{sym, ◌∙◌, ap}
use Rattle.std.specs.declared.result.Result.TheVariants.{Err}
use Rattle.words.proofs.Refusals.{number-some}
use Rattle.std.proofs.lemmas.Result.{err_from_is_err_and}
use Rattle.words.specs.Refusal.{fault_in}
use Rattle.decoder.specs.Decoded.{wrong_in}
use Rattle.polynomial.specs.Rows.{Rows}
use Rattle.codewords.specs.Codeword.{Share}
use Rattle.codewords.proofs.Without.{holders-without, rising-without}
use Rattle.level.specs.Shares.{shares_of}
use Rattle.level.proofs.Shares.{length_from, holders-numbered}
use Rattle.decoder.proofs.Answered.{Answered, answered}
use Rattle.decoder.proofs.search_without.Goals as goal
use Rattle.decoder.proofs.search_without.Goals.{After-copy_others-count, After-search, Start}

-- all shares
abbrev whole : Start → List Share
whole s = let a = s.args in shares_of a.d a.m a.hs.now a.ys.now

pub copy_others-count-requires : goal.copy_others-count-requires
copy_others-count-requires c =
    let a = c.args in
    (c.requires.3, c.requires.7, c.requires.8, search rules, search rules, holders-numbered a.d c.requires.1.1 a.m a.hs.now a.ys.now c.requires.4)

pub search-requires : goal.search-requires
search-requires c =
    let r = (goal.at.search-requires c).After-copy_others-count in
    let s = (goal.at.After-copy_others-count r).Start in
    let a = s.args in
    let p = s.requires in
    let e = r.copy_others-count.ensures in
    let x = r.copy_others-count.new in
    let o = e.0 a.d in (
      p.0,
      p.1,
      p.2,
      omega (arith, e.1, p.3),
      rw (← length_from a.d x.holders x.shares 0 r.copy_others-count.result, o) p.6.enough,
      rw o (holders-without a.u a.d (whole s) p.4),
      rw o (rising-without a.u (whole s) p.5),
      rw o p.6.width,
      e.2,
      e.3,
      p.9,
    )

abbrev rows : After-search → Rows
rows f = f.search.new.rows

answer : (f : After-search) →
    (let s = (goal.at.After-search f).Start in
    let a = s.args in
    Answered a.d a.k a.t a.e (whole s) a.u (fault_in f.search.result) (rows f) (wrong_in f.search.result))
answer f =
    let r = (goal.at.After-search f).After-copy_others-count in
    let s = (goal.at.After-copy_others-count r).Start in
    let a = s.args in
    let p = s.requires in
    answered a.d p.1.1 a.k a.t a.e (whole s) p.4 p.5 a.u p.6 _ (r.copy_others-count.ensures.0 a.d)
    (fault_in f.search.result) (rows f) (wrong_in f.search.result) f.search.ensures.opening f.search.ensures.wrong

pub returns-in_err-found : goal.returns-in_err-found
returns-in_err-found c =
    let f = (goal.at.returns-in_err-found c).After-search in
    let x = answer f in
    let p = err_from_is_err_and c.from_residual.result c.from_residual.ensures.1 in
    let w = c.in_err-found.was in
    rw (p.1 ∙ ap Err p.2 ∙ sym w) (record {
      opening = x.opening;
      wrong = x.declined (λ z. number-some _ (sym (ap fault_in w) ∙ z));
      shaped = f.search.ensures.shaped;
    })

pub overflow_add-result : goal.overflow_add-result
overflow_add-result c = omega (arith, (rw c.in_ok-found.was at ((answer (goal.at.overflow_add-result c).After-search).opened (ap fault_in c.in_ok-found.was))).2)

pub returns : goal.returns
returns c =
    let f = (goal.at.returns c).After-search in
    let x = rw c.in_ok-found.was at ((answer f).opened (ap fault_in c.in_ok-found.was)) in
    record { opening = x.0; wrong = x.1; shaped = f.search.ensures.shaped }
