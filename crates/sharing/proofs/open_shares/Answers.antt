-- `sharing::open_shares` meets its contract: the refusals of the lent shares, and then what the decoder makes of them, handed out. Assumes nothing.
use native.Mathlib.Omega.{arith}
use mathlib.Core.Path.{◌≡◌, refl, sym, ◌∙◌}
use Prim.Native.Nat.{ℕ, ◌≤◌}
use lib.ListN.{length}
use Rattle.std.proofs.Common.{Result}
use Rattle.std.specs.Result.{IfOk}
use Rattle.std.specs.declared.result.Result.TheVariants.{Ok, Err}
use Rattle.words.specs.Refusal.{fault_in}
use Rattle.words.specs.declared.Refusal.{Refusal}
use Rattle.words.proofs.InRange.{InRange, ok-range}
use Rattle.words.proofs.Refusals.{handed_out, number-some}
use Rattle.polynomial.specs.Rows.{Rows}
use Rattle.codewords.specs.Opening.{Opening, declines, answer_to}
use Rattle.codewords.proofs.Opening.{Handed, handed}
use Rattle.level.specs.Shares.{shares_of}
use Rattle.decoder.specs.Decoded.{Ordered, wrong_in}
use Rattle.rounds.proofs.Rows.{zero-shaped}
use Rattle.sharing.specs.Clear.{LentClear}
use Rattle.sharing.specs.Opening.{lent, lent_fault, opening}
use Rattle.sharing.proofs.Faults.{few-holders}
use Rattle.sharing.proofs.Lent.{lent-clear, lent-sized, lent-width, lent-above, lent-rising, rising-length}
use Rattle.sharing.proofs.Loaded.{loaded}
use Rattle.sharing.proofs.Opens.{opening-clear, opening-stopped}
use borrow.Author.Rules.{rules}
use Rattle.sharing.proofs.open_shares.Goals as goal
use Rattle.sharing.proofs.open_shares.Goals.{After-all_in_width-narrow, After-decode-opened, After-hand_out, After-load_shares-ys, In_ok-check_lent, Start}

-- the fault of the lent shares, what the call is to give, and what is known where there is no such fault
abbrev F : Start → ℕ
F s = lent_fault s.args.p s.args.holders.now s.args.shares.now (length s.args.out.now) (length s.args.wrong.now) (length s.args.lowest.now)

abbrev O : Start → Opening
O s = opening s.args.p s.args.holders.now s.args.shares.now s.args.e (length s.args.out.now) (length s.args.wrong.now) (length s.args.lowest.now)

no_fault : (c : In_ok-check_lent) → F (goal.at.In_ok-check_lent c).Start ≡ 0
no_fault c = sym c.in_ok-check_lent.ensures

abbrev Known : Start → Type 0
Known s = LentClear s.args.p s.args.holders.now s.args.shares.now (length s.args.out.now) (length s.args.wrong.now) (length s.args.lowest.now)

known : (c : In_ok-check_lent) → Known (goal.at.In_ok-check_lent c).Start
known c = lent-clear c.args.p c.args.holders.now c.args.shares.now (length c.args.out.now) (length c.args.wrong.now) (length c.args.lowest.now) (no_fault c)

range : (c : In_ok-check_lent) → InRange c.args.p
range c = ok-range c.args.p (known c).params

few : (c : In_ok-check_lent) → length c.args.holders.now ≤ 63
few c =
    let k = known c in
    omega (arith, rising-length c.args.p.n 0 c.args.holders.now k.rising, few-holders c.args.p (range c))

-- the shares in arrays are the lent ones
same : (c : After-load_shares-ys) → shares_of c.args.p.d (length c.args.holders.now) c.load_holders-hs.result c.load_shares-ys.result
    ≡ lent c.args.p.d c.args.holders.now c.args.shares.now
same c =
    loaded c.args.p.d (length c.args.holders.now) c.args.holders.now c.args.shares.now
    c.load_holders-hs.result c.load_shares-ys.result refl c.load_holders-hs.ensures
    c.load_shares-ys.ensures

pub returns-in_err-check_lent : goal.returns-in_err-check_lent
returns-in_err-check_lent c =
    let s = (goal.at.returns-in_err-check_lent c).Start in
    let e = c.in_err-check_lent.ensures in
    let z : O s ≡ declines (F s) =
    opening-stopped s.args.p s.args.holders.now s.args.shares.now s.args.e (length s.args.out.now)
    (length s.args.wrong.now) (length s.args.lowest.now) (λ z. number-some _ (e ∙ z)) in
    rw z (record { fault = handed_out c.from_residual.result _ c.from_residual.ensures.1 ∙ e; out = refl; wrong = refl; lowest = refl })

pub load_holders-hs-requires : goal.load_holders-hs-requires
load_holders-hs-requires c = few c

pub load_shares-ys-requires : goal.load_shares-ys-requires
load_shares-ys-requires c =
    let k = known (goal.at.load_shares-ys-requires c).In_ok-check_lent in
    let i = range (goal.at.load_shares-ys-requires c).In_ok-check_lent in
    ((i.d-low, i.d-high), few (goal.at.load_shares-ys-requires c).In_ok-check_lent, k.words_length)

-- their holders rise
ordered : (l : After-load_shares-ys) → Ordered l.args.p.n (shares_of l.args.p.d (length l.args.holders.now) l.load_holders-hs.result l.load_shares-ys.result)
ordered l =
    let p = l.args.p in
    let k = known (goal.at.After-load_shares-ys l).In_ok-check_lent in
    let hs = l.args.holders.now in
    let ws = l.args.shares.now in
    rw (same l) (lent-above p.d p.n 0 hs ws k.rising, lent-rising p.d p.n 0 hs ws k.rising)

pub decode-opened-requires : goal.decode-opened-requires
decode-opened-requires c =
    let w = (goal.at.decode-opened-requires c).After-all_in_width-narrow in
    let l = (goal.at.After-all_in_width-narrow w).After-load_shares-ys in
    let p = l.args.p in
    let k = known (goal.at.After-load_shares-ys l).In_ok-check_lent in
    let hs = l.args.holders.now in
    let ws = l.args.shares.now in (
      k.params,
      few (goal.at.After-load_shares-ys l).In_ok-check_lent,
      ordered l,
      rw (same l) (lent-sized p.d hs ws k.words_length),
      λ n. rw (same l) (lent-width p.k p.d hs ws k.words_length (sym w.all_in_width-narrow.ensures ∙ n)),
      search rules,
      search rules,
      zero-shaped,
    )

-- what an outcome names
named : (r : Result ℕ Refusal) (x : ℕ) → (fault_in r ≡ 0 → wrong_in r ≡ x) → IfOk r (λ w. w ≡ x)
named (Ok w) x h = h refl
named (Err e) x h = tt

abbrev rows : After-decode-opened → Rows
rows a = a.decode-opened.new.rows

hands : (a : After-decode-opened) →
    let p = a.args.p in
    Handed p.k p.d p.t (lent p.d a.args.holders.now a.args.shares.now) (fault_in a.decode-opened.result) (rows a) (wrong_in a.decode-opened.result)
    (answer_to p a.args.e (lent p.d a.args.holders.now a.args.shares.now))
hands a =
    let l = (goal.at.After-decode-opened a).After-load_shares-ys in
    let p = l.args.p in
    let e = rw (same l) at a.decode-opened.ensures in
    handed p.k p.d p.t (lent p.d l.args.holders.now l.args.shares.now) (fault_in a.decode-opened.result) _ (wrong_in a.decode-opened.result) _
    e.shaped e.opening e.wrong

pub hand_out-requires : goal.hand_out-requires
hand_out-requires c =
    let a = (goal.at.hand_out-requires c).After-decode-opened in
    let l = (goal.at.After-decode-opened a).After-load_shares-ys in
    let k = known (goal.at.After-load_shares-ys l).In_ok-check_lent in (
      k.params,
      few (goal.at.After-load_shares-ys l).In_ok-check_lent,
      ordered l,
      a.decode-opened.ensures.shaped,
      k.output,
      k.wrong_output,
      k.lowest_output,
      rw (same l) (named a.decode-opened.result _ (hands a).set),
    )

pub returns : goal.returns
returns c =
    let f = (goal.at.returns c).After-hand_out in
    let a = (goal.at.After-hand_out f).After-decode-opened in
    let l = (goal.at.After-decode-opened a).After-load_shares-ys in
    let h = rw (same l) at f.hand_out.ensures in
    let g = hands a in
    let z =
    opening-clear l.args.p l.args.holders.now l.args.shares.now l.args.e (length l.args.out.now) (length l.args.wrong.now)
    (length l.args.lowest.now) (no_fault (goal.at.After-load_shares-ys l).In_ok-check_lent) in
    rw z (record {
      fault = h.fault ∙ g.fault;
      out = h.out ∙ g.secret l.args.out.now;
      wrong = h.wrong ∙ g.wrong l.args.wrong.now;
      lowest = h.lowest ∙ g.lowest l.args.lowest.now;
    })
