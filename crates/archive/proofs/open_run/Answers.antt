-- `open_run`: what the run opens to, handed out. Assumes nothing.
use borrow.Author.Rules.{rules}
use mathlib.Core.List.{List}
use Prim.Native.Nat.{ℕ, ◌-◌}
use Rattle.words.specs.Refusal.{fault_in}
use Rattle.polynomial.specs.Rows.{Rows}
use Rattle.codewords.specs.Codeword.{Share}
use Rattle.codewords.specs.Opening.{Opening}
use Rattle.codewords.proofs.Opening.{Handed, handed}
use Rattle.decoder.specs.Decoded.{wrong_in}
use Rattle.rounds.proofs.Rows.{zero-shaped}
use Rattle.archive.specs.Archive.{shares_over, run_opening}
use Rattle.archive.proofs.Loaded.{arrays, askable, if_ok}
use Rattle.archive.proofs.open_run.Goals as goal
use Rattle.archive.proofs.open_run.Goals.{After-run_opening-opened}

pub run_opening-opened-requires : goal.run_opening-opened-requires
run_opening-opened-requires c =
    let q = c.in_ok-check_run.ensures.ok in
    (q.0, q.1, c.load_holders-holders.ensures, search rules, zero-shaped)

module _ (a : After-run_opening-opened) where
  abbrev bs : List ℕ
  bs = a.in_ok-bundle.bundle.bytes.now

  abbrev ss : List Share
  ss = shares_over bs a.args.a (a.args.b - a.args.a)

  abbrev O : Opening
  O = run_opening bs a.args.a (a.args.b - a.args.a)

  abbrev rows : Rows
  rows = a.run_opening-opened.new.rows

  hands : let p = a.in_ok-bundle.bundle.heading.params in let r = a.run_opening-opened.result in Handed p.k p.d p.t ss (fault_in r) rows (wrong_in r) O
  hands =
      let p = a.in_ok-bundle.bundle.heading.params in
      let r = a.run_opening-opened.result in
      let e = a.run_opening-opened.ensures in
      handed p.k p.d p.t ss (fault_in r) rows (wrong_in r) O e.shaped e.opening e.wrong

pub hand_out-requires : goal.hand_out-requires
hand_out-requires c =
    let a = (goal.at.hand_out-requires c).After-run_opening-opened in
    let b = c.in_ok-bundle.bundle in
    let o = c.in_ok-check_outputs.ensures.ok in
    let r = c.run_opening-opened in
    let k = askable b.bytes.now b.heading b.headed b.files b.counted b.sound r.new.shares in (
      k.0,
      k.1,
      rw (arrays b.bytes.now b.heading b.headed b.files b.counted _ r.new.shares c.load_holders-holders.ensures) k.2,
      r.ensures.shaped,
      o.0,
      o.1,
      o.2,
      rw r.ensures.shares (if_ok r.result _ (hands a).set),
    )
