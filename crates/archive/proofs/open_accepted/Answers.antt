-- `open_accepted`: what the place opens to, handed out. Assumes nothing.
use borrow.Author.Rules.{rules}
use mathlib.Core.Path.{◌≡◌, ap, ◌∙◌}
use Rattle.words.specs.Refusal.{fault_in}
use Rattle.decoder.specs.Decoded.{wrong_in}
use mathlib.Core.List.{List}
use Prim.Native.Nat.{ℕ}
use Rattle.polynomial.specs.Rows.{Rows}
use Rattle.codewords.specs.Codeword.{Share}
use Rattle.codewords.specs.Opening.{Opening, wrong_into, lowest_into}
use Rattle.codewords.proofs.Opening.{Handed, handed}
use Rattle.rounds.proofs.Rows.{zero-shaped}
use Rattle.records.specs.declared.Heading.{Heading}
use Rattle.bundle.specs.Bundle.{bundle_heading}
use Rattle.archive.specs.Archive.{shares_at, place_opening}
use Rattle.archive.proofs.Loaded.{arrays, askable, if_ok}
use Rattle.archive.proofs.open_accepted.Goals as goal
use Rattle.archive.proofs.open_accepted.Goals.{After-hand_out, After-place_opening-opened, Start}

abbrev bs : Start → List ℕ
bs s = s.args.bundle.now.bytes.now

-- the shares, and what they open to
abbrev ss : Start → List Share
ss s = shares_at (bs s) s.args.place

abbrev O : Start → Opening
O s = place_opening (bs s) s.args.place

pub place_opening-opened-requires : goal.place_opening-opened-requires
place_opening-opened-requires c = (c.requires.0, c.load_holders-holders.ensures, search rules, zero-shaped)

abbrev rows : After-place_opening-opened → Rows
rows a = a.place_opening-opened.new.rows

abbrev shares : After-place_opening-opened → Rows
shares a = a.place_opening-opened.new.shares

hands : (a : After-place_opening-opened) → let p = a.args.bundle.now.heading.params in
    Handed p.k p.d p.t (ss (goal.at.After-place_opening-opened a).Start) (fault_in a.place_opening-opened.result) (rows a) (wrong_in a.place_opening-opened.result) (O (goal.at.After-place_opening-opened a).Start)
hands a =
    let p = a.args.bundle.now.heading.params in
    let e = a.place_opening-opened.ensures in
    handed p.k p.d p.t (ss (goal.at.After-place_opening-opened a).Start) (fault_in a.place_opening-opened.result) (rows a) (wrong_in a.place_opening-opened.result) (O (goal.at.After-place_opening-opened a).Start) e.shaped e.opening
    e.wrong

pub hand_out-requires : goal.hand_out-requires
hand_out-requires c =
    let a = (goal.at.hand_out-requires c).After-place_opening-opened in
    let s = (goal.at.After-place_opening-opened a).Start in
    let b = s.args.bundle.now in
    let k = askable (bs s) b.heading b.headed b.files b.counted b.sound (shares a) in (
      k.0,
      k.1,
      rw (arrays (bs s) b.heading b.headed b.files b.counted _ (shares a) a.load_holders-holders.ensures) k.2,
      a.place_opening-opened.ensures.shaped,
      s.requires.1,
      s.requires.2,
      s.requires.3,
      rw a.place_opening-opened.ensures.shares (if_ok a.place_opening-opened.result _ (hands a).set),
    )

pub returns : goal.returns
returns c =
    let g = (goal.at.returns c).After-hand_out in
    let a = (goal.at.After-hand_out g).After-place_opening-opened in
    let s = (goal.at.After-place_opening-opened a).Start in
    let h = rw a.place_opening-opened.ensures.shares at g.hand_out.ensures in
    let x = hands a in
    let into : (j : Heading → List ℕ) → j s.args.bundle.now.heading ≡ j (bundle_heading (bs s)) = λ j. ap j s.args.bundle.now.headed in record {
      fault = h.fault ∙ x.fault;
      out = h.out ∙ x.secret s.args.out.now;
      wrong = h.wrong ∙ x.wrong s.args.wrong.now
          ∙ into (λ (y : Heading). wrong_into y.params.k y.params.d (ss s) s.args.wrong.now (O s));
      lowest = h.lowest ∙ x.lowest s.args.lowest.now
          ∙ into (λ (y : Heading). lowest_into y.params.k y.params.d (ss s) s.args.lowest.now (O s));
    }
