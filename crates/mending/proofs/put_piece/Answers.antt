-- `put_piece`: `refused N`, or the lines of a place, which is mended, by what accepting the input gave. Assumes nothing.
use borrow.Author.Rules.{rules}
use mathlib.Core.Path.{◌≡◌, sym, ap, ◌∙◌}
use mathlib.Core.List.{List}
use Prim.Native.Nat.{ℕ, ◌+◌}
use native.Mathlib.Omega.{arith}
use lib.ListN.{length}
use Rattle.words.specs.Refusal.{number_of}
use Rattle.words.proofs.Refusals.{number-some}
use Rattle.records.specs.declared.Heading.{Heading}
use Rattle.bundle.specs.declared.Bundle.{Bundle}
use Rattle.decimal.specs.Decimal.{written}
use Rattle.decimal.proofs.Puts.{start-room, start-line}
use Rattle.text.specs.Text.{report_room, refused_line}
use Rattle.text.proofs.Lines.{number-le, refused-length}
use Rattle.listing.specs.Listing.{input_fault}
use Rattle.listing.proofs.Input.{fault-refused, fault-accepted, heading-accepted}
use Rattle.mending.specs.Progress.{mended_to}
use Rattle.mending.specs.Report.{changes_at, report_piece}
use Rattle.mending.proofs.Report.{piece-accepted, piece-refused, pieces-accepted, output-next, output-refused}
use Rattle.mending.proofs.put_piece.Goals as goal
use Rattle.mending.proofs.put_piece.Goals.{In-Ok, Start}

abbrev bs : Start → List ℕ
bs s = s.args.bytes.now

pub returns-in-Err : goal.returns-in-Err
returns-in-Err c =
    let s = (goal.at.returns-in-Err c).Start in
    let r = c.in-Err.refusal in
    let i = s.args.i in
    let p = c.put_refused in
    let f : input_fault (bs s) ≡ number_of r = fault-refused (input_fault (bs s)) (bs s) s.args.accepted.now s.requires.0 r c.in-Err.is in
    let n : input_fault (bs s) ≡ 0 → ⊥ = λ z. number-some r (sym f ∙ z) in
    record {
      out = s.requires.2 ∙ output-refused (bs s) i n ∙ sym (output-refused (bs s) (i + 1) n);
      text =
          start-line (piece-refused (bs s) i n ∙ ap refused_line f) c.new-line.ensures.empty (rw c.number.ensures at p.ensures) c.len.ensures (search rules)
          (omega (arith, refused-length (number_of r) (omega (arith, number-le r))));
    }

pub put_refused-requires : goal.put_refused-requires
put_refused-requires c =
    let r = c.in-Err.refusal in
    rw c.number.ensures (start-room c.new-line.result {n = report_room} (refused_line (number_of r)) c.new-line.ensures.empty
    (omega (arith, refused-length (number_of r) (omega (arith, number-le r)))) c.requires.3)

-- an input that is accepted
abbrev bundle : In-Ok → Bundle
bundle c = c.in-Ok.bundle

bytes-are : (c : In-Ok) → (bundle c).bytes.now ≡ bs (goal.at.In-Ok c).Start
bytes-are c = (goal.at.In-Ok c).Start.requires.0.1 (bundle c) c.in-Ok.is

clear : (c : In-Ok) → input_fault (bs (goal.at.In-Ok c).Start) ≡ 0
clear c =
    let s = (goal.at.In-Ok c).Start in
    fault-accepted (input_fault (bs s)) (bs s) s.args.accepted.now s.requires.0 (bundle c) c.in-Ok.is

pub put_place-requires : goal.put_place-requires
put_place-requires c =
    let a = (goal.at.put_place-requires c).In-Ok in
    let s = (goal.at.In-Ok a).Start in
    let e = bytes-are a in
    let h = heading-accepted (input_fault (bs s)) (bs s) s.args.accepted.now s.requires.0 (bundle a) a.in-Ok.is in (
      λ i. rw e (c.type_inv.bytes i).fits,
      omega (arith, s.requires.1, pieces-accepted (bs s) (clear a), ap (λ (h : Heading). h.jobs) h),
      s.requires.2 ∙ output-next (bs s) s.args.i (clear a) ∙ ap (λ bs. mended_to bs s.args.i 0) (sym e),
      s.requires.3,
    )

pub returns-in-Ok : goal.returns-in-Ok
returns-in-Ok c =
    let a = (goal.at.returns-in-Ok c).In-Ok in
    let s = (goal.at.In-Ok a).Start in
    let i = s.args.i in
    let e = bytes-are a in
    let t : changes_at (bundle a).bytes.now i ≡ report_piece (bs s) i = ap (λ bs. changes_at bs i) e ∙ sym (piece-accepted (bs s) i (clear a)) in
    let r = c.put_place.ensures in
    record {
      out = r.out ∙ ap (λ bs. mended_to bs (i + 1) 0) e ∙ sym (output-next (bs s) (i + 1) (clear a));
      text = (r.text.0 ∙ ap (λ (t : List ℕ). written 0 t s.args.text.now) t, r.text.1 ∙ ap length t, r.text.2);
    }
