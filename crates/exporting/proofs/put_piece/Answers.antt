-- `put_piece`: `refused N`, or the text of a place, by what accepting the input gave. Assumes nothing.
use borrow.Author.Rules.{rules}
use mathlib.Core.Path.{◌≡◌, sym, ap, ◌∙◌}
use mathlib.Core.List.{List}
use Prim.Native.Nat.{ℕ}
use native.Mathlib.Omega.{arith}
use lib.ListN.{length}
use Rattle.words.specs.Refusal.{number_of}
use Rattle.words.proofs.Refusals.{number-some}
use Rattle.records.specs.declared.Heading.{Heading}
use Rattle.bundle.specs.declared.Bundle.{Bundle}
use Rattle.decimal.specs.Decimal.{written}
use Rattle.decimal.proofs.Puts.{start-room, start-line}
use Rattle.text.specs.Text.{report_room, refused_line}
use Rattle.text.proofs.Lines.{number-le, refused-length}
use Rattle.listing.proofs.Input.{fault-refused, fault-accepted, heading-accepted}
use Rattle.exporting.specs.Export.{export_at, export_fault, export_piece}
use Rattle.exporting.proofs.Accepts.{export-four}
use Rattle.exporting.proofs.Export.{piece-accepted, piece-refused, pieces-accepted}
use Rattle.exporting.proofs.put_piece.Goals as goal
use Rattle.exporting.proofs.put_piece.Goals.{In-Ok, Start}

abbrev bs : Start → List ℕ
bs s = s.args.bytes.now

pub returns-in-Err : goal.returns-in-Err
returns-in-Err c =
    let s = (goal.at.returns-in-Err c).Start in
    let r = c.in-Err.refusal in
    let n = number_of r in
    start-line
    (piece-refused (bs s) s.args.i n (fault-refused (export_fault (bs s)) (bs s) s.args.accepted.now s.requires.0 r c.in-Err.is) (number-some r))
    c.new-text.ensures.empty (rw c.number.ensures at c.put_refused.ensures) c.len.ensures (search rules) (omega (arith, refused-length n (omega (arith, number-le r))))

pub put_refused-requires : goal.put_refused-requires
put_refused-requires c =
    let r = c.in-Err.refusal in
    rw c.number.ensures (start-room c.new-text.result {n = report_room} (refused_line (number_of r)) c.new-text.ensures.empty
    (omega (arith, refused-length (number_of r) (omega (arith, number-le r)))) c.requires.2)

-- an input that is accepted
abbrev bundle : In-Ok → Bundle
bundle c = c.in-Ok.bundle

clear : (c : In-Ok) → export_fault (bs (goal.at.In-Ok c).Start) ≡ 0
clear c =
    let s = (goal.at.In-Ok c).Start in
    fault-accepted (export_fault (bs s)) (bs s) s.args.accepted.now s.requires.0 (bundle c) c.in-Ok.is

pub put_place-requires : goal.put_place-requires
put_place-requires c =
    let a = (goal.at.put_place-requires c).In-Ok in
    let s = (goal.at.In-Ok a).Start in
    let h = heading-accepted (export_fault (bs s)) (bs s) s.args.accepted.now s.requires.0 (bundle a) a.in-Ok.is in (
      export-four (bs s) s.args.accepted.now s.requires.0 (bundle a) a.in-Ok.is,
      omega (arith, s.requires.1, pieces-accepted (bs s) (clear a), ap (λ (h : Heading). h.jobs) h),
      s.requires.2,
    )

pub returns-in-Ok : goal.returns-in-Ok
returns-in-Ok c =
    let a = (goal.at.returns-in-Ok c).In-Ok in
    let s = (goal.at.In-Ok a).Start in
    let i = s.args.i in
    let t : export_at (bundle a).bytes.now i ≡ export_piece (bs s) i =
    ap (λ bs. export_at bs i) (s.requires.0.1 (bundle a) a.in-Ok.is) ∙ sym (piece-accepted (bs s) i (clear a)) in
    let r = c.put_place.ensures in
    (r.0 ∙ ap (λ (t : List ℕ). written 0 t s.args.out.now) t, r.1 ∙ ap length t, r.2)
