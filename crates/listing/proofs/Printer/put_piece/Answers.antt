-- `Printer::put_piece`: `refused N`, the first line, the line of a place, or nothing, by what accepting the input gave. Assumes nothing.
use borrow.Author.Rules.{rules}
use mathlib.Core.Path.{◌≡◌, refl, sym, ap, ◌∙◌}
use mathlib.Core.List.{List, []}
use Prim.Native.Nat.{ℕ, ◌≤◌, ◌<◌}
use native.Mathlib.Omega.{arith}
use lib.ListN.{length}
use Rattle.words.specs.Refusal.{number_of}
use Rattle.decimal.specs.Decimal.{written}
use Rattle.decimal.proofs.Written.{written_none}
use Rattle.decimal.proofs.Puts.{start-room, start-new, start-line}
use Rattle.text.specs.Text.{line_room, head_line, refused_line}
use Rattle.text.proofs.Lines.{number-le, refused-length}
use Rattle.listing.specs.Pieces.{piece, pieces_in}
use Rattle.listing.proofs.Input.{pieces-refused, pieces-accepted, piece-refused, piece-head, piece-line}
use Rattle.listing.proofs.Pieces.{piece-none}
use Rattle.listing.proofs.Printer.put_piece.Goals as goal

-- past the last piece
stays : (old bs : List ℕ) (i : ℕ) → pieces_in bs ≤ i → old ≡ written 0 (piece bs i) old
stays old bs i h = sym (ap (λ t. written 0 t old) (piece-none bs i h) ∙ written_none old 0)

pub returns-then-i-eq0 : goal.returns-then-i-eq0
returns-then-i-eq0 c =
    let p = c.args.self.now in
    let b = c.in-Ok.bundle in
    let z = c.if-i-eq0.true in
    let e = piece-head p.bytes.now p.accepted p.own b c.in-Ok.is p.next z in
    let w = start-line {room = line_room} e c.new-text.ensures.empty c.put_head.ensures
    c.len.ensures refl (omega arith) in
    record { line = start-new e c.new-text.ensures.empty c.put_head.ensures (search rules); size = (w.1, w.2, omega (arith, z, pieces-accepted p.bytes.now p.accepted p.own b c.in-Ok.is)) }

pub returns-then-bundle-i : goal.returns-then-bundle-i
returns-then-bundle-i c =
    let p = c.args.self.now in
    let h : pieces_in p.bytes.now ≤ p.next = omega (arith, c.if-bundle-i.true, pieces-accepted p.bytes.now p.accepted p.own c.in-Ok.bundle c.in-Ok.is) in
    record { line = stays c.args.line.now p.bytes.now p.next h; size = h }

pub returns-else-bundle-i : goal.returns-else-bundle-i
returns-else-bundle-i c =
    let p = c.args.self.now in
    let b = c.in-Ok.bundle in
    let w = c.put_line.ensures in
    let h : p.next ≤ b.heading.jobs = omega (arith, c.if-bundle-i.false) in
    let e = piece-line p.bytes.now p.accepted p.own b c.in-Ok.is p.next c.if-i-eq0.false h in
    record {
      line = w.0 ∙ ap (λ t. written 0 t c.args.line.now) (sym e);
      size = (w.1 ∙ ap length (sym e), w.2, omega (arith, h, pieces-accepted p.bytes.now p.accepted p.own b c.in-Ok.is));
    }

pub returns-then-i-eq0-2 : goal.returns-then-i-eq0-2
returns-then-i-eq0-2 c =
    let p = c.args.self.now in
    let e = c.in-Err.refusal in
    let z = c.if-i-eq0-2.true in
    let l = piece-refused p.bytes.now p.accepted p.own e c.in-Err.is p.next z in
    let put = rw c.number.ensures at c.put_refused.ensures in
    let w = start-line {room = line_room} l c.new-text-then-i-eq0-2.ensures.empty
    put c.len-then-i-eq0-2.ensures refl (refused-length (number_of e) (omega (arith, number-le e))) in
    record { line = start-new l c.new-text-then-i-eq0-2.ensures.empty put (search rules); size = (w.1, w.2, omega (arith, z, pieces-refused p.bytes.now p.accepted p.own e c.in-Err.is)) }

pub returns-else-i-eq0-2 : goal.returns-else-i-eq0-2
returns-else-i-eq0-2 c =
    let p = c.args.self.now in
    let h : pieces_in p.bytes.now ≤ p.next = omega (arith, c.if-i-eq0-2.false, pieces-refused p.bytes.now p.accepted p.own c.in-Err.refusal c.in-Err.is) in
    record { line = stays c.args.line.now p.bytes.now p.next h; size = h }

pub put_head-requires : goal.put_head-requires
put_head-requires c = start-room c.new-text.result {n = line_room} head_line c.new-text.ensures.empty (omega arith) c.requires

pub put_refused-requires : goal.put_refused-requires
put_refused-requires c =
    let e = c.in-Err.refusal in
    rw c.number.ensures (start-room c.new-text-then-i-eq0-2.result {n = line_room} (refused_line (number_of e)) c.new-text-then-i-eq0-2.ensures.empty (refused-length (number_of e) (omega (arith, number-le e))) c.requires)
