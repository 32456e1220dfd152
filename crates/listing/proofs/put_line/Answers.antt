-- `put_line`: the line of a place that does not open, or of one that does, by the parts of its opening. Assumes nothing.
use borrow.Author.Rules.{rules}
use mathlib.Core.Path.{◌≡◌, refl, ap, ◌∙◌}
use mathlib.Core.List.{List, []}
use Prim.Native.Nat.{ℕ, suc, ◌≤◌}
use native.Mathlib.Omega.{arith}
use lib.ListN.{length, take, get_or, length-take}
use Rattle.words.specs.Refusal.{number_of}
use Rattle.words.proofs.Refusals.{number-some}
use Rattle.polynomial.specs.Rows.{Rows, coefs}
use Rattle.codewords.specs.Codeword.{Polynomial, positions}
use Rattle.codewords.proofs.Positions.{positions-length, positions-bytes}
use Rattle.rounds.proofs.Rows.{zero-shaped}
use Rattle.text.specs.Text.{line_room, open_line, declined_line, readings}
use Rattle.decimal.proofs.Puts.{start-room, start-line}
use Rattle.text.proofs.Lines.{number-le, open-length, declined-length}
use Rattle.bundle.proofs.Bundles.{bundle-ok, ranges-of}
use Rattle.bundle.proofs.Headings.{Ranges}
use Rattle.bundle.specs.declared.Bundle.{Bundle}
use Rattle.archive.specs.Archive.{shares_at}
use Rattle.archive.proofs.Loaded.{arrays, askable}
use Rattle.listing.specs.Listing.{line_of}
use Rattle.listing.proofs.Lines.{declined-line, narrow, set_is, open-line}
use Rattle.listing.proofs.put_line.Goals as goal
use Rattle.listing.proofs.put_line.Goals.{After-lowest_bits, After-place_opening, In-Err, Start}

abbrev bundle : Start → Bundle
bundle s = s.args.bundle.now

abbrev bs : Start → List ℕ
bs s = (bundle s).bytes.now

abbrev number : After-place_opening → ℕ
number a = a.job_number-number.result

abbrev shares : After-place_opening → Rows
shares a = a.place_opening.new.shares

abbrev rows : After-place_opening → Rows
rows a = a.place_opening.new.rows

abbrev poly : After-place_opening → Polynomial
poly a = let p = a.args.bundle.now.heading.params in coefs p.d (suc p.t) (rows a)

known : (s : Start) → Ranges (bundle s).heading
known s = ranges-of (bs s) (bundle-ok (bs s) (bundle s).sound) (bundle s).heading (bundle s).headed

pub place_opening-requires : goal.place_opening-requires
place_opening-requires c = (c.requires.0, c.load_holders-holders.ensures, search rules, zero-shaped)

declined-fits : (c : In-Err) → length (declined_line (number (goal.at.In-Err c).After-place_opening) (number_of c.in-Err.refusal)) ≤ line_room
declined-fits c =
    declined-length (number (goal.at.In-Err c).After-place_opening) (number_of c.in-Err.refusal) (omega arith) (omega (arith, number-le c.in-Err.refusal))

pub returns-in-Err : goal.returns-in-Err
returns-in-Err c =
    let a = (goal.at.returns-in-Err c).After-place_opening in
    let s = (goal.at.After-place_opening a).Start in
    let b = bundle s in
    let n = number_of c.in-Err.refusal in
    start-line
    (declined-line (bs s) s.args.place b.heading b.headed (number a) a.job_number-number.ensures n 0 (rows a)
    c.in-Err.ensures.opening c.in-Err.ensures.wrong (number-some c.in-Err.refusal))
    c.new-text-in-Err.ensures.empty (rw c.number.ensures at c.put_declined_line.ensures) c.len-in-Err.ensures (search rules) (declined-fits (goal.at.returns-in-Err c).In-Err)

pub put_declined_line-requires : goal.put_declined_line-requires
put_declined_line-requires c =
    let a = (goal.at.put_declined_line-requires c).In-Err in
    rw c.number.ensures (start-room c.new-text-in-Err.result (declined_line (number (goal.at.In-Err a).After-place_opening) (number_of a.in-Err.refusal)) c.new-text-in-Err.ensures.empty
    (declined-fits a) c.requires.1)

pub lowest_bits-requires : goal.lowest_bits-requires
lowest_bits-requires c =
    let a = (goal.at.lowest_bits-requires c).After-place_opening in
    let s = (goal.at.After-place_opening a).Start in
    let b = bundle s in
    let o = a.place_opening in
    let k = askable (bs s) b.heading b.headed b.files b.counted b.sound (shares a) in (
      k.0,
      k.1,
      rw (arrays (bs s) b.heading b.headed b.files b.counted _ (shares a) a.load_holders-holders.ensures) k.2,
      o.ensures.shaped,
      search rules,
      rw o.ensures.shares
          (set_is (bs s) s.args.place b.heading b.headed (number a) a.job_number-number.ensures 0 c.in-Ok.wrong (rows a)
          c.in-Ok.ensures.opening c.in-Ok.ensures.wrong refl o.ensures.shaped),
    )

abbrev lowest : After-lowest_bits → List ℕ
lowest f = f.lowest_bits.new.lowest

found : (f : After-lowest_bits) →
    let s = (goal.at.After-lowest_bits f).Start in let p = (bundle s).heading.params in lowest f ≡ positions p.k p.d (poly (goal.at.After-lowest_bits f).After-place_opening) (shares_at (bs s) s.args.place)
found f = rw f.place_opening.ensures.shares at f.lowest_bits.ensures

-- the line, which fits
abbrev line : After-lowest_bits → List ℕ
line f =
    let a = (goal.at.After-lowest_bits f).After-place_opening in
    let p = (bundle (goal.at.After-place_opening a).Start).heading.params in
    open_line (number a) f.in-Ok.wrong (lowest f) (readings p.k p.d (get_or (rows a) 0 []))

open-fits : (f : After-lowest_bits) → length (line f) ≤ line_room
open-fits f =
    let a = (goal.at.After-lowest_bits f).After-place_opening in
    let s = (goal.at.After-place_opening a).Start in
    let p = (bundle s).heading.params in
    let k = (known s).book in
    let row = get_or (rows a) 0 [] in
    let m : length (take p.d row) ≤ 6 = rw (length-take p.d row) (omega (arith, k.d-high)) in
    open-length (number a) f.in-Ok.wrong (lowest f) p.k (take p.d row) (omega arith)
    (rw (found f) (positions-bytes p.k p.d (poly a) (shares_at (bs s) s.args.place))) k.k-high m

pub put_open_line-requires : goal.put_open_line-requires
put_open_line-requires c =
    let f = (goal.at.put_open_line-requires c).After-lowest_bits in
    let a = (goal.at.After-lowest_bits f).After-place_opening in
    let s = (goal.at.After-place_opening a).Start in
    let b = bundle s in
    let p = b.heading.params in
    let k = (known s).book in (
      (k.k-low, k.k-high),
      (omega (arith, k.d-low), k.d-high),
      narrow (bs s) s.args.place b.heading b.headed (number a) a.job_number-number.ensures 0 f.in-Ok.wrong (rows a)
          f.in-Ok.ensures.opening f.in-Ok.ensures.wrong refl a.place_opening.ensures.shaped,
      ap length (found f) ∙ positions-length p.k p.d (poly a) (shares_at (bs s) s.args.place),
      start-room c.new-text.result (line f) c.new-text.ensures.empty (open-fits f) s.requires.1,
    )

pub returns-in-Ok : goal.returns-in-Ok
returns-in-Ok c =
    let f = (goal.at.returns-in-Ok c).After-lowest_bits in
    let a = (goal.at.After-lowest_bits f).After-place_opening in
    let s = (goal.at.After-place_opening a).Start in
    let b = bundle s in
    start-line
    (open-line (bs s) s.args.place b.heading b.headed (number a) a.job_number-number.ensures 0 f.in-Ok.wrong (rows a)
    f.in-Ok.ensures.opening f.in-Ok.ensures.wrong refl a.place_opening.ensures.shaped (lowest f) (found f))
    c.new-text.ensures.empty c.put_open_line.ensures c.len.ensures (search rules) (open-fits f)
