-- `put_place`: why a place does not open, or the text of the words that it opens to. Assumes nothing.
use borrow.Author.Rules.{rules}
use mathlib.Core.Path.{◌≡◌, refl, sym, ap, ◌∙◌}
use mathlib.Core.List.{List, []}
use Prim.Native.Nat.{ℕ}
use native.Mathlib.Omega.{arith}
use lib.ListN.{length, take, get_or}
use lib.Seq.{length-take-le}
use Rattle.words.specs.Refusal.{number_of}
use Rattle.words.specs.Word.{all_in_width}
use Rattle.words.proofs.Refusals.{number-some}
use Rattle.polynomial.specs.Rows.{Rows}
use Rattle.polynomial.proofs.Shape.{shaped_row}
use Rattle.rounds.proofs.Rows.{zero-shaped}
use Rattle.decimal.specs.Decimal.{written}
use Rattle.decimal.proofs.Puts.{start-room, start-line}
use Rattle.text.specs.Text.{kept_line}
use Rattle.text.proofs.Lines.{number-le, kept-length}
use Rattle.bundle.proofs.Bundles.{bundle-ok, ranges-of}
use Rattle.bundle.proofs.Headings.{Ranges}
use Rattle.bundle.specs.declared.Bundle.{Bundle}
use Rattle.labelled.specs.JobText.{lines_of, text_of}
use Rattle.listing.proofs.Lines.{narrow}
use Rattle.exporting.specs.Export.{export_at}
use Rattle.exporting.proofs.Places.{export-kept, export-opened}
use Rattle.exporting.proofs.put_place.Goals as goal
use Rattle.exporting.proofs.put_place.Goals.{After-lens_job-job, After-place_opening, After-put_job, Start}

abbrev bundle : Start → Bundle
bundle s = s.args.bundle.now

abbrev bs : Start → List ℕ
bs s = (bundle s).bytes.now

abbrev number : After-place_opening → ℕ
number a = a.job_number-number.result

abbrev rows : After-place_opening → Rows
rows a = a.place_opening.new.rows

known : (s : Start) → Ranges (bundle s).heading
known s = ranges-of (bs s) (bundle-ok (bs s) (bundle s).sound) (bundle s).heading (bundle s).headed

abbrev row : After-place_opening → List ℕ
row a = get_or (rows a) 0 []

row-length : (a : After-place_opening) → length (row a) ≡ 6
row-length a = shaped_row (rows a) 0 a.place_opening.ensures.shaped (omega arith)

pub place_opening-requires : goal.place_opening-requires
place_opening-requires c = (c.requires.1, c.load_holders-holders.ensures, search rules, zero-shaped)

pub returns-in-Err : goal.returns-in-Err
returns-in-Err c =
    let a = (goal.at.returns-in-Err c).After-place_opening in
    let s = (goal.at.After-place_opening a).Start in
    let b = bundle s in
    let n = number_of c.in-Err.refusal in
    start-line
    (export-kept (bs s) s.args.place b.heading b.headed (number a) a.job_number-number.ensures n 0 (rows a)
    c.in-Err.ensures.opening c.in-Err.ensures.wrong (number-some c.in-Err.refusal))
    c.new-text-in-Err.ensures.empty (rw c.number.ensures at c.put_kept.ensures) c.len-in-Err.ensures (search rules) (kept-length (number a) n (omega arith) (omega (arith, number-le c.in-Err.refusal)))

pub put_kept-requires : goal.put_kept-requires
put_kept-requires c =
    let number = c.job_number-number.result in
    let n = number_of c.in-Err.refusal in
    rw c.number.ensures (start-room c.new-text-in-Err.result (kept_line number n) c.new-text-in-Err.ensures.empty (kept-length number n (omega arith) (omega (arith, number-le c.in-Err.refusal))) c.requires.2)

pub slice_bounds-words-end : goal.slice_bounds-words-end
slice_bounds-words-end c = omega (arith, row-length (goal.at.slice_bounds-words-end c).After-place_opening)

pub slice_bounds-lens_job-end : goal.slice_bounds-lens_job-end
slice_bounds-lens_job-end c =
    let a = (goal.at.slice_bounds-lens_job-end c).After-place_opening in
    sym (length-take-le 4 (row a) (omega (arith, row-length a)))

pub lens_job-job-requires : goal.lens_job-job-requires
lens_job-job-requires c =
    let a = (goal.at.lens_job-job-requires c).After-place_opening in
    let s = (goal.at.After-place_opening a).Start in
    let o = a.place_opening in
    let n = a.job_number-number in
    let k = (known s).book in (
      (k.k-low, k.k-high),
      length-take-le 4 (row a) (omega (arith, row-length a)),
      ap (λ (d : ℕ). all_in_width (bundle s).heading.params.k (take d (row a))) (sym s.requires.0)
          ∙ narrow (bs s) s.args.place (bundle s).heading (bundle s).headed (number a) n.ensures 0 c.in-Ok.field-0 (rows a)
          c.in-Ok.ensures.opening c.in-Ok.ensures.wrong refl o.ensures.shaped,
    )

pub put_job-requires : goal.put_job-requires
put_job-requires c = omega (arith, c.requires.2, c.new-text.ensures.empty.0, ap length c.new-text.ensures.empty.1)

-- the text of its words
opened-text : (c : After-lens_job-job) →
    let a = (goal.at.After-lens_job-job c).After-place_opening in let s = (goal.at.After-place_opening a).Start in export_at (bs s) s.args.place ≡ lines_of c.lens_job-job.result
unfolding text_of
opened-text c =
    let a = (goal.at.After-lens_job-job c).After-place_opening in
    let s = (goal.at.After-place_opening a).Start in
    let o = a.place_opening in
    let h = (bundle s).heading in
    let n = a.job_number-number in
    export-opened (bs s) s.args.place h (bundle s).headed (number a) n.ensures 0 c.in-Ok.field-0 (rows a)
    c.in-Ok.ensures.opening c.in-Ok.ensures.wrong refl o.ensures.shaped
    ∙ ap (λ (d : ℕ). text_of h.params.k (number a) (take d (row a))) s.requires.0
    ∙ ap lines_of (sym c.lens_job-job.ensures)

pub returns-in-Ok : goal.returns-in-Ok
returns-in-Ok c =
    let p = (goal.at.returns-in-Ok c).After-put_job in
    let j = (goal.at.After-put_job p).After-lens_job-job in
    start-line (opened-text j) p.new-text.ensures.empty p.put_job.ensures.puts c.len.ensures (search rules) (omega (arith, p.put_job.ensures.short))
