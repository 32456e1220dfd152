-- `put_place`: the line of a job that keeps its bytes, or those of its wrong holders, by what mending the place gave. Assumes nothing.
use borrow.Author.Rules.{rules}
use mathlib.Core.Path.{refl}
use mathlib.Core.List.{List}
use Prim.Native.Nat.{ℕ}
use native.Mathlib.Omega.{arith}
use Rattle.words.specs.Refusal.{number_of}
use Rattle.words.proofs.Refusals.{number-some}
use Rattle.text.specs.Text.{holders, changed_lines, kept_line}
use Rattle.decimal.proofs.Puts.{start-room, start-line}
use Rattle.text.proofs.Lines.{number-le, changes-length, kept-length}
use Rattle.mending.specs.Report.{changes_at}
use Rattle.mending.proofs.Changes.{changes-kept, changes-opened}
use Rattle.mending.proofs.put_place.Goals as goal

pub returns-in-Err : goal.returns-in-Err
returns-in-Err c =
    let bs = c.args.bundle.now.bytes.now in
    let number = c.job_number-number.result in
    let n = number_of c.in-Err.refusal in
    let p = c.put_kept in
    record {
      out = c.in-Err.ensures.out;
      text =
          start-line
          (changes-kept bs c.args.place number n c.job_number-number.ensures c.in-Err.ensures.fault (number-some c.in-Err.refusal))
          c.new-line.ensures.empty (rw c.number.ensures at p.ensures) c.len-in-Err.ensures (search rules) (kept-length number n (omega arith) (omega (arith, number-le c.in-Err.refusal)));
    }

pub returns-in-Ok : goal.returns-in-Ok
returns-in-Ok c =
    let b = c.args.bundle.now in
    let bs = b.bytes.now in
    let number = c.job_number-number.result in
    let w = c.in-Ok.wrong in
    let p = c.put_changes in
    record {
      out = c.in-Ok.ensures.out;
      text =
          start-line
          (changes-opened bs c.args.place number 0 c.job_number-number.ensures c.in-Ok.ensures.fault b.heading w b.headed
          c.in-Ok.ensures.wrong refl)
          c.new-lines.ensures.empty p.ensures c.len.ensures (search rules) (changes-length number w (omega arith));
    }

pub put_kept-requires : goal.put_kept-requires
put_kept-requires c =
    let number = c.job_number-number.result in
    let n = number_of c.in-Err.refusal in
    rw c.number.ensures (start-room c.new-line.result (kept_line number n) c.new-line.ensures.empty (kept-length number n (omega arith) (omega (arith, number-le c.in-Err.refusal))) c.requires.3)

pub put_changes-requires : goal.put_changes-requires
put_changes-requires c =
    let number = c.job_number-number.result in
    start-room c.new-lines.result (changed_lines number (holders c.in-Ok.wrong)) c.new-lines.ensures.empty (changes-length number c.in-Ok.wrong (omega arith)) c.requires.3
