-- `put_job`: the five lines, one after another, which have room. Assumes nothing.
use Rattle.std.proofs.Common.{◌≡◌, ℕ, ◌≤◌, false, List, ◌++◌, length, refl, arith, length-append}
use Rattle.words.specs.declared.Signed.{Signed}
use Rattle.decimal.specs.Decimal.{ascii, sign, signed_text, hundredths_text}
use Rattle.decimal.specs.Puts.{HasRoom, Puts}
use Rattle.decimal.proofs.Puts.{room-front, room-more, room-less, puts-more}
use Rattle.labelled.specs.JobText.{line_with, lines_of, text_room}
use Rattle.labelled.proofs.Lengths.{whole_length, fixed-length}
use Rattle.labelled.proofs.put_job.Goals as goal
use Rattle.labelled.proofs.put_job.Goals.{Start, After-put_fixed, After-put_fixed-2, After-put_whole-2, After-put_fixed-3}

-- the lines so far
abbrev number : Start → Signed
number s = record { negative = false; magnitude = s.args.job.number }

abbrev sphere : Start → List ℕ
sphere s = line_with (ascii "SPH=") (hundredths_text s.args.job.sphere)

abbrev cylinder : Start → List ℕ
cylinder s = line_with (ascii "CYL=") (hundredths_text s.args.job.cylinder)

abbrev axis : Start → List ℕ
axis s = line_with (ascii "AX=") (signed_text s.args.job.axis)

abbrev thickness : Start → List ℕ
thickness s = line_with (ascii "CTHICK=") (hundredths_text s.args.job.thickness)

abbrev lines1 : Start → List ℕ
lines1 s = line_with (ascii "JOB=") (signed_text (number s))

abbrev lines2 : Start → List ℕ
lines2 s = lines1 s ++ sphere s

abbrev lines3 : Start → List ℕ
lines3 s = lines2 s ++ cylinder s

abbrev lines4 : Start → List ℕ
lines4 s = lines3 s ++ axis s

abbrev lines5 : Start → List ℕ
lines5 s = lines4 s ++ thickness s

lines5-short : (s : Start) → length (lines5 s) ≤ text_room
lines5-short s =
    let j = s.args.job in
    omega (
      arith,
      whole_length (ascii "JOB=") (number s) (omega arith),
      fixed-length (ascii "SPH=") j.sphere (omega arith),
      fixed-length (ascii "CYL=") j.cylinder (omega arith),
      whole_length (ascii "AX=") j.axis (omega arith),
      fixed-length (ascii "CTHICK=") j.thickness (omega arith),
      length-append (lines1 s) (sphere s),
      length-append (lines2 s) (cylinder s),
      length-append (lines3 s) (axis s),
      length-append (lines4 s) (thickness s),
    )

-- each line has room
room5 : (s : Start) → HasRoom s.args.text.now (lines5 s)
room5 s = room-less s.args.text.now (lines5 s) (lines5-short s) s.requires

room4 : (s : Start) → HasRoom s.args.text.now (lines4 s)
room4 s = room-front s.args.text.now (lines4 s) (thickness s) (room5 s)

room3 : (s : Start) → HasRoom s.args.text.now (lines3 s)
room3 s = room-front s.args.text.now (lines3 s) (axis s) (room4 s)

room2 : (s : Start) → HasRoom s.args.text.now (lines2 s)
room2 s = room-front s.args.text.now (lines2 s) (cylinder s) (room3 s)

put2 : (c : After-put_fixed) → Puts c.args.text.now c.put_fixed.new.text (lines2 (goal.at.After-put_fixed c).Start)
put2 c = puts-more c.put_whole.ensures c.put_fixed.ensures

put3 : (c : After-put_fixed-2) → Puts c.args.text.now c.put_fixed-2.new.text (lines3 (goal.at.After-put_fixed-2 c).Start)
put3 c = puts-more (put2 (goal.at.After-put_fixed-2 c).After-put_fixed) c.put_fixed-2.ensures

put4 : (c : After-put_whole-2) → Puts c.args.text.now c.put_whole-2.new.text (lines4 (goal.at.After-put_whole-2 c).Start)
put4 c = puts-more (put3 (goal.at.After-put_whole-2 c).After-put_fixed-2) c.put_whole-2.ensures

whole : (s : Start) → lines_of s.args.job ≡ lines5 s
unfolding lines_of signed_text sign
whole s = refl

pub put_whole-requires : goal.put_whole-requires
put_whole-requires c =
    let s = (goal.at.put_whole-requires c).Start in
    room-front s.args.text.now (lines1 s) (sphere s) (room2 s)

pub put_fixed-requires : goal.put_fixed-requires
put_fixed-requires c =
    let s = (goal.at.put_fixed-requires c).Start in
    room-more (sphere s) (room2 s) c.put_whole.ensures

pub put_fixed-requires-2 : goal.put_fixed-requires-2
put_fixed-requires-2 c =
    let s = (goal.at.put_fixed-requires-2 c).Start in
    room-more (cylinder s) (room3 s) (put2 (goal.at.put_fixed-requires-2 c).After-put_fixed)

pub put_whole-requires-2 : goal.put_whole-requires-2
put_whole-requires-2 c =
    let s = (goal.at.put_whole-requires-2 c).Start in
    room-more (axis s) (room4 s) (put3 (goal.at.put_whole-requires-2 c).After-put_fixed-2)

pub put_fixed-requires-3 : goal.put_fixed-requires-3
put_fixed-requires-3 c =
    let s = (goal.at.put_fixed-requires-3 c).Start in
    room-more (thickness s) (room5 s) (put4 (goal.at.put_fixed-requires-3 c).After-put_whole-2)

pub returns-clause-puts : goal.returns-clause-puts
returns-clause-puts c =
    rw (whole (goal.at.returns-clause-puts c).Start) (puts-more (put4 (goal.at.returns-clause-puts c).After-put_whole-2) c.put_fixed-3.ensures)

pub returns-clause-short : goal.returns-clause-short
returns-clause-short c =
    let s = (goal.at.returns-clause-short c).Start in
    rw (whole s) (lines5-short s)
