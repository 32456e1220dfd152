-- `put_declined_line`: the line, part by part. Assumes nothing.
use mathlib.Core.List.{List, ◌++◌}
use Prim.Native.Nat.{ℕ}
use Rattle.decimal.specs.Decimal.{ascii, decimal}
use Rattle.decimal.specs.Puts.{HasRoom}
use Rattle.decimal.proofs.Puts.{room-front, room-more, puts-more}
use Rattle.text.proofs.Lines.{declined-parts}
use Rattle.text.proofs.put_declined_line.Goals as goal
use Rattle.text.proofs.put_declined_line.Goals.{Start}

-- the line so far
abbrev text1 : Start → List ℕ
text1 s = decimal s.args.number

abbrev text2 : Start → List ℕ
text2 s = text1 s ++ ascii " "

abbrev text3 : Start → List ℕ
text3 s = text2 s ++ decimal s.args.state

room4 : (s : Start) → HasRoom s.args.text.now (text3 s ++ ascii " - -\n")
room4 s = rw (declined-parts s.args.number s.args.state) at s.requires

room3 : (s : Start) → HasRoom s.args.text.now (text3 s)
room3 s = room-front s.args.text.now (text3 s) (ascii " - -\n") (room4 s)

room2 : (s : Start) → HasRoom s.args.text.now (text2 s)
room2 s = room-front s.args.text.now (text2 s) (decimal s.args.state) (room3 s)

pub decimal-requires : goal.decimal-requires
decimal-requires c =
    let s = (goal.at.decimal-requires c).Start in
    room-front s.args.text.now (text1 s) (ascii " ") (room2 s)

pub byte-requires : goal.byte-requires
byte-requires c = room-more (ascii " ") (room2 (goal.at.byte-requires c).Start) c.decimal.ensures

pub decimal-requires-2 : goal.decimal-requires-2
decimal-requires-2 c =
    let s = (goal.at.decimal-requires-2 c).Start in
    rw c.from.ensures (room-more (decimal s.args.state) (room3 s) (puts-more c.decimal.ensures c.byte.ensures))

pub bytes-requires : goal.bytes-requires
bytes-requires c =
    room-more (ascii " - -\n") (room4 (goal.at.bytes-requires c).Start)
    (puts-more (puts-more c.decimal.ensures c.byte.ensures) (rw c.from.ensures at c.decimal-2.ensures))

pub returns : goal.returns
returns c =
    rw (declined-parts c.args.number c.args.state)
    (puts-more (puts-more (puts-more c.decimal.ensures c.byte.ensures) (rw c.from.ensures at c.decimal-2.ensures)) c.bytes.ensures)
