-- `put_open_line`: the line, part by part. Assumes nothing.
use mathlib.Core.List.{List, ◌++◌}
use Prim.Native.Nat.{ℕ}
use Rattle.decimal.specs.Decimal.{ascii, decimal}
use Rattle.decimal.specs.Puts.{HasRoom, Puts}
use Rattle.text.specs.Text.{readings, holders_text, words_text}
use Rattle.decimal.proofs.Puts.{room-front, room-more, puts-more}
use Rattle.text.proofs.Lines.{open-parts}
use Rattle.text.proofs.put_open_line.Goals as goal
use Rattle.text.proofs.put_open_line.Goals.{Start, After-put_holders, After-put_words}

-- the line so far
abbrev text1 : Start → List ℕ
text1 s = decimal s.args.number

abbrev text2 : Start → List ℕ
text2 s = text1 s ++ ascii " open "

abbrev text3 : Start → List ℕ
text3 s = text2 s ++ holders_text s.args.lowest.now s.args.wrong

abbrev text4 : Start → List ℕ
text4 s = text3 s ++ ascii " "

abbrev last : Start → List ℕ
last s = words_text (readings s.args.k s.args.d s.args.words)

abbrev text5 : Start → List ℕ
text5 s = text4 s ++ last s

put3 : (c : After-put_holders) → Puts c.args.text.now c.put_holders.new.text (text3 (goal.at.After-put_holders c).Start)
put3 c = puts-more (puts-more c.decimal.ensures c.bytes.ensures) c.put_holders.ensures

put5 : (c : After-put_words) → Puts c.args.text.now c.put_words.new.text (text5 (goal.at.After-put_words c).Start)
put5 c = puts-more (puts-more (put3 (goal.at.After-put_words c).After-put_holders) c.byte.ensures) c.put_words.ensures

-- each part has room
room6 : (s : Start) → HasRoom s.args.text.now (text5 s ++ ascii "\n")
room6 s = rw (open-parts s.args.number s.args.wrong s.args.lowest.now (readings s.args.k s.args.d s.args.words)) at s.requires.4

room5 : (s : Start) → HasRoom s.args.text.now (text5 s)
room5 s = room-front s.args.text.now (text5 s) (ascii "\n") (room6 s)

room4 : (s : Start) → HasRoom s.args.text.now (text4 s)
room4 s = room-front s.args.text.now (text4 s) (last s) (room5 s)

room3 : (s : Start) → HasRoom s.args.text.now (text3 s)
room3 s = room-front s.args.text.now (text3 s) (ascii " ") (room4 s)

room2 : (s : Start) → HasRoom s.args.text.now (text2 s)
room2 s = room-front s.args.text.now (text2 s) (holders_text s.args.lowest.now s.args.wrong) (room3 s)

pub decimal-requires : goal.decimal-requires
decimal-requires c =
    let s = (goal.at.decimal-requires c).Start in
    room-front s.args.text.now (text1 s) (ascii " open ") (room2 s)

pub bytes-requires : goal.bytes-requires
bytes-requires c = room-more (ascii " open ") (room2 (goal.at.bytes-requires c).Start) c.decimal.ensures

pub put_holders-requires : goal.put_holders-requires
put_holders-requires c =
    let s = (goal.at.put_holders-requires c).Start in
    (s.requires.3, room-more (holders_text s.args.lowest.now s.args.wrong) (room3 s) (puts-more c.decimal.ensures c.bytes.ensures))

pub byte-requires : goal.byte-requires
byte-requires c = room-more (ascii " ") (room4 (goal.at.byte-requires c).Start) (put3 (goal.at.byte-requires c).After-put_holders)

pub put_words-requires : goal.put_words-requires
put_words-requires c =
    let s = (goal.at.put_words-requires c).Start in
    let p = put3 (goal.at.put_words-requires c).After-put_holders in
    (s.requires.0, s.requires.1, s.requires.2, room-more (last s) (room5 s) (puts-more p c.byte.ensures))

pub byte-requires-2 : goal.byte-requires-2
byte-requires-2 c = room-more (ascii "\n") (room6 (goal.at.byte-requires-2 c).Start) (put5 (goal.at.byte-requires-2 c).After-put_words)

pub returns : goal.returns
returns c =
    rw (open-parts c.args.number c.args.wrong c.args.lowest.now (readings c.args.k c.args.d c.args.words))
    (puts-more (put5 (goal.at.returns c).After-put_words) c.byte-2.ensures)
