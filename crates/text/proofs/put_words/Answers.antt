-- `put_words`: the first word, and then each after a comma. Assumes nothing.
use native.Mathlib.Omega.{arith}
use mathlib.Core.Path.{◌≡◌, ap, ◌∙◌, subst}
use mathlib.Core.List.{List, [], ◌∷◌, ◌++◌}
use Prim.Native.Nat.{ℕ, suc, ◌^◌, ◌<◌}
use native.Mathlib.Numerals.{add-one}
use lib.ListN.{length, take, drop, get_or, length-drop, drop_of_length-le}
use lib.Seq.{length-take-le, get_or-take}
use Rattle.words.specs.Signed.{signed_of}
use Rattle.words.proofs.Width.{width-at}
use Rattle.decimal.specs.Decimal.{signed_text}
use Rattle.text.specs.Text.{after_commas, joined}
use Rattle.decimal.proofs.Puts.{Rest, rest-all, rest-more, rest-room, rest-none}
use Rattle.text.proofs.Joined.{word_texts, word-texts-length, word-text, comma, joined_at}
use Rattle.text.proofs.put_words.Goals as goal
use Rattle.text.proofs.put_words.Goals.{Start, In-loop-i, After-byte}

abbrev texts : Start → List (List ℕ)
texts s = word_texts s.args.k s.args.d s.args.words

-- the text of one word, and those after it
abbrev word : Start → ℕ → List ℕ
word s i = signed_text (signed_of s.args.k (get_or s.args.words i 0))

abbrev others : Start → ℕ → List ℕ
others s i = after_commas (drop (suc i) (texts s))

six : (s : Start) → length s.args.words ≡ 6
six s = omega (arith, s.well_formed)

texts-length : (s : Start) → length (texts s) ≡ s.args.d
texts-length s = word-texts-length s.args.k s.args.d s.args.words (omega (arith, s.requires, six s))

narrow : (s : Start) (i : ℕ) → i < s.args.d → get_or s.args.words i 0 < 2 ^ s.args.k
narrow s i h =
    let t : length (take s.args.d s.args.words) ≡ s.args.d = length-take-le s.args.d s.args.words (omega (arith, s.requires, six s)) in
    let w = width-at s.args.k (take s.args.d s.args.words) i s.requires.2 (omega (arith, t, h)) in
    rw (get_or-take s.args.d s.args.words i 0 h) at w

from : (s : Start) (i : ℕ) → i < s.args.d → joined (drop i (texts s)) ≡ word s i ++ others s i
from s i h =
    joined_at (texts s) i (omega (arith, texts-length s, h))
    ∙ ap (λ (l : List ℕ). l ++ others s i) (word-text s.args.k s.args.d s.args.words i h (omega (arith, s.requires, six s)))

-- the first word comes first
first : (s : Start) → Rest s.args.text.now s.args.text.now (joined (texts s)) (word s 0 ++ others s 0)
first s =
    let a = s.args.text.now in
    subst (λ (l : List ℕ). Rest a a (joined (texts s)) l) (from s 0 (omega (arith, s.requires))) (rest-all a (joined (texts s)))

-- then a comma and the next word
comma_next : (c : In-loop-i)
    → let s = (goal.at.In-loop-i c).Start in
    Rest s.args.text.now c.loop-i.text (joined (texts s)) ((44 ∷ []) ++ joined (drop c.loop-i.i (texts s)))
comma_next c =
    let s = (goal.at.In-loop-i c).Start in
    let i = c.loop-i.i in
    let r = c.loop-i.invariant in
    rw (comma (drop i (texts s)) (rw (length-drop i (texts s)) (omega (arith, texts-length s, c.loop-i-test.true)))) at r

next : (c : After-byte)
    → let s = (goal.at.After-byte c).Start in
    Rest s.args.text.now c.byte.new.self (joined (texts s)) (word s c.loop-i.i ++ others s c.loop-i.i)
next c =
    let s = (goal.at.After-byte c).Start in
    let r = rest-more (joined (drop c.loop-i.i (texts s))) (comma_next (goal.at.After-byte c).In-loop-i) c.byte.ensures in
    rw (from s c.loop-i.i c.loop-i-test.true) at r

pub read_signed-requires : goal.read_signed-requires
read_signed-requires c = (c.requires.0, narrow (goal.at.read_signed-requires c).Start 0 (omega (arith, c.requires)))

pub signed-requires : goal.signed-requires
signed-requires c =
    let s = (goal.at.signed-requires c).Start in
    rw c.read_signed.ensures (rest-room (word s 0) (others s 0) s.requires.3 (first s))

pub loop-i-init : goal.loop-i-init
loop-i-init c =
    let s = (goal.at.loop-i-init c).Start in
    rest-more (others s 0) (first s) (rw c.read_signed.ensures at c.signed.ensures)

pub byte-requires : goal.byte-requires
byte-requires c =
    let s = (goal.at.byte-requires c).Start in
    rest-room (44 ∷ []) (joined (drop c.loop-i.i (texts s))) s.requires.3 (comma_next (goal.at.byte-requires c).In-loop-i)

pub read_signed-requires-in-loop-i : goal.read_signed-requires-in-loop-i
read_signed-requires-in-loop-i c = (c.requires.0, narrow (goal.at.read_signed-requires-in-loop-i c).Start c.loop-i.i c.loop-i-test.true)

pub signed-requires-in-loop-i : goal.signed-requires-in-loop-i
signed-requires-in-loop-i c =
    let s = (goal.at.signed-requires-in-loop-i c).Start in
    rw c.read_signed-in-loop-i.ensures
    (rest-room (word s c.loop-i.i) (others s c.loop-i.i) s.requires.3 (next (goal.at.signed-requires-in-loop-i c).After-byte))

pub loop-i-preserved : goal.loop-i-preserved
loop-i-preserved c =
    let s = (goal.at.loop-i-preserved c).Start in
    rw (add-one c.loop-i.i)
    (rest-more
    (others s c.loop-i.i)
    (next (goal.at.loop-i-preserved c).After-byte)
    (rw c.read_signed-in-loop-i.ensures at c.signed-in-loop-i.ensures))

pub returns : goal.returns
unfolding after_commas
returns c =
    let s = (goal.at.returns c).Start in
    let e : drop c.loop-i.i (texts s) ≡ [] = drop_of_length-le (texts s) {i = c.loop-i.i} (omega (arith, texts-length s, c.loop-i-test.false)) in
    rest-none (rw e at c.loop-i.invariant)
