-- The lines as the parts that are written one after another, and how long they are at most. Assumes nothing.
use mathlib.Core.Path.{◌≡◌, refl, ap, ◌∙◌}
use mathlib.Core.Bool.{Bool, true, false, cond}
use mathlib.Core.List.{List, [], ◌∷◌, ◌++◌, map, append_assoc}
use Prim.Native.Nat.{ℕ, zero, suc, ◌+◌, ◌-◌, ◌*◌, ◌/◌, ◌%◌, ◌^◌, ◌≤◌, ◌<◌}
use native.Mathlib.Nat.{pow-le-pow_right, le_trans}
use native.Mathlib.Omega.{arith}
use borrow.Author.Tests.{ltb-true}
use lib.Dec.{ltb, eqb, lit<}
use lib.ListN.{length, get_or, length-append}
use lib.Count.{count_trailing_zeros}
use Rattle.words.specs.declared.Refusal.{Refusal}
use Rattle.words.specs.declared.Refusal.TheVariants.{Parameters, Length, WideWord, Holder, TooFewShares, NoCodeword, Malformed, Mismatched, OutOfRange, DeskClosed, Text}
use Rattle.words.specs.declared.Signed.{Signed}
use Rattle.words.specs.Refusal.{number_of}
use Rattle.words.specs.Signed.{signed_of}
use Rattle.decimal.specs.Decimal.{ascii, decimal, signed_text}
use Rattle.text.specs.Text.{after_commas, joined, holders_from, holders, holder_text, holders_text, words_text}
use Rattle.text.specs.Text.{line_room, refused_line, job_line, open_line, declined_line}
use Rattle.text.specs.Text.{report_room, changed_line, changed_lines, kept_line}
use Rattle.decimal.proofs.Decimal.{decimal-length, twenty}
use Rattle.decimal.proofs.Signed.{signed-length}
use Rattle.text.proofs.Holders.{next-holder}
use Rattle.text.proofs.Joined.{nobody}

-- ---- the parts

pub open-parts : (number wrong : ℕ) (lowest : List ℕ) (words : List Signed)
    → open_line number wrong lowest words
    ≡ decimal number ++ ascii " open " ++ holders_text lowest wrong ++ ascii " " ++ words_text words ++ ascii "\n"
unfolding open_line job_line
open-parts number wrong lowest words =
    ap (λ (l : List ℕ). l ++ holders_text lowest wrong ++ ascii " " ++ words_text words ++ ascii "\n")
    (append_assoc (decimal number ++ ascii " ") (ascii "open") (ascii " ") ∙ append_assoc (decimal number) (ascii " ") (ascii "open "))

pub declined-parts : (number state : ℕ) → declined_line number state ≡ decimal number ++ ascii " " ++ decimal state ++ ascii " - -\n"
unfolding declined_line job_line joined
declined-parts number state =
    let l = decimal number ++ ascii " " ++ decimal state in
    append_assoc (l ++ ascii " " ++ ascii "-" ++ ascii " ") (ascii "-") (ascii "\n")
    ∙ append_assoc (l ++ ascii " " ++ ascii "-") (ascii " ") (ascii "-\n")
    ∙ append_assoc (l ++ ascii " ") (ascii "-") (ascii " -\n")
    ∙ append_assoc l (ascii " ") (ascii "- -\n")

pub refused-parts : (n : ℕ) → refused_line n ≡ ascii "refused " ++ decimal n ++ ascii "\n"
unfolding refused_line
refused-parts n = refl

-- ---- how long they are

-- a refusal's number has two digits at most
pub number-le : (r : Refusal) → number_of r ≤ 11
number-le Parameters = omega arith
number-le Length = omega arith
number-le WideWord = omega arith
number-le Holder = omega arith
number-le TooFewShares = omega arith
number-le NoCodeword = omega arith
number-le Malformed = omega arith
number-le Mismatched = omega arith
number-le OutOfRange = omega arith
number-le DeskClosed = omega arith
number-le Text = omega arith

-- joined texts are no longer than those after commas, or a `-`
joined_length : (texts : List (List ℕ)) → length (joined texts) ≤ length (after_commas texts) + 1
unfolding joined after_commas
joined_length [] = omega arith
joined_length (text ∷ texts) = omega (arith, length-append text (after_commas texts))

-- positions are bytes, of three digits at most
module _ (lowest : List ℕ) (b : (i : ℕ) → get_or lowest i 0 < 256) where
  holder-length : (h : ℕ) → h < 100 → length (holder_text lowest h) ≤ 6
  unfolding holder_text
  holder-length h l =
      let p = get_or lowest (h - 1) 0 in
      omega (
        arith,
        decimal-length 1 h (omega arith),
        decimal-length 2 p (omega (arith, b (h - 1))),
        length-append (decimal h) (ascii "/"),
        length-append (decimal h ++ ascii "/") (decimal p),
      )

  holders-after : (i n set : ℕ) → i + n ≤ 100 → length (after_commas (map (holder_text lowest) (holders_from i n set))) ≤ n * 7
  unfolding after_commas holders_from
  holders-after i zero set h = omega arith
  holders-after i (suc n) set h = one (eqb (set % 2) 1) (holders-after (suc i) n (set / 2) (omega arith))
    where
      one : (b : Bool) → length (after_commas (map (holder_text lowest) (holders_from (suc i) n (set / 2)))) ≤ n * 7
          → length (after_commas (map (holder_text lowest) (cond b (i ∷ []) [] ++ holders_from (suc i) n (set / 2)))) ≤ suc n * 7
      one true r =
          omega (
            arith,
            r,
            holder-length i (omega arith),
            length-append (holder_text lowest i) (after_commas (map (holder_text lowest) (holders_from (suc i) n (set / 2)))),
          )
      one false r = omega (arith, r)

  pub holders-length : (set : ℕ) → length (holders_text lowest set) ≤ 449
  unfolding holders
  holders-length set = omega (arith, joined_length (map (holder_text lowest) (holders set)), holders-after 1 64 set (omega arith))

-- no word of k bits has a larger magnitude than 2^k
magnitude-le : (k w : ℕ) → (signed_of k w).magnitude ≤ 2 ^ k
unfolding signed_of
magnitude-le k w = by (ltb w (2 ^ (k - 1))) refl
  where
    by : (b : Bool) → ltb w (2 ^ (k - 1)) ≡ b
        → (cond {A = Signed} b (record { negative = false; magnitude = w }) (record { negative = true; magnitude = 2 ^ k - w })).magnitude ≤ 2 ^ k
    by true e = omega (arith, ltb-true w (2 ^ (k - 1)) e, pow-le-pow_right {n = 2} (lit< tt) {i = k - 1} {j = k} (omega arith))
    by false e = omega arith

word-length : (k w : ℕ) → k ≤ 64 → length (signed_text (signed_of k w)) ≤ 21
word-length k w h =
    let p : 2 ^ k ≤ 2 ^ 64 = pow-le-pow_right {n = 2} (lit< tt) {i = k} {j = 64} h in
    signed-length (signed_of k w) (le_trans (magnitude-le k w) p)

words-after : (k : ℕ) (ws : List ℕ) → k ≤ 64 → length (after_commas (map signed_text (map (signed_of k) ws))) ≤ length ws * 22
unfolding after_commas
words-after k [] h = omega arith
words-after k (w ∷ ws) h =
    omega
    (arith, words-after k ws h, word-length k w h, length-append (signed_text (signed_of k w)) (after_commas (map signed_text (map (signed_of k) ws))))

pub words_length : (k : ℕ) (ws : List ℕ) → k ≤ 64 → length ws ≤ 6 → length (words_text (map (signed_of k) ws)) ≤ 133
words_length k ws h l = omega (arith, joined_length (map signed_text (map (signed_of k) ws)), words-after k ws h)

-- every line fits into `line_room`
pub open-length : (number wrong : ℕ) (lowest : List ℕ) (k : ℕ) (ws : List ℕ)
    → number < 2 ^ 64 → ((i : ℕ) → get_or lowest i 0 < 256) → k ≤ 64 → length ws ≤ 6
    → length (open_line number wrong lowest (map (signed_of k) ws)) ≤ line_room
open-length number wrong lowest k ws h b l m =
    let n = decimal number in
    let v = holders_text lowest wrong in
    let w = words_text (map (signed_of k) ws) in
    omega (
      arith,
      twenty number (omega arith),
      holders-length lowest b wrong,
      words_length k ws l m,
      ap length (open-parts number wrong lowest (map (signed_of k) ws)),
      length-append n (ascii " open "),
      length-append (n ++ ascii " open ") v,
      length-append (n ++ ascii " open " ++ v) (ascii " "),
      length-append (n ++ ascii " open " ++ v ++ ascii " ") w,
      length-append (n ++ ascii " open " ++ v ++ ascii " " ++ w) (ascii "\n"),
    )

pub declined-length : (number state : ℕ) → number < 2 ^ 64 → state < 2 ^ 64 → length (declined_line number state) ≤ line_room
declined-length number state h k =
    let n = decimal number in
    let s = decimal state in
    omega (
      arith,
      twenty number (omega arith),
      twenty state (omega arith),
      ap length (declined-parts number state),
      length-append n (ascii " "),
      length-append (n ++ ascii " ") s,
      length-append (n ++ ascii " " ++ s) (ascii " - -\n"),
    )

pub refused-length : (n : ℕ) → n < 2 ^ 64 → length (refused_line n) ≤ line_room
refused-length n h =
    omega (
      arith,
      twenty n (omega arith),
      ap length (refused-parts n),
      length-append (ascii "refused ") (decimal n),
      length-append (ascii "refused " ++ decimal n) (ascii "\n"),
    )

-- ---- the report: the lines of a job fit into `report_room`

pub changed-length : (number holder : ℕ) → number < 2 ^ 64 → holder ≤ 99 → length (changed_line number holder) ≤ 31
unfolding changed_line
changed-length number holder h l =
    let n = decimal number in
    let w = decimal holder in
    omega (
      arith,
      twenty number (omega arith),
      decimal-length 1 holder (omega arith),
      length-append n (ascii " holder "),
      length-append (n ++ ascii " holder ") w,
      length-append (n ++ ascii " holder " ++ w) (ascii "\n"),
    )

changes-from : (number i n set : ℕ) → number < 2 ^ 64 → i + n ≤ 100 → length (changed_lines number (holders_from i n set)) ≤ n * 31
unfolding changed_lines holders_from
changes-from number i zero set h l = omega arith
changes-from number i (suc n) set h l = one (eqb (set % 2) 1) (changes-from number (suc i) n (set / 2) h (omega arith))
  where
    one : (b : Bool) → length (changed_lines number (holders_from (suc i) n (set / 2))) ≤ n * 31
        → length (changed_lines number (cond b (i ∷ []) [] ++ holders_from (suc i) n (set / 2))) ≤ suc n * 31
    one true r =
        omega (
          arith,
          r,
          changed-length number i h (omega arith),
          length-append (changed_line number i) (changed_lines number (holders_from (suc i) n (set / 2))),
        )
    one false r = omega (arith, r)

pub changes-length : (number set : ℕ) → number < 2 ^ 64 → length (changed_lines number (holders set)) ≤ report_room
unfolding holders
changes-length number set h = omega (arith, changes-from number 1 64 set h (omega arith))

pub kept-length : (number n : ℕ) → number < 2 ^ 64 → n < 2 ^ 64 → length (kept_line number n) ≤ report_room
unfolding kept_line
kept-length number n h l =
    omega (
      arith,
      twenty number (omega arith),
      refused-length n l,
      length-append (decimal number) (ascii " "),
      length-append (decimal number ++ ascii " ") (refused_line n),
    )

-- ---- the lines of the places that are left once i bits of a set are off, and w is what is left of it

abbrev pub rest_lines : ℕ → ℕ → ℕ → List ℕ
rest_lines number i w = changed_lines number (holders_from (i + 1) (64 - i) w)

pub changes-next : (number i w : ℕ) → i ≤ 64 → 0 < w → w < 2 ^ (64 - i)
    → rest_lines number i w
    ≡ changed_line number (i + count_trailing_zeros 64 w + 1) ++ rest_lines number (i + count_trailing_zeros 64 w + 1) (w / 2 ^ count_trailing_zeros 64 w / 2)
unfolding changed_lines
changes-next number i w q p h = rw (next-holder i w q p h)

pub changes-last : (number i w : ℕ) → w ≡ 0 → rest_lines number i w ≡ []
unfolding changed_lines
changes-last number i w e = rw (e, nobody (i + 1) (64 - i))
