-- What the loops over a line and a text do in a turn: a separator is found, a digit or a number is read. Assumes nothing.
use Rattle.std.proofs.Common.{◌≡◌, refl, sym, ap, ◌∙◌, cond, nat_lt, Bool, true, false, None, Some, List, [], ◌∷◌, ◌++◌, ℕ, zero, suc, ◌+◌, ◌-◌, ◌≤◌, ◌<◌, ◌==◌, arith, zero-add, add-zero, add-one, length, take, drop, get_or, set, length-set, length-drop, drop-cons, drop_of_length-le, length-take-le, get_or-drop, drop-drop}
use lib.Seq.{paste, paste-zero}
use Rattle.std.specs.List.{position}
use Rattle.std.proofs.lemmas.List.{take_rest}
use Rattle.std.proofs.lemmas.List.Sums.{prefix_len-le-length}
use Rattle.std.proofs.lemmas.Bool.Decides.{nat_tests}
use Rattle.words.specs.Word.{add_w, mul_w}
use Rattle.words.proofs.Fill.{fill-next, fill-within}
use Rattle.cases.specs.Case.{IsPrefixLen, index_of, before, after, fields_from, field_of, number_from, numbers_of}

pub prefix_len : (n : ℕ) (xs : List ℕ) → n ≤ length xs → IsPrefixLen n xs
prefix_len n xs h = (h, sym (length-take-le n xs h))

-- ---- a separator, by what `first` gives

some_of : (v : Bool) (m i : ℕ) → cond v (Some m) None ≡ Some i → m ≡ i
some_of true m i e = cc
some_of false m i e = cc

none_of : (v : Bool) (m : ℕ) → cond v (Some m) None ≡ None → v ≡ false
none_of true m e = cc
none_of false m e = refl

module _ (b at : ℕ) (l : List ℕ) where
  abbrev rest : List ℕ
  rest = take (length l - at) (drop at l)

  pub found_some : (i : ℕ) → position (λ c. c == b) rest ≡ Some i → at + i ≡ at + index_of b (drop at l)
  found_some i e =
      let f : position (λ c. c == b) (drop at l) ≡ Some i = ap (position (λ c. c == b)) (sym (take_rest l at)) ∙ e in
      ap (λ (m : ℕ). at + m) (sym (some_of (nat_lt (index_of b (drop at l)) (length (drop at l))) _ _ f))

  pub found_none : at ≤ length l → position (λ c. c == b) rest ≡ None → length l ≡ at + index_of b (drop at l)
  found_none h e =
      let m = index_of b (drop at l) in
      let n = length (drop at l) in
      let f : position (λ c. c == b) (drop at l) ≡ None = ap (position (λ c. c == b)) (sym (take_rest l at)) ∙ e in
      let w : m ≤ n = prefix_len-le-length _ (drop at l) in
      let t : nat_lt m n ≡ false = none_of (nat_lt m n) m f in
      let g : m ≡ n = grind (arith, nat_tests) in
      omega (arith, g, length-drop at l)

-- ---- what `find` gives, from a position to the end

module _ (b : ℕ) (l : List ℕ) (at r : ℕ) (e : r ≡ at + index_of b (drop at l)) where
  -- the part before the separator
  pub found_before : take (r - at) (drop at l) ≡ before b (drop at l)
  found_before =
      let n : r - at ≡ index_of b (drop at l) = omega (arith, e) in
      ap (λ (m : ℕ). take m (drop at l)) n

  -- and the rest after it
  pub found_after : drop (r + 1) l ≡ after b (drop at l)
  found_after =
      let n : r + 1 ≡ at + suc (index_of b (drop at l)) = omega (arith, e) in
      ap (λ (m : ℕ). drop m l) n ∙ sym (drop-drop (suc (index_of b (drop at l))) at l)

  -- where there is no separator
  pub none_after : r ≡ length l → drop r l ≡ after b (drop at l)
  none_after h =
      drop_of_length-le l {i = r} (omega (arith, h)) ∙ sym (drop_of_length-le l {i = r + 1} (omega (arith, h))) ∙ found_after

-- ---- a number, digit by digit

pub digit-next : (x i m g r : ℕ) (l : List ℕ) → i < length l → m ≡ mul_w 64 x 10 → g ≡ get_or l i 0 - 48 → r ≡ add_w 64 m g
    → number_from r (drop (i + 1) l) ≡ number_from x (drop i l)
unfolding number_from
digit-next x i m g r l h em eg er = rw (er, em, eg, add-one, drop-cons l i 0 h)

pub number-read : (x i : ℕ) (l : List ℕ) → length l ≤ i → number_from x (drop i l) ≡ x
unfolding number_from
number-read x i l h = rw (drop_of_length-le l {i = i} h)

-- ---- fields

pub field_next : (n : ℕ) (l rest next : List ℕ) → rest ≡ fields_from n l → next ≡ after 124 rest → next ≡ fields_from (n + 1) l
unfolding fields_from
field_next n l rest next e f = rw add-one (f ∙ ap (after 124) e)

pub field_first : (l : List ℕ) → l ≡ fields_from 0 l
unfolding fields_from
field_first l = refl

pub field_is : (i start end : ℕ) (l : List ℕ) → drop start l ≡ fields_from i l → end ≡ start + index_of 124 (drop start l)
    → take (end - start) (drop start l) ≡ field_of i l
unfolding field_of
field_is i start end l e f = found_before 124 l start end f ∙ ap (before 124) e

-- ---- numbers: S is what is left to write

module _ (S : List ℕ) (n : ℕ) where
  -- the next one
  pub next-is : (v : ℕ) (rest : List ℕ) → drop n S ≡ v ∷ rest → (get_or S n 0 ≡ v) × (n < length S) × (drop (n + 1) S ≡ rest)
  next-is v rest e =
      let g : get_or S n 0 ≡ v = ap (λ (m : ℕ). get_or S m 0) (sym (add-zero n)) ∙ sym (get_or-drop n S 0 0) ∙ ap (λ (t : List ℕ). get_or t 0 0) e in
      let m : length S - n ≡ suc (length rest) = sym (length-drop n S) ∙ ap length e in
      let d : drop (n + 1) S ≡ rest = sym (drop-drop 1 n S) ∙ ap (drop 1) e in
      (g, omega (arith, m), d)

  -- none is left
  pub none_left : drop n S ≡ [] → n ≤ length S → length S ≡ n
  none_left e h =
      let m : length S - n ≡ 0 = sym (length-drop n S) ∙ ap length e in
      omega (arith, m)

-- a text read up to a position, with n numbers written
abbrev pub Reading : (text old new : List ℕ) (at n : ℕ) → Type 0
Reading text old new at n = let S = numbers_of (length old) text in
    (at ≤ length text + 1) × (n ≤ length old) × (n ≤ length S) × (drop n S ≡ numbers_of (length old - n) (drop at text))
    × (new ≡ paste old 0 S n) × (length new ≡ length old)

pub reading-start : (text old : List ℕ) → Reading text old old 0 0
reading-start text old =
    let n : length old ≡ length old - 0 = omega arith in
    (omega arith, omega arith, omega arith, ap (λ (m : ℕ). numbers_of m text) n, paste-zero old 0 (numbers_of (length old) text), refl)

no_text : (n : ℕ) → numbers_of n [] ≡ []
unfolding numbers_of
no_text zero = refl
no_text (suc n) = refl

module _ (text old new : List ℕ) (at n : ℕ) (h : Reading text old new at n) where
  abbrev S : List ℕ
  S = numbers_of (length old) text

  next-number : n < length old → at < length text
      → (get_or S n 0 ≡ number_from 0 (before 32 (drop at text))) × (n < length S)
      × (drop (n + 1) S ≡ numbers_of (length old - (n + 1)) (after 32 (drop at text)))
  unfolding numbers_of
  next-number o t =
      let c : drop at text ≡ get_or text at 0 ∷ drop (suc at) text = drop-cons text at 0 t in
      let r : length old - n ≡ suc (length old - (n + 1)) = omega (arith, o) in
      let u : numbers_of (length old - n) (drop at text) ≡ number_from 0 (before 32 (drop at text)) ∷ numbers_of (length old - (n + 1)) (after 32 (drop at text))
      = rw (r, c) in
      next-is S n (number_from 0 (before 32 (drop at text))) (numbers_of (length old - (n + 1)) (after 32 (drop at text))) (h.3 ∙ u)

  -- a turn
  pub reading-next : (end v : ℕ) → n < length old → at < length text → end ≤ length text → end ≡ at + index_of 32 (drop at text)
      → v ≡ number_from 0 (take (end - at) (drop at text)) → Reading text old (set new n v) (end + 1) (n + 1)
  reading-next end v o t b f e =
      let x = next-number o t in (
        omega (arith, b),
        omega (arith, o),
        omega (arith, x.1),
        x.2 ∙ ap (numbers_of (length old - (n + 1))) (sym (found_after 32 text at end f)),
        fill-next old S new n 0 v h.4 o x.1 (e ∙ ap (number_from 0) (found_before 32 text at end f) ∙ sym x.0),
        simp length-set h.5,
      )

  -- the text is read, or the output is full
  pub text-read : length text ≤ at → length S ≡ n
  text-read t = none_left S n (h.3 ∙ ap (numbers_of (length old - n)) (drop_of_length-le text {i = at} t) ∙ no_text (length old - n)) h.2

  pub output-full : n ≡ length old → length S ≡ n
  unfolding numbers_of
  output-full t =
      let z : length old - n ≡ 0 = omega (arith, t) in
      none_left S n (h.3 ∙ ap (λ (m : ℕ). numbers_of m (drop at text)) z) h.2

  pub counted : IsPrefixLen n new
  counted = prefix_len n new (omega (arith, h.1, h.5))

  pub reading-done : length S ≡ n → (n ≡ length S) × (new ≡ S ++ drop n old)
  reading-done e = (sym e, fill-within old S new 0 n h.4 e ∙ rw zero-add)
