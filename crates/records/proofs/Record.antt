-- Laws of records and of the cursor's read. Assumes nothing.
use mathlib.Core.Path.{◌≡◌, refl, sym, ap, ◌∙◌}
use Prim.Native.Nat.{ℕ, ◌+◌, ◌-◌, ◌≤◌, ◌<◌}
use native.Mathlib.Omega.{arith}
use native.Mathlib.Decide.{dec_le}
use mathlib.Core.List.{List}
use mathlib.Core.Bool.{Bool, true, false, cond, ◌&&◌, and-true, and-false}
use lib.ListN.{length}
use lib.Dec.{leb, eqb}
use borrow.Author.Tests.{le-leb, lt-leb, eq-eqb, ne_eqb, leb-true, eqb-true}
use Rattle.std.specs.Prelude.{Result}
use Rattle.std.specs.declared.option.Option.{Option}
use Rattle.std.specs.declared.option.Option.TheVariants.{None, Some}
use Rattle.std.specs.declared.result.Result.TheVariants.{Ok, Err}
use Rattle.std.specs.Result.{IsErrAnd}
use Rattle.std.proofs.lemmas.Result.{err_from_is_err_and}
use Rattle.words.specs.Refusal.{number_of, fault_in, unless}
use Rattle.words.specs.declared.Refusal.{Refusal}
use Rattle.words.specs.declared.Refusal.TheVariants.{Parameters, Length, WideWord, Holder, TooFewShares, NoCodeword, Malformed, Mismatched, OutOfRange, DeskClosed, Text}
use Rattle.words.proofs.Refusals.{number-some}
use Rattle.words.proofs.Tests.{bool_cases, and_left, and_right}
use Rattle.records.specs.Layout.{body_at, record_size, body_size, known}
use Rattle.records.specs.Record.{len_at, kind_at, whole, framed, Frame, read_at, cursor_fault, read_next}
use Rattle.records.specs.declared.Cursor.{Cursor}
use Rattle.records.specs.declared.RawRecord.{RawRecord}
use Rattle.records.proofs.Lengths.{known-min, known-low}

-- fewer than 7 bytes hold no record
pub whole-short : (bs : List ℕ) (at : ℕ) → length bs < at + 7 → whole bs at ≡ false
unfolding whole record_size
whole-short bs at h =
    elim (dec_le 3 (len_at bs at)) [
      | yes k ↦ simp (lt-leb (at + record_size (len_at bs at)) (length bs) (omega arith), and-false)
      | no k ↦ simp (known-low (kind_at bs at) (len_at bs at) (omega arith))
    ]

-- what a cursor reads, case by case
module _ (bs : List ℕ) (at : ℕ) where
  pub read-end : at ≡ length bs → read_at bs at ≡ Ok None
  unfolding read_at
  read-end e = simp (eq-eqb at (length bs) e)

  module _ (n : at ≡ length bs → ⊥) where
    pub read-not : whole bs at ≡ false → read_at bs at ≡ Err Malformed
    unfolding read_at
    read-not e = simp (ne_eqb at (length bs) n, e)

    pub read_short : length bs < at + 7 → read_at bs at ≡ Err Malformed
    read_short h = read-not (whole-short bs at h)

    pub read-unknown : known (kind_at bs at) (len_at bs at) ≡ false → read_at bs at ≡ Err Malformed
    unfolding whole
    read-unknown e = read-not (simp e)

    pub read-cut : length bs < at + record_size (len_at bs at) → read_at bs at ≡ Err Malformed
    unfolding whole
    read-cut h = read-not (simp (lt-leb (at + record_size (len_at bs at)) (length bs) h, and-false))

    pub read-record : known (kind_at bs at) (len_at bs at) ≡ true → at + record_size (len_at bs at) ≤ length bs →
        read_at bs at ≡ Ok (Some (record { kind = kind_at bs at; start = body_at at; len = body_size (len_at bs at); next = record { at = at + record_size (len_at bs at) } }))
    unfolding read_at whole
    read-record e h = simp (ne_eqb at (length bs) n, e, le-leb (at + record_size (len_at bs at)) (length bs) h)

  -- the number of what is read
  pub read-fault : fault_in (read_at bs at) ≡ cursor_fault bs at
  unfolding read_at cursor_fault unless
  read-fault =
      bool_cases (eqb at (length bs)) (λ e. rw e)
      (λ e. bool_cases (whole bs at) (λ w. rw (e, w)) (λ w. rw (e, w)))

  pub told : (r : Result (Option RawRecord) Refusal) → r ≡ read_at bs at → (r ≡ read_at bs at) × (fault_in r ≡ cursor_fault bs at)
  told r e = (e, ap fault_in e ∙ read-fault)

-- a refusal of a test says that it failed
pub test_refused : (e : Refusal) (t : Bool) (c : ℕ) → number_of e ≡ unless t c → (t ≡ false) × (number_of e ≡ c)
unfolding unless
test_refused e true c h = absurd (number-some e h)
test_refused e false c h = (refl, h)

-- the one refusal of the number 7
malformed : (e : Refusal) → number_of e ≡ 7 → e ≡ Malformed
malformed Parameters h = absurd (omega arith)
malformed Length h = absurd (omega arith)
malformed WideWord h = absurd (omega arith)
malformed Holder h = absurd (omega arith)
malformed TooFewShares h = absurd (omega arith)
malformed NoCodeword h = absurd (omega arith)
malformed Malformed h = refl
malformed Mismatched h = absurd (omega arith)
malformed OutOfRange h = absurd (omega arith)
malformed DeskClosed h = absurd (omega arith)
malformed Text h = absurd (omega arith)

-- what a test of a read hands out
pub read_refused : (bs : List ℕ) (at : ℕ) (r : Result (Option RawRecord) Refusal) (e : Refusal) (t : Bool) → IsErrAnd r (λ y. y ≡ e) →
    number_of e ≡ unless t 7 → (t ≡ false → read_at bs at ≡ Err Malformed) → (r ≡ read_at bs at) × (fault_in r ≡ cursor_fault bs at)
read_refused bs at r e t h n f =
    let p = err_from_is_err_and r h in
    let y = test_refused e t 7 n in
    told bs at r (p.1 ∙ ap Err (p.2 ∙ malformed e y.1) ∙ sym (f y.0))

-- what a frame says
pub framed-frame : (bs : List ℕ) (kind len at : ℕ) → framed bs kind len at ≡ true → Frame bs kind len at
unfolding framed
framed-frame bs kind len at e =
    let r = and_right (eqb (kind_at bs at) kind) (eqb (len_at bs at) len && leb (at + record_size len) (length bs)) e in
    record {
      kind_is = eqb-true _ _ (and_left (eqb (kind_at bs at) kind) _ e);
      len_is = eqb-true _ _ (and_left (eqb (len_at bs at) len) _ r);
      within = leb-true _ _ (and_right (eqb (len_at bs at) len) _ r);
    }

pub frame-framed : (bs : List ℕ) (kind len at : ℕ) → Frame bs kind len at → framed bs kind len at ≡ true
unfolding framed
frame-framed bs kind len at f =
    simp (eq-eqb (kind_at bs at) kind f.kind_is, eq-eqb (len_at bs at) len f.len_is, le-leb (at + record_size len) (length bs) f.within)

-- the test of a frame, by its bytes, its length and its kind
module _ (bs : List ℕ) (kind len at : ℕ) where
  pub not_within : length bs < at + record_size len → false ≡ framed bs kind len at
  unfolding framed
  not_within h = simp (lt-leb (at + record_size len) (length bs) h, and-false)

  pub not-len : (len_at bs at ≡ len → ⊥) → false ≡ framed bs kind len at
  unfolding framed
  not-len n = simp (ne_eqb (len_at bs at) len n, and-false)

  pub is-kind : len_at bs at ≡ len → at + record_size len ≤ length bs → eqb (kind_at bs at) kind ≡ framed bs kind len at
  unfolding framed
  is-kind e h = simp (eq-eqb (len_at bs at) len e, le-leb (at + record_size len) (length bs) h, and-true)

-- a frame of a known kind and length is what a cursor reads
pub frame-read : (bs : List ℕ) (kind len at : ℕ) → known kind len ≡ true → Frame bs kind len at →
    read_at bs at ≡ Ok (Some (record { kind = kind; start = body_at at; len = body_size len; next = record { at = at + record_size len } }))
unfolding record_size
frame-read bs kind len at e f =
    let k : known (kind_at bs at) (len_at bs at) ≡ true = rw (f.kind_is, f.len_is) e in
    let m : 3 ≤ len = known-min kind len e in
    read-record bs at (λ z. omega (arith, f.within)) k (rw f.len_is f.within) ∙ rw (f.kind_is, f.len_is)

-- what a record that was read says
cond-inv : (e w : Bool) (x r : RawRecord) → cond e (Ok None) (cond w (Ok (Some x)) (Err Malformed)) ≡ Ok (Some r) → (w ≡ true) × (x ≡ r)
cond-inv true w x r q = absurd (let z : ◌≡◌ {A = ℕ} 0 1 = cc in omega arith)
cond-inv false true x r q = (refl, cc)
cond-inv false false x r q = absurd (let z : ◌≡◌ {A = ℕ} 0 1 = cc in omega arith)

module _ (bs : List ℕ) (at : ℕ) (r : RawRecord) (q : read_at bs at ≡ Ok (Some r)) where
  -- it is framed
  pub read-inv : Frame bs r.kind (r.len + 2) at
  unfolding read_at whole record_size body_size
  read-inv =
      let x : RawRecord = record { kind = kind_at bs at; start = body_at at; len = body_size (len_at bs at); next = record { at = at + record_size (len_at bs at) } } in
      let i = cond-inv (eqb at (length bs)) (whole bs at) x r q in
      let m : 3 ≤ len_at bs at = known-min (kind_at bs at) (len_at bs at) (and_left (known (kind_at bs at) (len_at bs at)) _ i.0) in
      let w : at + record_size (len_at bs at) ≤ length bs = leb-true _ _ (and_right (known (kind_at bs at) (len_at bs at)) _ i.0) in
      let e : len_at bs at - 2 ≡ r.len = ap (λ (c : RawRecord). c.len) i.1 in
      record { kind_is = ap (λ (c : RawRecord). c.kind) i.1; len_is = omega arith; within = omega arith }

  -- the cursor moves on, and not past the end
  pub read_next_lem : (at < r.next.at) × (r.next.at ≤ length bs)
  unfolding read_at whole record_size
  read_next_lem =
      let x : RawRecord = record { kind = kind_at bs at; start = body_at at; len = body_size (len_at bs at); next = record { at = at + record_size (len_at bs at) } } in
      let i = cond-inv (eqb at (length bs)) (whole bs at) x r q in
      let w : at + record_size (len_at bs at) ≤ length bs = leb-true _ _ (and_right (known (kind_at bs at) (len_at bs at)) _ i.0) in
      let e : at + record_size (len_at bs at) ≡ r.next.at = ap (λ (c : RawRecord). c.next.at) i.1 in
      (omega arith, omega arith)

-- the cursor never passes the end of the bytes, and a record that was read moves it on
pub next-within : (bs : List ℕ) (c : Cursor) → c.at ≤ length bs → (read_next c (read_at bs c.at)).at ≤ length bs
unfolding read_at read_next whole
next-within bs c h =
    bool_cases (eqb c.at (length bs)) (λ e. rw e h)
    (λ e. bool_cases (whole bs c.at)
    (λ w. rw (e, w) (leb-true _ _ (and_right (known (kind_at bs c.at) (len_at bs c.at)) _ w)))
    (λ w. rw (e, w) h))
