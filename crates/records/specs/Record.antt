-- A record, the cursor's read and a heading, paper 01, "Bytes of a file" and "When a call declines". Assumes nothing.
use Rattle.std.specs.Prelude.{◌≡◌, ℕ, ◌+◌, ◌≤◌, List, Bool, Result, cond, ◌&&◌, ◌||◌, length, get_or, leb, eqb}
use Rattle.std.specs.declared.option.Option.{Option}
use Rattle.std.specs.declared.option.Option.TheVariants.{None, Some}
use Rattle.std.specs.declared.result.Result.TheVariants.{Ok, Err}
use Rattle.words.specs.Refusal.{unless, MALFORMED}
use Rattle.words.specs.declared.Refusal.{Refusal}
use Rattle.words.specs.declared.Refusal.TheVariants.{Malformed}
use Rattle.records.specs.Num.{le_at}
use Rattle.records.specs.Layout.{kind_place, body_at, record_size, body_size, known}
use Rattle.records.specs.declared.Cursor.{Cursor}
use Rattle.records.specs.declared.Heading.{Heading}
use Rattle.records.specs.declared.RawRecord.{RawRecord}

-- the length and the kind that the record at a position states
unfoldable pub len_at : List ℕ → ℕ → ℕ
len_at bs at = le_at 4 bs at

unfoldable pub kind_at : List ℕ → ℕ → ℕ
kind_at bs at = le_at 2 bs (kind_place at)

-- a whole record of a known kind and length stands at a position
unfoldable pub whole : List ℕ → ℕ → Bool
whole bs at = known (kind_at bs at) (len_at bs at) && leb (at + record_size (len_at bs at)) (length bs)

-- a whole record of one kind and length stands at a position
unfoldable pub framed : List ℕ → ℕ → ℕ → ℕ → Bool
framed bs kind len at = eqb (kind_at bs at) kind && (eqb (len_at bs at) len && leb (at + record_size len) (length bs))

-- the same as facts
pub record Frame (bs : List ℕ) (kind len at : ℕ) : Type 0 where
  pub kind_is : kind_at bs at ≡ kind
  pub len_is : len_at bs at ≡ len
  pub within : at + record_size len ≤ length bs

-- "Reading moves a cursor on by one record [..] it gives 7 where the bytes end inside the record, the kind is unknown, or the length is one its
-- kind has in no book, and judges nothing else. At the end a read says 'end' and stays there; a cursor lent beyond the end gives 7."
unfoldable pub read_at : List ℕ → ℕ → Result (Option RawRecord) Refusal
read_at bs at =
    cond (eqb at (length bs)) (Ok None)
    (cond (whole bs at)
    (Ok (Some (record { kind = kind_at bs at; start = body_at at; len = body_size (len_at bs at); next = record { at = at + record_size (len_at bs at) } })))
    (Err Malformed))

-- the number of the read at a position: 0 for a record and for 'end'
unfoldable pub cursor_fault : List ℕ → ℕ → ℕ
cursor_fault bs at = unless (eqb at (length bs) || whole bs at) MALFORMED

-- where the cursor stands after each answer of a read
unfoldable pub read_next : Cursor → Result (Option RawRecord) Refusal → Cursor
read_next c (Ok (Some r)) = r.next
read_next c (Ok None) = c
read_next c (Err e) = c

-- "k, d, n, t, holder (a byte each), archive number (8 bytes), job count J (4 bytes)": the heading whose record is at a position
unfoldable pub heading_of : List ℕ → ℕ → Heading
heading_of bs at =
    record {
      params = record {
        k = get_or bs (body_at at) 0;
        d = get_or bs (body_at at + 1) 0;
        n = get_or bs (body_at at + 2) 0;
        t = get_or bs (body_at at + 3) 0;
      };
      holder = get_or bs (body_at at + 4) 0;
      archive = le_at 8 bs (body_at at + 5);
      jobs = le_at 4 bs (body_at at + 5 + 8);
    }
