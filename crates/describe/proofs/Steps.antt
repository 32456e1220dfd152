-- A read told in words: the kind and the body of a record, the end, and where the cursor moves to. Assumes nothing.
use mathlib.Core.Path.{◌≡◌, sym, ap, ◌∙◌}
use Prim.Native.Nat.{ℕ, ◌+◌, ◌≤◌}
use native.Mathlib.Omega.{arith}
use mathlib.Core.Bool.{true, ◌||◌}
use mathlib.Core.List.{List, [], ◌∷◌}
use lib.Dec.{eqb, lit<}
use lib.ListN.{length, get_or}
use borrow.Author.Tests.{eqb-true, leb-true}
use Rattle.words.specs.Faults.{length_fault}
use Rattle.words.proofs.Refusals.{first-right, unless-held}
use Rattle.words.proofs.Tests.{bool_cases, and_left, and_right}
use Rattle.records.specs.Layout.{record_size, body_size, known}
use Rattle.records.specs.Record.{len_at, kind_at, whole, read_at, cursor_fault, read_next}
use Rattle.records.specs.declared.RawRecord.{RawRecord}
use Rattle.std.specs.declared.option.Option.TheVariants.{None, Some}
use Rattle.std.specs.declared.result.Result.TheVariants.{Ok}
use Rattle.records.proofs.Lengths.{known-min}
use Rattle.records.proofs.Record.{next-within}
use Rattle.describe.specs.Describe.{step_by, step_of, step_fault}

module _ (bs : List ℕ) (at : ℕ) where
  pub step-record : (r : RawRecord) → read_at bs at ≡ Ok (Some r) → step_of bs at ≡ 0 ∷ r.kind ∷ r.start ∷ r.len ∷ []
  unfolding step_of
  step-record r e = ap (step_by at) e

  pub step_end : read_at bs at ≡ Ok None → step_of bs at ≡ 1 ∷ 0 ∷ at ∷ 0 ∷ []
  unfolding step_of
  step_end e = ap (step_by at) e

  -- a whole record has a kind, and is within the bytes
  whole_length : whole bs at ≡ true → (3 ≤ len_at bs at) × (at + record_size (len_at bs at) ≤ length bs)
  unfolding whole
  whole_length w =
      let k = known (kind_at bs at) (len_at bs at) in
      (known-min (kind_at bs at) (len_at bs at) (and_left k _ w), leb-true _ _ (and_right k _ w))

  module _ (n : ℕ) (e : step_fault bs at n ≡ 0) where
    stands : (eqb at (length bs) || whole bs at) ≡ true
    unfolding step_fault cursor_fault
    stands = unless-held (eqb at (length bs) || whole bs at) 7 (lit< tt) (first-right (length_fault 4 n) _ e)

    -- the cursor moves to where the body ends, and stays at the end
    pub step-moves : (read_next (record { at = at }) (read_at bs at)).at ≡ get_or (step_of bs at) 2 0 + get_or (step_of bs at) 3 0
    unfolding step_of read_at read_next record_size body_size
    step-moves =
        bool_cases (eqb at (length bs)) (λ q. rw q (omega arith))
        (λ q. (let w : whole bs at ≡ true = rw q at stands in rw (q, w) (omega (arith, whole_length w))))

    -- the body is within the bytes
    pub step-within : get_or (step_of bs at) 2 0 + get_or (step_of bs at) 3 0 ≤ length bs
    unfolding record_size
    step-within =
        let l : at ≤ length bs =
        bool_cases (eqb at (length bs)) (λ q. omega (arith, eqb-true at (length bs) q))
        (λ q. (let w : whole bs at ≡ true = rw q at stands in omega (arith, whole_length w))) in
        rw (sym step-moves) (next-within bs (record { at = at }) l)
