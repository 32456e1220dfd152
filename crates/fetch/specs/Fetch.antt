-- The refusals of a named holder, of a place and of a run, and the body of a job record, fetched by holder and place: paper 01, "When a call
-- declines". Assumes nothing.
use Rattle.std.specs.Prelude.{ℕ, zero, suc, ◌+◌, List, [], ◌∷◌, Bool, cond, ◌&&◌, leb, ltb, eqb}
use Rattle.words.specs.Refusal.{first, unless, kept, HOLDER, OUT_OF_RANGE}
use Rattle.words.specs.Faults.{length_fault}
use Rattle.records.specs.Num.{part}
use Rattle.records.specs.Layout.{body_at, body_size, job_len}
use Rattle.records.specs.declared.Heading.{Heading}
use Rattle.bundle.specs.Bundle.{bundle_heading, files_of, holder_of, bundle_fault, job_at}

-- the first of the n places from i where a test holds, or i + n
unfoldable pub find_from : (ℕ → Bool) → ℕ → ℕ → ℕ
find_from t zero i = i
find_from t (suc n) i = cond (t i) i (find_from t n (i + 1))

-- the file of a holder in a bundle that has no fault, or the number of files
unfoldable pub file_of : List ℕ → ℕ → ℕ
file_of bs holder = find_from (λ f. eqb (holder_of bs f) holder) (files_of bs) 0

-- ---- refusals in a bundle that has no fault

-- "the holder named has no file in the bundle"
unfoldable pub holder_fault : List ℕ → ℕ → ℕ
holder_fault bs holder = unless (ltb (file_of bs holder) (files_of bs)) HOLDER

-- "a job place is J or more"
unfoldable pub place_fault : Heading → ℕ → ℕ
place_fault h p = unless (ltb p h.jobs) OUT_OF_RANGE

-- "a run from a to b has a above b, or b above J"
unfoldable pub run_fault : Heading → ℕ → ℕ → ℕ
run_fault h a b = unless (leb a b && leb b h.jobs) OUT_OF_RANGE

-- ---- a job's body

-- the number for a fetch, and 0 for one that succeeds
unfoldable pub body_fault : List ℕ → ℕ → ℕ → ℕ
unfolding holder_fault place_fault
body_fault bs holder p = first (bundle_fault bs) (first (holder_fault bs holder) (place_fault (bundle_heading bs) p))

-- "The body of a job record can be fetched as that part of the lent bundle, by holder and place"; "an empty part" where the fetch is declined
unfoldable pub body_of : List ℕ → ℕ → ℕ → List ℕ
body_of bs holder p =
    kept (body_fault bs holder p) [] (part (body_at (job_at bs (file_of bs holder) p)) (body_size (job_len (bundle_heading bs))) bs)

-- "that part of the lent bundle" as its offset and its length, of job p of file f
unfoldable pub part_of : List ℕ → ℕ → ℕ → List ℕ
part_of bs f p = body_at (job_at bs f p) ∷ body_size (job_len (bundle_heading bs)) ∷ []

-- the number for a fetch of these two words into an output of n: "4 for a named holder, 2, 9"
unfoldable pub part_fault : List ℕ → ℕ → ℕ → ℕ → ℕ
unfolding holder_fault place_fault
part_fault bs holder p n =
    first (bundle_fault bs) (first (holder_fault bs holder) (first (length_fault 2 n) (place_fault (bundle_heading bs) p)))
