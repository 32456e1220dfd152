-- What the theorems on opening a job or a run of a bundle speak of: that none of the refusals ahead of 5 applies, with an output of n words for the
-- job, one of w for the wrong holders and one of l bytes for their positions; that the files are as many as are needed; and demand 3 of the calls by what they returned, also of wide
-- words. Assumes nothing.
use Rattle.std.specs.Prelude.{ℕ, ◌+◌, ◌-◌, ◌*◌, ◌≤◌, ◌<◌, ◌≡◌, true, List, length}
use Rattle.galois.specs.Element.{Element}
use Rattle.codewords.specs.Codeword.{Polynomial, differs}
use Rattle.codewords.specs.Demand.{Outputs, Returned, Tells, TellsWide, TellsLowest}
use Rattle.codewords.specs.Opening.{lowest_room}
use Rattle.bundle.specs.Bundle.{bundle_heading, bundle_fault, params_of, allowance_of, files_of, holder_of}
use Rattle.archive.specs.Archive.{share_by, shares_at, shares_over, files_in_width, open_place, open_run}

-- of the job at place p
pub record PlaceClear (bs : List ℕ) (p n w l : ℕ) : Type 0 where
  pub no_fault : bundle_fault bs ≡ 0
  pub output : n ≡ (params_of bs).d
  pub wrong_output : w ≡ 1
  pub lowest_output : l ≡ lowest_room
  pub place : p < (bundle_heading bs).jobs

-- of the run of the places a to b - 1
pub record RunClear (bs : List ℕ) (a b n w l : ℕ) : Type 0 where
  pub no_fault : bundle_fault bs ≡ 0
  pub output : n ≡ (params_of bs).d
  pub wrong_output : w ≡ 1
  pub lowest_output : l ≡ lowest_room
  pub low : a ≤ b
  pub high : b ≤ (bundle_heading bs).jobs
  pub width : files_in_width bs a (b - a) ≡ true

-- 5 is "m is below t + 1 + 2e", where m is the number of files
abbrev pub Enough : List ℕ → Type 0
Enough bs = (params_of bs).t + 1 + 2 * allowance_of bs ≤ files_of bs

-- the contract of `open_place`: on the bundle bs and the place p, lent the outputs old, it returned the number r and left the outputs new
abbrev pub PlaceReturned : List ℕ → ℕ → Outputs → ℕ → Outputs → Type 0
PlaceReturned bs p old = Returned (params_of bs) (shares_at bs p) (open_place bs p (length old.job) (length old.wrong) (length old.lowest)) old

-- what that tells: "What demand 3 says of opening holds wherever one job of a bundle is opened and none of the refusals ahead of 6 applies."
abbrev pub PlaceTells : List ℕ → ℕ → Outputs → ℕ → Outputs → Type 0
PlaceTells bs p old =
    Tells (params_of bs) (allowance_of bs) (shares_at bs p) (PlaceClear bs p (length old.job) (length old.wrong) (length old.lowest)) old

-- and of the files that have a wide word at the place (paper 02, K1)
abbrev pub PlaceTellsWide : List ℕ → ℕ → Outputs → ℕ → Outputs → Type 0
PlaceTellsWide bs p old =
    TellsWide (params_of bs) (allowance_of bs) (shares_at bs p) (PlaceClear bs p (length old.job) (length old.wrong) (length old.lowest))

-- and of the lowest bits at which they differ (paper 02, K4)
abbrev pub PlaceTellsLowest : List ℕ → ℕ → ℕ → Outputs → Type 0
PlaceTellsLowest bs p = TellsLowest (params_of bs) (allowance_of bs) (shares_at bs p)

-- the contract of `open_run` on the run from a to b: "the sums opened as one job's shares, with the bundle's e"
abbrev pub RunReturned : List ℕ → ℕ → ℕ → Outputs → ℕ → Outputs → Type 0
RunReturned bs a b old =
    Returned (params_of bs) (shares_over bs a (b - a)) (open_run bs a b (length old.job) (length old.wrong) (length old.lowest)) old

abbrev pub RunTells : List ℕ → ℕ → ℕ → Outputs → ℕ → Outputs → Type 0
RunTells bs a b old =
    Tells (params_of bs) (allowance_of bs) (shares_over bs a (b - a)) (RunClear bs a b (length old.job) (length old.wrong) (length old.lowest)) old

abbrev pub RunTellsLowest : List ℕ → ℕ → ℕ → ℕ → Outputs → Type 0
RunTellsLowest bs a b = TellsLowest (params_of bs) (allowance_of bs) (shares_over bs a (b - a))

-- a wrong holder by its file: one of holder i, whose share differs from q
abbrev pub WrongFile : List ℕ → (ℕ → Element) → Polynomial → ℕ → Type 0
WrongFile bs w q i =
    (f : ℕ) × (f < files_of bs) × (holder_of bs f ≡ i) × (differs (params_of bs).k (params_of bs).d q (share_by bs w f) ≡ true)
