-- Every piece of the text of an input fits into a line: refusals are small numbers, a job's number has eight bytes, and the words of an opened job
-- are in width. Assumes nothing.
use mathlib.Core.Path.{◌≡◌, refl, subst}
use mathlib.Core.Bool.{Bool, true, false, cond}
use mathlib.Core.List.{List, []}
use mathlib.Core.Logic.{inl, inr}
use Prim.Native.Nat.{ℕ, zero, suc, ◌^◌, ◌≤◌, ◌<◌}
use native.Mathlib.Omega.{arith}
use lib.Dec.{leb, ltb}
use lib.ListN.{length, get_or}
use Rattle.words.specs.Refusal.{unless, LENGTH}
use Rattle.words.proofs.Refusals.{first_holds, unless_holds}
use Rattle.codewords.specs.Codeword.{error_set, positions}
use Rattle.codewords.specs.Opening.{Opening, declines, opens, fault_of, JobState}
use Rattle.codewords.proofs.Positions.{positions-bytes}
use Rattle.codewords.proofs.Value.{free-element}
use Rattle.records.specs.Layout.{body_at}
use Rattle.records.specs.Num.{Bytes}
use Rattle.records.proofs.Num.{le_at-lt}
use Rattle.bundle.specs.Bundle.{num_of, bundle_fault, job_at, bundle_heading, params_of}
use Rattle.bundle.proofs.Bundles.{bundle-ok, bundle-ranges}
use Rattle.archive.specs.Archive.{shares_at, place_opening}
use Rattle.archive.proofs.Ahead.{bundle-holds}
use Rattle.archive.proofs.Opens.{place-states}
use Rattle.text.specs.Text.{line_room}
use Rattle.text.proofs.Lines.{open-length, declined-length, refused-length}
use Rattle.listing.specs.Listing.{line_by, line_of, most_input, input_fault}
use Rattle.listing.specs.Pieces.{piece_by, piece}
use Rattle.listing.proofs.Input.{fault-none}
use Rattle.listing.proofs.Lines.{place-poly}

-- ---- no refusal is above 9

pub input-le : (bs : List ℕ) → input_fault bs ≤ 9
unfolding input_fault
input-le bs =
    first_holds (λ c. c ≤ 9) (unless (leb (length bs) most_input) LENGTH) (bundle_fault bs)
    (unless_holds (λ c. c ≤ 9) (omega arith) _ LENGTH (omega arith))
    (bundle-holds (λ c. c ≤ 9) (omega arith) (omega arith) (omega arith) (omega arith) (omega arith) bs)

pub place-le : (bs : List ℕ) (p : ℕ) → fault_of (place_opening bs p) ≤ 9
place-le bs p = go (place-states bs p)
  where
    go : JobState (place_opening bs p) → fault_of (place_opening bs p) ≤ 9
    go (inl x) = rw x.1 (omega arith)
    go (inr (inl x)) = rw x (omega arith)
    go (inr (inr x)) = rw x (omega arith)

-- ---- the pieces

pub num-lt : (bs : List ℕ) (at : ℕ) → Bytes bs → num_of bs at < 2 ^ 64
unfolding num_of
num-lt bs at b = le_at-lt 8 bs (body_at at) b

line-length : (bs : List ℕ) (p : ℕ) → Bytes bs → bundle_fault bs ≡ 0 → length (line_of bs p) ≤ line_room
unfolding line_of
line-length bs p b z = go (place_opening bs p) refl
  where
    number_lt : num_of bs (job_at bs 0 p) < 2 ^ 64
    number_lt = num-lt bs (job_at bs 0 p) b

    go : (o : Opening) → place_opening bs p ≡ o → length (line_by (params_of bs) (shares_at bs p) (num_of bs (job_at bs 0 p)) o) ≤ line_room
    go (declines c) e =
        let l : c ≤ 9 = subst (λ (o : Opening). fault_of o ≤ 9) e (place-le bs p) in
        declined-length (num_of bs (job_at bs 0 p)) c number_lt (omega arith)
    go (opens q) e =
        let r = (bundle-ranges bs (bundle-ok bs z)).book in
        let w = (free-element (params_of bs).k (params_of bs).d (params_of bs).t q (place-poly bs p q e)).0 in
        open-length (num_of bs (job_at bs 0 p)) (error_set (params_of bs).k (params_of bs).d q (shares_at bs p))
        (positions (params_of bs).k (params_of bs).d q (shares_at bs p)) (params_of bs).k (get_or q 0 [])
        number_lt (positions-bytes (params_of bs).k (params_of bs).d q (shares_at bs p)) r.k-high (omega (arith, w, r.d-high))

pub piece-fits : (bs : List ℕ) (i : ℕ) → Bytes bs → length (piece bs i) ≤ line_room
unfolding piece
piece-fits bs i b = go (input_fault bs) i refl
  where
    go : (c i : ℕ) → input_fault bs ≡ c → length (piece_by c bs i) ≤ line_room
    go zero zero e = omega arith
    go zero (suc p) e = at (ltb p (bundle_heading bs).jobs)
      where
        at : (t : Bool) → length (cond t (line_of bs p) []) ≤ line_room
        at true = line-length bs p b (fault-none bs e)
        at false = omega arith
    go (suc c) zero e = refused-length (suc c) (omega (arith, input-le bs, e))
    go (suc c) (suc i) e = omega arith
