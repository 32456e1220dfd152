-- How many pieces the report of an input has, by what accepting it gave. And what stands on the output before each piece of it: the pieces before
-- that one; at the end all of them, which are the report. Assumes nothing.
use Rattle.std.proofs.Common.{◌≡◌, ℕ, ◌+◌, ◌<◌, List, Option, Result, Ok, Err, true, refl, sym, ap, ◌∙◌, subst, le_of_lt}
use Rattle.std.specs.Result.{MatchResult, IsOkAnd, is_ok}
use Rattle.std.specs.Io.KnownBytes.{Appends}
use Rattle.streams.specs.Moved.{AppendsStart}
use Rattle.streams.proofs.Pieces.{printed-none, printed-next, printed-start}
use Rattle.mending.specs.Report.{report_of, report_piece, report_pieces, pieces_from}
use Rattle.mending.proofs.Report.{report-whole, report-begin}
use Rattle.words.specs.declared.Refusal.{Refusal}
use Rattle.records.specs.declared.Heading.{Heading}
use Rattle.bundle.specs.declared.Bundle.{Bundle}
use Rattle.listing.specs.Listing.{input_fault}
use Rattle.listing.specs.Pieces.{Accepts}
use Rattle.listing.proofs.Input.{count_by, count_mapped}

module _ (bs : List ℕ) (r : Result Bundle Refusal) (a : Accepts r (input_fault bs) bs) where
  pub pieces-count : (n : ℕ) → MatchResult r (λ b. n ≡ b.heading.jobs) (λ _. n ≡ 1) → n ≡ report_pieces bs
  unfolding report_pieces
  pieces-count n m = count_by (input_fault bs) bs r a n m

  -- the same by the heading that is handed on
  pub pieces-mapped : (P : Bundle → Heading → Type 0) → ((b : Bundle) (h : Heading) → P b h → h ≡ b.heading) →
      (q : Result Heading Refusal) → MatchResult r (λ b. IsOkAnd q (P b)) (λ e. q ≡ Err e) →
      (n : ℕ) → MatchResult q (λ h. n ≡ h.jobs) (λ _. n ≡ 1) → n ≡ report_pieces bs
  unfolding report_pieces
  pieces-mapped P f q t n m = count_mapped (input_fault bs) bs r a P f q t n m

-- an input that is accepted has no fault
pub accepted-clear : (r : Result Bundle Refusal) (bs : List ℕ) → Accepts r (input_fault bs) bs → is_ok r ≡ true → input_fault bs ≡ 0
accepted-clear (Ok b) bs a t = sym a.0
accepted-clear (Err e) bs a t = cc

pub reported-none : (bs : List ℕ) (a : Option (List ℕ)) → Appends a a (pieces_from bs 0 0)
unfolding pieces_from
reported-none bs a = printed-none (pieces_from bs) (report_piece bs) (λ j. refl) (λ j n. refl) a 0 refl

module _ (bs : List ℕ) (a b c : Option (List ℕ)) (i : ℕ) (given : Appends a b (pieces_from bs 0 i)) where
  -- a piece that was written
  pub reported-next : Appends b c (report_piece bs i) → Appends a c (pieces_from bs 0 (i + 1))
  unfolding pieces_from
  reported-next p = printed-next (pieces_from bs) (report_piece bs) (λ j. refl) (λ j m. refl) a b c i given (i + 1) refl p

  -- one of which only a beginning may have been
  pub reported-start : i < report_pieces bs → AppendsStart b c (report_piece bs i) → AppendsStart a c (report_of bs)
  unfolding pieces_from
  reported-start h p =
      printed-start (pieces_from bs) (report_piece bs) (λ j. refl) (λ j m. refl) a b c i given (report_pieces bs) (report_of bs) h
      (report-begin bs i (le_of_lt h)) p

-- the last was
pub reported-all : (bs : List ℕ) (a b : Option (List ℕ)) (i : ℕ) → Appends a b (pieces_from bs 0 i) → i ≡ report_pieces bs → Appends a b (report_of bs)
reported-all bs a b i given e = subst (Appends a b) (ap (pieces_from bs 0) e ∙ report-whole bs) given
