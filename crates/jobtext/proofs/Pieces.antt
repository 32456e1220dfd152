-- What stands on the output before each piece of the job text: the pieces before it; at the end all of them, which are the text. Assumes nothing.
use Rattle.std.proofs.Common.{◌≡◌, ℕ, ◌+◌, ◌<◌, List, Option, Result, Err, refl, ap, ◌∙◌, subst, le_of_lt}
use Rattle.std.specs.Io.KnownBytes.{Appends}
use Rattle.std.specs.Result.{MatchResult, IsOkAnd}
use Rattle.streams.specs.Moved.{AppendsStart}
use Rattle.streams.proofs.Pieces.{printed-none, printed-next, printed-start}
use Rattle.exporting.specs.Export.{export_fault, export_of, export_piece, export_pieces, pieces_from}
use Rattle.exporting.proofs.Export.{export-whole, export-begin}
use Rattle.words.specs.declared.Refusal.{Refusal}
use Rattle.records.specs.declared.Heading.{Heading}
use Rattle.bundle.specs.declared.Bundle.{Bundle}
use Rattle.listing.specs.Pieces.{Accepts}
use Rattle.listing.proofs.Input.{count_by, count_mapped}

-- how many pieces there are, by what accepting the input gave
module _ (bs : List ℕ) (r : Result Bundle Refusal) (a : Accepts r (export_fault bs) bs) where
  pub pieces-count : (n : ℕ) → MatchResult r (λ b. n ≡ b.heading.jobs) (λ _. n ≡ 1) → n ≡ export_pieces bs
  unfolding export_pieces
  pieces-count n m = count_by (export_fault bs) bs r a n m

  -- the same by the heading that is handed on
  pub pieces-mapped : (P : Bundle → Heading → Type 0) → ((b : Bundle) (h : Heading) → P b h → h ≡ b.heading) →
      (q : Result Heading Refusal) → MatchResult r (λ b. IsOkAnd q (P b)) (λ e. q ≡ Err e) →
      (n : ℕ) → MatchResult q (λ h. n ≡ h.jobs) (λ _. n ≡ 1) → n ≡ export_pieces bs
  unfolding export_pieces
  pieces-mapped P f q t n m = count_mapped (export_fault bs) bs r a P f q t n m

pub exported-none : (bs : List ℕ) (a : Option (List ℕ)) → Appends a a (pieces_from bs 0 0)
unfolding pieces_from
exported-none bs a = printed-none (pieces_from bs) (export_piece bs) (λ j. refl) (λ j n. refl) a 0 refl

module _ (bs : List ℕ) (a b c : Option (List ℕ)) (i : ℕ) (given : Appends a b (pieces_from bs 0 i)) where
  -- a piece that was written
  pub exported-next : Appends b c (export_piece bs i) → Appends a c (pieces_from bs 0 (i + 1))
  unfolding pieces_from
  exported-next p = printed-next (pieces_from bs) (export_piece bs) (λ j. refl) (λ j m. refl) a b c i given (i + 1) refl p

  -- one of which only a beginning may have been
  pub exported-start : i < export_pieces bs → AppendsStart b c (export_piece bs i) → AppendsStart a c (export_of bs)
  unfolding pieces_from
  exported-start h p =
      printed-start (pieces_from bs) (export_piece bs) (λ j. refl) (λ j m. refl) a b c i given (export_pieces bs) (export_of bs) h
      (export-begin bs i (le_of_lt h)) p

-- the last was
pub exported-all : (bs : List ℕ) (a b : Option (List ℕ)) (i : ℕ) → Appends a b (pieces_from bs 0 i) → i ≡ export_pieces bs → Appends a b (export_of bs)
exported-all bs a b i given e = subst (Appends a b) (ap (pieces_from bs 0) e ∙ export-whole bs) given
