-- What stands on the output before each piece of a listing: the pieces before it; at the end all of them, which are the listing. Assumes nothing.
use Rattle.std.proofs.Common.{◌≡◌, ℕ, ◌+◌, ◌≤◌, ◌<◌, List, Option, refl, subst}
use Rattle.std.specs.Io.KnownBytes.{Appends}
use Rattle.streams.specs.Moved.{AppendsStart}
use Rattle.streams.proofs.Pieces.{printed-none, printed-next, printed-start}
use Rattle.listing.specs.Listing.{listing_of}
use Rattle.listing.specs.Pieces.{piece, pieces_in, pieces_from}
use Rattle.listing.proofs.Pieces.{pieces-begin, pieces-list}

pub listed-none : (bs : List ℕ) (a : Option (List ℕ)) (i : ℕ) → i ≡ 0 → Appends a a (pieces_from bs 0 i)
unfolding pieces_from
listed-none bs a i z = printed-none (pieces_from bs) (piece bs) (λ j. refl) (λ j n. refl) a i z

module _ (bs : List ℕ) (a b c : Option (List ℕ)) (i : ℕ) (given : Appends a b (pieces_from bs 0 i)) where
  -- a piece that was written
  pub listed-next : (n : ℕ) → n ≡ i + 1 → Appends b c (piece bs i) → Appends a c (pieces_from bs 0 n)
  unfolding pieces_from
  listed-next n e p = printed-next (pieces_from bs) (piece bs) (λ j. refl) (λ j m. refl) a b c i given n e p

  -- one of which only a beginning may have been
  pub listed-start : i < pieces_in bs → AppendsStart b c (piece bs i) → AppendsStart a c (listing_of bs)
  unfolding pieces_from
  listed-start h p =
      printed-start (pieces_from bs) (piece bs) (λ j. refl) (λ j m. refl) a b c i given (pieces_in bs) (listing_of bs) h (pieces-begin bs i) p

-- the last was
pub listed-all : (bs : List ℕ) (a b : Option (List ℕ)) (i : ℕ) → Appends a b (pieces_from bs 0 i) → pieces_in bs ≤ i → Appends a b (listing_of bs)
listed-all bs a b i given h = subst (Appends a b) (pieces-list bs i h) given
