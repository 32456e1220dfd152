-- The text of a listing in the pieces that the program writes one at a time, paper 01, "The opened bundle". Assumes nothing.
use Rattle.std.specs.Prelude.{◌≡◌, ℕ, zero, suc, cond, List, [], ◌++◌, ltb, Result}
use Rattle.std.specs.Result.{ForOk}
use Rattle.words.specs.Refusal.{kept, fault_in}
use Rattle.words.specs.declared.Refusal.{Refusal}
use Rattle.bundle.specs.Bundle.{bundle_heading}
use Rattle.bundle.specs.declared.Bundle.{Bundle}
use Rattle.text.specs.Text.{head_line, refused_line}
use Rattle.listing.specs.Listing.{line_of, input_fault}

-- "A declined bundle prints only `refused N`", or the first line and then a line a place, and nothing after it: piece i, by the input's fault
abbrev pub piece_by : ℕ → List ℕ → ℕ → List ℕ
piece_by zero bs zero = head_line
piece_by zero bs (suc p) = cond (ltb p (bundle_heading bs).jobs) (line_of bs p) []
piece_by (suc c) bs zero = refused_line (suc c)
piece_by (suc c) bs (suc i) = []

-- piece i of what is printed for an input
unfoldable pub piece : List ℕ → ℕ → List ℕ
piece bs i = piece_by (input_fault bs) bs i

-- how many pieces there are
unfoldable pub pieces_in : List ℕ → ℕ
pieces_in bs = kept (input_fault bs) 1 (suc (bundle_heading bs).jobs)

-- the n pieces from i on, one after another
unfoldable pub pieces_from : List ℕ → ℕ → ℕ → List ℕ
pieces_from bs i zero = []
pieces_from bs i (suc n) = piece bs i ++ pieces_from bs (suc i) n

-- r is what accepting the bytes bs gives, where c is their fault
abbrev pub Accepts : Result Bundle Refusal → ℕ → List ℕ → Type 0
Accepts r c bs = (fault_in r ≡ c) × ForOk r (λ b. b.bytes.now ≡ bs)
