-- The order of refusals, paper 01, "When a call declines": a fault is the paper's number, and 0 is none. Assumes nothing.
use Rattle.std.specs.Prelude.{ℕ, zero, suc, Bool, cond, Result}
use Rattle.std.specs.declared.result.Result.TheVariants.{Ok, Err}
use Rattle.words.specs.declared.Refusal.{Refusal}
use Rattle.words.specs.declared.Refusal.TheVariants.{Parameters, Length, WideWord, Holder, TooFewShares, NoCodeword, Malformed, Mismatched, OutOfRange, DeskClosed, Text}

-- the paper's table, by the names of the variants in code, in capitals: book, length, wide word, holder, too few, no curve, frame, strangers, place
abbrev pub PARAMETERS : ℕ
PARAMETERS = 1

abbrev pub LENGTH : ℕ
LENGTH = 2

abbrev pub WIDE_WORD : ℕ
WIDE_WORD = 3

abbrev pub HOLDER : ℕ
HOLDER = 4

abbrev pub TOO_FEW_SHARES : ℕ
TOO_FEW_SHARES = 5

abbrev pub NO_CODEWORD : ℕ
NO_CODEWORD = 6

abbrev pub MALFORMED : ℕ
MALFORMED = 7

abbrev pub MISMATCHED : ℕ
MISMATCHED = 8

abbrev pub OUT_OF_RANGE : ℕ
OUT_OF_RANGE = 9

-- paper 02, K5: "10 desk closed"
abbrev pub DESK_CLOSED : ℕ
DESK_CLOSED = 10

-- K6: "11 text"
abbrev pub TEXT : ℕ
TEXT = 11

-- the number of each refusal
abbrev pub number_of : Refusal → ℕ
number_of Parameters = PARAMETERS
number_of Length = LENGTH
number_of WideWord = WIDE_WORD
number_of Holder = HOLDER
number_of TooFewShares = TOO_FEW_SHARES
number_of NoCodeword = NO_CODEWORD
number_of Malformed = MALFORMED
number_of Mismatched = MISMATCHED
number_of OutOfRange = OUT_OF_RANGE
number_of DeskClosed = DESK_CLOSED
number_of Text = TEXT

-- the number that an outcome stands for
abbrev pub fault_in : {A : Type 0} → Result A Refusal → ℕ
fault_in (Ok x) = 0
fault_in (Err r) = number_of r

-- the first of two faults
unfoldable pub first : ℕ → ℕ → ℕ
first zero b = b
first (suc a) b = suc a

-- the fault c unless a test holds
unfoldable pub unless : Bool → ℕ → ℕ
unless t c = cond t 0 c

-- the first of the faults f 0, .., f (n - 1)
unfoldable pub first_of : (ℕ → ℕ) → ℕ → ℕ
first_of f zero = 0
first_of f (suc n) = first (first_of f n) (f n)

-- "Outputs keep their old contents": what an output holds after a call of that fault
abbrev pub kept : {A : Type 0} → ℕ → A → A → A
kept zero old new = new
kept (suc c) old new = old
