-- The marked examples of paper 01, "Bench examples", and the samples of paper 02, K2 and K4, as a table of questions with their answers. What is asked is what
-- the contracts cite. Assumes nothing.
use Rattle.std.specs.Prelude.{List, [], ◌∷◌, ◌++◌, ℕ, ◌-◌, ◌^◌, ℤ, pos, neg_ℤ}
use Rattle.words.specs.Signed.{meaning}
use Rattle.words.specs.declared.Params.{Params}
use Rattle.galois.specs.Element.{Element, lower, product, inverse}
use Rattle.codewords.specs.Codeword.{Share}
use Rattle.codewords.specs.Opening.{Opening, declines, opens, secret_into, wrong_of}
use Rattle.sharing.specs.Dealing.{dealt}
use Rattle.sharing.specs.Opening.{lent, opening}
use Rattle.decimal.specs.Decimal.{ascii}
use Rattle.listing.specs.Listing.{listing_of}
use Rattle.mending.specs.Mended.{mended}
use Rattle.mending.specs.Report.{report_of}

pub data Question : Type 0 where
  -- k, d and two elements
  product_of : ℕ → ℕ → Element → Element → Question
  -- k, d and an element
  inverse_of : ℕ → ℕ → Element → Question
  -- k and a word
  reading_of : ℕ → ℕ → Question
  -- parameters, a job and the other coefficients
  dealing_of : Params → List ℕ → List ℕ → Question
  -- parameters, holders, their shares and e
  opening_of : Params → List ℕ → List ℕ → ℕ → Question
  -- the bytes of the program's input
  printed_for : List ℕ → Question
  -- the same of `mend`, and of a bundle that is mended
  reported_for : List ℕ → Question
  mended_from : List ℕ → Question

pub data Answer : Type 0 where
  words : List ℕ → Answer
  integer : ℤ → Answer
  -- a refusal's number
  refused : ℕ → Answer
  -- the set of the wrong holders, and the job
  opened : ℕ → List ℕ → Answer
  -- the bytes of the program's output
  text : List ℕ → Answer
  -- the bytes of a bundle
  bundle : List ℕ → Answer

abbrev pub told : Params → List Share → Opening → Answer
told p ss (declines c) = refused c
told p ss (opens q) = opened (wrong_of p.k p.d ss (opens q)) (secret_into [] (opens q))

unfoldable pub answer : Question → Answer
answer (product_of k d a b) = words (product k (lower d) a b)
answer (inverse_of k d a) = words (inverse k d a)
answer (reading_of k w) = integer (meaning k w)
answer (dealing_of p secret coefficients) = words (dealt p secret coefficients)
answer (opening_of p hs ws e) = told p (lent p.d hs ws) (opening p hs ws e p.d 1 64)
answer (printed_for bs) = text (listing_of bs)
answer (reported_for bs) = text (report_of bs)
answer (mended_from bs) = bundle (mended bs)

pub record Example : Type 0 where
  pub asked : Question
  pub expected : Answer

-- "With k 3, d 2, n 3", and t
abbrev pub bench : ℕ → Params
bench t = record { k = 3; d = 2; n = 3; t = t }

-- "Input of 256 bytes: e = 1; k 3, d 2, n 3, t 0, archive 7, jobs 10 and 11", a row for each record: length, kind and body
abbrev pub eight_bytes : ℕ → List ℕ
eight_bytes n = n ∷ 0 ∷ 0 ∷ 0 ∷ 0 ∷ 0 ∷ 0 ∷ 0 ∷ []

abbrev pub order : ℕ → List ℕ
order e = 3 ∷ 0 ∷ 0 ∷ 0 ∷ 16 ∷ 0 ∷ e ∷ []

abbrev pub heading : ℕ → List ℕ
heading holder = (19 ∷ 0 ∷ 0 ∷ 0 ∷ 1 ∷ 0 ∷ 3 ∷ 2 ∷ 3 ∷ 0 ∷ holder ∷ []) ++ eight_bytes 7 ++ (2 ∷ 0 ∷ 0 ∷ 0 ∷ [])

abbrev pub job : ℕ → ℕ → ℕ → List ℕ
job number first second = (26 ∷ 0 ∷ 0 ∷ 0 ∷ 2 ∷ 0 ∷ []) ++ eight_bytes number ++ eight_bytes first ++ eight_bytes second

-- "Job 10: (5,2), (5,2), (1,2). Job 11: (5,2), (1,2), (7,2).", by the first word of holder 3's share of job 10
abbrev pub sample_with : ℕ → List ℕ
sample_with first =
    order 1
    ++ heading 1
    ++ job 10 5 2
    ++ job 11 5 2
    ++ heading 2
    ++ job 10 5 2
    ++ job 11 1 2
    ++ heading 3
    ++ job 10 first 2
    ++ job 11 7 2

abbrev pub sample : List ℕ
sample = sample_with 1

abbrev pub table : List Example
table =
    -- M1
    record { asked = product_of 3 2 (0 ∷ 1 ∷ []) (0 ∷ 1 ∷ []); expected = words (7 ∷ 7 ∷ []) }
    -- M2
    ∷ record { asked = product_of 3 2 (0 ∷ 1 ∷ []) (1 ∷ 1 ∷ []); expected = words (7 ∷ 0 ∷ []) }
    -- M3
    ∷ record { asked = inverse_of 3 2 (0 ∷ 1 ∷ []); expected = words (7 ∷ 7 ∷ []) }
    -- M4
    ∷ record { asked = dealing_of (bench 1) (5 ∷ 2 ∷ []) (3 ∷ 1 ∷ []); expected = words (0 ∷ 3 ∷ 4 ∷ 4 ∷ 7 ∷ 5 ∷ []) }
    -- M5
    ∷ record { asked = opening_of (bench 1) (1 ∷ 2 ∷ 3 ∷ []) (0 ∷ 3 ∷ 4 ∷ 4 ∷ 7 ∷ 5 ∷ []) 0; expected = opened 0 (5 ∷ 2 ∷ []) }
    -- M6: the third changed
    ∷ record { asked = opening_of (bench 1) (1 ∷ 2 ∷ 3 ∷ []) (0 ∷ 3 ∷ 4 ∷ 4 ∷ 3 ∷ 5 ∷ []) 0; expected = refused 6 }
    -- M7: holders 1 and 3 only
    ∷ record { asked = opening_of (bench 1) (1 ∷ 3 ∷ []) (0 ∷ 3 ∷ 3 ∷ 5 ∷ []) 0; expected = opened 0 (1 ∷ 6 ∷ []) }
    -- M8: too few for e 1
    ∷ record { asked = opening_of (bench 1) (1 ∷ 2 ∷ 3 ∷ []) (0 ∷ 3 ∷ 4 ∷ 4 ∷ 7 ∷ 5 ∷ []) 1; expected = refused 5 }
    -- M9: holder 3 is wrong, bit 2 of the set
    ∷ record { asked = opening_of (bench 0) (1 ∷ 2 ∷ 3 ∷ []) (5 ∷ 2 ∷ 5 ∷ 2 ∷ 1 ∷ 2 ∷ []) 1; expected = opened 4 (5 ∷ 2 ∷ []) }
    -- M10: all agree modulo 2, and there is no codeword
    ∷ record { asked = opening_of (bench 0) (1 ∷ 2 ∷ 3 ∷ []) (5 ∷ 2 ∷ 1 ∷ 2 ∷ 7 ∷ 2 ∷ []) 1; expected = refused 6 }
    -- M9 and M10 as the program prints them: "Job 10 of the sample becomes `10 open 3/2 -3,2`" (paper 02, K4)
    ∷ record { asked = printed_for sample; expected = text (ascii "job state wrong words\n10 open 3/2 -3,2\n11 6 - -\n") }
    -- and what `mend` prints and writes for them: holder 3's share of job 10 becomes (5,2), and job 11 keeps its bytes
    ∷ record { asked = reported_for sample; expected = text (ascii "10 holder 3\n11 refused 6\n") }
    ∷ record { asked = mended_from sample; expected = bundle (sample_with 5) }
    -- M11: X³ times X
    ∷ record {
      asked = product_of 64 4 (0 ∷ 0 ∷ 0 ∷ 1 ∷ []) (0 ∷ 1 ∷ 0 ∷ 0 ∷ []);
      expected = words ((2 ^ 64 - 1) ∷ (2 ^ 64 - 1) ∷ 0 ∷ 0 ∷ []);
    }
    -- M12
    ∷ record { asked = reading_of 8 127; expected = integer (pos 127) }
    ∷ record { asked = reading_of 8 128; expected = integer (neg_ℤ (pos 128)) }
    -- k 1: 1 reads −1
    ∷ record { asked = reading_of 1 1; expected = integer (neg_ℤ (pos 1)) }
    ∷ []
