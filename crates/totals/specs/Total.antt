-- The total of a holder's file over a run of a bundle, paper 01: "4 for a named holder, 2, 9, 3" after the faults of the bundle; and the same added
-- to an element that the caller lends, paper 02, K3. What is said of file f is of a bundle that has no fault. Assumes nothing.
use Rattle.std.specs.Prelude.{ℕ, zero, suc, ◌+◌, ◌-◌, Bool, List, ◌++◌, length, get_or, drop}
use Rattle.words.specs.Refusal.{first, unless, kept, WIDE_WORD}
use Rattle.words.specs.Faults.{length_fault, width_fault}
use Rattle.words.specs.Word.{all_in_width}
use Rattle.galois.specs.Element.{Element, zip, sum, zero_e}
use Rattle.bundle.specs.Bundle.{bundle_heading, params_of, bundle_fault}
use Rattle.bundle.specs.Contents.{words_of}
use Rattle.fetch.specs.Fetch.{file_of, holder_fault, run_fault}
use Rattle.totals.specs.Values.{values_from, every}

-- the sum of n elements; "an empty run totals to zero words"
unfoldable pub sum_to : ℕ → ℕ → (ℕ → Element) → ℕ → Element
unfolding zip
sum_to k d s zero = zero_e d
sum_to k d s (suc n) = sum k (sum_to k d s n) (s n)

-- word j of each of n elements
abbrev pub words_no : ℕ → (ℕ → Element) → ℕ → List ℕ
words_no j s n = values_from (λ i. get_or (s i) j 0) 0 n

-- the total of file f over the n places from a on
abbrev pub run_total : List ℕ → ℕ → ℕ → ℕ → Element
run_total bs f a n = sum_to (params_of bs).k (params_of bs).d (λ i. words_of bs f (a + i)) n

-- "A wide word counts only in the job or run opened or added": the words at these places are in width
abbrev pub run_in_width : List ℕ → ℕ → ℕ → ℕ → Bool
run_in_width bs f a n = every (λ i. all_in_width (params_of bs).k (words_of bs f (a + i))) n

-- the number for a run of a holder's file, with an output of so many words, before the words of the run are looked at
unfoldable pub asked_fault : List ℕ → ℕ → ℕ → ℕ → ℕ → ℕ
unfolding holder_fault run_fault length_fault
asked_fault bs holder a b out =
    first (bundle_fault bs)
    (first (holder_fault bs holder)
    (first (length_fault (params_of bs).d out) (run_fault (bundle_heading bs) a b)))

-- the number for a total over the places a to b - 1, and what the output holds after it
unfoldable pub total_fault : List ℕ → ℕ → ℕ → ℕ → ℕ → ℕ
unfolding asked_fault
total_fault bs holder a b out = first (asked_fault bs holder a b out) (unless (run_in_width bs (file_of bs holder) a (b - a)) WIDE_WORD)

unfoldable pub total_words : List ℕ → ℕ → ℕ → ℕ → List ℕ → List ℕ
unfolding total_fault
total_words bs holder a b out = kept (total_fault bs holder a b (length out)) out (run_total bs (file_of bs holder) a (b - a))

-- an element added to the first words of a list, the others as they are
abbrev pub added_to : ℕ → List ℕ → Element → List ℕ
added_to k ws e = sum k ws e ++ drop (length e) ws

-- the number for a total added to a lent element: "A wide word in the lent element gives 3 too"
unfoldable pub add_total_fault : List ℕ → ℕ → ℕ → ℕ → List ℕ → ℕ
unfolding total_fault width_fault
add_total_fault bs holder a b running = first (total_fault bs holder a b (length running)) (width_fault (params_of bs).k running)

-- what is in the element after it: "A run of one file leaves there exactly the lent element plus the run's total"
unfoldable pub add_total_words : List ℕ → ℕ → ℕ → ℕ → List ℕ → List ℕ
unfolding add_total_fault
add_total_words bs holder a b running =
    kept (add_total_fault bs holder a b running) running (sum (params_of bs).k running (run_total bs (file_of bs holder) a (b - a)))
