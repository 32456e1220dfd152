-- The loop of `add_jobs_by`: the jobs passed are added, and their words taken together. Assumes nothing.
use mathlib.Core.Path.{◌≡◌}
use Prim.Native.Nat.{ℕ, ◌+◌, ◌*◌, ◌≤◌}
use lib.Bits.{bit_or}
use lib.ListN.{take, drop}
use Rattle.words.specs.Word.{in_width, all_in_width}
use Rattle.galois.specs.Element.{sum, reduce}
use Rattle.totals.specs.Values.{every}
use Rattle.totals.specs.Total.{sum_to}
use Rattle.totals.proofs.Runs.{job_words}
use Rattle.totals.proofs.add_jobs_by.Given as goal

abbrev pub invariant-loop : goal.invariant-loop
invariant-loop l = (l.here ≡ l.at + l.counter * l.size) × ((k : ℕ) → in_width k (bit_or l.even l.odd) ≡ every (λ i. all_in_width k (job_words l.bytes l.d l.at l.size i)) l.counter)
    × ((k : ℕ) → k ≤ 64 → reduce k (take l.d l.running) ≡ sum k l.initial.running (sum_to k l.d (job_words l.bytes l.d l.at l.size) l.counter))
    × (drop l.d l.running ≡ drop l.d l.initial.running)
