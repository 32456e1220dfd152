-- Laws of what stands in bytes: how many words and jobs, and each by its place. Assumes nothing.
use mathlib.Core.Path.{◌≡◌, refl, ap, ◌∙◌}
use Prim.Native.Nat.{ℕ, zero, suc, ◌+◌, ◌*◌, ◌<◌}
use native.Mathlib.Omega.{arith}
use mathlib.Core.List.{List}
use lib.ListN.{length, get_or}
use lib.Seq.{drop-cons}
use Rattle.records.specs.Num.{le_at, le_num, part}
use Rattle.records.specs.Layout.{job_size}
use Rattle.bundle.specs.Contents.{words_from, jobs_from}
use Rattle.records.specs.declared.Heading.{Heading}

pub words_count : (w : ℕ) (bs : List ℕ) (n at : ℕ) → length (words_from w bs n at) ≡ n
unfolding words_from
words_count w bs zero at = refl
words_count w bs (suc n) at = ap suc (words_count w bs n (at + w))

pub words-at : (w : ℕ) (bs : List ℕ) (n at i : ℕ) → i < n → get_or (words_from w bs n at) i 0 ≡ le_at w bs (at + w * i)
unfolding words_from
words-at w bs zero at i h = absurd (omega arith)
words-at w bs (suc n) at zero h = ap (le_at w bs) (let z : at ≡ at + w * 0 = omega arith in z)
words-at w bs (suc n) at (suc i) h =
    words-at w bs n (at + w) i (omega arith) ∙ ap (le_at w bs) (let z : at + w + w * i ≡ at + w * suc i = omega arith in z)

pub jobs-count : (h : Heading) (bs : List ℕ) (n at : ℕ) → length (jobs_from h bs n at) ≡ n
unfolding jobs_from
jobs-count h bs zero at = refl
jobs-count h bs (suc n) at = ap suc (jobs-count h bs n (at + job_size h))

-- one byte spells itself
pub one_byte : (bs : List ℕ) (a : ℕ) → a < length bs → le_at 1 bs a ≡ get_or bs a 0
unfolding le_at le_num part
one_byte bs a h = rw (drop-cons bs a 0 h) (omega arith)
