-- `put_job`: its pieces, one after another. Assumes nothing.
use mathlib.Core.Path.{◌≡◌, sym, ap, ap₂, ◌∙◌}
use Prim.Native.Nat.{ℕ, ◌+◌, ◌*◌, ◌≤◌}
use mathlib.Core.List.{[], ◌++◌}
use native.Mathlib.Omega.{arith}
use lib.ListN.{length, take, drop, length-append}
use Rattle.records.specs.Num.{le_bytes}
use Rattle.records.specs.Layout.{body_at, record_size, word_size, job_kind, job_len_of, job_len, job_size}
use Rattle.records.proofs.Num.{length-le_bytes}
use Rattle.writer.specs.Bytes.{words_bytes, job_bytes}
use Rattle.writer.specs.Write.{job_of}
use Rattle.writer.proofs.Put.{Written, written_none, written-more, written-number, written-end, prefix-length}
use Rattle.writer.proofs.Fits.{words_length, job-length}
use Rattle.writer.proofs.Calls.{job-pieces, job-words}
use Rattle.writer.proofs.put_job.Goals as goal
use Rattle.writer.proofs.put_job.Goals.{Start}

-- the bytes that the job takes
room : (s : Start) → body_at s.args.at + 8 + 8 * s.args.h.params.d ≤ length s.args.out.now
unfolding record_size job_len_of word_size
room s = omega (arith, s.requires)

pub overflow_add-body : goal.overflow_add-body
overflow_add-body c = omega (arith, room (goal.at.overflow_add-body c).Start, c.well_formed)

pub job_length-requires : goal.job_length-requires
job_length-requires c = c.requires.0

pub put_prefix-requires : goal.put_prefix-requires
put_prefix-requires c = omega (arith, room (goal.at.put_prefix-requires c).Start)

pub put_number-requires : goal.put_number-requires
put_number-requires c = omega (arith, room (goal.at.put_number-requires c).Start)

pub overflow_add-body-2 : goal.overflow_add-body-2
overflow_add-body-2 c =
    omega (
      arith,
      room (goal.at.overflow_add-body-2 c).Start,
      c.well_formed,
    )

pub put_words-requires : goal.put_words-requires
put_words-requires c = (
  omega (arith, room (goal.at.put_words-requires c).Start),
  c.requires.2,
)

pub returns : goal.returns
returns c =
    let s = (goal.at.returns c).Start in
    let h = s.args.h in
    let at = s.args.at in
    let d = s.args.out.now in
    let n = s.args.num in
    let xs = take h.params.d (drop s.args.from s.args.words.now) in
    let g = room s in
    let o₁ = c.put_prefix.new.out in
    let o₂ = c.put_number.new.out in
    let o₃ = c.put_words.new.out in
    let x = le_bytes 4 (job_len h) ++ le_bytes 2 job_kind in
    let k : length xs ≡ h.params.d = job-words h.params.d s.args.words.now s.args.from s.requires.2 in
    let nx : length x ≡ 6 = prefix-length (job_len h) job_kind in
    let ny : length (x ++ le_bytes 8 n) ≡ 6 + 8 = length-append x (le_bytes 8 n) ∙ ap₂ ◌+◌ nx (length-le_bytes 8 n) in
    let nz : length (words_bytes 8 xs) ≡ 8 * h.params.d = words_length 8 xs ∙ ap (λ (m : ℕ). 8 * m) k in
    let e₁ : o₁ ≡ take at d ++ (x ++ drop (at + 6) d) =
    c.put_prefix.ensures ∙ ap
    (λ (m : ℕ). take at d ++ ((le_bytes 4 m ++ le_bytes 2 job_kind) ++ drop (at + 6) d))
    c.job_length.ensures in
    let w₁ : Written d at x o₁ = written-more d at [] d x o₁ at 6 (written_none d at (omega arith)) (omega arith) (sym nx) (omega arith) e₁ in
    let w₂ : Written d at (x ++ le_bytes 8 n) o₂ = written-number d at x o₁ o₂ (at + 6) 8 n w₁ (omega arith) (omega arith)
    c.put_number.ensures in
    let w₃ : Written d at ((x ++ le_bytes 8 n) ++ words_bytes 8 xs) o₃ =
    written-more d at (x ++ le_bytes 8 n) o₂ (words_bytes 8 xs) o₃ (at + 6 + 8) (8 * h.params.d) w₂ (omega arith) (sym nz) (omega arith)
    c.put_words.ensures in
    written-end d at (job_bytes h (job_of n xs)) o₃ (job_size h) (rw (job-pieces h n xs k) at w₃) (job-length h (job_of n xs) k)
