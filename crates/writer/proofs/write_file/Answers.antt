-- `write_file`: declined, or the heading and then the jobs. Assumes nothing.
use mathlib.Core.Path.{◌≡◌, refl, sym, ap, ◌∙◌}
use Prim.Native.Nat.{ℕ, ◌+◌, ◌*◌, ◌≤◌}
use mathlib.Core.List.{[], ◌++◌}
use native.Mathlib.Omega.{arith}
use lib.ListN.{length, length-append}
use Rattle.words.proofs.Refusals.{kept-none}
use Rattle.records.specs.Layout.{head_size, job_size, file_size}
use Rattle.records.specs.declared.Heading.{Heading}
use Rattle.records.proofs.Lengths.{file-low}
use Rattle.bundle.proofs.Headings.{ok-ranges}
use Rattle.writer.specs.Bytes.{heading_bytes, jobs_bytes, file_bytes}
use Rattle.writer.specs.Write.{heading_for, jobs_of, file_for, write_fault}
use Rattle.writer.proofs.Put.{Written, written_none, written-more, written_all}
use Rattle.writer.proofs.Fits.{heading-length}
use Rattle.writer.proofs.Calls.{Writable, writable, jobs-bytes}
use Rattle.writer.proofs.write_file.Goals as goal
use Rattle.writer.proofs.write_file.Goals.{After-head_size, In_ok-check_write, Start}

abbrev h : Start → Heading
h c = heading_for c.args.p c.args.holder c.args.archive (length c.args.numbers.now)

none : (c : In_ok-check_write) → write_fault (h (goal.at.In_ok-check_write c).Start) c.args.numbers.now c.args.words.now (length c.args.out.now) ≡ 0
unfolding heading_for
none c = sym c.in_ok-check_write.ensures

-- the lists can be written
good : (c : In_ok-check_write) → Writable (h (goal.at.In_ok-check_write c).Start) c.args.numbers.now c.args.words.now (length c.args.out.now)
good c = writable (h (goal.at.In_ok-check_write c).Start) c.args.numbers.now c.args.words.now (length c.args.out.now) (none c)

pub put_heading-requires : goal.put_heading-requires
unfolding heading_for
put_heading-requires c =
    let w = good (goal.at.put_heading-requires c).In_ok-check_write in
    (w.ranges, w.holder, omega (arith, w.room, file-low (h (goal.at.put_heading-requires c).Start)))

-- where the jobs stand, and that there is room for them
room : (c : After-head_size) → c.head_size.result + length c.args.numbers.now * job_size (h (goal.at.After-head_size c).Start) ≡ length c.args.out.now
unfolding file_size heading_for
room c =
    ap (λ (n : ℕ). n + length c.args.numbers.now * job_size (h (goal.at.After-head_size c).Start)) c.head_size.ensures
    ∙ sym (good (goal.at.After-head_size c).In_ok-check_write).room

source : (c : In_ok-check_write) → length c.args.numbers.now * c.args.p.d ≤ length c.args.words.now
unfolding heading_for
source c = omega (arith, (good c).count)

pub put_jobs-requires : goal.put_jobs-requires
unfolding heading_for
put_jobs-requires c =
    let b = (goal.at.put_jobs-requires c).In_ok-check_write in
    let r = ok-ranges (h (goal.at.put_jobs-requires c).Start) (good b).ranges in
    (r.book.d-high, omega (arith, room c, c.put_heading.auto.out), source b)

pub returns : goal.returns
unfolding file_bytes file_for heading_for
returns c =
    let s = (goal.at.returns c).Start in
    let b = (goal.at.returns c).In_ok-check_write in
    let d = c.args.out.now in
    let ns = c.args.numbers.now in
    let ws = c.args.words.now in
    let x = h s in
    let js = jobs_of c.args.p.d ns ws in
    let e : write_fault x ns ws (length d) ≡ 0 = none b in
    let hs = c.head_size.result in
    let o₁ = c.put_heading.new.out in
    let o₂ = c.put_jobs.new.out in
    let r = room (goal.at.returns c).After-head_size in
    let n : length (heading_bytes x) ≡ head_size x = heading-length x in
    let m : length (jobs_bytes x js) ≡ length ns * job_size x = jobs-bytes x ns ws (source b) in
    let k : hs ≡ head_size x = c.head_size.ensures in
    let w₁ : Written d 0 (heading_bytes x) o₁ =
    written-more d 0 [] d (heading_bytes x) o₁ 0 (head_size x) (written_none d 0 (omega arith)) refl (sym n) (omega arith) c.put_heading.ensures in
    let w₂ : Written d 0 (heading_bytes x ++ jobs_bytes x js) o₂ =
    written-more d 0 (heading_bytes x) o₁ (jobs_bytes x js) o₂ hs (length ns * job_size x) w₁ (omega arith) (sym m) (omega arith) c.put_jobs.ensures in
    let t : length (heading_bytes x ++ jobs_bytes x js) ≡ length d = length-append (heading_bytes x) (jobs_bytes x js) ∙ omega arith in
    (sym e, written_all d (heading_bytes x ++ jobs_bytes x js) o₂ w₂ t ∙ sym (kept-none _ d _ e))
