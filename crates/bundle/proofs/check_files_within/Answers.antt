-- The loop of `check_files_within`: the files passed have no fault, and with those that may still stand they are as many as may. Assumes nothing.
use mathlib.Core.Path.{◌≡◌, sym, ap, ◌∙◌}
use Prim.Native.Nat.{◌+◌, ◌≤◌, ◌<◌}
use native.Mathlib.Omega.{arith}
use lib.ListN.{length}
use Rattle.std.proofs.lemmas.Bool.{ltb-true, ltb-false}
use Rattle.words.specs.Refusal.{MALFORMED}
use Rattle.words.proofs.Refusals.{number-some, handed_out}
use Rattle.records.specs.Layout.{file_size}
use Rattle.records.specs.Record.{heading_of}
use Rattle.bundle.specs.Bundle.{file_fault_at}
use Rattle.records.proofs.Lengths.{head-low, file-low}
use Rattle.records.proofs.Record.{test_refused}
use Rattle.bundle.specs.Acceptance.{FileOk}
use Rattle.bundle.proofs.Headings.{Ranges, ok-ranges}
use Rattle.bundle.proofs.Files.{file-ok, files-start, files-stop, files-next, files-none, files-passed, place-low, place-start}
use Rattle.bundle.proofs.Files.{files-empty, files-some, one-empty, one-stop, one-over, one-whole}
use Rattle.bundle.proofs.check_files_within.Goals as goal
use Rattle.bundle.proofs.check_files_within.Goals.{After-file_size-at, In_ok-h, In_ok-unless}

pub returns-in_err-unless : goal.returns-in_err-unless
returns-in_err-unless c =
    let bs = c.args.bytes.now in
    let e = handed_out c.from_residual.result c.in_err-unless.field-0.0 c.from_residual.ensures.1 in
    let t = test_refused c.in_err-unless.field-0.0 _ MALFORMED c.in_err-unless.ensures.fault in
    let l : length bs ≤ c.args.start = ltb-false c.args.start (length bs) t.0 in
    record {
      all = λ _. e ∙ t.1 ∙ sym (files-empty bs c.args.start l);
      one = λ z _. e ∙ t.1 ∙ sym (one-empty bs (omega (arith, l, z)));
    }

-- past the first test some byte stands
some : (c : In_ok-unless) → c.args.start < length c.args.bytes.now
some c = ltb-true _ _ c.in_ok-unless.ensures.ok

pub loop-at-init : goal.loop-at-init
loop-at-init c = (0, (files-start c.args.bytes.now c.args.start (omega (arith, some c)), omega arith))

-- what stands after as many files as may is a fault: not where all the bytes may be files, since a file is not empty
pub returns-in_err-unless-2 : goal.returns-in_err-unless-2
returns-in_err-unless-2 c =
    let l = c.loop-at in
    let bs = c.args.bytes.now in
    let start = c.args.start in
    let f = l.invariant.0 in
    let j = l.invariant.1.0 in
    let n = l.invariant.1.1 in
    let t = c.loop-at-test.true in
    let e = handed_out c.from_residual-in_err-unless-2.result c.in_err-unless-2.field-0.0 c.from_residual-in_err-unless-2.ensures.1 in
    let y = test_refused c.in_err-unless-2.field-0.0 _ MALFORMED c.in_err-unless-2.ensures.fault in
    let none : l.left ≤ 0 = ltb-false 0 l.left y.0 in
    record {
      all = λ m. absurd (omega (arith, m, n, t, none, place-low bs start f, j.at-is));
      one = λ z m.
          let g : f ≡ 1 = omega (arith, m, n, none) in
          e ∙ y.1 ∙ sym (one-over bs l.at l.prev (rw (z, g) at j) (omega (arith, t)) t);
    }

pub check_file_at-requires : goal.check_file_at-requires
check_file_at-requires c =
    let l = c.loop-at in
    omega (arith, place-start c.args.bytes.now c.args.start l.invariant.0, l.invariant.1.0.at-is, l.invariant.1.0.within)

pub returns-in_err-h : goal.returns-in_err-h
returns-in_err-h c =
    let l = c.loop-at in
    let bs = c.args.bytes.now in
    let start = c.args.start in
    let f = l.invariant.0 in
    let j = l.invariant.1.0 in
    let r = c.in_err-h.field-0.0 in
    let h = handed_out c.from_residual-in_err-h.result r c.from_residual-in_err-h.ensures.1 in
    let e = c.in_err-h.ensures.fault in
    record {
      all = λ _. h ∙ e ∙ sym (files-some bs start (some (goal.at.returns-in_err-h c).In_ok-unless)
          ∙ files-stop bs start f l.at l.prev j c.loop-at-test.true (λ z. number-some r (e ∙ z)));
      one = λ z m.
          let left : 0 < l.left = ltb-true 0 l.left c.in_ok-unless-2.ensures.ok in
          let g : f ≡ 0 = omega (arith, m, l.invariant.1.1, left) in
          let e₀ = rw z at e in
          h ∙ e₀ ∙ sym (one-stop bs l.at l.prev (rw (z, g) at j) (λ y. number-some r (e₀ ∙ y)));
    }

-- the file that has no fault
no_fault : (c : In_ok-h) → file_fault_at c.args.bytes.now c.args.start c.loop-at.prev c.loop-at.at ≡ 0
no_fault c = sym c.in_ok-h.ensures.fault

file : (c : In_ok-h) → FileOk c.args.bytes.now c.args.start c.loop-at.prev c.loop-at.at
file c = file-ok c.args.bytes.now c.args.start c.loop-at.prev c.loop-at.at (no_fault c)

pub file_size-at-requires : goal.file_size-at-requires
file_size-at-requires c =
    let r : Ranges c.in_ok-h.h = rw c.in_ok-h.ensures.heading (ok-ranges _ (file c).heading.ranges) in
    (r.book.d-high, r.jobs_high)

size_is : (c : After-file_size-at) → c.file_size-at.result ≡ file_size (heading_of c.args.bytes.now c.loop-at.at)
size_is c = c.file_size-at.ensures ∙ ap file_size c.in_ok-h.ensures.heading

size_fits : (c : After-file_size-at) → c.loop-at.at + c.file_size-at.result ≤ length c.args.bytes.now
size_fits c = rw (size_is c) (file (goal.at.After-file_size-at c).In_ok-h).within

size_low : (c : After-file_size-at) → 7 ≤ c.file_size-at.result
size_low c =
    let h = heading_of c.args.bytes.now c.loop-at.at in
    omega (arith, size_is c, head-low h, file-low h)

pub overflow_add-at : goal.overflow_add-at
overflow_add-at c = omega (arith, size_fits c, c.well_formed)

pub loop-at-smaller : goal.loop-at-smaller
loop-at-smaller c = omega (arith, size_low c, size_fits c)

pub loop-at-preserved : goal.loop-at-preserved
loop-at-preserved c =
    let l = c.loop-at in
    let left : 0 < l.left = ltb-true 0 l.left c.in_ok-unless-2.ensures.ok in
    let bs = c.args.bytes.now in (
      l.invariant.0 + 1,
      (
        rw (size_is c, c.in_ok-h.ensures.heading)
            (files-next bs c.args.start l.invariant.0 l.at l.prev l.invariant.1.0
            c.loop-at-test.true (no_fault (goal.at.loop-at-preserved c).In_ok-h)),
        omega (arith, l.invariant.1.1, left),
      ),
    )

pub returns : goal.returns
returns c =
    let l = c.loop-at in
    let bs = c.args.bytes.now in
    let start = c.args.start in
    let f = l.invariant.0 in
    let j = l.invariant.1.0 in
    let s = some (goal.at.returns c).In_ok-unless in
    record {
      all = λ _. sym (files-some bs start s ∙ files-none bs start f l.at l.prev j c.loop-at-test.false);
      one = λ z m.
          let g : f ≡ 1 = omega (arith, m, l.invariant.1.1, files-passed bs start f l.at l.prev j (omega (arith, s, c.loop-at-test.false))) in
          sym (one-whole bs l.at l.prev (rw (z, g) at j) (omega (arith, s)) c.loop-at-test.false);
    }
