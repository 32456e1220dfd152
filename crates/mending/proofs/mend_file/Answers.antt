-- `mend_file`: the holder's bit is clear and the job stays as it is, or the value of the polynomial goes over its words. Assumes nothing.
use borrow.Author.Rules.{rules}
use mathlib.Core.Path.{sym, ap, ◌∙◌}
use mathlib.Core.List.{List}
use Prim.Native.Nat.{ℕ, ◌+◌, ◌*◌, ◌≤◌, ◌<◌}
use native.Mathlib.Omega.{arith}
use lib.ListN.{length}
use lib.Seq.{length-take-le}
use Rattle.records.specs.declared.Heading.{Heading}
use Rattle.bundle.specs.Bundle.{files_of}
use Rattle.bundle.specs.declared.Bundle.{Bundle}
use Rattle.records.specs.Layout.{word_size, job_len_of}
use Rattle.fetch.proofs.Places.{job-asks, job-spot, job-fits}
use Rattle.mending.proofs.Mended.{mended-length}
use Rattle.mending.proofs.Turns.{holder-few, value-asks, bit-clear, bit-set, turn-left, turn-put}
use Rattle.mending.proofs.mend_file.Goals as goal
use Rattle.mending.proofs.mend_file.Goals.{After-file_holder-holder, After-job_at, After-value_at-words, Start}

abbrev bundle : Start → Bundle
bundle s = s.args.bundle.now

abbrev bs : Start → List ℕ
bs s = (bundle s).bytes.now

abbrev h : Start → Heading
h s = (bundle s).heading

file-there : (s : Start) → s.args.f < files_of (bs s)
file-there s = omega (arith, s.requires.1, (bundle s).counted)

few : (c : After-file_holder-holder) → (1 ≤ c.file_holder-holder.result) × (c.file_holder-holder.result ≤ 63)
few c =
    let s = (goal.at.After-file_holder-holder c).Start in
    holder-few (bs s) (bundle s).sound (h s) (bundle s).headed s.args.f c.file_holder-holder.result (file-there s) c.file_holder-holder.ensures

-- the job's words are within the bytes
within : (c : After-job_at) → c.job_at.result + 6 + 8 + 8 * c.args.bundle.now.heading.params.d ≤ length (bs (goal.at.After-job_at c).Start)
unfolding job_len_of word_size
within c =
    let s = (goal.at.After-job_at c).Start in
    omega (
      arith,
      job-fits (bs s) (bundle s).sound (h s) (bundle s).headed s.args.f (file-there s) s.args.place c.job_at.result s.requires.2
          c.job_at.ensures,
    )

room : (c : After-job_at) → c.job_at.result + 6 + 8 + 8 * c.args.bundle.now.heading.params.d ≤ length c.args.out.now
room c =
    let s = (goal.at.After-job_at c).Start in
    let n = ap length s.requires.5 ∙ mended-length (bs s) (bundle s).sound s.requires.0 s.args.place s.args.f in
    omega (arith, n, within c)

-- the value's array has them
abbrev D : After-value_at-words → ℕ
D c = c.args.bundle.now.heading.params.d

long : (c : After-value_at-words) → D c ≤ length c.value_at-words.result
long c =
    let s = (goal.at.After-value_at-words c).Start in
    let a = value-asks (bs s) (bundle s).sound (h s) (bundle s).headed in
    search rules

pub names-requires : goal.names-requires
names-requires c = few c

pub returns-then-not-names : goal.returns-then-not-names
returns-then-not-names c =
    let o = (goal.at.returns-then-not-names c).After-file_holder-holder in
    let s = (goal.at.After-file_holder-holder o).Start in
    s.requires.5
    ∙ turn-left (bs s) (bundle s).sound (h s) (bundle s).headed s.args.f o.file_holder-holder.result (file-there s) o.file_holder-holder.ensures
    s.requires.0 s.args.place s.args.wrong s.requires.4
    (bit-clear _ (sym c.names.ensures ∙ c.if-not-names.true))

pub job_at-requires : goal.job_at-requires
job_at-requires c =
    let s = (goal.at.job_at-requires c).Start in
    job-asks (bs s) (bundle s).sound (h s) (bundle s).headed s.args.f (file-there s) s.args.place (omega (arith, s.requires.2))

pub overflow_add-at : goal.overflow_add-at
overflow_add-at c = omega (arith, within c, c.well_formed)

pub overflow_add-at-2 : goal.overflow_add-at-2
overflow_add-at-2 c = omega (arith, within c, c.well_formed)

pub value_at-words-requires : goal.value_at-words-requires
value_at-words-requires c =
    let s = (goal.at.value_at-words-requires c).Start in
    value-asks (bs s) (bundle s).sound (h s) (bundle s).headed

pub slice_bounds-words-end : goal.slice_bounds-words-end
slice_bounds-words-end c = long (goal.at.slice_bounds-words-end c).After-value_at-words

pub slice_bounds-put_words-end : goal.slice_bounds-put_words-end
slice_bounds-put_words-end c = let v = (goal.at.slice_bounds-put_words-end c).After-value_at-words in sym (length-take-le (D v) v.value_at-words.result (long v))

pub put_words-requires : goal.put_words-requires
put_words-requires c =
    let v = (goal.at.put_words-requires c).After-value_at-words in
    let n = length-take-le (D v) v.value_at-words.result (long v) in
    (room (goal.at.After-value_at-words v).After-job_at, omega (arith, n))

pub returns : goal.returns
returns c =
    let a = (goal.at.returns c).After-job_at in
    let o = (goal.at.After-job_at a).After-file_holder-holder in
    let s = (goal.at.After-file_holder-holder o).Start in
    let v = c.value_at-words in
    turn-put (bs s) (bundle s).sound (h s) (bundle s).headed s.args.f o.file_holder-holder.result (file-there s) o.file_holder-holder.ensures
    s.requires.0 s.args.place s.args.wrong s.requires.4 s.requires.2 0 s.args.rows s.requires.3
    (bit-set _ (sym a.names.ensures ∙ a.if-not-names.false)) v.result a.job_at.result s.args.out.now c.put_words.new.out v.ensures
    (job-spot (bs s) (bundle s).sound (h s) (bundle s).headed s.args.f (file-there s) s.args.place a.job_at.result s.requires.2
    a.job_at.ensures)
    s.requires.5 c.put_words.ensures
