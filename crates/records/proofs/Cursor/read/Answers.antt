-- `Cursor::read`: each return is a case of the read. Assumes nothing.
use mathlib.Core.Path.{◌≡◌, sym, ap₂, ◌∙◌}
use Prim.Native.Nat.{ℕ, ◌+◌}
use mathlib.Core.Bool.{true}
use native.Mathlib.Omega.{arith}
use Rattle.std.specs.declared.option.Option.TheVariants.{Some}
use Rattle.std.specs.declared.result.Result.TheVariants.{Ok}
use Rattle.std.proofs.lemmas.Bool.{leb-true, leb-false}
use Rattle.records.specs.Layout.{body_at, record_size, body_size, known}
use Rattle.records.specs.Record.{len_at, kind_at}
use Rattle.records.proofs.Record.{read-end, read_short, read-unknown, read-cut, read-record, told, read_refused}
use Rattle.records.proofs.Lengths.{known-min}
use Rattle.records.proofs.Cursor.read.Goals as goal
use Rattle.records.proofs.Cursor.read.Goals.{After-known_length, In_ok-unless-3}

-- what the calls gave, where all three have returned
len_is : (c : After-known_length) → c.number-len.result ≡ len_at c.args.bytes.now c.args.self.at
unfolding len_at
len_is c = c.number-len.ensures

kind_is : (c : After-known_length) → c.number-kind.result ≡ kind_at c.args.bytes.now c.args.self.at
unfolding kind_at
kind_is c = c.number-kind.ensures

known_is : (c : After-known_length) → let bs = c.args.bytes.now in let at = c.args.self.at in c.known_length.result ≡ known (kind_at bs at) (len_at bs at)
known_is c = c.known_length.ensures ∙ ap₂ known (kind_is c) (len_is c)

pub returns-then-at-bytes : goal.returns-then-at-bytes
returns-then-at-bytes c =
    let a = c.args in
    told a.bytes.now a.self.at _ (sym (read-end a.bytes.now a.self.at c.if-at-bytes.true))

pub returns-in_err-unless : goal.returns-in_err-unless
returns-in_err-unless c =
    let bs = c.args.bytes.now in
    let at = c.args.self.at in
    read_refused bs at c.from_residual.result c.in_err-unless.field-0.0 _ c.from_residual.ensures.1 c.in_err-unless.ensures.fault
    (λ f. read_short bs at c.if-at-bytes.false (omega (arith, leb-false _ _ f)))

pub returns-in_err-unless-2 : goal.returns-in_err-unless-2
returns-in_err-unless-2 c =
    let bs = c.args.bytes.now in
    let at = c.args.self.at in
    read_refused bs at c.from_residual-in_err-unless-2.result c.in_err-unless-2.field-0.0 _ c.from_residual-in_err-unless-2.ensures.1
    c.in_err-unless-2.ensures.fault (λ f. read_short bs at c.if-at-bytes.false (omega (arith, leb-false _ _ f)))

pub returns-in_err-unless-3 : goal.returns-in_err-unless-3
returns-in_err-unless-3 c =
    let bs = c.args.bytes.now in
    let at = c.args.self.at in
    let o = (goal.at.returns-in_err-unless-3 c).After-known_length in
    read_refused bs at c.from_residual-in_err-unless-3.result c.in_err-unless-3.field-0.0 _ c.from_residual-in_err-unless-3.ensures.1
    c.in_err-unless-3.ensures.fault (λ f. read-unknown bs at c.if-at-bytes.false (sym (known_is o) ∙ f))

pub returns-in_err-unless-4 : goal.returns-in_err-unless-4
unfolding record_size
returns-in_err-unless-4 c =
    let bs = c.args.bytes.now in
    let at = c.args.self.at in
    let o = (goal.at.returns-in_err-unless-4 c).After-known_length in
    read_refused bs at c.from_residual-in_err-unless-4.result c.in_err-unless-4.field-0.0 _ c.from_residual-in_err-unless-4.ensures.1
    c.in_err-unless-4.ensures.fault (λ f. read-cut bs at c.if-at-bytes.false (omega (arith, len_is o, leb-false _ _ f)))

is_known : (c : In_ok-unless-3) → let bs = c.args.bytes.now in let at = c.args.self.at in known (kind_at bs at) (len_at bs at) ≡ true
is_known c = sym (known_is (goal.at.In_ok-unless-3 c).After-known_length) ∙ c.in_ok-unless-3.ensures.ok

pub overflow_sub-result : goal.overflow_sub-result
overflow_sub-result c =
    let bs = c.args.bytes.now in
    let at = c.args.self.at in
    omega (
      arith,
      len_is (goal.at.overflow_sub-result c).After-known_length,
      known-min (kind_at bs at) (len_at bs at) (is_known (goal.at.overflow_sub-result c).In_ok-unless-3),
    )

pub returns : goal.returns
unfolding record_size body_size
returns c =
    let bs = c.args.bytes.now in
    let at = c.args.self.at in
    let o = (goal.at.returns c).After-known_length in
    let fits = leb-true _ _ c.in_ok-unless-4.ensures.ok in
    let least = leb-true _ _ c.in_ok-unless-2.ensures.ok in
    told bs at _
    (ap₂ (λ (k l : ℕ). Ok (Some (record { kind = k; start = body_at at; len = body_size l; next = record { at = at + record_size l } }))) (kind_is o)
    (len_is o)
    ∙ sym (read-record bs at c.if-at-bytes.false (is_known (goal.at.returns c).In_ok-unless-3) (omega (arith, len_is o, fits, least))))
