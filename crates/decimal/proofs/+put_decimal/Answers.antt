-- `put_decimal`: one digit, or the digits of a tenth of the number and then the last one. Assumes nothing.
use native.Mathlib.Omega.{arith}
use mathlib.Core.Path.{◌≡◌, ap}
use mathlib.Core.List.{[], ◌∷◌}
use Prim.Native.Nat.{◌+◌, ◌/◌, ◌%◌}
use lib.ListN.{length}
use Rattle.decimal.specs.Decimal.{decimal}
use Rattle.decimal.proofs.Written.{wrote-more}
use Rattle.decimal.proofs.Decimal.{decimal-small, decimal-large, longer}
use Rattle.decimal.proofs.+put_decimal.Goals as goal

pub put_byte-requires : goal.put_byte-requires
put_byte-requires t c =
    let e : length (decimal c.args.x) ≡ 1 = ap length (decimal-small c.args.x c.if-x-lt10.true) in
    omega (arith, c.requires)

pub returns-then-x-lt10 : goal.returns-then-x-lt10
returns-then-x-lt10 t c = rw (decimal-small c.args.x c.if-x-lt10.true) c.put_byte.ensures

pub put_decimal-p-requires : goal.put_decimal-p-requires
put_decimal-p-requires t c =
    let l = longer c.args.x c.if-x-lt10.false in
    (omega (arith, c.decreases), omega (arith, c.requires))

pub put_byte-requires-2 : goal.put_byte-requires-2
put_byte-requires-2 t c = omega (arith, c.requires, c.put_decimal-p.ensures.1, c.put_decimal-p.auto.out, longer c.args.x c.if-x-lt10.false)

pub returns : goal.returns
returns t c =
    let x = c.args.x in
    let l = longer x c.if-x-lt10.false in
    rw (decimal-large x c.if-x-lt10.false)
    (wrote-more c.args.out.now (decimal (x / 10)) ((48 + x % 10) ∷ []) c.args.at (omega (arith, c.requires)) c.put_decimal-p.ensures c.put_byte-2.ensures)
