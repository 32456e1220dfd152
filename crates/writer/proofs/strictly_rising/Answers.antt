-- `strictly_rising`: each number is below the next. Assumes nothing.
use lib.Dec.{ltb}
use Rattle.std.proofs.Common.{rules, of_calls}
use Rattle.std.proofs.lemmas.Fn.{always_returns_same}
use Rattle.writer.proofs.Calls.{rising-told}
use Rattle.writer.proofs.strictly_rising.Goals as goal

pub returns : goal.returns
returns c =
    rising-told c.args.numbers.now c.is_sorted_by.result
    (c.is_sorted_by.ensures.cases (λ x y. ltb x y) (always_returns_same _ _ _ (λ a r f k. search (rules, of_calls))))
