-- `words::all_in_width` meets its contract: the words seen, taken together, and the rest. Assumes nothing.
use Rattle.std.proofs.Common.{◌≡◌, ◌&&◌, drop}
use Rattle.words.specs.Word.{in_width, all_in_width}
use Rattle.words.proofs.all_in_width.Given as goal

abbrev pub invariant-loop-w : goal.invariant-loop-w
invariant-loop-w l = (in_width l.k l.seen && all_in_width l.k (drop l.w-index l.s)) ≡ all_in_width l.k l.s
