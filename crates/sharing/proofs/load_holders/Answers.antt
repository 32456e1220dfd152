-- `sharing::load_holders` meets its contract. Assumes nothing.
use Rattle.std.proofs.Common.{ℕ, List, length, take, drop, replicate, refl, ap, ◌∙◌, ◌++◌, take_at}
use Rattle.sharing.proofs.load_holders.Goals as goal

pub returns : goal.returns
returns c =
    let h = c.args.holders.now in
    let rest : List ℕ = drop (length h) (replicate 63 0) in
    ap (λ l. take (length h) (l ++ rest)) c.copy_from_slice.ensures.after ∙ take_at h rest (length h) refl
