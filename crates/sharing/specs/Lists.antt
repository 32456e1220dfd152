-- Lists of shares that the theorems on dealt shares speak of: those of some holders, those made from others share by share, and which
-- of them have been changed. Assumes nothing.
use Rattle.std.specs.Prelude.{ℕ, zero, suc, ◌+◌, ◌-◌, ◌*◌, ◌^◌, List, [], ◌∷◌, ◌++◌, take, drop}
use Rattle.galois.specs.Element.{Element}
use Rattle.comparison.specs.Comparison.{apart}
use Rattle.codewords.specs.Codeword.{Share, when}

-- of the shares of all holders, one after another, those of the holders hs
unfoldable pub of_holders : ℕ → List ℕ → List ℕ → List ℕ
of_holders d [] ws = []
of_holders d (h ∷ hs) ws = take d (drop ((h - 1) * d) ws) ++ of_holders d hs ws

-- a call on each of n elements, and on each of n pairs in the same place
unfoldable pub on_each : (Element → Element) → ℕ → ℕ → List ℕ → List ℕ
on_each f d zero ws = []
on_each f d (suc n) ws = f (take d ws) ++ on_each f d n (drop d ws)

unfoldable pub on_pairs : (Element → Element → Element) → ℕ → ℕ → List ℕ → List ℕ → List ℕ
on_pairs f d zero vs ws = []
on_pairs f d (suc n) vs ws = f (take d vs) (take d ws) ++ on_pairs f d n (drop d vs) (drop d ws)

-- the set of the holders whose shares in the second list have other words than those in the same place of the first
unfoldable pub changed_set : List Share → List Share → ℕ
changed_set [] rs = 0
changed_set (s ∷ ss) [] = 0
changed_set (s ∷ ss) (r ∷ rs) = when (apart r.words s.words) (2 ^ (r.holder - 1)) + changed_set ss rs
