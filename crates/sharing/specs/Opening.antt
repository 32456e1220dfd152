-- Opening lent shares, paper 01, "Ring, points, shares" and "When a call declines". Assumes nothing.
use Rattle.std.specs.Prelude.{ℕ, ◌*◌, Bool, true, ◌&&◌, List, [], ◌∷◌, leb, ltb, length, take, drop}
use Rattle.words.specs.Faults.{params_fault, length_fault}
use Rattle.words.specs.Refusal.{first, unless, HOLDER}
use Rattle.words.specs.declared.Params.{Params}
use Rattle.codewords.specs.Codeword.{Share}
use Rattle.codewords.specs.Opening.{Opening, lowest_room, unless_fault, answer_to}

-- shares as they are lent: holders, and the d words of each in turn
unfoldable pub lent : ℕ → List ℕ → List ℕ → List Share
lent d [] ws = []
lent d (h ∷ hs) ws = record { holder = h; words = take d ws } ∷ lent d hs (drop d ws)

-- "a holder is outside 1 to n, holders do not strictly rise": each above the one before it, which is 0 for the first
unfoldable pub rising_to : ℕ → ℕ → List ℕ → Bool
rising_to n prev [] = true
rising_to n prev (h ∷ hs) = ltb prev h && (leb h n && rising_to n h hs)

-- the refusals ahead of 5 and 6, for outputs of n and of w words and of l bytes: the job's, the wrong holders' and their positions'; "Order outside
-- files: 1, 2, 4", and paper 02, K1: "Opening one job no longer gives 3"
unfoldable pub lent_fault : Params → List ℕ → List ℕ → ℕ → ℕ → ℕ → ℕ
unfolding first unless params_fault length_fault rising_to
lent_fault p hs ws n w l =
    first (params_fault p)
    (first (length_fault (length hs * p.d) (length ws))
    (first (length_fault p.d n)
    (first (length_fault 1 w)
    (first (length_fault lowest_room l) (unless (rising_to p.n 0 hs) HOLDER)))))

-- the shares ws of the holders hs, with the error bound e, into outputs of n and of w words and of l bytes
unfoldable pub opening : Params → List ℕ → List ℕ → ℕ → ℕ → ℕ → ℕ → Opening
unfolding lent lent_fault answer_to
opening p hs ws e n w l = unless_fault (lent_fault p hs ws n w l) (answer_to p e (lent p.d hs ws))
