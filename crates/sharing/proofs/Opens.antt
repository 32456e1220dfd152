-- Demand 3 for the call on lent shares, by what it returned (`shares-tell`), with shares that have a wide word among them (`shares-wide`), for which it
-- never gives 3 (`shares-not-wide`), and with the lowest bits at which wrong shares differ (`shares-lowest`); and of what they open to, where none of 1, 2, 4 applies and there are shares enough (`lent-decides`). Assumes
-- nothing.
use mathlib.Core.Path.{◌≡◌, refl}
use mathlib.Core.Bool.{true}
use mathlib.Core.List.{List}
use Prim.Native.Nat.{ℕ, ◌+◌, ◌*◌, ◌≤◌}
use lib.Dec.{eqb}
use lib.ListN.{length}
use Rattle.words.specs.Faults.{params_fault, length_fault}
use Rattle.words.specs.Params.{params_ok}
use Rattle.words.specs.Refusal.{PARAMETERS, LENGTH, WIDE_WORD, HOLDER}
use Rattle.words.specs.Word.{all_in_width}
use Rattle.words.specs.declared.Params.{Params}
use Rattle.words.proofs.Refusals.{first_holds, unless_holds}
use Rattle.codewords.specs.Demand.{Decides, Outputs}
use Rattle.codewords.specs.Opening.{declines, fault_of, lowest_room, answer_to}
use Rattle.codewords.proofs.Opening.{unless-none, unless-some, answer-states, narrow, never-wide}
use Rattle.codewords.proofs.Tells.{other, Ahead, call-decides, tells, tells-wide, tells-lowest}
use Rattle.sharing.specs.Clear.{LentClear, SharesReturned, SharesTell, SharesTellWide, SharesTellLowest}
use Rattle.sharing.specs.Opening.{lent, rising_to, lent_fault, opening}
use Rattle.sharing.proofs.Lent.{lent_length, lent-width, lent-clear, clear-lent, clear-holders}

pub opening-clear : (p : Params) (hs ws : List ℕ) (e n w l : ℕ) → lent_fault p hs ws n w l ≡ 0 → opening p hs ws e n w l ≡ answer_to p e (lent p.d hs ws)
unfolding opening
opening-clear p hs ws e n w l f = unless-none (lent_fault p hs ws n w l) (answer_to p e (lent p.d hs ws)) f

pub opening-stopped : (p : Params) (hs ws : List ℕ) (e n w l : ℕ) → (lent_fault p hs ws n w l ≡ 0 → ⊥) →
    opening p hs ws e n w l ≡ declines (lent_fault p hs ws n w l)
unfolding opening
opening-stopped p hs ws e n w l f = unless-some (lent_fault p hs ws n w l) (answer_to p e (lent p.d hs ws)) f

-- the refusals ahead of 5 are 1, 2, 4
lent-holds : (P : ℕ → Type 0) → P 0 → P PARAMETERS → P LENGTH → P HOLDER → (p : Params) (hs ws : List ℕ) (n w l : ℕ) → P (lent_fault p hs ws n w l)
unfolding lent_fault params_fault length_fault
lent-holds P none one two four p hs ws n w l =
    first_holds P (params_fault p) _ (unless_holds P none (params_ok p) PARAMETERS one)
    (first_holds P (length_fault (length hs * p.d) (length ws)) _ (unless_holds P none (eqb (length ws) (length hs * p.d)) LENGTH two)
    (first_holds P (length_fault p.d n) _ (unless_holds P none (eqb n p.d) LENGTH two)
    (first_holds P (length_fault 1 w) _ (unless_holds P none (eqb w 1) LENGTH two)
    (first_holds P (length_fault lowest_room l) _ (unless_holds P none (eqb l lowest_room) LENGTH two)
    (unless_holds P none (rising_to p.n 0 hs) HOLDER four)))))

lent-ahead : (p : Params) (hs ws : List ℕ) (n w l : ℕ) → Ahead p (lent p.d hs ws) (LentClear p hs ws n w l) (lent_fault p hs ws n w l)
lent-ahead p hs ws n w l =
    record {
      clear = lent-clear p hs ws n w l;
      none = clear-lent p hs ws n w l;
      apart = lent-holds (λ c. other c ≡ true) refl refl refl refl p hs ws n w l;
      params = λ c. c.params;
      holders = clear-holders p hs ws n w l;
    }

pub lent-decides : (p : Params) (hs ws : List ℕ) (e n w l : ℕ) → LentClear p hs ws n w l → p.t + 1 + 2 * e ≤ length hs →
    Decides p e (lent p.d hs ws) (opening p hs ws e n w l)
unfolding opening
lent-decides p hs ws e n w l c m = call-decides p e (lent p.d hs ws) (lent-ahead p hs ws n w l) c (rw (lent_length p.d hs ws) m)

-- 0 tells that the parameters are in their ranges, all lengths right, the holders rising from 1 to n, and the shares enough; that the first output is
-- then the job of the one polynomial of degree at most t within e, and the second has exactly the holders of the lent shares that differ from it. 6
-- tells the same of what was lent, and that there is no such polynomial.
pub shares-tell : (p : Params) (hs ws : List ℕ) (e : ℕ) (old : Outputs) (r : ℕ) (new : Outputs) →
    SharesReturned p hs ws e old r new → SharesTell p hs ws e old r new
unfolding opening
shares-tell p hs ws e old r new g =
    tells p e (lent p.d hs ws) (lent-ahead p hs ws (length old.job) (length old.wrong) (length old.lowest)) old r new g

-- 0 tells that the holder of each lent share with a wide word is named; and where none of 1, 2, 4 applies, the shares are enough and more than e of
-- them have a wide word, the number is 6.
pub shares-wide : (p : Params) (hs ws : List ℕ) (e : ℕ) (old : Outputs) (r : ℕ) (new : Outputs) →
    SharesReturned p hs ws e old r new → SharesTellWide p hs ws e old r new
unfolding opening
shares-wide p hs ws e old r new g =
    tells-wide p e (lent p.d hs ws) (lent-ahead p hs ws (length old.job) (length old.wrong) (length old.lowest)) old r new g

-- 0 tells that the third output has, for each holder that is named, the lowest bit at which its share differs from the codeword's value: lent words
-- are words of 64 bits.
pub shares-lowest : (p : Params) (hs ws : List ℕ) (e : ℕ) (old : Outputs) (r : ℕ) (new : Outputs) → all_in_width 64 ws ≡ true →
    SharesReturned p hs ws e old r new → SharesTellLowest p hs ws e r new
unfolding opening
shares-lowest p hs ws e old r new h g z =
    let a = lent-ahead p hs ws (length old.job) (length old.wrong) (length old.lowest) in
    let c = ((shares-tell p hs ws e old r new g).opened.0 z).0 in
    tells-lowest p e (lent p.d hs ws) a old r new g (lent-width 64 p.d hs ws c.words_length h) z

-- "Opening one job no longer gives 3"
pub shares-not-wide : (p : Params) (hs ws : List ℕ) (e n w l : ℕ) → fault_of (opening p hs ws e n w l) ≡ WIDE_WORD → ⊥
unfolding opening
shares-not-wide p hs ws e n w l =
    never-wide (lent_fault p hs ws n w l) (answer_to p e (lent p.d hs ws)) (lent-holds (λ c. narrow c ≡ true) refl refl refl refl p hs ws n w l)
    (answer-states p e (lent p.d hs ws))
