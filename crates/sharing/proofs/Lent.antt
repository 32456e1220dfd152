-- Lent shares: how many, under which holders; and what is known of them where no refusal ahead of 5 stops the call. Assumes nothing.
use mathlib.Core.Path.{◌≡◌, refl, ◌∙◌, ap}
use mathlib.Core.Bool.{true, false}
use mathlib.Core.List.{List, [], ◌∷◌}
use Prim.Native.Nat.{ℕ, zero, suc, ◌+◌, ◌-◌, ◌*◌, ◌^◌, ◌≤◌, ◌<◌}
use native.Mathlib.Numerals.{add-one}
use native.Mathlib.Omega.{arith}
use lib.Dec.{leb, ltb}
use lib.ListN.{length, take, drop, get_or, length-drop}
use lib.Seq.{drop-cons, length-take-le}
use borrow.Author.Tests.{leb-true, ltb-true, le-leb, lt-leb, lt-ltb, le-ltb}
use Rattle.words.specs.Faults.{params_fault, length_fault}
use Rattle.words.specs.Refusal.{HOLDER}
use Rattle.words.specs.Word.{in_width, all_in_width}
use Rattle.words.specs.declared.Params.{Params}
use Rattle.words.proofs.Faults.{params-clear, clear-params, length-clear, clear-length}
use Rattle.words.proofs.InRange.{ok-range, range-ok}
use Rattle.words.proofs.Refusals.{first-left, first-right, first-none, unless-held, unless-yes}
use Rattle.words.proofs.Tests.{and_left, and_right, and_both, and_yes, and_no}
use Rattle.algebra.specs.Shares.{All}
use Rattle.algebra.proofs.Shares.{all_map}
use Rattle.codewords.specs.Codeword.{Share}
use Rattle.codewords.specs.Opening.{lowest_room}
use Rattle.codewords.specs.WellFormed.{InWidth, Rising, Holders}
use Rattle.codewords.proofs.Without.{rising-different}
use Rattle.level.specs.Shares.{Sized}
use Rattle.sharing.specs.Clear.{LentClear}
use Rattle.sharing.specs.Opening.{lent, rising_to, lent_fault}

pub lent_length : (d : ℕ) (hs ws : List ℕ) → length (lent d hs ws) ≡ length hs
unfolding lent
lent_length d [] ws = refl
lent_length d (h ∷ hs) ws = ap suc (lent_length d hs (drop d ws))

-- holders that rise
pub lent-above : (d n prev : ℕ) (hs ws : List ℕ) → rising_to n prev hs ≡ true
    → All (λ (s : Share). (prev < s.holder) × (s.holder ≤ n)) (lent d hs ws)
unfolding lent rising_to
lent-above d n prev [] ws e = tt
lent-above d n prev (h ∷ hs) ws e =
    let l : prev < h = ltb-true prev h (and_left (ltb prev h) _ e) in
    let r = and_right (ltb prev h) _ e in (
      (l, leb-true h n (and_left (leb h n) _ r)),
      all_map (λ (s : Share) (x : (h < s.holder) × (s.holder ≤ n)). (omega (arith, x.0), x.1)) (lent d hs (drop d ws))
          (lent-above d n h hs (drop d ws) (and_right (leb h n) _ r)),
    )

pub lent-rising : (d n prev : ℕ) (hs ws : List ℕ) → rising_to n prev hs ≡ true → Rising (lent d hs ws)
unfolding lent rising_to
lent-rising d n prev [] ws e = tt
lent-rising d n prev (h ∷ hs) ws e =
    let r = and_right (leb h n) _ (and_right (ltb prev h) _ e) in
    let rest = lent d hs (drop d ws) in
    let above = lent-above d n h hs (drop d ws) r in
    (all_map (λ (s : Share) (x : (h < s.holder) × (s.holder ≤ n)). x.0) rest above, lent-rising d n h hs (drop d ws) r)

pub lent-holders : (d n : ℕ) (hs ws : List ℕ) → n < 2 ^ d → rising_to n 0 hs ≡ true → Holders d (lent d hs ws)
lent-holders d n hs ws l e = (
  all_map (λ (s : Share) (x : (0 < s.holder) × (s.holder ≤ n)). (x.0, omega (arith, x.1))) (lent d hs ws) (lent-above d n 0 hs ws e),
  rising-different (lent d hs ws) (lent-rising d n 0 hs ws e),
)

-- the holder at i decides, or the rest does
pub rising-low : (n prev : ℕ) (hs : List ℕ) (i : ℕ) → i < length hs → get_or hs i 0 ≤ prev → rising_to n prev (drop i hs) ≡ false
unfolding rising_to
rising-low n prev hs i h l = rw (drop-cons hs i 0 h) (and_no (ltb prev (get_or hs i 0)) _ (le-ltb prev (get_or hs i 0) l))

pub rising-high : (n prev : ℕ) (hs : List ℕ) (i : ℕ) → i < length hs → prev < get_or hs i 0 → n < get_or hs i 0 → rising_to n prev (drop i hs) ≡ false
unfolding rising_to
rising-high n prev hs i h m l =
    let x = get_or hs i 0 in
    rw (drop-cons hs i 0 h) (and_yes (ltb prev x) _ (lt-ltb prev x m) (and_no (leb x n) _ (lt-leb x n l)))

pub rising-next : (n prev : ℕ) (hs : List ℕ) (i : ℕ) → i < length hs → prev < get_or hs i 0 → get_or hs i 0 ≤ n
    → rising_to n prev (drop i hs) ≡ rising_to n (get_or hs i 0) (drop (i + 1) hs)
unfolding rising_to
rising-next n prev hs i h m l =
    let x = get_or hs i 0 in
    rw (add-one, drop-cons hs i 0 h) (and_yes (ltb prev x) _ (lt-ltb prev x m) (and_yes (leb x n) _ (le-leb x n l) refl))

-- there are at most n of them
pub rising-length : (n prev : ℕ) (hs : List ℕ) → rising_to n prev hs ≡ true → length hs ≤ n - prev
unfolding rising_to
rising-length n prev [] e = omega arith
rising-length n prev (h ∷ hs) e =
    let l : prev < h = ltb-true prev h (and_left (ltb prev h) _ e) in
    let r = and_right (ltb prev h) _ e in
    let m : h ≤ n = leb-true h n (and_left (leb h n) _ r) in
    let t : length hs ≤ n - h = rising-length n h hs (and_right (leb h n) _ r) in
    omega (arith, l, m, t)

-- words in width, in parts of a list
pub width-take : (k n : ℕ) (ws : List ℕ) → all_in_width k ws ≡ true → all_in_width k (take n ws) ≡ true
unfolding all_in_width
width-take k zero ws e = refl
width-take k (suc n) [] e = refl
width-take k (suc n) (w ∷ ws) e = and_both (in_width k w) _ (and_left (in_width k w) _ e) (width-take k n ws (and_right (in_width k w) _ e))

pub width-drop : (k n : ℕ) (ws : List ℕ) → all_in_width k ws ≡ true → all_in_width k (drop n ws) ≡ true
unfolding all_in_width
width-drop k zero ws e = e
width-drop k (suc n) [] e = refl
width-drop k (suc n) (w ∷ ws) e = width-drop k n ws (and_right (in_width k w) _ e)

-- d words in each share, in width where all of them are
pub lent-sized : (d : ℕ) (hs ws : List ℕ) → length ws ≡ length hs * d → Sized d (lent d hs ws)
unfolding lent
lent-sized d [] ws l = tt
lent-sized d (h ∷ hs) ws l = (length-take-le d ws (omega arith), lent-sized d hs (drop d ws) (length-drop d ws ∙ omega arith))

pub lent-width : (k d : ℕ) (hs ws : List ℕ) → length ws ≡ length hs * d → all_in_width k ws ≡ true → InWidth k d (lent d hs ws)
unfolding lent
lent-width k d [] ws l e = tt
lent-width k d (h ∷ hs) ws l e = (
  (length-take-le d ws (omega arith), width-take k d ws e),
  lent-width k d hs (drop d ws) (length-drop d ws ∙ omega arith) (width-drop k d ws e),
)

-- lent shares with no fault so far
pub lent-clear : (p : Params) (hs ws : List ℕ) (n w l : ℕ) → lent_fault p hs ws n w l ≡ 0 → LentClear p hs ws n w l
unfolding lent_fault
lent-clear p hs ws n w l e₁ =
    let e₂ = first-right (params_fault p) _ e₁ in
    let e₃ = first-right (length_fault (length hs * p.d) (length ws)) _ e₂ in
    let e₄ = first-right (length_fault p.d n) _ e₃ in
    let e₅ = first-right (length_fault 1 w) _ e₄ in
    record {
      params = range-ok p (params-clear p (first-left (params_fault p) _ e₁));
      words_length = length-clear (length hs * p.d) (length ws) (first-left (length_fault (length hs * p.d) (length ws)) _ e₂);
      output = length-clear p.d n (first-left (length_fault p.d n) _ e₃);
      wrong_output = length-clear 1 w (first-left (length_fault 1 w) _ e₄);
      lowest_output = length-clear lowest_room l (first-left (length_fault lowest_room l) _ e₅);
      rising = unless-held (rising_to p.n 0 hs) HOLDER (omega arith) (first-right (length_fault lowest_room l) _ e₅);
    }

pub clear-lent : (p : Params) (hs ws : List ℕ) (n w l : ℕ) → LentClear p hs ws n w l → lent_fault p hs ws n w l ≡ 0
unfolding lent_fault
clear-lent p hs ws n w l c =
    first-none (params_fault p) _ (clear-params p (ok-range p c.params))
    ∙ first-none (length_fault (length hs * p.d) (length ws)) _ (clear-length (length hs * p.d) (length ws) c.words_length)
    ∙ first-none (length_fault p.d n) _ (clear-length p.d n c.output)
    ∙ first-none (length_fault 1 w) _ (clear-length 1 w c.wrong_output)
    ∙ first-none (length_fault lowest_room l) _ (clear-length lowest_room l c.lowest_output)
    ∙ unless-yes (rising_to p.n 0 hs) HOLDER c.rising

pub clear-holders : (p : Params) (hs ws : List ℕ) (n w l : ℕ) → LentClear p hs ws n w l → Holders p.d (lent p.d hs ws)
clear-holders p hs ws n w l c = lent-holders p.d p.n hs ws (ok-range p c.params).n-high c.rising
