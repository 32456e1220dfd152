-- The signed reading: sign and magnitude stand for the meaning, and so does the number of 64 bits in two's complement; a sum of words reads as
-- the sum of their meanings where that fits. Assumes nothing.
use Rattle.std.proofs.Common.{◌≡◌, ℕ, zero, suc, ◌+◌, ◌-◌, ◌*◌, ◌/◌, ◌%◌, ◌^◌, ◌<◌, ◌≤◌, Bool, true, false, cond, ltb, List, [], ◌∷◌, ℤ, pos, negsuc, ◌+ℤ◌, ◌-ℤ◌, neg_ℤ, nat_abs, ◌≤ℤ◌, sym, refl, ap, ◌∙◌, le_of_suc-le-suc, not-suc-le-zero, mod-lt, mod-eq_of_lt, pow-suc, lt_of_not-le, zero-add, mul-one, arith, lit<, leb→le, pow_pos, ltb-false, ltb-true, le-ltb, lt-ltb}
use native.Mathlib.Nat.{mod-mod, mod-add-div, add-mul-mod_self_left}
use native.Mathlib.Nat.{pow-le-pow_right, div-eq_of_lt}
use lib.IntN.{sub_ℕ, +ℤ_assoc, +ℤ_comm, +ℤ-neg_ℤ_cancel, -ℤ-+ℤ_cancel, pos-ne-negsuc}
use lib.Signed.{mag}
use Rattle.words.specs.Word.{sub_w, neg_w}
use Rattle.words.specs.Faults.{signed_fault}
use Rattle.words.specs.Signed.{meaning, signed_of, integer, twos_complement, int64, sum_of_meanings, sum_of}
use Rattle.words.proofs.Signs.{signed-clear}

pub two-halves : (k : ℕ) → 1 ≤ k → 2 ^ k ≡ 2 ^ (k - 1) + 2 ^ (k - 1)
two-halves zero h = absurd (not-suc-le-zero h)
two-halves (suc k) h =
    let e : suc k - 1 ≡ k = omega arith in
    rw (e, pow-suc) (omega arith)

-- the shift's answer: 0 below a half, and something else from there on
pub top-clear : (w h : ℕ) → 0 < h → w / h ≡ 0 → w < h
top-clear w h p e =
    let q : w % h + h * 0 ≡ w = rw e at (mod-add-div w h) in
    omega (arith, q, mod-lt w p)

pub top_set : (w h : ℕ) → (w / h ≡ 0 → ⊥) → h ≤ w
top_set w h f = le_of_suc-le-suc (lt_of_not-le (λ (l : w < h). f (div-eq_of_lt l)))

-- the magnitude of a negative word
pub negated : (k w : ℕ) → 0 < w → w < 2 ^ k → sub_w k 0 w ≡ 2 ^ k - w
unfolding sub_w neg_w
negated k w p h =
    let l : 2 ^ k - w < 2 ^ k = omega arith in
    rw (zero-add, mod-mod, mod-eq_of_lt h, mod-eq_of_lt l)

pub meaning-low : (k w : ℕ) → w < 2 ^ (k - 1) → meaning k w ≡ pos w
unfolding meaning
meaning-low k w h = rw (lt-ltb w (2 ^ (k - 1)) h)

pub meaning-high : (k w : ℕ) → 2 ^ (k - 1) ≤ w → meaning k w ≡ pos w -ℤ pos (2 ^ k)
unfolding meaning
meaning-high k w h = rw (le-ltb w (2 ^ (k - 1)) h)

-- a difference, from the sum that it stands for
sub_of : (a b n : ℕ) → a + suc n ≡ b → pos a -ℤ pos b ≡ negsuc n
sub_of a b n e =
    let l : ltb b (suc n) ≡ false = le-ltb b (suc n) (omega arith) in
    let d : b - suc n ≡ a = omega arith in
    let s : negsuc n +ℤ pos b ≡ pos a = rw (l, d) in
    ap (λ (z : ℤ). z -ℤ pos b) (sym s) ∙ +ℤ-neg_ℤ_cancel (negsuc n) (pos b)

sum-of : (a b n : ℕ) → sub_ℕ a b ≡ pos n → a ≡ n + b
sum-of a b n = by (ltb a b) refl
  where
    by : (c : Bool) → ltb a b ≡ c → cond c (negsuc (b - suc a)) (pos (a - b)) ≡ pos n → a ≡ n + b
    by true l e = absurd (pos-ne-negsuc n (b - suc a) (sym e))
    by false l e =
        let d : a - b ≡ n = ap nat_abs e in
        omega (arith, ltb-false a b l)

-- sign and magnitude stand for the meaning
pub signed-integer : (k w : ℕ) → w < 2 ^ k → integer (signed_of k w) ≡ meaning k w
unfolding integer signed_of meaning
signed-integer k w h = by (ltb w (2 ^ (k - 1)))
  where
    minus : (m : ℕ) → w + m ≡ 2 ^ k → 0 < m → neg_ℤ (pos m) ≡ pos w -ℤ pos (2 ^ k)
    minus zero e p = absurd (not-suc-le-zero p)
    minus (suc n) e p = sym (sub_of w (2 ^ k) n e)

    by : (c : Bool) → integer (cond c (record { negative = false; magnitude = w }) (record { negative = true; magnitude = 2 ^ k - w }))
        ≡ cond c (pos w) (pos w -ℤ pos (2 ^ k))
    by true = refl
    by false = minus (2 ^ k - w) (omega arith) (omega arith)

-- and so does the number of 64 bits in two's complement
pub complement-meaning : (k w : ℕ) → 1 ≤ k → k ≤ 64 → w < 2 ^ k → int64 (twos_complement (signed_of k w)) ≡ meaning k w
unfolding int64 twos_complement signed_of meaning
complement-meaning k w l u h = by (ltb w (2 ^ (k - 1))) refl
  where
    half : 2 ^ (k - 1) ≤ 2 ^ 63
    half = pow-le-pow_right {n = 2} (lit< tt) {i = k - 1} {j = 63} (omega arith)

    low : (x : ℕ) → x < 2 ^ 63 → int64 x ≡ pos x
    low x b = rw (lt-ltb x (2 ^ 63) b)

    high : (m : ℕ) → w + m ≡ 2 ^ k → 0 < m → m ≤ 2 ^ (k - 1) → int64 (2 ^ 64 - m) ≡ pos w -ℤ pos (2 ^ k)
    high zero e p b = absurd (not-suc-le-zero p)
    high (suc n) e p b =
        rw (le-ltb (2 ^ 64 - suc n) (2 ^ 63) (omega (arith, half)))
        (sub_of (2 ^ 64 - suc n) (2 ^ 64) n (omega (arith, half)) ∙ sym (sub_of w (2 ^ k) n e))

    by : (c : Bool) → ltb w (2 ^ (k - 1)) ≡ c
        → int64 (twos_complement (cond c (record { negative = false; magnitude = w }) (record { negative = true; magnitude = 2 ^ k - w })))
        ≡ cond c (pos w) (pos w -ℤ pos (2 ^ k))
    by true t = low w (omega (arith, half, ltb-true w (2 ^ (k - 1)) t))
    by false t =
        high (2 ^ k - w) (omega arith) (omega arith) (omega (arith, two-halves k l, ltb-false w (2 ^ (k - 1)) t))

-- so what the call tells is the meaning of the word, wherever it does not decline
pub signed-meaning : (k w n : ℕ) → signed_fault k w n ≡ 0 → int64 (twos_complement (signed_of k w)) ≡ meaning k w
signed-meaning k w n e =
    let c = signed-clear k w n e in
    complement-meaning k w c.low c.high c.narrow

-- how often 2^k was taken off
abbrev off : Bool → ℕ
off c = cond c 0 1

unfoldable offs : ℕ → List ℕ → ℕ
offs k [] = 0
offs k (w ∷ ws) = off (ltb w (2 ^ (k - 1))) + offs k ws

meaning-back : (c : Bool) (w m : ℕ) → cond c (pos w) (pos w -ℤ pos m) +ℤ pos (m * off c) ≡ pos w
meaning-back true w m = ap pos (omega arith)
meaning-back false w m = ap (λ (n : ℕ). (pos w -ℤ pos m) +ℤ pos n) (mul-one m) ∙ -ℤ-+ℤ_cancel (pos w) (pos m)

swap : (a b c d : ℤ) → (a +ℤ b) +ℤ (c +ℤ d) ≡ (a +ℤ c) +ℤ (b +ℤ d)
swap a b c d =
    +ℤ_assoc a b (c +ℤ d)
    ∙ ap (λ (z : ℤ). a +ℤ z) (sym (+ℤ_assoc b c d) ∙ ap (λ (z : ℤ). z +ℤ d) (+ℤ_comm b c) ∙ +ℤ_assoc c b d)
    ∙ sym (+ℤ_assoc a c (b +ℤ d))

sum_back : (k : ℕ) (ws : List ℕ) → sum_of_meanings k ws +ℤ pos (2 ^ k * offs k ws) ≡ pos (sum_of ws)
unfolding sum_of_meanings sum_of offs meaning
sum_back k [] = ap pos (omega arith)
sum_back k (w ∷ ws) =
    let c = ltb w (2 ^ (k - 1)) in
    let split : 2 ^ k * (off c + offs k ws) ≡ 2 ^ k * off c + 2 ^ k * offs k ws = omega arith in
    ap (λ (n : ℕ). (meaning k w +ℤ sum_of_meanings k ws) +ℤ pos n) split
    ∙ swap (meaning k w) (sum_of_meanings k ws) (pos (2 ^ k * off c)) (pos (2 ^ k * offs k ws))
    ∙ ap (λ (z : ℤ). z +ℤ (sum_of_meanings k ws +ℤ pos (2 ^ k * offs k ws))) (meaning-back c w (2 ^ k))
    ∙ ap (λ (z : ℤ). pos w +ℤ z) (sum_back k ws)

-- an integer that fits k bits is the meaning of what is left of it modulo 2^k
fits : (k : ℕ) (z : ℤ) (s c : ℕ) → 1 ≤ k → mag z < 2 ^ (k - 1) → z +ℤ pos (2 ^ k * c) ≡ pos s → meaning k (s % 2 ^ k) ≡ z
fits k (pos n) s c p h e =
    let t : n + 2 ^ k * c ≡ s = ap nat_abs e in
    let m = two-halves k p in
    let r : s % 2 ^ k ≡ n =
    ap (λ (x : ℕ). x % 2 ^ k) (sym t) ∙ add-mul-mod_self_left n (2 ^ k) c ∙ mod-eq_of_lt (omega arith) in
    rw r (meaning-low k n h)
fits k (negsuc n) s zero p h e =
    let t : 2 ^ k * 0 ≡ s + suc n = sum-of (2 ^ k * 0) (suc n) s e in
    absurd (omega arith)
fits k (negsuc n) s (suc c) p h e =
    let t : 2 ^ k * suc c ≡ s + suc n = sum-of (2 ^ k * suc c) (suc n) s e in
    let m = two-halves k p in
    let q : s ≡ (2 ^ k - suc n) + 2 ^ k * c = omega arith in
    let r : s % 2 ^ k ≡ 2 ^ k - suc n =
    ap (λ (x : ℕ). x % 2 ^ k) q ∙ add-mul-mod_self_left (2 ^ k - suc n) (2 ^ k) c ∙ mod-eq_of_lt (omega arith) in
    rw r (meaning-high k (2 ^ k - suc n) (omega arith) ∙ sub_of (2 ^ k - suc n) (2 ^ k) n (omega arith))

-- from −h to h − 1 is below h on either side
in-range : (h : ℕ) (z : ℤ) → 0 < h → neg_ℤ (pos h) ≤ℤ z → z ≤ℤ pos (h - 1) → mag z < h
in-range zero z p l u = absurd (not-suc-le-zero p)
in-range (suc h) (pos n) p l u = let q : n ≤ suc h - 1 = leb→le n (suc h - 1) u.le in omega arith
in-range (suc h) (negsuc n) p l u = let q : n ≤ h = leb→le n h l.le in omega arith

-- "A total read so equals the sum of the jobs' signed values when that sum lies from −2^(k−1) to 2^(k−1) − 1."
pub signed-sum : (k : ℕ) (ws : List ℕ) → 1 ≤ k → neg_ℤ (pos (2 ^ (k - 1))) ≤ℤ sum_of_meanings k ws → sum_of_meanings k ws ≤ℤ pos (2 ^ (k - 1) - 1)
    → meaning k (sum_of ws % 2 ^ k) ≡ sum_of_meanings k ws
signed-sum k ws p l u =
    fits k (sum_of_meanings k ws) (sum_of ws) (offs k ws) p (in-range (2 ^ (k - 1)) (sum_of_meanings k ws) (pow_pos (k - 1)) l u) (sum_back k ws)
