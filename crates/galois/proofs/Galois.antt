-- The Galois ring of words of k bits modulo a monic polynomial of degree d whose lower coefficients are `F`, for every k and every `F`:
-- a commutative ring; reduction to j bits is a map of rings; doubling, halving, and what is left of an element without its lowest bits;
-- what is a unit modulo two is a unit. `GR d k` is the ring of the table's row d. Assumes nothing.
use mathlib.Core.Path.{◌≡◌, refl, sym, ◌∙◌, ap, ap₂}
use mathlib.Core.List.{List, [], ◌∷◌}
use Prim.Native.Nat.{ℕ, zero, suc, ◌+◌, ◌-◌, ◌*◌, ◌%◌, ◌/◌, ◌^◌, ◌≤◌, ◌∣◌, zero-le, suc-le-suc}
use native.Mathlib.Nat.{le_dest, dvd-mul_right, mod-mod_of_dvd, mod-add-div, mul-one, pow-suc, le-suc, zero-add, zero-mod, mul-div_cancel}
use native.Mathlib.Omega.{arith}
use lib.Pow.{pow_pos, pow-add}
use Rattle.words.proofs.Mod.{mods}
use Rattle.algebra.specs.Ring.{CommRing, Hom, IsUnit}
use Rattle.algebra.proofs.Ring.{add-sub-left, fn-sub}
use Rattle.algebra.proofs.Units.{Back, times, times-times, times-kills, newton-times, unit-of-image}
use Rattle.algebra.proofs.Vec.{Vec, nil, cons, vhead, vtail, vmap, map-map, map-id}
use Rattle.algebra.proofs.Extension.{Extension, vneg, pad, scale, scale-zero, ext-times, ext-map, ext-back, map-neg}
use Rattle.galois.specs.Element.{lower}
use Rattle.galois.proofs.Zmod.{Word, word, word-ext, word_of, Z, remainder, times-val, char, scaled, times-back}

-- words of k bits
abbrev pub Zk : ℕ → CommRing
Zk k = Z (2 ^ k) (pow_pos k)

pub pow-dvd : {j k : ℕ} → j ≤ k → 2 ^ j ∣ 2 ^ k
pow-dvd {j} {k} h =
    let e = le_dest h in
    rw (← e.1, pow-add) (dvd-mul_right (2 ^ j) (2 ^ e.0))

abbrev pub low_w : {j k : ℕ} → j ≤ k → Hom (Zk k) (Zk j)
low_w {j} {k} h = remainder (2 ^ k) (2 ^ j) (pow_pos k) (pow_pos j) (pow-dvd h)

module _ {d : ℕ} (F : Vec ℕ d) where
  abbrev pub rho : (k : ℕ) → Vec (Word (2 ^ k)) d
  rho k = vneg (Zk k) (vmap (word (2 ^ k)) F)

  abbrev pub Galois : ℕ → CommRing
  Galois k = Extension (Zk k) (rho k)

-- a list of n numbers as a vector (cut, or filled up with zeros)
abbrev pub vec : (n : ℕ) → List ℕ → Vec ℕ n
vec zero l = nil
vec (suc n) [] = cons 0 (vec n [])
vec (suc n) (x ∷ l) = cons x (vec n l)

-- the lower coefficients of the table's row d, and the ring of that row
abbrev pub modulus : (d : ℕ) → Vec ℕ d
modulus d = vec d (lower d)

abbrev pub GR : ℕ → ℕ → CommRing
GR d k = Galois (modulus d) k

pub low_word : {j k : ℕ} (h : j ≤ k) (a : ℕ) → (low_w h).fn (word (2 ^ k) a) ≡ word (2 ^ j) a
low_word {j} h a = word-ext (mod-mod_of_dvd (2 ^ j) a (pow-dvd h))

pub low-rho : {d : ℕ} (F : Vec ℕ d) {j k : ℕ} (h : j ≤ k) → vmap (low_w h).fn (rho F k) ≡ rho F j
low-rho F {j} {k} h =
    map-neg (low_w h) (vmap (word (2 ^ k)) F)
    ∙ ap (vneg (Zk j)) (map-map (low_w h).fn (word (2 ^ k)) (word (2 ^ j)) (low_word h) F)

-- the lower j bits of each word
abbrev pub low : {d : ℕ} (F : Vec ℕ d) {j k : ℕ} → j ≤ k → Hom (Galois F k) (Galois F j)
low F {j} {k} h = ext-map (low_w h) (rho F k) (rho F j) (low-rho F h)

-- a word as one of k bits
abbrev pub raise_w : {m : ℕ} (k : ℕ) → Word m → Word (2 ^ k)
raise_w k w = word (2 ^ k) w.val

abbrev pub raise : {m : ℕ} (k : ℕ) {n : ℕ} → Vec (Word m) n → Vec (Word (2 ^ k)) n
raise k = vmap (raise_w k)

pub low-raise : {j k : ℕ} (h : j ≤ k) {n : ℕ} (u : Vec (Word (2 ^ j)) n) → vmap (low_w h).fn (raise k u) ≡ u
low-raise {j} {k} h u =
    map-map (low_w h).fn (raise_w k) (λ w. w) (λ w. low_word h w.val ∙ word_of w) u ∙ map-id (λ w. w) (λ w. refl) u

-- what is left of a word without its lowest j bits
abbrev pub quot_w : {m : ℕ} (j : ℕ) → Word m → Word m
quot_w {m} j w = word m (w.val / 2 ^ j)

times-quot_w : {j k : ℕ} (h : j ≤ k) (w : Word (2 ^ k)) → (low_w h).fn w ≡ (Zk j).𝟘
    → (Zk k).mul (times (Zk k) (2 ^ j) (Zk k).𝟙) (quot_w j w) ≡ w
times-quot_w {j} {k} h w e =
    let o : w.val % 2 ^ j ≡ 0 = ap (λ (x : Word (2 ^ j)). x.val) e ∙ zero-mod (2 ^ j) in
    let t : 2 ^ j * (w.val / 2 ^ j) ≡ w.val = sym (zero-add (2 ^ j * (w.val / 2 ^ j))) ∙ rw o at (mod-add-div w.val (2 ^ j)) in
    word-ext (rw (times-val (2 ^ k) (pow_pos k)) (simp mods (rw (mul-one, t) w.low)))

times-quots : {j k : ℕ} (h : j ≤ k) {n : ℕ} (u : Vec (Word (2 ^ k)) n) → vmap (low_w h).fn u ≡ pad (Zk j) n nil
    → scale (Zk k) (times (Zk k) (2 ^ j) (Zk k).𝟙) (vmap (quot_w j) u) ≡ u
times-quots h nil e = refl
times-quots h (cons w u) e = ap₂ cons (times-quot_w h w (ap vhead e)) (times-quots h u (ap vtail e))

-- x (2 - a x)
abbrev pub step : (R : CommRing) → R.E → R.E → R.E
step R a x = R.mul x (R.add (R.add R.𝟙 R.𝟙) (R.neg (R.mul a x)))

module _ {d : ℕ} (F : Vec ℕ d) (k : ℕ) where
  -- 2^k is zero
  pub gr-char : times (Galois F k) (2 ^ k) (Galois F k).𝟙 ≡ (Galois F k).𝟘
  gr-char =
      ext-times (Zk k) (rho F k) (2 ^ k) (Galois F k).𝟙
      ∙ ap (λ c. scale (Zk k) c (Galois F k).𝟙) (char (2 ^ k) (pow_pos k))
      ∙ scale-zero (Zk k) (Galois F k).𝟙

  -- what is zero modulo 2^j is 2^j times something
  pub times-quot : {j : ℕ} (h : j ≤ k) (u : (Galois F k).E) → (low F h).fn u ≡ (Galois F j).𝟘 → times (Galois F k) (2 ^ j) (vmap (quot_w j) u) ≡ u
  times-quot {j} h u e = ext-times (Zk k) (rho F k) (2 ^ j) (vmap (quot_w j) u) ∙ times-quots h u e

  module _ (h : 1 ≤ k) where
    -- what is a unit modulo two is a unit
    pub unit-of-low : (a : (Galois F k).E) → IsUnit (Galois F 1) ((low F h).fn a) → IsUnit (Galois F k) a
    unit-of-low =
        unit-of-image (low F h) 2 k gr-char (λ b. (raise k b, low-raise h b)) (λ u e. (vmap (quot_w 1) u, times-quot h u e))

  -- Newton's step: an inverse modulo 2^j gives one modulo 2^k, for k up to 2 j
  pub newton-lift : {j : ℕ} (h : j ≤ k) → k ≤ 2 * j → (a x : (Galois F k).E)
      → (low F h).fn ((Galois F k).mul a x) ≡ (Galois F j).𝟙
      → (Galois F k).mul a (step (Galois F k) a x) ≡ (Galois F k).𝟙
  newton-lift {j} h g a x e =
      let R = Galois F k in
      let r = R.add R.𝟙 (R.neg (R.mul a x)) in
      let q = vmap (quot_w j) r in
      let z : (low F h).fn r ≡ (Galois F j).𝟘 = fn-sub (low F h) R.𝟙 (R.mul a x) ((low F h).fn-one ∙ sym e) in
      let s : R.add (R.mul a x) (times R (2 ^ j) q) ≡ R.𝟙 = ap (R.add (R.mul a x)) (times-quot h r z) ∙ add-sub-left R R.𝟙 (R.mul a x) in
      let n : k + (2 * j - k) ≡ j + j = omega arith in
      let p : 2 ^ j * 2 ^ j ≡ 2 ^ k * 2 ^ (2 * j - k) = sym (pow-add 2 j j) ∙ ap (λ i. 2 ^ i) (sym n) ∙ pow-add 2 k (2 * j - k) in
      let t : times R (2 ^ j * 2 ^ j) (R.mul q q) ≡ R.𝟘 =
      ap (λ i. times R i (R.mul q q)) p ∙ times-times R (2 ^ k) (2 ^ (2 * j - k)) (R.mul q q)
      ∙ times-kills R (2 ^ k) gr-char (times R (2 ^ (2 * j - k)) (R.mul q q)) in
      sym (R.add-zero (R.mul a (step R a x))) ∙ ap (R.add (R.mul a (step R a x))) (sym t) ∙ newton-times R (2 ^ j) a x q s

-- twice, as a map from words of k bits to words of one bit more, and back
module _ (k : ℕ) where
  abbrev pub double_w : Back (low_w (le-suc k))
  double_w = times-back (2 ^ k) 2 (2 ^ suc k) (pow_pos k) (pow_pos 1) (pow_pos (suc k)) (pow-suc 2 k) (pow-dvd (le-suc k))

  abbrev pub halve_w : Word (2 ^ suc k) → Word (2 ^ k)
  halve_w w = word (2 ^ k) (w.val / 2)

  doubled : (a : ℕ) → a % 2 ^ k * 2 ≡ a * 2 % 2 ^ suc k
  doubled = scaled (2 ^ k) 2 (2 ^ suc k) (pow_pos k) (pow_pos 1) (pow_pos (suc k)) (pow-suc 2 k) (pow-dvd (le-suc k))

  pub halve-double_w : (w : Word (2 ^ k)) → halve_w (double_w.back w) ≡ w
  halve-double_w w = word-ext (rw (← doubled, w.low, mul-div_cancel w.val (pow_pos 1)) w.low)

  pub double-halve_w : (w : Word (2 ^ suc k)) → (low_w (suc-le-suc zero-le)).fn w ≡ (Zk 1).𝟘 → double_w.back (halve_w w) ≡ w
  double-halve_w w e =
      let o : w.val % 2 ≡ 0 = ap (λ (x : Word 2). x.val) e in
      let t : w.val / 2 * 2 ≡ w.val = omega arith in
      word-ext (rw (doubled, t) (simp mods w.low))

  double-halves : {n : ℕ} (u : Vec (Word (2 ^ suc k)) n) → vmap (low_w (suc-le-suc zero-le)).fn u ≡ pad (Zk 1) n nil
      → vmap double_w.back (vmap halve_w u) ≡ u
  double-halves nil e = refl
  double-halves (cons w u) e = ap₂ cons (double-halve_w w (ap vhead e)) (double-halves u (ap vtail e))

  low-double_w : (w : Word (2 ^ k)) → (low_w (suc-le-suc zero-le)).fn (double_w.back w) ≡ (Zk 1).𝟘
  low-double_w w =
      let e : w.val * 2 % 2 ≡ 0 = omega arith in
      word-ext (mod-mod_of_dvd 2 (w.val * 2) (pow-dvd {j = 1} {k = suc k} (suc-le-suc zero-le)) ∙ e)

  low-doubles : {n : ℕ} (u : Vec (Word (2 ^ k)) n) → vmap (low_w (suc-le-suc zero-le)).fn (vmap double_w.back u) ≡ pad (Zk 1) n nil
  low-doubles nil = refl
  low-doubles (cons w u) = ap₂ cons (low-double_w w) (low-doubles u)

  abbrev pub halve : {n : ℕ} → Vec (Word (2 ^ suc k)) n → Vec (Word (2 ^ k)) n
  halve = vmap halve_w

  module _ {d : ℕ} (F : Vec ℕ d) where
    abbrev pub double : Back (low F (le-suc k))
    double = ext-back (low_w (le-suc k)) (rho F (suc k)) (rho F k) (low-rho F (le-suc k)) double_w

    pub halve-double : (u : (Galois F k).E) → halve (double.back u) ≡ u
    halve-double u = map-map halve_w double_w.back (λ w. w) halve-double_w u ∙ map-id (λ w. w) (λ w. refl) u

    pub double-inj : (u v : (Galois F k).E) → double.back u ≡ double.back v → u ≡ v
    double-inj u v h = sym (halve-double u) ∙ ap halve h ∙ halve-double v

    -- what is zero modulo two is the double of its half
    pub double-halve : (u : (Galois F (suc k)).E) → (low F (suc-le-suc zero-le)).fn u ≡ (Galois F 1).𝟘 → double.back (halve u) ≡ u
    double-halve u e = double-halves u e

    -- and a double is zero modulo two
    pub low-double : (u : (Galois F k).E) → (low F (suc-le-suc zero-le)).fn (double.back u) ≡ (Galois F 1).𝟘
    low-double u = low-doubles u

-- modulo two minus is plus
pub neg-self : {n : ℕ} (u : Vec (Word (2 ^ 1)) n) → vneg (Zk 1) u ≡ u
neg-self nil = refl
neg-self (cons w u) = ap₂ cons (word-ext (two w.val w.low)) (neg-self u)
  where
    two : (x : ℕ) → x % 2 ≡ x → (2 - x) % 2 ≡ x
    two x h = omega arith
