-- R[X] modulo a monic polynomial of degree d, as vectors of d coefficients, the constant one first; and that maps of rings go through.
-- `ρ` is X^d modulo the polynomial: its lower coefficients, negated. A product is `p` evaluated at multiplication by X.
-- Assumes nothing.
use mathlib.Core.Path.{◌≡◌, refl, sym, ◌∙◌, ap, ap₂}
use Prim.Native.Nat.{ℕ, zero, suc, ◌≤◌, ◌<◌}
use native.Mathlib.Nat.{le_of_suc-le-suc, le_refl, not-suc-le-zero, le_of_lt}
use native.Mathlib.Omega.{arith}
use Rattle.algebra.specs.Ring.{CommRing, Hom}
use Rattle.algebra.proofs.Ring.{add-mul, mul-zero, one-mul, fn-zero, fn-neg}
use Rattle.algebra.proofs.Units.{Back, back-zero, times, times_zero, times-suc}
use Rattle.algebra.proofs.Vec.{Vec, nil, cons, vmap, vzip, push, last, map_push, map_last}

module _ (R : CommRing) where
  infixl 65 ◌⊕◌
  infixl 70 ◌⊗◌
  open R use {E, add as ◌⊕◌, mul as ◌⊗◌, neg as ⊖, 𝟘, 𝟙, add_assoc, add_comm, add-zero, add-neg, mul_assoc, mul_comm, mul-one, mul-add}

  abbrev pub vadd : {n : ℕ} → Vec E n → Vec E n → Vec E n
  vadd = vzip ◌⊕◌

  abbrev pub scale : {n : ℕ} → E → Vec E n → Vec E n
  scale c nil = nil
  scale c (cons a u) = cons (c ⊗ a) (scale c u)

  abbrev pub vneg : {n : ℕ} → Vec E n → Vec E n
  vneg = vmap ⊖

  pub add-scaled : {n : ℕ} (c : E) (u v : Vec E n) → vadd u (scale c v) ≡ vzip (λ a b. a ⊕ c ⊗ b) u v
  add-scaled c nil nil = refl
  add-scaled c (cons a u) (cons b v) = ap (cons (a ⊕ c ⊗ b)) (add-scaled c u v)

  -- a polynomial of any length, cut or filled up with zeros to length d
  abbrev pub pad : (d : ℕ) {n : ℕ} → Vec E n → Vec E d
  pad zero p = nil
  pad (suc d) nil = cons 𝟘 (pad d nil)
  pad (suc d) (cons a p) = cons a (pad d p)

  pub vadd-assoc : {n : ℕ} (u v w : Vec E n) → vadd (vadd u v) w ≡ vadd u (vadd v w)
  vadd-assoc nil nil nil = refl
  vadd-assoc (cons a u) (cons b v) (cons c w) = ap₂ cons (add_assoc a b c) (vadd-assoc u v w)

  pub vadd-comm : {n : ℕ} (u v : Vec E n) → vadd u v ≡ vadd v u
  vadd-comm nil nil = refl
  vadd-comm (cons a u) (cons b v) = ap₂ cons (add_comm a b) (vadd-comm u v)

  pub vadd-left-comm : {n : ℕ} (u v w : Vec E n) → vadd u (vadd v w) ≡ vadd v (vadd u w)
  vadd-left-comm u v w = sym (vadd-assoc u v w) ∙ ap (λ x. vadd x w) (vadd-comm u v) ∙ vadd-assoc v u w

  ruleset sums = (vadd-assoc, vadd-comm, vadd-left-comm)

  pub vadd-zero : {n : ℕ} (u : Vec E n) → vadd u (pad n nil) ≡ u
  vadd-zero nil = refl
  vadd-zero (cons a u) = ap₂ cons (add-zero a) (vadd-zero u)

  pub vadd-neg : {n : ℕ} (u : Vec E n) → vadd u (vneg u) ≡ pad n nil
  vadd-neg nil = refl
  vadd-neg (cons a u) = ap₂ cons (add-neg a) (vadd-neg u)

  pub scale-add : {n : ℕ} (c : E) (u v : Vec E n) → scale c (vadd u v) ≡ vadd (scale c u) (scale c v)
  scale-add c nil nil = refl
  scale-add c (cons a u) (cons b v) = ap₂ cons (mul-add c a b) (scale-add c u v)

  pub add-scale : {n : ℕ} (c e : E) (u : Vec E n) → scale (c ⊕ e) u ≡ vadd (scale c u) (scale e u)
  add-scale c e nil = refl
  add-scale c e (cons a u) = ap₂ cons (add-mul R c e a) (add-scale c e u)

  pub scale-scale : {n : ℕ} (c e : E) (u : Vec E n) → scale (c ⊗ e) u ≡ scale c (scale e u)
  scale-scale c e nil = refl
  scale-scale c e (cons a u) = ap₂ cons (mul_assoc c e a) (scale-scale c e u)

  pub scale_one : {n : ℕ} (u : Vec E n) → scale 𝟙 u ≡ u
  scale_one nil = refl
  scale_one (cons a u) = ap₂ cons (one-mul R a) (scale_one u)

  pub scale-zero : {n : ℕ} (u : Vec E n) → scale 𝟘 u ≡ pad n nil
  scale-zero nil = refl
  scale-zero (cons a u) = ap₂ cons (mul_comm 𝟘 a ∙ mul-zero R a) (scale-zero u)

  pub push-add : {n : ℕ} (x y : E) (u v : Vec E n) → push (x ⊕ y) (vadd u v) ≡ vadd (push x u) (push y v)
  push-add x y nil nil = refl
  push-add x y (cons a u) (cons b v) = ap (cons (x ⊕ y)) (push-add a b u v)

  pub push-scale : {n : ℕ} (c x : E) (u : Vec E n) → push (c ⊗ x) (scale c u) ≡ scale c (push x u)
  push-scale c x nil = refl
  push-scale c x (cons a u) = ap (cons (c ⊗ x)) (push-scale c a u)

  pub last-add : {n : ℕ} (x y : E) (u v : Vec E n) → last (x ⊕ y) (vadd u v) ≡ last x u ⊕ last y v
  last-add x y nil nil = refl
  last-add x y (cons a u) (cons b v) = last-add a b u v

  pub last-scale : {n : ℕ} (c x : E) (u : Vec E n) → last (c ⊗ x) (scale c u) ≡ c ⊗ last x u
  last-scale c x nil = refl
  last-scale c x (cons a u) = last-scale c a u

  pub push-pad : (d : ℕ) {n : ℕ} (x : E) (p : Vec E n) → push x (pad d p) ≡ pad d (cons x p)
  push-pad zero x p = refl
  push-pad (suc zero) x nil = refl
  push-pad (suc (suc d)) x nil = ap (cons x) (push-pad (suc d) 𝟘 nil)
  push-pad (suc d) x (cons a p) = ap (cons x) (push-pad d a p)

  pub last-pad : (d : ℕ) {n : ℕ} (x : E) (p : Vec E n) → n < d → last x (pad d p) ≡ 𝟘
  last-pad zero x p h = absurd (not-suc-le-zero h)
  last-pad (suc zero) x nil h = refl
  last-pad (suc (suc d)) x nil h = last-pad (suc d) 𝟘 nil (omega arith)
  last-pad (suc d) x (cons a p) h = last-pad d a p (le_of_suc-le-suc h)

  pub pad-same : {n : ℕ} (u : Vec E n) → pad n u ≡ u
  pad-same nil = refl
  pad-same (cons a u) = ap (cons a) (pad-same u)

  -- the powers of X, from 1 on
  abbrev pub unit : (d : ℕ) → Vec E d
  unit d = pad d (cons 𝟙 nil)

  pub scale-nil : (d : ℕ) (a : E) → scale a (pad d nil) ≡ pad d nil
  scale-nil zero a = refl
  scale-nil (suc d) a = ap₂ cons (mul-zero R a) (scale-nil d a)

  pub scale-unit : (d : ℕ) {n : ℕ} (a : E) (p : Vec E n) → vadd (scale a (unit d)) (pad d (cons 𝟘 p)) ≡ pad d (cons a p)
  scale-unit zero a p = refl
  scale-unit (suc d) a p = ap₂ cons (simp (mul-one, add-zero)) (rw (scale-nil d a, vadd-comm (pad d nil) (pad d p), vadd-zero (pad d p)))

  -- X^n, as a polynomial of n + 1 coefficients
  abbrev pub tip : (n : ℕ) → Vec E (suc n)
  tip zero = cons 𝟙 nil
  tip (suc n) = cons 𝟘 (tip n)

  push-tip : (n : ℕ) (x : E) → push x (tip n) ≡ cons x (pad n nil)
  push-tip zero x = refl
  push-tip (suc n) x = ap (cons x) (push-tip n 𝟘)

  last-tip : (n : ℕ) (x : E) → last x (tip n) ≡ 𝟙
  last-tip zero x = refl
  last-tip (suc n) x = last-tip n 𝟘

  module _ {d : ℕ} (ρ : Vec E d) where
    -- times X
    unfoldable pub shift : Vec E d → Vec E d
    shift u = vadd (push 𝟘 u) (scale (last 𝟘 u) ρ)

    unfoldable pub act : {n : ℕ} → Vec E n → Vec E d → Vec E d
    act nil u = pad d nil
    act (cons a p) u = vadd (scale a u) (shift (act p u))

    pub shift-add : (u v : Vec E d) → shift (vadd u v) ≡ vadd (shift u) (shift v)
    unfolding shift
    shift-add u v =
        rw (rw add-zero at (push-add 𝟘 𝟘 u v), rw add-zero at (last-add 𝟘 𝟘 u v), add-scale) (simp sums)

    pub shift-scale : (c : E) (u : Vec E d) → shift (scale c u) ≡ scale c (shift u)
    unfolding shift
    shift-scale c u =
        rw (rw (mul-zero R) at (push-scale c 𝟘 u), rw (mul-zero R) at (last-scale c 𝟘 u), scale-scale, scale-add)

    pub shift-nil : shift (pad d nil) ≡ pad d nil
    shift-nil = sym (ap shift (scale-zero (pad d nil))) ∙ shift-scale 𝟘 (pad d nil) ∙ scale-zero (shift (pad d nil))

    pub act-add : {n : ℕ} (p : Vec E n) (u v : Vec E d) → act p (vadd u v) ≡ vadd (act p u) (act p v)
    unfolding act
    act-add nil u v = sym (vadd-zero (pad d nil))
    act-add (cons a p) u v = rw (act-add p u v, scale-add, shift-add) (simp sums)

    pub act-scale : {n : ℕ} (p : Vec E n) (c : E) (u : Vec E d) → act p (scale c u) ≡ scale c (act p u)
    unfolding act
    act-scale nil c u = sym (scale-nil d c)
    act-scale (cons a p) c u = rw (act-scale p c u, ← scale-scale, mul_comm a c, scale-scale, shift-scale, scale-add)

    pub act-nil : {n : ℕ} (p : Vec E n) → act p (pad d nil) ≡ pad d nil
    act-nil p = sym (ap (act p) (scale-zero (pad d nil))) ∙ act-scale p 𝟘 (pad d nil) ∙ scale-zero (act p (pad d nil))

    pub act-shift : {n : ℕ} (p : Vec E n) (u : Vec E d) → act p (shift u) ≡ shift (act p u)
    unfolding act
    act-shift nil u = sym shift-nil
    act-shift (cons a p) u = rw (act-shift p u, ← shift-scale, ← shift-add)

    pub act-act : {n k : ℕ} (p : Vec E n) (q : Vec E k) (u : Vec E d) → act p (act q u) ≡ act q (act p u)
    unfolding act
    act-act nil q u = sym (act-nil q)
    act-act (cons a p) q u = rw (act-act p q u, act-add, act-scale, act-shift)

    pub act-unit : {n : ℕ} (p : Vec E n) → n ≤ d → act p (unit d) ≡ pad d p
    unfolding act shift
    act-unit nil h = refl
    act-unit (cons a p) h = rw (act-unit p (le_of_lt h), last-pad d 𝟘 p h, scale-zero, vadd-zero, push-pad, scale-unit)

    pub vmul-one : (u : Vec E d) → act u (unit d) ≡ u
    vmul-one u = act-unit u (le_refl d) ∙ pad-same u

    pub vmul-comm : (u v : Vec E d) → act u v ≡ act v u
    vmul-comm u v = ap (act u) (sym (vmul-one v)) ∙ act-act u v (unit d) ∙ ap (act v) (vmul-one u)

    pub vmul-assoc : (u v w : Vec E d) → act (act u v) w ≡ act u (act v w)
    vmul-assoc u v w = rw (vmul-comm (act u v) w, act-act w u v, vmul-comm w v)

    -- times X^n; X itself
    unfoldable pub shifts : ℕ → Vec E d → Vec E d
    shifts zero u = u
    shifts (suc n) u = shift (shifts n u)

    act-tip : (n : ℕ) (u : Vec E d) → act (tip n) u ≡ shifts n u
    unfolding act shifts
    act-tip zero u = rw (shift-nil, vadd-zero, scale_one)
    act-tip (suc n) u = rw (act-tip n u, scale-zero, vadd-comm (pad d nil) (shift (shifts n u)), vadd-zero)

    pub act-x : 2 ≤ d → (u : Vec E d) → act (pad d (cons 𝟘 (cons 𝟙 nil))) u ≡ shift u
    unfolding shifts
    act-x h u =
        let x : pad d (cons 𝟘 (cons 𝟙 nil)) ≡ shift (unit d) = sym (act-unit (tip 1) h) ∙ act-tip 1 (unit d) in
        rw (x, vmul-comm (shift (unit d)) u, act-shift u (unit d), vmul-one u)

    abbrev pub Extension : CommRing
    Extension =
        record {
          E = Vec E d;
          add = vadd;
          mul = act;
          neg = vneg;
          𝟘 = pad d nil;
          𝟙 = unit d;
          add_assoc = vadd-assoc;
          add_comm = vadd-comm;
          add-zero = vadd-zero;
          add-neg = vadd-neg;
          mul_assoc = vmul-assoc;
          mul_comm = vmul-comm;
          mul-one = vmul-one;
          mul-add = act-add;
        }

    pub ext-times : (k : ℕ) (u : Vec E d) → times Extension k u ≡ scale (times R k 𝟙) u
    ext-times zero u = rw (times_zero R 𝟙, times_zero Extension u, scale-zero)
    ext-times (suc k) u = rw (times-suc R k 𝟙, times-suc Extension k u, add-scale, ext-times k u, scale_one)

  -- X^d is ρ
  pub shifts-all : {n : ℕ} (ρ : Vec E (suc n)) → shifts ρ (suc n) (unit (suc n)) ≡ ρ
  unfolding shifts shift
  shifts-all {n} ρ =
      ap (shift ρ) (sym (act-tip ρ n (unit (suc n))) ∙ vmul-one ρ (tip n))
      ∙ rw (push-tip n 𝟘, last-tip n 𝟘, scale_one, vadd-comm (pad (suc n) nil) ρ, vadd-zero)

-- a map of rings goes through, coefficient by coefficient
module _ {R S : CommRing} (f : Hom R S) where
  pub map-add : {n : ℕ} (u v : Vec R.E n) → vmap f.fn (vadd R u v) ≡ vadd S (vmap f.fn u) (vmap f.fn v)
  map-add nil nil = refl
  map-add (cons a u) (cons b v) = ap₂ cons (f.fn-add a b) (map-add u v)

  pub map-scale : {n : ℕ} (c : R.E) (u : Vec R.E n) → vmap f.fn (scale R c u) ≡ scale S (f.fn c) (vmap f.fn u)
  map-scale c nil = refl
  map-scale c (cons a u) = ap₂ cons (f.fn-mul c a) (map-scale c u)

  pub map-pad : (d : ℕ) {n : ℕ} (u : Vec R.E n) → vmap f.fn (pad R d u) ≡ pad S d (vmap f.fn u)
  map-pad zero u = refl
  map-pad (suc d) nil = ap₂ cons (fn-zero f) (map-pad d nil)
  map-pad (suc d) (cons a u) = ap (cons (f.fn a)) (map-pad d u)

  pub map-neg : {n : ℕ} (u : Vec R.E n) → vmap f.fn (vneg R u) ≡ vneg S (vmap f.fn u)
  map-neg nil = refl
  map-neg (cons a u) = ap₂ cons (fn-neg f a) (map-neg u)

  module _ {d : ℕ} (ρ : Vec R.E d) (σ : Vec S.E d) (e : vmap f.fn ρ ≡ σ) where
    pub map-shift : (u : Vec R.E d) → vmap f.fn (shift R ρ u) ≡ shift S σ (vmap f.fn u)
    unfolding shift
    map-shift u = rw (map-add, map_push, map-scale, map_last f.fn, fn-zero f, e)

    pub map-act : {n : ℕ} (p : Vec R.E n) (u : Vec R.E d) → vmap f.fn (act R ρ p u) ≡ act S σ (vmap f.fn p) (vmap f.fn u)
    unfolding act
    map-act nil u = map-pad d nil
    map-act (cons a p) u = rw (map-add (scale R a u) (shift R ρ (act R ρ p u)), map-scale a u, map-shift (act R ρ p u), map-act p u)

    abbrev pub ext-map : Hom (Extension R ρ) (Extension S σ)
    ext-map =
        record {
          fn = vmap f.fn;
          fn-add = map-add;
          fn-mul = map-act;
          fn-one = map-pad d (cons R.𝟙 nil) ∙ ap (λ x. pad S d (cons x nil)) f.fn-one;
        }

    module _ (g : Back f) where
      pub back_sum : {n : ℕ} (u v : Vec S.E n) → vmap g.back (vadd S u v) ≡ vadd R (vmap g.back u) (vmap g.back v)
      back_sum nil nil = refl
      back_sum (cons a u) (cons b v) = ap₂ cons (g.back-add a b) (back_sum u v)

      pub back-scale : {n : ℕ} (c : R.E) (u : Vec S.E n) → vmap g.back (scale S (f.fn c) u) ≡ scale R c (vmap g.back u)
      back-scale c nil = refl
      back-scale c (cons a u) = ap₂ cons (g.back-mul c a) (back-scale c u)

      pub back-scaled : {n : ℕ} (c : S.E) (r : Vec R.E n) → vmap g.back (scale S c (vmap f.fn r)) ≡ scale R (g.back c) r
      back-scaled c nil = refl
      back-scaled c (cons a r) =
          ap₂ cons (ap g.back (S.mul_comm c (f.fn a)) ∙ g.back-mul a c ∙ R.mul_comm a (g.back c)) (back-scaled c r)

      pub back-nil : (n : ℕ) → vmap g.back (pad S n nil) ≡ pad R n nil
      back-nil zero = refl
      back-nil (suc n) = ap₂ cons (back-zero g) (back-nil n)

      pub back-shift : (u : Vec S.E d) → vmap g.back (shift S σ u) ≡ shift R ρ (vmap g.back u)
      unfolding shift
      back-shift u = rw (← e, back_sum, map_push, back-scaled, map_last g.back, back-zero g)

      pub back-act : {n : ℕ} (p : Vec R.E n) (u : Vec S.E d) → vmap g.back (act S σ (vmap f.fn p) u) ≡ act R ρ p (vmap g.back u)
      unfolding act
      back-act nil u = back-nil d
      back-act (cons a p) u =
          rw (
            back_sum (scale S (f.fn a) u) (shift S σ (act S σ (vmap f.fn p) u)),
            back-scale a u,
            back-shift (act S σ (vmap f.fn p) u),
            back-act p u,
          )

      abbrev pub ext-back : Back ext-map
      ext-back = record { back = vmap g.back; back-add = back_sum; back-mul = back-act }
