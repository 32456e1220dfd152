-- A ring whose elements are their lowest bits and what is above: a polynomial over it is one over the ring of the lowest bits and a multiple
-- of one over the ring of the others, and it misses a share exactly when one of these misses its part of the share (`misses-join`). Assumes
-- nothing.
use mathlib.Core.Path.{◌≡◌, refl, sym, ◌∙◌, ap, ap₂}
use mathlib.Core.Bool.{Bool, true, false, not, ◌||◌, false≢true}
use mathlib.Core.List.{List, [], ◌∷◌, map}
use Rattle.algebra.specs.Ring.{CommRing, DiscreteRing, Hom}
use Rattle.algebra.specs.Poly.{eval}
use Rattle.algebra.specs.Shares.{Share, misses}
use Rattle.algebra.proofs.Ring.{add-zero, add-sub-left, cancel, zero-of-double, fn-sub, eqb-true}
use Rattle.algebra.proofs.Poly.{padd, eval-padd, eval-map}

-- `R` has one bit more than `S`, and `K` is what is left of both modulo two: an element of `R` goes to its lowest bits by `red` and to all but
-- its highest by `low`; `up` takes bits for an element, `dbl` doubles, and `half` undoes that.
pub record Split (R S K : CommRing) : Type 0 where
  pub red : Hom R K
  pub low : R.E → S.E
  pub up : K.E → R.E
  pub dbl : S.E → R.E
  pub half : R.E → S.E
  pub red-up : (a : K.E) → red.fn (up a) ≡ a
  pub dbl-add : (a b : S.E) → dbl (S.add a b) ≡ R.add (dbl a) (dbl b)
  pub dbl-mul : (c : R.E) (a : S.E) → dbl (S.mul (low c) a) ≡ R.mul c (dbl a)
  pub dbl-inj : (a b : S.E) → dbl a ≡ dbl b → a ≡ b
  pub red-dbl : (a : S.E) → red.fn (dbl a) ≡ K.𝟘
  pub dbl-half : (a : R.E) → red.fn a ≡ K.𝟘 → dbl (half a) ≡ a

module _ {R S K : CommRing} (P : Split R S K) where
  infixl 65 ◌⊕◌
  infixl 70 ◌⊗◌
  open R use {E, add as ◌⊕◌, mul as ◌⊗◌, neg as ⊖, 𝟘}
  open P use {low, up, dbl, half}

  abbrev red : E → K.E
  red = P.red.fn

  red-add-dbl : (u : E) (b : S.E) → red (u ⊕ dbl b) ≡ red u
  red-add-dbl u b = P.red.fn-add u (dbl b) ∙ rw (P.red-dbl b, add-zero)

  -- `y` is `u` and the double of `b` exactly when it has the lowest bits of `u`, and `b` is half of the difference
  pub whole : (u y : E) (b : S.E) → red u ≡ red y → b ≡ half (y ⊕ ⊖ u) → u ⊕ dbl b ≡ y
  whole u y b e h = ap (λ v. u ⊕ dbl v) h ∙ rw (P.dbl-half (y ⊕ ⊖ u) (fn-sub P.red y u (sym e))) (add-sub-left R y u)

  pub parts : (u y : E) (b : S.E) → u ⊕ dbl b ≡ y → (red u ≡ red y) × (b ≡ half (y ⊕ ⊖ u))
  parts u y b h =
      let e : red u ≡ red y = sym (red-add-dbl u b) ∙ ap red h in
      (e, P.dbl-inj _ _ (cancel R u (dbl b) (dbl (half (y ⊕ ⊖ u))) (h ∙ sym (whole u y _ e refl))))

  -- a polynomial's lowest bits, what is left of it, and the two put together
  abbrev pub reds : List E → List K.E
  reds = map red

  abbrev pub ups : List K.E → List E
  ups = map up

  abbrev pub join : List K.E → List S.E → List E
  join g h = padd R (ups g) (map dbl h)

  -- their values
  dbl-zero : dbl S.𝟘 ≡ 𝟘
  dbl-zero = zero-of-double R (dbl S.𝟘) (sym (P.dbl-add S.𝟘 S.𝟘) ∙ ap dbl (add-zero S S.𝟘))

  eval-dbl : (h : List S.E) (x : E) → eval R (map dbl h) x ≡ dbl (eval S h (low x))
  eval-dbl [] x = sym dbl-zero
  eval-dbl (b ∷ h) x =
      ap (λ v. dbl b ⊕ x ⊗ v) (eval-dbl h x) ∙ ap (λ v. dbl b ⊕ v) (sym (P.dbl-mul x (eval S h (low x))))
      ∙ sym (P.dbl-add b (S.mul (low x) (eval S h (low x))))

  pub eval-join : (g : List K.E) (h : List S.E) (x : E) → eval R (join g h) x ≡ eval R (ups g) x ⊕ dbl (eval S h (low x))
  eval-join g h x = eval-padd R (ups g) (map dbl h) x ∙ ap (λ v. eval R (ups g) x ⊕ v) (eval-dbl h x)

  reds-ups : (g : List K.E) → reds (ups g) ≡ g
  reds-ups [] = refl
  reds-ups (a ∷ g) = ap₂ (λ x l. x ∷ l) (P.red-up a) (reds-ups g)

  pub red-eval : (g : List K.E) (x : E) → red (eval R (ups g) x) ≡ eval K g (red x)
  red-eval g x = eval-map P.red (ups g) x ∙ ap (λ l. eval K l (red x)) (reds-ups g)

  -- a share modulo two, and what is left of one once the value of the lowest bits is taken off
  abbrev pub below : Share R → Share K
  below s = record { at = red s.at; val = red s.val }

  abbrev pub next : List K.E → Share R → Share S
  next g s = record { at = low s.at; val = half (s.val ⊕ ⊖ (eval R (ups g) s.at)) }

  -- a share is right of the whole exactly when it is of both parts
  pub right-parts : (g : List K.E) (h : List S.E) (s : Share R) → eval R (join g h) s.at ≡ s.val →
      (eval K g (below s).at ≡ (below s).val) × (eval S h (next g s).at ≡ (next g s).val)
  right-parts g h s e =
      let p = parts (eval R (ups g) s.at) s.val (eval S h (low s.at)) (sym (eval-join g h s.at) ∙ e) in
      (sym (red-eval g s.at) ∙ p.0, p.1)

  pub right-whole : (g : List K.E) (h : List S.E) (s : Share R) → eval K g (below s).at ≡ (below s).val →
      eval S h (next g s).at ≡ (next g s).val → eval R (join g h) s.at ≡ s.val
  right-whole g h s e k = eval-join g h s.at ∙ whole (eval R (ups g) s.at) s.val (eval S h (low s.at)) (red-eval g s.at ∙ e) k

-- tests of equality that hold together
both : (a b c : Bool) → (a ≡ true → (b ≡ true) × (c ≡ true)) → (b ≡ true → c ≡ true → a ≡ true) → not a ≡ (not b || not c)
both true b c f g = let p = f refl in rw (p.0, p.1)
both false true true f g = absurd (false≢true (g refl refl))
both false true false f g = refl
both false false c f g = refl

module _ (R S K : DiscreteRing) (P : Split R.ring S.ring K.ring) where
  -- The wrong shares: those that the lowest bits miss, and those that the rest misses.
  pub misses-join : (g : List K.ring.E) (h : List S.ring.E) (s : Share R.ring) →
      misses R (join P g h) s ≡ (misses K g (below P s) || misses S h (next P g s))
  misses-join g h s =
      both _ _ _
      (λ e. let p = right-parts P g h s (R.eqb-eq _ _ e) in (eqb-true K p.0, eqb-true S p.1))
      (λ e k. eqb-true R (right-whole P g h s (K.eqb-eq _ _ e) (S.eqb-eq _ _ k)))
