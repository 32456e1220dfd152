-- Internal: commutative rings, as records of their operations and laws. Assumes nothing.
use Rattle.std.specs.Prelude.{◌≡◌, Bool, true, ◌≢◌}

-- A commutative ring with one.
pub record CommRing : Type 1 where
  pub E : Type 0
  pub add : E → E → E
  pub mul : E → E → E
  pub neg : E → E
  pub 𝟘 : E
  pub 𝟙 : E
  pub add_assoc : (a b c : E) → add (add a b) c ≡ add a (add b c)
  pub add_comm : (a b : E) → add a b ≡ add b a
  pub add-zero : (a : E) → add a 𝟘 ≡ a
  pub add-neg : (a : E) → add a (neg a) ≡ 𝟘
  pub mul_assoc : (a b c : E) → mul (mul a b) c ≡ mul a (mul b c)
  pub mul_comm : (a b : E) → mul a b ≡ mul b a
  pub mul-one : (a : E) → mul a 𝟙 ≡ a
  pub mul-add : (a b c : E) → mul a (add b c) ≡ add (mul a b) (mul a c)

-- One that can be computed with: a test of equality, and an inverse that is right at each unit (elsewhere nothing is said of it).
pub record DiscreteRing : Type 1 where
  pub ring : CommRing
  pub inv : ring.E → ring.E
  pub eqb : ring.E → ring.E → Bool
  pub inv-unit : (u v : ring.E) → ring.mul v u ≡ ring.𝟙 → ring.mul (inv u) u ≡ ring.𝟙
  pub eqb_refl : (a : ring.E) → eqb a a ≡ true
  pub eqb-eq : (a b : ring.E) → eqb a b ≡ true → a ≡ b

-- What has an inverse, with its inverse.
abbrev pub IsUnit : (R : CommRing) → R.E → Type 0
IsUnit R u = (v : R.E) × (R.mul v u ≡ R.𝟙)

-- A field: everything but zero has an inverse.
pub record IsField (R : CommRing) : Type 0 where
  pub unit : (a : R.E) → a ≢ R.𝟘 → IsUnit R a
  pub apart : R.𝟙 ≢ R.𝟘

-- A map of rings.
pub record Hom (R S : CommRing) : Type 0 where
  pub fn : R.E → S.E
  pub fn-add : (a b : R.E) → fn (R.add a b) ≡ S.add (fn a) (fn b)
  pub fn-mul : (a b : R.E) → fn (R.mul a b) ≡ S.mul (fn a) (fn b)
  pub fn-one : fn R.𝟙 ≡ S.𝟙
