-- Laws of tests that give a Bool. Assumes nothing.
use Rattle.std.proofs.Common.{◌≡◌, ℕ, Bool, true, false, ◌&&◌, sym, refl, arith}

pub true-false {ℓ} : {X : Type ℓ} → ◌≡◌ {A = Bool} true false → X
true-false e = absurd (let q : ◌≡◌ {A = ℕ} 0 1 = cc in omega arith)

-- a test that holds where it should, and does not where it leads to ⊥
pub bool_cases : (b : Bool) {X : Type 0} → (b ≡ true → X) → (b ≡ false → X) → X
bool_cases true f g = f refl
bool_cases false f g = g refl

pub not-held : (b : Bool) → (b ≡ true → ⊥) → b ≡ false
not-held true f = absurd (f refl)
not-held false f = refl

pub and_left : (a b : Bool) → (a && b) ≡ true → a ≡ true
and_left true b e = refl
and_left false b e = e

pub and_right : (a b : Bool) → (a && b) ≡ true → b ≡ true
and_right true b e = e
and_right false b e = true-false (sym e)

pub and_both : (a b : Bool) → a ≡ true → b ≡ true → (a && b) ≡ true
and_both a b p q = simp (p, q)

-- a chain of tests, up to the first that fails
pub and_yes : (a r : Bool) {x : Bool} → a ≡ true → r ≡ x → (a && r) ≡ x
and_yes true r e q = q
and_yes false r e q = true-false (sym e)

pub and_no : (a r : Bool) → a ≡ false → (a && r) ≡ false
and_no true r e = true-false e
and_no false r e = refl

-- two tests that hold together are equal
pub same_test : (a b : Bool) → (a ≡ true → b ≡ true) → (b ≡ true → a ≡ true) → a ≡ b
same_test true b f g = sym (f refl)
same_test false true f g = g refl
same_test false false f g = refl
