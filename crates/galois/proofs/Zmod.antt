-- The integers modulo m, as the numbers that `% m` leaves alone: a commutative ring, for every m > 0. Assumes nothing.
use mathlib.Core.Path.{◌≡◌, ◌∙◌}
use mathlib.Core.HLevel.{is_prop→PathP}
use Prim.Native.Nat.{ℕ, zero, suc, ◌+◌, ◌*◌, ◌-◌, ◌%◌, ◌<◌, ◌∣◌}
use native.Mathlib.Nat.{add_assoc, add_comm, add-zero, add-mul, zero-mul, suc-mul, mul_assoc, mul_comm, mul-add, mul-one, mod-mod, add-mod-mod, mod-lt, mod_self, zero-mod, mod-mod_of_dvd, mul-div_cancel, mul-mod_left, ℕ_set}
use native.Mathlib.Omega.{arith}
use lib.Arith.{mod-mul}
use Rattle.words.proofs.Mod.{mods, mul-mod-l}
use Rattle.algebra.specs.Ring.{CommRing, Hom}
use Rattle.algebra.proofs.Units.{Back, times, times_zero, times-suc}

pub record Word (m : ℕ) : Type 0 where
  pub val : ℕ
  pub low : val % m ≡ val

pub word-ext : {m : ℕ} {x y : Word m} → x.val ≡ y.val → x ≡ y
word-ext {m} {x} {y} p =
    λ i. record { val = p i; low = is_prop→PathP (λ i. p i % m ≡ p i) (λ i. ℕ_set (p i % m) (p i)) x.low y.low i }

abbrev pub word : (m : ℕ) → ℕ → Word m
word m n = record { val = n % m; low = mod-mod n m }

pub word_of : {m : ℕ} (x : Word m) → word m x.val ≡ x
word_of x = word-ext x.low

module _ (m : ℕ) (pos : 0 < m) where
  pub neg-mod : (a : ℕ) → a % m ≡ a → (a + (m - a) % m) % m ≡ 0 % m
  neg-mod a h =
      let l : a < m = rw h at (mod-lt a pos) in
      let e : a + (m - a) ≡ m = omega arith in
      rw (add-mod-mod, e, mod_self, zero-mod)

  abbrev pub Z : CommRing
  Z =
      record {
        E = Word m;
        add = λ x y. word m (x.val + y.val);
        mul = λ x y. word m (x.val * y.val);
        neg = λ x. word m (m - x.val);
        𝟘 = word m 0;
        𝟙 = word m 1;
        add_assoc = λ x y z. word-ext (simp (mods, add_assoc));
        add_comm = λ x y. word-ext (rw (add_comm x.val y.val));
        add-zero = λ x. word-ext (simp (mods, add-zero) x.low);
        add-neg = λ x. word-ext (neg-mod x.val x.low);
        mul_assoc = λ x y z. word-ext (simp (mods, mul_assoc));
        mul_comm = λ x y. word-ext (rw (mul_comm x.val y.val));
        mul-one = λ x. word-ext (simp (mods, mul-one) x.low);
        mul-add = λ x y z. word-ext (simp (mods, mul-add));
      }

  pub times-val : (n : ℕ) (x : Word m) → (times Z n x).val ≡ n * x.val % m
  times-val zero x = rw (times_zero Z x, zero-mul)
  times-val (suc n) x = rw (times-suc Z n x, times-val n x, suc-mul) (simp mods)

  pub char : times Z m Z.𝟙 ≡ Z.𝟘
  char = word-ext (times-val m Z.𝟙 ∙ simp (mods, mul-one, mod_self, zero-mod))

-- the words modulo a divisor
module _ (m n : ℕ) (pm : 0 < m) (pn : 0 < n) (div : n ∣ m) where
  abbrev pub remainder : Hom (Z m pm) (Z n pn)
  remainder =
      record {
        fn = λ x. word n x.val;
        fn-add = λ x y. word-ext (simp (mods, mod-mod_of_dvd));
        fn-mul = λ x y. word-ext (simp (mods, mod-mod_of_dvd));
        fn-one = word-ext (mod-mod_of_dvd n 1 div);
      }

mul-mod-mul : (a m c : ℕ) → 0 < m → 0 < c → a % m * c ≡ a * c % (m * c)
mul-mod-mul a m c pm pc = rw (mod-mul (a * c) pm pc, mul-div_cancel a pc, mul-mod_left, add-zero)

-- times c, from the words modulo m to those modulo M = m c: c x depends on x modulo m alone
module _ (m c M : ℕ) (pm : 0 < m) (pc : 0 < c) (pM : 0 < M) (e : M ≡ m * c) (div : m ∣ M) where
  pub scaled : (a : ℕ) → a % m * c ≡ a * c % M
  scaled a = rw e (mul-mod-mul a m c pm pc)

  abbrev pub times-back : Back (remainder M m pM pm div)
  times-back =
      record {
        back = λ x. word M (x.val * c);
        back-add = λ x y. word-ext (simp (scaled, mods, add-mul));
        back-mul = λ x y. word-ext (rw mul-mod-l (simp (scaled, mods, mul_assoc)));
      }
