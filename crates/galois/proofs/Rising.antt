-- A product as a sum of powers of X times the second factor, one word of the first factor a turn from the lowest up, over all six words of an
-- array: what stands at d and above never comes down. Assumes nothing.
use mathlib.Core.Path.{◌≡◌, refl, sym, ap, ap₂, ◌∙◌}
use mathlib.Core.List.{[], ◌∷◌}
use Prim.Native.Nat.{ℕ, zero, suc, ◌-◌, ◌%◌, ◌^◌, ◌≤◌, ◌<◌}
use native.Mathlib.Nat.{not-suc-le-zero, le_of_suc-le-suc}
use native.Mathlib.Omega.{arith}
use lib.ListN.{length, get_or, take}
use lib.Seq.{length-take-le}
use Rattle.words.specs.Word.{add_w, mul_w}
use Rattle.words.proofs.Mod.{mods}
use Rattle.algebra.proofs.Vec.{nil}
use Rattle.algebra.proofs.Extension.{vadd, scale, pad, shift, shift-add, shift-scale, shift-nil}
use Rattle.galois.specs.Element.{Element, zero_e, zip, down_w, plus_w, add_scaled, times_x, product, held, lower}
use Rattle.galois.proofs.Zmod.{word}
use Rattle.galois.proofs.Galois.{Zk, rho, vec}
use Rattle.galois.proofs.Table.{length-lower}
use Rattle.galois.proofs.Lists.{of_list, to_list, add_scaled-of, add_scaled-to, times_x-of, times_x-to, zero_of, length-times_x, length-product}
use Rattle.galois.proofs.Zip.{zip-take, zip-swap}
use Rattle.galois.proofs.Horner.{shift-take, product-none}

-- X^n times b
unfoldable pub power_x : ℕ → Element → ℕ → Element → Element
power_x k l zero b = b
power_x k l (suc n) b = times_x k l (power_x k l n b)

plus-swap : (k c e x y z : ℕ) → plus_w k e (plus_w k c x y) z ≡ plus_w k c (plus_w k e x z) y
unfolding add_w mul_w
plus-swap k c e x y z = simp mods (ap (λ (n : ℕ). n % 2 ^ k) (omega arith))

scaled-swap : (k c e : ℕ) (x y z : Element) → add_scaled k e (add_scaled k c x y) z ≡ add_scaled k c (add_scaled k e x z) y
scaled-swap k c e = zip-swap (plus_w k e) (plus_w k c) (plus-swap k c e)

module _ (k d : ℕ) (l : Element) (len : length l ≡ d) where
  -- X times a sum, and times zero
  times_x-scaled : (c : ℕ) (x y : Element) → length x ≡ d → length y ≡ d
      → times_x k l (add_scaled k c x y) ≡ add_scaled k c (times_x k l x) (times_x k l y)
  times_x-scaled c x y hx hy =
      let R = Zk k in
      let ρ = rho (vec d l) k in
      let u = of_list k d x in
      let v = of_list k d y in
      let w = word (2 ^ k) c in
      ap (times_x k l) (add_scaled-of k c d x y hx hy)
      ∙ times_x-to k d l len (vadd R u (scale R w v))
      ∙ ap to_list (shift-add R ρ u (scale R w v) ∙ ap (vadd R (shift R ρ u)) (shift-scale R ρ w v))
      ∙ sym (add_scaled-to k c (shift R ρ u) (shift R ρ v))
      ∙ ap₂ (add_scaled k c) (sym (times_x-of k d l len x hx)) (sym (times_x-of k d l len y hy))

  pub times_x-zero : times_x k l (zero_e d) ≡ zero_e d
  times_x-zero =
      let z = pad (Zk k) d nil in
      ap (times_x k l) (zero_of k d) ∙ times_x-to k d l len z ∙ ap to_list (shift-nil (Zk k) (rho (vec d l) k)) ∙ sym (zero_of k d)

  length-power : (b : Element) → length b ≡ d → (n : ℕ) → length (power_x k l n b) ≡ d
  unfolding power_x
  length-power b hb zero = hb
  length-power b hb (suc n) = length-times_x k l (power_x k l n b) (length-power b hb n ∙ sym len) ∙ len

  -- one word more of the first factor
  product-next : (a b : Element) (j : ℕ) → length b ≡ d → j < length a
      → product k l (take (suc j) a) b ≡ add_scaled k (get_or a j 0) (product k l (take j a) b) (power_x k l j b)
  unfolding product power_x
  product-next [] b j hb h = absurd (not-suc-le-zero h)
  product-next (x ∷ a) b zero hb h = rw (len, times_x-zero)
  product-next (x ∷ a) b (suc j) hb h =
      let p = product k l (take j a) b in
      let q = power_x k l j b in
      let hp : length p ≡ d = length-product k l (take j a) b (hb ∙ sym len) ∙ len in
      ap (λ (r : Element). add_scaled k x (times_x k l r) b) (product-next a b j hb (le_of_suc-le-suc h))
      ∙ ap (λ (r : Element). add_scaled k x r b) (times_x-scaled (get_or a j 0) p q hp (length-power b hb j))
      ∙ scaled-swap k (get_or a j 0) x (times_x k l p) (times_x k l q) b

-- the next power, over six words
pub power-next : (k d : ℕ) (p b : Element) (j : ℕ) → 2 ≤ d → d ≤ 6 → d ≤ length p → 0 < j
    → take d p ≡ power_x k (lower d) (j - 1) b
    → take d (zip (down_w k (get_or p (d - 1) 0)) (0 ∷ p) (held d (lower d))) ≡ power_x k (lower d) j b
unfolding power_x
power-next k d p b zero h₂ h₆ hp z e = absurd (not-suc-le-zero z)
power-next k d p b (suc j) h₂ h₆ hp z e =
    let q : suc j - 1 ≡ j = omega arith in
    shift-take k d (lower d) p (length-lower d h₂ h₆) (omega arith) hp
    ∙ ap (times_x k (lower d)) (e ∙ ap (λ (n : ℕ). power_x k (lower d) n b) q)

-- a turn: c is the word of the first factor a at j
pub rise : (k d : ℕ) (r p a b : Element) (j c : ℕ) → 2 ≤ d → d ≤ 6 → length b ≡ d → j < length a → c ≡ get_or a j 0
    → take d p ≡ power_x k (lower d) j b → take d r ≡ product k (lower d) (take j a) b
    → take d (add_scaled k c r p) ≡ product k (lower d) (take (suc j) a) b
rise k d r p a b j c h₂ h₆ hb h ec ep er =
    zip-take (plus_w k c) d r p
    ∙ ap₂ (add_scaled k c) er ep
    ∙ ap (λ (x : ℕ). add_scaled k x (product k (lower d) (take j a) b) (power_x k (lower d) j b)) ec
    ∙ sym (product-next k d (lower d) (length-lower d h₂ h₆) a b j hb h)

-- the first turn: from zero, with the second factor itself
pub rise-first : (k d : ℕ) (a b : Element) (c : ℕ) → 2 ≤ d → d ≤ 6 → d ≤ length b → 0 < length a → c ≡ get_or a 0 0
    → take d (add_scaled k c (zero_e 6) b) ≡ product k (lower d) (take 1 a) (take d b)
unfolding power_x
rise-first k d a b c h₂ h₆ hb h ec =
    rise k d (zero_e 6) b a (take d b) 0 c h₂ h₆ (length-take-le d b hb) h ec refl (product-none k d (take d b) h₂ h₆)
