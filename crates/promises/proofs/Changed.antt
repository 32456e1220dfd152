-- Sets of changed holders: the shares that differ from a polynomial are those of the holders whose words are not its values (`errors-changed`),
-- nobody is changed where nothing is (`none-changed`), and where what is right stays right no more holders are changed (`changed-fewer`). Assumes
-- nothing.
use mathlib.Core.Path.{◌≡◌, refl, sym, ap, ap₂, ◌∙◌}
use mathlib.Core.Bool.{Bool, true, false}
use mathlib.Core.List.{List, [], ◌∷◌, map}
use Prim.Native.Nat.{ℕ, ◌+◌, ◌-◌, ◌^◌, ◌≤◌}
use native.Mathlib.Omega.{arith}
use lib.Count.{ones}
use Rattle.algebra.specs.Shares.{All}
use Rattle.galois.specs.Element.{Element, point}
use Rattle.algebra.proofs.Shares.{all_map}
use Rattle.words.proofs.Tests.{true-false, bool_cases}
use Rattle.comparison.proofs.Compared.{none-same, apart-not}
use Rattle.comparison.specs.Comparison.{apart}
use Rattle.codewords.proofs.ErrorSet.{set-ones}
use Rattle.codewords.proofs.Without.{tally, count_of, set_of}
use Rattle.codewords.specs.Codeword.{Share, Polynomial, value, when, differs, error_set}
use Rattle.codewords.specs.WellFormed.{Holders}
use Rattle.promises.specs.Written.{changed_holders}

-- shares under holders
abbrev pub shares_with : (ℕ → Element) → List ℕ → List Share
shares_with v = map (λ h. record { holder = h; words = v h })

pub errors-changed : (k d : ℕ) (q : Polynomial) (v : ℕ → Element) (hs : List ℕ) →
    error_set k d q (shares_with v hs) ≡ changed_holders (λ h. value k d q (point d h)) v hs
unfolding error_set differs changed_holders
errors-changed k d q v [] = refl
errors-changed k d q v (h ∷ hs) =
    ap (λ (n : ℕ). when (apart (v h) (value k d q (point d h))) (2 ^ (h - 1)) + n) (errors-changed k d q v hs)

pub changed-same : (u v is : ℕ → Element) (hs : List ℕ) → All (λ h. u h ≡ v h) hs → changed_holders u is hs ≡ changed_holders v is hs
unfolding changed_holders
changed-same u v is [] e = refl
changed-same u v is (h ∷ hs) e =
    ap₂ (λ (x : Element) (n : ℕ). when (apart (is h) x) (2 ^ (h - 1)) + n) e.0 (changed-same u v is hs e.1)

pub none-changed : (u is : ℕ → Element) (hs : List ℕ) → All (λ h. is h ≡ u h) hs → changed_holders u is hs ≡ 0
unfolding changed_holders
none-changed u is [] e = refl
none-changed u is (h ∷ hs) e =
    ap₂ (λ (b : Bool) (n : ℕ). when b (2 ^ (h - 1)) + n) (ap (λ (x : Element). apart x (u h)) e.0 ∙ apart-not (u h))
    (none-changed u is hs e.1)

pub no_ones : ones 0 ≡ 0
unfolding ones
no_ones = refl

-- ---- fewer are changed

-- as many ones as holders are changed
module _ (should is : ℕ → Element) where
  changed : Share → Bool
  changed s = apart (is s.holder) (should s.holder)

  changed-set : (hs : List ℕ) → changed_holders should is hs ≡ set_of changed (shares_with (λ h. []) hs)
  unfolding changed_holders tally changed
  changed-set [] = refl
  changed-set (h ∷ hs) = ap (λ (n : ℕ). when (apart (is h) (should h)) (2 ^ (h - 1)) + n) (changed-set hs)

count-fewer : (b c : Share → Bool) (ss : List Share) → All (λ s. b s ≡ true → c s ≡ true) ss → count_of b ss ≤ count_of c ss
unfolding tally
count-fewer b c [] h = omega arith
count-fewer b c (s ∷ ss) h = go (b s) (c s) h.0 (count-fewer b c ss h.1)
  where
    go : (x y : Bool) → (x ≡ true → y ≡ true) → count_of b ss ≤ count_of c ss → when x 1 + count_of b ss ≤ when y 1 + count_of c ss
    go true true f l = omega arith
    go true false f l = true-false (sym (f refl))
    go false y f l = omega arith

pub changed-fewer : (d : ℕ) (u v u' v' : ℕ → Element) (hs : List ℕ) → Holders d (shares_with (λ h. []) hs) →
    All (λ h. v h ≡ u h → v' h ≡ u' h) hs → ones (changed_holders u' v' hs) ≤ ones (changed_holders u v hs)
unfolding changed
changed-fewer d u v u' v' hs good h =
    let ss = shares_with (λ h. []) hs in
    let low = all_map (λ (s : Share) x. x.0) ss good.0 in
    rw (changed-set u' v' hs, changed-set u v hs, set-ones (changed u' v') ss low good.1, set-ones (changed u v) ss low good.1)
    (count-fewer (changed u' v') (changed u v) ss (each hs h))
  where
    one : (h : ℕ) → (v h ≡ u h → v' h ≡ u' h) → apart (v' h) (u' h) ≡ true → apart (v h) (u h) ≡ true
    one h f e =
        bool_cases (apart (v h) (u h))
        (λ t. t)
        (λ t. true-false (sym e ∙ ap (λ (x : Element). apart x (u' h)) (f (none-same (v h) (u h) t)) ∙ apart-not (u' h)))

    each : (l : List ℕ) → All (λ h. v h ≡ u h → v' h ≡ u' h) l → All (λ s. changed u' v' s ≡ true → changed u v s ≡ true) (shares_with (λ h. []) l)
    each [] x = tt
    each (h ∷ l) x = (one h x.0, each l x.1)
