-- `elements k d` lists exactly the lists of d words below 2^k; equality of lists as a test.
-- Assumes nothing.
use mathlib.Core.Path.{◌≡◌, refl, sym, ◌∙◌, ap, ap₂}
use mathlib.Core.Logic.{◌⊎◌, inl, inr, ⊎_elim}
use mathlib.Core.Bool.{Bool, true, true≢false}
use mathlib.Core.List.Memᴰ
use mathlib.Core.List.{List, [], ◌∷◌, ◌++◌, map, Memᴰ}
use Prim.Native.Nat.{ℕ, zero, suc, ◌^◌, ◌<◌}
use native.Mathlib.Nat.{mod-lt, mod-eq_of_lt}
use native.Mathlib.Decide.{ℕ_discrete}
use native.Mathlib.Omega.{arith}
use lib.Dec.{eqb}
use lib.Pow.{pow_pos}
use lib.ListN.{length}
use borrow.Author.Tests.{eqb-true, eq-eqb}
use Rattle.words.proofs.Tests.{and_left, and_right, and_both}
use Rattle.algebra.proofs.Vec.{Vec, nil, cons}
use Rattle.galois.specs.Element.{Element, reduce, same, below, each, tuples, elements}
use Rattle.galois.specs.Field.{every}
use Rattle.galois.proofs.Zmod.{Word}
use Rattle.galois.proofs.Lists.{to_list, of_list, length-to_list, to-of, reduce-to}

-- the same words
pub same-eq : (a b : Element) → same a b ≡ true → a ≡ b
unfolding same
same-eq [] [] t = refl
same-eq [] (y ∷ b) t = absurd (true≢false (sym t))
same-eq (x ∷ a) [] t = absurd (true≢false (sym t))
same-eq (x ∷ a) (y ∷ b) t = ap₂ ◌∷◌ (eqb-true x y (and_left (eqb x y) (same a b) t)) (same-eq a b (and_right (eqb x y) (same a b) t))

pub same_refl : (a : Element) → same a a ≡ true
unfolding same
same_refl [] = refl
same_refl (x ∷ a) = and_both (eqb x x) (same a a) (eq-eqb x x refl) (same_refl a)

pub eq-same : (a b : Element) → a ≡ b → same a b ≡ true
eq-same a b e = ap (same a) (sym e) ∙ same_refl a

-- the numbers below m
pub below_all : (m i : ℕ) → i < m → Memᴰ i (below m)
unfolding below
below_all zero i h = absurd (omega arith)
below_all (suc m) i h = go (below_all m i) (ℕ_discrete i m)
  where
    go : (i < m → Memᴰ i (below m)) → Dec (i ≡ m) → Memᴰ i (below m ++ (m ∷ []))
    go r (yes e) = Memᴰ.append_right (below m) (Memᴰ.head e)
    go r (no n) = Memᴰ.append_left (m ∷ []) (r (omega arith))

pub below-only : (m i : ℕ) → Memᴰ i (below m) → i < m
unfolding below
below-only zero i h = absurd (Memᴰ.not-nil h)
below-only (suc m) i h =
    ⊎_elim {C = i < suc m} (λ t. let l : i < m = below-only m i t in omega arith) (λ t. let e : i ≡ m = Memᴰ.eq_of_singleton t in omega arith)
    (Memᴰ.append_cases (below m) h)

module _ {A : Type 0} where
  pub each_all : (xs : List A) (ls : List (List A)) {x : A} {l : List A} → Memᴰ x xs → Memᴰ l ls → Memᴰ (x ∷ l) (each xs ls)
  unfolding each
  each_all [] ls h m = absurd (Memᴰ.not-nil h)
  each_all (y ∷ xs) ls {x} {l} (Memᴰ.head e) m =
      Memᴰ.append_left (each xs ls) (Memᴰ.cast (ap (λ z. z ∷ l) e) (Memᴰ.map (λ t. y ∷ t) m))
  each_all (y ∷ xs) ls (Memᴰ.tail h) m = Memᴰ.append_right (map (λ t. y ∷ t) ls) (each_all xs ls h m)

  -- what `each` lists: a head and a rest
  pub record Split (xs : List A) (ls : List (List A)) (s : List A) : Type 0 where
    pub x : A
    pub l : List A
    pub head : Memᴰ x xs
    pub rest : Memᴰ l ls
    pub is : x ∷ l ≡ s

  pub each-only : (xs : List A) (ls : List (List A)) (s : List A) → Memᴰ s (each xs ls) → Split xs ls s
  unfolding each
  each-only [] ls s h = absurd (Memᴰ.not-nil h)
  each-only (y ∷ xs) ls s h = go (each-only xs ls s) (Memᴰ.append_cases (map (λ t. y ∷ t) ls) h)
    where
      go : (Memᴰ s (each xs ls) → Split xs ls s) → Memᴰ s (map (λ t. y ∷ t) ls) ⊎ Memᴰ s (each xs ls) → Split (y ∷ xs) ls s
      go r (inl m) =
          let t = Memᴰ.of_map (λ t. y ∷ t) ls m in
          record { x = y; l = t.0; head = Memᴰ.head refl; rest = t.1; is = t.2 }
      go r (inr m) =
          let t = r m in
          record { x = t.x; l = t.l; head = Memᴰ.tail t.head; rest = t.rest; is = t.is }

-- the elements, all of them and nothing else
pub tuples-all : (m : ℕ) → 0 < m → {n : ℕ} (u : Vec (Word m) n) → Memᴰ (to_list u) (tuples (below m) n)
unfolding tuples
tuples-all m p nil = Memᴰ.head refl
tuples-all m p (cons {n = n} w u) =
    each_all (below m) (tuples (below m) n) (below_all m w.val (rw w.low at (mod-lt w.val p))) (tuples-all m p u)

pub tuples-only : (m n : ℕ) (a : Element) → Memᴰ a (tuples (below m) n) → (u : Vec (Word m) n) × (to_list u ≡ a)
unfolding tuples
tuples-only m zero a h = (nil, sym (Memᴰ.eq_of_singleton h))
tuples-only m (suc n) a h =
    let s = each-only (below m) (tuples (below m) n) a h in
    let r = tuples-only m n s.l s.rest in
    (cons (record { val = s.x; low = mod-eq_of_lt (below-only m s.x s.head) }) r.0, ap (λ t. s.x ∷ t) r.1 ∙ s.is)

pub elements-all : (k d : ℕ) (u : Vec (Word (2 ^ k)) d) → Memᴰ (to_list u) (elements k d)
unfolding elements
elements-all k d u = tuples-all (2 ^ k) (pow_pos k) u

pub elements-only : (k d : ℕ) (a : Element) → Memᴰ a (elements k d) → (u : Vec (Word (2 ^ k)) d) × (to_list u ≡ a)
unfolding elements
elements-only k d = tuples-only (2 ^ k) d

-- the same of lists
pub listed : (k d : ℕ) (a : Element) → length a ≡ d → reduce k a ≡ a → Memᴰ a (elements k d)
listed k d a l r = Memᴰ.cast (sym (to-of k d a l ∙ r)) (elements-all k d (of_list k d a))

pub listed-only : (k d : ℕ) (a : Element) → Memᴰ a (elements k d) → (length a ≡ d) × (reduce k a ≡ a)
listed-only k d a h =
    let s = elements-only k d a h in
    (ap length (sym s.1) ∙ length-to_list s.0, ap (reduce k) (sym s.1) ∙ reduce-to k s.0 ∙ s.1)

-- all pass
module _ {A : Type 0} (t : A → Bool) where
  pub every-at : (xs : List A) → every t xs ≡ true → (x : A) → Memᴰ x xs → t x ≡ true
  unfolding every
  every-at [] e x h = absurd (Memᴰ.not-nil h)
  every-at (y ∷ xs) e x h =
      ⊎_elim {C = t x ≡ true} (λ q. ap t q ∙ and_left (t y) (every t xs) e) (λ m. every-at xs (and_right (t y) (every t xs) e) x m)
      (Memᴰ.cases_cons h)
