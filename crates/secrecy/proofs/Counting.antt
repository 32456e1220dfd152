-- Counting: over all coefficients, each job gives any t given shares exactly once (`gives-once`), so any two jobs equally often (`equally-often`). What
-- is counted over has each list of t coefficients with which dealing returns 0 exactly once, and nothing else (`coefficients-once`,
-- `coefficients-deal`). Assumes nothing.
use mathlib.Core.Path.{◌≡◌, refl, sym, ◌∙◌, ap, ap₂}
use mathlib.Core.Bool.{Bool, true, false, ◌&&◌}
use mathlib.Core.List.{List, [], ◌∷◌, ◌++◌, map, Memᴰ}
use mathlib.Core.Logic.{◌↔◌}
use Prim.Native.Nat.{ℕ, zero, suc, ◌+◌, ◌*◌, ◌^◌, ◌≤◌, ◌<◌}
use native.Mathlib.Nat.{suc_inj, suc-ne-zero}
use native.Mathlib.Decide.{ℕ_discrete}
use native.Mathlib.Omega.{arith}
use lib.Dec.{eqb}
use lib.ListN.{length}
use borrow.Author.Tests.{eq-eqb, ne_eqb}
use Rattle.words.specs.Params.{params_ok}
use Rattle.words.specs.Word.{in_width, all_in_width}
use Rattle.words.specs.declared.Params.{Params}
use Rattle.words.proofs.Tests.{and_left, and_right, and_both, same_test}
use Rattle.words.proofs.Width.{in-width-lt}
use Rattle.algebra.specs.Shares.{All, bit, count}
use Rattle.galois.specs.Element.{Element, same, below, each, tuples, elements}
use Rattle.galois.proofs.Elements.{same-eq, eq-same, listed, listed-only}
use Rattle.codewords.specs.Codeword.{Share}
use Rattle.codewords.specs.WellFormed.{IsElement}
use Rattle.codewords.proofs.Find.{fixed, element-of}
use Rattle.sharing.proofs.Faults.{deal-clear}
use Rattle.promises.specs.Written.{Deals, share_of}
use Rattle.secrecy.specs.Secrecy.{Group, job_with, coefficient_lists, gives, how_often}
use Rattle.secrecy.proofs.Dealing.{dealable, one-dealing}

-- ---- counts of lists

module _ {A : Type 0} where
  count-append : (t : A → Bool) (xs ys : List A) → count t (xs ++ ys) ≡ count t xs + count t ys
  count-append t [] ys = omega arith
  count-append t (x ∷ xs) ys = omega (arith, count-append t xs ys)

  -- tests that say the same of each
  count_same : (t u : A → Bool) (xs : List A) → ((x : A) → Memᴰ x xs → t x ≡ u x) → count t xs ≡ count u xs
  count_same t u [] h = refl
  count_same t u (x ∷ xs) h =
      ap₂ (λ (b : Bool) (n : ℕ). bit b + n) (h x (Memᴰ.head refl)) (count_same t u xs (λ y m. h y (Memᴰ.tail m)))

-- a test of the first and a test of the others: as many as the product says
module _ {A : Type 0} (v : List A → Bool) (t : A → Bool) (u : List A → Bool) (is : (x : A) (l : List A) → v (x ∷ l) ≡ (t x && u l)) where
  count-first : (x : A) (ls : List (List A)) → count v (map (λ l. x ∷ l) ls) ≡ bit (t x) * count u ls
  count-first x [] = omega arith
  count-first x (l ∷ ls) = go (t x) (v (x ∷ l)) (is x l) (count-first x ls)
    where
      go : (b w : Bool) → w ≡ (b && u l) → {n : ℕ} → n ≡ bit b * count u ls → bit w + n ≡ bit b * (bit (u l) + count u ls)
      go true w e h = omega (arith, ap bit e, h)
      go false w e h = omega (arith, ap bit e, h)

  count-each : (xs : List A) (ls : List (List A)) → count v (each xs ls) ≡ count t xs * count u ls
  unfolding each
  count-each [] ls = omega arith
  count-each (x ∷ xs) ls =
      count-append v (map (λ l. x ∷ l) ls) (each xs ls) ∙ omega (arith, count-first x ls, count-each xs ls)

-- ---- each list of words exactly once

below_none : (m y : ℕ) → m ≤ y → count (eqb y) (below m) ≡ 0
unfolding below
below_none zero y h = refl
below_none (suc m) y h =
    count-append (eqb y) (below m) (m ∷ []) ∙ omega (arith, below_none m y (omega arith), ap bit (ne_eqb y m (λ e. omega (arith, e, h))))

below-once : (m y : ℕ) → y < m → count (eqb y) (below m) ≡ 1
unfolding below
below-once zero y h = absurd (omega arith)
below-once (suc m) y h = count-append (eqb y) (below m) (m ∷ []) ∙ go (ℕ_discrete y m) (below-once m y)
  where
    go : Dec (y ≡ m) → (y < m → count (eqb y) (below m) ≡ 1) → count (eqb y) (below m) + count (eqb y) (m ∷ []) ≡ 1
    go (yes e) r = omega (arith, below_none m y (omega (arith, e)), ap bit (eq-eqb y m e))
    go (no n) r = omega (arith, r (omega arith), ap bit (ne_eqb y m n))

tuples-once : (m n : ℕ) (c : List ℕ) → length c ≡ n → All (λ w. w < m) c → count (same c) (tuples (below m) n) ≡ 1
unfolding tuples same
tuples-once m zero [] l h = refl
tuples-once m zero (w ∷ c) l h = absurd (suc-ne-zero (length c) l)
tuples-once m (suc n) [] l h = absurd (suc-ne-zero n (sym l))
tuples-once m (suc n) (w ∷ c) l h =
    count-each (same (w ∷ c)) (eqb w) (same c) (λ x r. refl) (below m) (tuples (below m) n)
    ∙ ap₂ ◌*◌ (below-once m w h.0) (tuples-once m n c (suc_inj l) h.1)

words-below : (k : ℕ) (c : List ℕ) → all_in_width k c ≡ true → All (λ w. w < 2 ^ k) c
unfolding all_in_width
words-below k [] e = tt
words-below k (w ∷ c) e = (in-width-lt k w (and_left (in_width k w) _ e), words-below k c (and_right (in_width k w) _ e))

pub coefficients-once : (p : Params) (c : List ℕ) → length c ≡ p.t * p.d → all_in_width p.k c ≡ true → count (same c) (coefficient_lists p) ≡ 1
unfolding elements
coefficients-once p c l w = tuples-once (2 ^ p.k) (p.t * p.d) c l (words-below p.k c w)

-- ---- the shares of a group

module _ (p : Params) (a : Element) where
  gives-yes : (c : List ℕ) (ss : List Share) → All (λ (s : Share). s.words ≡ share_of p (job_with a c) s.holder) ss → gives p ss a c ≡ true
  unfolding gives
  gives-yes c [] h = refl
  gives-yes c (s ∷ ss) h = and_both _ _ (eq-same s.words (share_of p (job_with a c) s.holder) h.0) (gives-yes c ss h.1)

  yes-gives : (c : List ℕ) (ss : List Share) → gives p ss a c ≡ true → All (λ (s : Share). s.words ≡ share_of p (job_with a c) s.holder) ss
  unfolding gives
  yes-gives c [] e = tt
  yes-gives c (s ∷ ss) e =
      let v = share_of p (job_with a c) s.holder in
      (same-eq s.words v (and_left (same s.words v) _ e), yes-gives c ss (and_right (same s.words v) _ e))

module _ (p : Params) (ok : params_ok p ≡ true) where
  pub coefficients-deal : (a : Element) → IsElement p.k p.d a → (c : List ℕ) → Deals p (job_with a c) ↔ Memᴰ c (coefficient_lists p)
  coefficients-deal a e c = (
    λ t. (let i = deal-clear p a c t.n t.no_fault in
        listed p.k (p.t * p.d) c i.coefficients-length
        (fixed p.k (p.t * p.d) c (i.coefficients-length, i.coefficients-width))),
    λ m. (let l = listed-only p.k (p.t * p.d) c m in
        dealable p ok a c e l.0 (element-of p.k (p.t * p.d) c l.0 l.1).1),
  )

  module _ (ss : List Share) (g : Group p ss) where
    pub gives-once : (a : Element) → IsElement p.k p.d a → how_often p ss a ≡ 1
    gives-once a e =
        let o = one-dealing p ok ss g a e in
        let i = deal-clear p a o.it o.has.deals.n o.has.deals.no_fault in
        count_same (gives p ss a) (same o.it) (coefficient_lists p)
        (λ c m. same_test (gives p ss a c) (same o.it c)
        (λ t. eq-same o.it c (sym (o.only c (record { deals = (coefficients-deal a e c).1 m; shares = yes-gives p a c ss t }))))
        (λ t. ap (gives p ss a) (sym (same-eq o.it c t)) ∙ gives-yes p a o.it ss o.has.shares))
        ∙ coefficients-once p o.it i.coefficients-length i.coefficients-width

    pub equally-often : (a b : Element) → IsElement p.k p.d a → IsElement p.k p.d b → how_often p ss a ≡ how_often p ss b
    equally-often a b e f = gives-once a e ∙ sym (gives-once b f)
