-- What a codeword is found in: the list of all polynomials has exactly those of t + 1 coefficients, each an element. Assumes nothing.
use mathlib.Core.Path.{◌≡◌, refl, sym, ◌∙◌, ap}
use mathlib.Core.List.Memᴰ
use mathlib.Core.List.{List, [], ◌∷◌, Memᴰ}
use Prim.Native.Nat.{ℕ, zero, suc}
use native.Mathlib.Nat.{suc_inj, suc-ne-zero}
use lib.ListN.{length, length-replicate}
use Rattle.words.specs.Word.{all_in_width}
use Rattle.algebra.specs.Shares.{All}
use Rattle.algebra.proofs.Shares.{all_map}
use Rattle.algebra.proofs.Vec.{nil}
use Rattle.algebra.proofs.Extension.{pad}
use Rattle.galois.specs.Element.{Element, zero_e, reduce, tuples, elements}
use Rattle.galois.proofs.Galois.{Zk}
use Rattle.galois.proofs.Lists.{reduce-width, width-reduce, width-to, zero_of}
use Rattle.galois.proofs.Elements.{each_all, each-only, listed, listed-only}
use Rattle.codewords.specs.Codeword.{Polynomial, polynomials}
use Rattle.codewords.specs.WellFormed.{IsElement, IsPoly}

-- the elements are the lists that `reduce k` leaves alone
pub fixed : (k d : ℕ) (a : Element) → IsElement k d a → reduce k a ≡ a
fixed k d a h = reduce-width k a h.1

pub element-of : (k d : ℕ) (a : Element) → length a ≡ d → reduce k a ≡ a → IsElement k d a
element-of k d a l h = (l, ap (all_in_width k) (sym h) ∙ width-reduce k a)

pub zero-element : (k d : ℕ) → IsElement k d (zero_e d)
zero-element k d = (length-replicate d 0, ap (all_in_width k) (zero_of k d) ∙ width-to k (pad (Zk k) d nil))

module _ {A : Type 0} where
  -- the lists of n members of xs, all of them and nothing else
  pub lists-all : (xs : List A) (n : ℕ) (l : List A) → length l ≡ n → All (λ x. Memᴰ x xs) l → Memᴰ l (tuples xs n)
  unfolding tuples
  lists-all xs zero [] e h = Memᴰ.head refl
  lists-all xs zero (x ∷ l) e h = absurd (suc-ne-zero (length l) e)
  lists-all xs (suc n) [] e h = absurd (suc-ne-zero n (sym e))
  lists-all xs (suc n) (x ∷ l) e h = each_all xs (tuples xs n) h.0 (lists-all xs n l (suc_inj e) h.1)

  pub lists-only : (xs : List A) (n : ℕ) (l : List A) → Memᴰ l (tuples xs n) → (length l ≡ n) × All (λ x. Memᴰ x xs) l
  unfolding tuples
  lists-only xs zero l h = rw (Memᴰ.eq_of_singleton h) (refl, tt)
  lists-only xs (suc n) l h =
      let s = each-only xs (tuples xs n) l h in
      let r = lists-only xs n s.l s.rest in
      rw (← s.is) (ap suc r.0, (s.head, r.1))

-- a polynomial is listed exactly when it is one
pub listed-poly : (k d t : ℕ) (p : Polynomial) → IsPoly k d t p → Memᴰ p (polynomials k d t)
unfolding polynomials
listed-poly k d t p (l, h) =
    lists-all (elements k d) (suc t) p l (all_map (λ a e. listed k d a e.0 (fixed k d a e)) p h)

pub poly-listed : (k d t : ℕ) (p : Polynomial) → Memᴰ p (polynomials k d t) → IsPoly k d t p
unfolding polynomials
poly-listed k d t p m =
    let s = lists-only (elements k d) (suc t) p m in
    (s.0, all_map (λ a n. let e = listed-only k d a n in element-of k d a e.0 e.1) p s.1)
