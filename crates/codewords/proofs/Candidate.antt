-- What the code of one level needs. A polynomial that every codeword must be decides what `codeword` is (`candidate`). Over the field, modulo
-- two, that polynomial is the one through any t + 1 shares at which the error locator of any solution of the key equation is not zero
-- (`located`), and without t + 1 such shares there is no codeword (`too_few`). Assumes nothing.
use mathlib.Core.Path.{◌≡◌, sym, ◌∙◌, ap, subst}
use mathlib.Core.Bool.{true, cond}
use mathlib.Core.List.Memᴰ
use mathlib.Core.List.{List, [], ◌∷◌, map, Memᴰ}
use mathlib.Core.Option.{none, some}
use Prim.Native.Nat.{ℕ, suc, ◌+◌, ◌*◌, ◌^◌, ◌≤◌, ◌<◌}
use native.Mathlib.Nat.{le_refl, le_trans}
use native.Mathlib.Decide.{dec_le}
use native.Mathlib.Omega.{arith}
use lib.Dec.{leb}
use lib.ListN.{length, length-map}
use borrow.Author.Tests.{le-leb, lt-leb}
use Rattle.algebra.specs.Poly.{eval}
use Rattle.algebra.specs.Shares as A
use Rattle.algebra.specs.Shares.{All, Apart, count}
use Rattle.algebra.proofs.Poly.{low-length}
use Rattle.algebra.proofs.Shares.{all_map, nonroot}
use Rattle.algebra.proofs.Interpolation.{interp, interp-only, length-interp}
use Rattle.algebra.proofs.KeyEquation.{Pairs, Inv}
use Rattle.algebra.proofs.Locator.{right, enough}
use Rattle.galois.proofs.Galois.{GR}
use Rattle.galois.proofs.Lists.{to_list, of_list, length-to_list, width-to}
use Rattle.galois.proofs.Field.{is_field}
use Rattle.galois.proofs.Instance.{ring_of}
use Rattle.polynomial.proofs.OverRing.{poly_of}
use Rattle.codewords.specs.Codeword.{Share, Polynomial, errors, codeword}
use Rattle.codewords.specs.WellFormed.{IsElement, IsPoly, Different, Holders}
use Rattle.codewords.proofs.Value.{share_of, rows_of, count-errors}
use Rattle.codewords.proofs.Unique.{poly-to, apart_of, none-codeword, codeword-only}

-- the only candidate is the codeword, if it is within the bound
pub candidate : (k d t e : ℕ) (ss : List Share) (c : Polynomial) → IsPoly k d t c →
    ((f : Polynomial) → IsPoly k d t f → errors k d f ss ≤ e → f ≡ c) →
    codeword k d t e ss ≡ cond (leb (errors k d c ss) e) (some c) none
candidate k d t e ss c i only = go (dec_le (errors k d c ss) e)
  where
    go : Dec (errors k d c ss ≤ e) → codeword k d t e ss ≡ cond (leb (errors k d c ss) e) (some c) none
    go (yes l) = rw (le-leb (errors k d c ss) e l) (codeword-only k d t e ss c i l only)
    go (no l) =
        let m : e < errors k d c ss = omega arith in
        rw (lt-leb (errors k d c ss) e m) (none-codeword k d t e ss (λ f j. far f j (dec_le (errors k d f ss) e)))
      where
        far : (f : Polynomial) → IsPoly k d t f → Dec (errors k d f ss ≤ e) → e < errors k d f ss
        far f j (yes n) = absurd (l (rw (only f j n) at n))
        far f j (no n) = omega arith

-- what holds of each holds of a member
pub member : {S : Type 0} (P : S → Type 0) (ss : List S) → All P ss → (s : S) → Memᴰ s ss → P s
member P [] a s x = elim x [ ]
member P (r ∷ ss) a s (Memᴰ.head e) = subst P (sym e) a.0
member P (r ∷ ss) a s (Memᴰ.tail m) = member P ss a.1 s m

-- a polynomial of the ring, as lists
pub poly-of : (k d t : ℕ) (f : List (GR d k).E) → length f ≡ suc t → IsPoly k d t (map to_list f)
poly-of k d t f l = (length-map f to_list ∙ l, all f)
  where
    all : (f : List (GR d k).E) → All (IsElement k d) (map to_list f)
    all [] = tt
    all (u ∷ f) = ((length-to_list u, width-to k u), all f)

module _ (d : ℕ) (dl : 2 ≤ d) (dh : d ≤ 6) (t e : ℕ) (ss : List Share) (a : Holders d ss) (m : suc t + 2 * e ≤ length ss)
    (p : Pairs (GR d 1)) (inv : Inv (GR d 1) t (map (share_of 1 d) ss) p) where
  -- a share at which the locator is not zero is right of every codeword
  hits : (f : Polynomial) → IsPoly 1 d t f → errors 1 d f ss ≤ e →
      All (λ s. nonroot (ring_of d 1) p.b₁ s ≡ true → eval (GR d 1) (poly_of 1 d f) s.at ≡ s.val) (map (share_of 1 d) ss)
  hits f i h =
      right (ring_of d 1) (is_field d dl dh) t (map (share_of 1 d) ss) (apart_of d dl dh 1 (le_refl 1) ss a) (poly_of 1 d f)
      (rw (length-map f (of_list 1 d) ∙ i.0) at (low-length (GR d 1) (poly_of 1 d f))) e
      (le_trans (count-errors d dl dh 1 f (rows_of 1 d t f i) ss) h) (rw (length-map ss (share_of 1 d)) m) p inv

  -- so every codeword goes through any t + 1 of these, chosen in any way
  module _ (rs : List (A.Share (GR d 1))) (ra : Apart (GR d 1) rs) (rl : length rs ≡ suc t)
      (rm : All (λ r. Memᴰ r (map (share_of 1 d) ss) × (nonroot (ring_of d 1) p.b₁ r ≡ true)) rs) where
    pub located : (f : Polynomial) → IsPoly 1 d t f → errors 1 d f ss ≤ e → f ≡ map to_list (interp (ring_of d 1) rs)
    located f i h =
        sym (poly-to 1 d f i.1)
        ∙ ap (map to_list)
        (interp-only (ring_of d 1) rs (poly_of 1 d f) ra (length-map f (of_list 1 d) ∙ i.0 ∙ sym rl)
        (all_map
        (λ r x. member (λ s. nonroot (ring_of d 1) p.b₁ s ≡ true → eval (GR d 1) (poly_of 1 d f) s.at ≡ s.val) (map (share_of 1 d) ss)
        (hits f i h) r x.0 x.1)
        rs rm))

    pub located-codeword :
        (let c = map to_list (interp (ring_of d 1) rs) in codeword 1 d t e ss ≡ cond (leb (errors 1 d c ss) e) (some c) none)
    located-codeword =
        candidate 1 d t e ss (map to_list (interp (ring_of d 1) rs))
        (poly-of 1 d t (interp (ring_of d 1) rs) (length-interp (ring_of d 1) rs ∙ rl)) located

  -- the same of t + 1 shares of the list under different holders
  pub chosen : (qs : List Share) → Different qs → length qs ≡ suc t →
      All (λ q. Memᴰ q ss × (nonroot (ring_of d 1) p.b₁ (share_of 1 d q) ≡ true)) qs →
      (let c = map to_list (interp (ring_of d 1) (map (share_of 1 d) qs)) in codeword 1 d t e ss ≡ cond (leb (errors 1 d c ss) e) (some c) none)
  chosen qs u l x =
      located-codeword (map (share_of 1 d) qs) (apart_of d dl dh 1 (le_refl 1) qs (bounds qs x, u)) (length-map qs (share_of 1 d) ∙ l) (all qs x)
    where
      Fit : Share → Type 0
      Fit q = Memᴰ q ss × (nonroot (ring_of d 1) p.b₁ (share_of 1 d q) ≡ true)

      bounds : (qs : List Share) → All Fit qs → All (λ (q : Share). (1 ≤ q.holder) × (q.holder < 2 ^ d)) qs
      bounds qs x = all_map (λ q y. member (λ (q : Share). (1 ≤ q.holder) × (q.holder < 2 ^ d)) ss a.0 q y.0) qs x

      all : (qs : List Share) → All Fit qs →
          All (λ r. Memᴰ r (map (share_of 1 d) ss) × (nonroot (ring_of d 1) p.b₁ r ≡ true)) (map (share_of 1 d) qs)
      all [] x = tt
      all (q ∷ qs) x = ((Memᴰ.map (share_of 1 d) x.0.0, x.0.1), all qs x.1)

  -- and where there are fewer there is no codeword
  pub too_few : count (nonroot (ring_of d 1) p.b₁) (map (share_of 1 d) ss) ≤ t → codeword 1 d t e ss ≡ none
  too_few c = none-codeword 1 d t e ss (λ f i. go f i (dec_le (errors 1 d f ss) e))
    where
      go : (f : Polynomial) → IsPoly 1 d t f → Dec (errors 1 d f ss ≤ e) → e < errors 1 d f ss
      go f i (no n) = omega arith
      go f i (yes h) =
          absurd
          (omega (
            arith,
            enough (ring_of d 1) (is_field d dl dh) t (map (share_of 1 d) ss) (apart_of d dl dh 1 (le_refl 1) ss a) (poly_of 1 d f)
                (rw (length-map f (of_list 1 d) ∙ i.0) at (low-length (GR d 1) (poly_of 1 d f))) e
                (le_trans (count-errors d dl dh 1 f (rows_of 1 d t f i) ss) h) (rw (length-map ss (share_of 1 d)) m) p inv,
          ))
