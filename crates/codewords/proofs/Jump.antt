-- The jump: let F be a polynomial that no share differs from below bit v. If bit v of what F leaves of the shares has no codeword, the shares
-- have none (`jump-none`). Otherwise every codeword of the shares differs from all those that differ there (`jump-differs`): the law of
-- dropping shares holds of these (`jump-with`). If F goes through t + 1 of the shares and nothing is dropped, no share differs from F in bit v
-- (`progress`). Assumes nothing.
use mathlib.Core.Path.{◌≡◌, refl, sym, ◌∙◌, ap, ap₂}
use mathlib.Core.Bool.{Bool, true, false, true≢false}
use mathlib.Core.List.{List, [], ◌∷◌, map, head-eq_of_cons-eq, tail-eq_of_cons-eq}
use mathlib.Core.Option
use mathlib.Core.Option.{Option, none, some, none-ne-some, some-injective}
use Prim.Native.Nat.{ℕ, zero, suc, ◌+◌, ◌*◌, ◌-◌, ◌^◌, ◌≤◌, ◌<◌}
use native.Mathlib.Nat.{le_trans, suc-ne-zero}
use native.Mathlib.Omega.{arith}
use lib.ListN.{length, length-map, take, replicate}
use lib.Seq.{length-take-le}
use lib.Count.{ones}
use Rattle.algebra.specs.Ring.{CommRing}
use Rattle.algebra.specs.Poly.{eval}
use Rattle.algebra.specs.Shares.{All}
use Rattle.algebra.proofs.Shares.{all_map, all-map₂, all_take}
use Rattle.algebra.proofs.Ring.{neg-mul, one-mul, fn-sub}
use Rattle.algebra.proofs.Poly.{scale, lin, eval-lin, length-scale, length-sum}
use Rattle.algebra.proofs.Vec.{vmap}
use Rattle.galois.specs.Element.{Element, zero_e, reduce, point}
use Rattle.galois.proofs.Galois.{GR, low, modulus}
use Rattle.galois.proofs.Lists.{to_list, of_list}
use Rattle.galois.proofs.Points.{length-point, low-point}
use Rattle.polynomial.proofs.OverRing.{poly_of}
use Rattle.codewords.specs.Codeword.{Share, Polynomial, value, differs, errors, error_set, codeword}
use Rattle.codewords.specs.Residue.{residue, bit_of, at_bit, AgreeBelow, without}
use Rattle.codewords.specs.WellFormed.{IsElement, IsPoly, InWidth, Holders}
use Rattle.codewords.proofs.Value.{share_of, Rows, rows_of, value-at, right-value, value-right, right-meets, zero-is-poly, zero-value}
use Rattle.codewords.proofs.Residue.{residue-of, residue-none, agree-reduce, bit-zeros}
use Rattle.codewords.proofs.Unique.{poly-back, unique, codeword-sound, codeword-complete}
use Rattle.codewords.proofs.ErrorSet.{set-ones}
use Rattle.codewords.proofs.Drop.{marked, drop-enough, drop-with}
use Rattle.codewords.proofs.Candidate.{poly-of}
use Rattle.codewords.proofs.Reduction.{reduce-is-poly, reduced-of, low-poly, value-reduce, bit_w, bit-to, some-bit, within, Above, eval-bit}
use Rattle.codewords.proofs.Without.{reword, all-reword, reword-all, holders-reword, Marks, count_of, set_of, errors-tally, error_set-tally, tally-reword, errors-le, none-differs, none-errors, holders-take}
pub use Rattle.codewords.proofs.Residue.{residue-element, residue-zero}
pub use Rattle.codewords.proofs.Without.{holders-without, rising-without, in-width-without}

-- the difference, as `lin` forms it
difference-by : (R : CommRing) (b c : R.E) → R.add (R.mul R.𝟙 b) (R.mul (R.neg R.𝟙) c) ≡ R.add b (R.neg c)
difference-by R b c = simp (neg-mul R, one-mul R)

-- polynomials that are the same modulo 2^v have a difference that is zero below bit v
differences-above : {v k : ℕ} (l : v < k) (d : ℕ) (p q : List (GR d k).E) →
    map (low (modulus d) (within l)).fn p ≡ map (low (modulus d) (within l)).fn q →
    (let R = GR d k in All (Above l d) (lin R R.𝟙 p (R.neg R.𝟙) q))
differences-above l d [] [] e = tt
differences-above l d [] (c ∷ q) e = absurd (suc-ne-zero _ (sym (ap length e)))
differences-above l d (b ∷ p) [] e = absurd (suc-ne-zero _ (ap length e))
differences-above {v} {k} l d (b ∷ p) (c ∷ q) e =
    let R = GR d k in (
      ap (low (modulus d) (within l)).fn (difference-by R b c) ∙ fn-sub (low (modulus d) (within l)) b c (head-eq_of_cons-eq e),
      differences-above l d p q (tail-eq_of_cons-eq e),
    )

-- what does not differ there does not here, so what differs here does there
contra : (b c : Bool) → (c ≡ false → b ≡ false) → b ≡ true → c ≡ true
contra b true f e = refl
contra b false f e = absurd (true≢false (sym e ∙ f refl))

-- shares cut to v bits
abbrev cuts : ℕ → Share → Element
cuts v s = reduce v s.words

module _ (d : ℕ) (dl : 2 ≤ d) (dh : d ≤ 6) {v k : ℕ} (l : v < k) where
  cut_right : (p : Polynomial) → Rows d p → (s : Share) → reduce v s.words ≡ reduce v (value k d p (point d s.holder)) →
      differs v d (map (reduce v) p) (reword (cuts v) s) ≡ false
  cut_right p r s e =
      value-right v d (map (reduce v) p) (reword (cuts v) s)
      (e ∙ sym (value-reduce d dl dh (within l) p r (point d s.holder) (length-point d s.holder)))

all-zeros : (n : ℕ) → All (λ b. b ≡ 0) (zero_e n)
all-zeros zero = tt
all-zeros (suc n) = (refl, all-zeros n)

-- the holders that differ at bit v, and the shares without them
module _ (d k : ℕ) (F : Polynomial) (v : ℕ) (ss : List Share) (a : Holders d ss) (g : Polynomial) where
  abbrev W : List Share
  W = map (at_bit k d F v) ss

  abbrev bits_at : Share → Element
  bits_at s = bit_of v (residue k d F s)

  abbrev differs_at : Share → Bool
  differs_at s = differs 1 d g (at_bit k d F v s)

  errors-at : errors 1 d g W ≡ count_of differs_at ss
  errors-at = errors-tally 1 d g W ∙ tally-reword (λ i. 1) bits_at (differs 1 d g) ss

  error_set-at : error_set 1 d g W ≡ set_of differs_at ss
  error_set-at = error_set-tally 1 d g W ∙ tally-reword (λ i. 2 ^ (i - 1)) bits_at (differs 1 d g) ss

  -- bit (holder - 1) of the error set is 1 exactly for the shares that differ at bit v
  pub bit-differs-at : Marks (error_set 1 d g W) differs_at ss
  bit-differs-at = rw error_set-at (marked d ss a differs_at)

  -- as many as differ are dropped
  pub ones-at : ones (error_set 1 d g W) ≡ errors 1 d g W
  ones-at = rw (error_set-at, errors-at) (set-ones differs_at ss (all_map (λ s x. x.0) ss a.0) a.1)

  -- and there are still enough
  pub enough-without : (t e : ℕ) → suc t + 2 * e ≤ length ss → errors 1 d g W ≤ e →
      suc t + 2 * (e - errors 1 d g W) ≤ length (without (error_set 1 d g W) ss)
  enough-without t e m h = rw (errors-at, error_set-at) (drop-enough d ss a differs_at t e m (rw (← errors-at) h))

module _ (d : ℕ) (dl : 2 ≤ d) (dh : d ≤ 6) (k t e : ℕ) (ss : List Share) (F : Polynomial) (v : ℕ) (a : Holders d ss) (w : InWidth k d ss)
    (m : suc t + 2 * e ≤ length ss) (i : IsPoly k d t F) where
  abbrev Ws : List Share
  Ws = map (at_bit k d F v) ss

  module _ (l : v < k) (b : AgreeBelow k d F v ss) where
    module _ (p : Polynomial) (j : IsPoly k d t p) (h : errors k d p ss ≤ e) where
      -- a polynomial within the bound is F modulo 2^v
      same-below : map (reduce v) p ≡ map (reduce v) F
      same-below =
          let c = cuts v in
          let rp = rows_of k d t p j in
          let rF = rows_of k d t F i in
          unique d dl dh v t e (map (reword c) ss) (map (reduce v) p) (map (reduce v) F) (holders-reword c d ss a)
          (rw (length-map ss (reword c)) m) (reduce-is-poly v k d t p j) (reduce-is-poly v k d t F i)
          (le_trans
          (errors-le v k d (map (reduce v) p) p c ss
          (all_map (λ s x. contra (differs v d (map (reduce v) p) (reword c s)) (differs k d p s)
          (λ e. cut_right d dl dh l p rp s (ap (reduce v) (right-value k d p s e)))) ss w))
          h)
          (rw (none-errors v d (map (reduce v) F) (map (reword c) ss)
          (all-reword c (λ s. differs v d (map (reduce v) F) s ≡ false) ss
          (all-map₂ (λ s x y. cut_right d dl dh l F rF s (agree-reduce d dl dh (within l) F rF s x.0 y)) ss w b)))
          (omega arith))

      -- what is between them, in the ring, and its bits v
      abbrev between : List (GR d k).E
      between = let R = GR d k in lin R R.𝟙 (poly_of k d p) (R.neg R.𝟙) (poly_of k d F)

      between-above : All (Above l d) between
      between-above =
          differences-above l d (poly_of k d p) (poly_of k d F)
          (low-poly (within l) d p ∙ sym (reduced-of v d p) ∙ ap (poly_of v d) same-below ∙ reduced-of v d F ∙ sym (low-poly (within l) d F))

      abbrev step : Polynomial
      step = map to_list (map (vmap (bit_w v)) between)

      length-between : length between ≡ suc t
      length-between =
          let R = GR d k in
          let x : length (scale R R.𝟙 (poly_of k d p)) ≡ suc t = length-scale R R.𝟙 (poly_of k d p) ∙ length-map p (of_list k d) ∙ j.0 in
          let y : length (scale R (R.neg R.𝟙) (poly_of k d F)) ≡ suc t =
          length-scale R (R.neg R.𝟙) (poly_of k d F) ∙ length-map F (of_list k d) ∙ i.0 in
          length-sum R (scale R R.𝟙 (poly_of k d p)) (scale R (R.neg R.𝟙) (poly_of k d F)) (x ∙ sym y) ∙ x

      step-is-poly : IsPoly 1 d t step
      step-is-poly = poly-of 1 d t (map (vmap (bit_w v)) between) (length-map between (vmap (bit_w v)) ∙ length-between)

      -- its value where p meets a share is bit v of what F leaves of that
      step_value : (s : Share) → length s.words ≡ d → eval (GR d k) (poly_of k d p) (share_of k d s).at ≡ (share_of k d s).val →
          bit_of v (residue k d F s) ≡ value 1 d step (point d s.holder)
      step_value s n x =
          let R = GR d k in
          let z = (share_of k d s).at in
          let y = eval R (poly_of k d F) z in
          ap (bit_of v) (residue-of d dl dh k F (rows_of k d t F i) s n)
          ∙ ap (λ u. bit_of v (to_list (R.add u (R.neg y)))) (sym x)
          ∙ ap (λ u. bit_of v (to_list u))
          (sym (eval-lin R R.𝟙 (poly_of k d p) (R.neg R.𝟙) (poly_of k d F) z ∙ difference-by R (eval R (poly_of k d p) z) y))
          ∙ sym (bit-to v (eval R between z))
          ∙ ap to_list (sym (eval-bit l d between between-above z))
          ∙ ap₂ (λ f u. to_list (eval (GR d 1) f u)) (sym (poly-back 1 d (map (vmap (bit_w v)) between))) (low-point d (some-bit l) s.holder)
          ∙ sym (value-at d dl dh 1 step (rows_of 1 d t step step-is-poly) s)

      -- so what differs from it differs from p
      step-differs : All (λ s. differs 1 d step (at_bit k d F v s) ≡ true → differs k d p s ≡ true) ss
      step-differs =
          all_map
          (λ s x. contra (differs 1 d step (at_bit k d F v s)) (differs k d p s)
          (λ e. value-right 1 d step (at_bit k d F v s) (step_value s x.0 (right-meets d dl dh k p (rows_of k d t p j) s e))))
          ss w

      step-codeword : codeword 1 d t e Ws ≡ some step
      step-codeword =
          let c = bits_at d k F v ss a step in
          codeword-complete d dl dh 1 t e Ws step (holders-reword c d ss a) (rw (length-map ss (at_bit k d F v)) m) step-is-poly
          (le_trans (errors-le 1 k d step p c ss step-differs) h)

    -- no codeword at bit v: none at all
    pub jump-none : codeword 1 d t e Ws ≡ none → codeword k d t e ss ≡ none
    jump-none x = go (codeword k d t e ss) refl
      where
        go : (o : Option Polynomial) → codeword k d t e ss ≡ o → o ≡ none
        go none y = refl
        go (some p) y =
            let s = codeword-sound k d t e ss p y in
            absurd (none-ne-some (step p s.0 s.1) (sym x ∙ step-codeword p s.0 s.1))

    module _ (g : Polynomial) (x : codeword 1 d t e Ws ≡ some g) where
      -- a polynomial within the bound differs from all that differ at bit v
      jump-differs : (p : Polynomial) → IsPoly k d t p → errors k d p ss ≤ e →
          All (λ s. differs 1 d g (at_bit k d F v s) ≡ true → differs k d p s ≡ true) ss
      jump-differs p j h =
          let f = step p j h in
          let same : f ≡ g = some-injective f g (sym (step-codeword p j h) ∙ x) in
          rw (← same) (step-differs p j h)

      -- they are dropped: the codeword of the others, within what is left of the bound, is the same, and so is what is made of it and its error set
      pub jump-with : {X : Type 0} (f : Polynomial → ℕ → X) →
          Option.map (λ p. f p (error_set k d p ss)) (codeword k d t e ss)
          ≡ Option.map (λ p. f p (error_set 1 d g Ws + error_set k d p (without (error_set 1 d g Ws) ss)))
          (codeword k d t (e - errors 1 d g Ws) (without (error_set 1 d g Ws) ss))
      jump-with f =
          let n : errors 1 d g Ws ≤ e = (codeword-sound 1 d t e Ws g x).1 in
          rw (errors-at d k F v ss a g, error_set-at d k F v ss a g)
          (drop-with d ss a (differs_at d k F v ss a g) t e m (rw (← errors-at d k F v ss a g) n) k jump-differs dl dh f)

  -- where F goes through the first t + 1 shares, bit v of what it leaves of them has the codeword zero
  still : (s : Share) → IsElement k d s.words → differs k d F s ≡ false → differs 1 d (replicate (suc t) (zero_e d)) (at_bit k d F v s) ≡ false
  still s x e =
      value-right 1 d (replicate (suc t) (zero_e d)) (at_bit k d F v s)
      (ap (bit_of v) (residue-none d dl dh k F (rows_of k d t F i) s x.0 (right-meets d dl dh k F (rows_of k d t F i) s e))
      ∙ bit-zeros v d ∙ sym (zero-value 1 d dl dh t s))

  module _ (h : errors k d F (take (suc t) ss) ≡ 0) (g : Polynomial) (x : codeword 1 d t e Ws ≡ some g) (n : errors 1 d g Ws ≡ 0) where
    right-at : All (λ s. differs 1 d g (at_bit k d F v s) ≡ false) ss
    right-at = reword-all (bits_at d k F v ss a g) (λ s. differs 1 d g s ≡ false) ss (none-differs 1 d g Ws n)

    zero-at : replicate (suc t) (zero_e d) ≡ g
    zero-at =
        let z = replicate (suc t) (zero_e d) in
        let c = bits_at d k F v ss a g in
        let rs = take (suc t) ss in
        let right : errors 1 d g (map (reword c) rs) ≡ 0 =
        none-errors 1 d g (map (reword c) rs) (all-reword c (λ s. differs 1 d g s ≡ false) rs (all_take (λ s y. y) (suc t) ss right-at)) in
        let zero : errors 1 d z (map (reword c) rs) ≡ 0 =
        none-errors 1 d z (map (reword c) rs)
        (all-reword c (λ s. differs 1 d z s ≡ false) rs (all-map₂ still rs (all_take (λ s y. y) (suc t) ss w) (none-differs k d F rs h))) in
        let long : length (map (reword c) rs) ≡ suc t = length-map rs (reword c) ∙ length-take-le (suc t) ss (omega arith) in
        unique d dl dh 1 t 0 (map (reword c) rs) z g (holders-reword c d rs (holders-take d (suc t) ss a)) (omega arith)
        (zero-is-poly 1 d t) (codeword-sound 1 d t e Ws g x).0 (omega arith) (omega arith)

    -- so if nothing differs at bit v, that bit is zero everywhere
    pub progress : All (λ s. All (λ b. b ≡ 0) (bit_of v (residue k d F s))) ss
    progress = all_map zeros ss right-at
      where
        zeros : (s : Share) → differs 1 d g (at_bit k d F v s) ≡ false → All (λ b. b ≡ 0) (bit_of v (residue k d F s))
        zeros s y =
            let e : bit_of v (residue k d F s) ≡ zero_e d =
            right-value 1 d g (at_bit k d F v s) y ∙ ap (λ q. value 1 d q (point d s.holder)) (sym zero-at) ∙ zero-value 1 d dl dh t s in
            rw e (all-zeros d)
