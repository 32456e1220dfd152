-- Demand 2 on the calls' own definitions. Dealt shares, at least t + 1 + 2e of them and of any holders, open to the dealing polynomial, and so to
-- the job (`dealt-opens`); the sums of such shares of several jobs, share by share, to the sum of the polynomials, and so of the jobs
-- (`total-opens`); multiplied by one element, to the polynomial, and so the job, times that element, which may be either factor
-- (`multiple-opens`, `multiple-opens-by`). Nobody is named wrong. The same holds where up to e of the shares were changed in any way, to wide words
-- too: then exactly the holders of the changed ones are named (`changed-opens`, `changed-total-opens`, `changed-multiple-opens`,
-- `changed-multiple-opens-by`).
-- Assumes nothing.
use mathlib.Core.Path.{◌≡◌, refl, sym, ◌∙◌, ap, ap₂, subst}
use mathlib.Core.Bool.{true}
use mathlib.Core.List.{List, [], ◌∷◌}
use Prim.Native.Nat.{ℕ, zero, suc, ◌*◌, ◌≤◌}
use native.Mathlib.Omega.{arith}
use lib.Count.{ones}
use lib.ListN.{length, drop, get_or, length-drop}
use lib.Seq.{length-take-le}
use Rattle.words.specs.Params.{params_ok}
use Rattle.words.specs.Word.{all_in_width}
use Rattle.words.specs.declared.Params.{Params}
use Rattle.words.proofs.InRange.{InRange, ok-range, range-ok}
use Rattle.algebra.specs.Shares.{All}
use Rattle.algebra.proofs.Shares.{all_map}
use Rattle.galois.specs.Element.{Element, sum, product, lower}
use Rattle.galois.proofs.Lists.{product-comm}
use Rattle.galois.proofs.Table.{length-lower}
use Rattle.codewords.specs.Codeword.{Share, Polynomial, error_set}
use Rattle.codewords.specs.Linear.{sums, multiple}
use Rattle.codewords.specs.Opening.{opens, secret_into, wrong_into}
use Rattle.codewords.specs.WellFormed.{IsElement, IsPoly}
use Rattle.codewords.proofs.ErrorSet.{ones-errors}
use Rattle.codewords.proofs.Value.{Rows, rows_of}
use Rattle.codewords.proofs.Linear.{sums-is-poly, multiple-is-poly, sums-free, multiple-free}
use Rattle.sharing.specs.Clear.{LentClear}
use Rattle.sharing.specs.Dealing.{elements_of, dealing, dealt, deal_fault}
use Rattle.sharing.specs.Dealt.{Dealable, dealt_shares, sums_of, multiples_of, multiples_by, Job, total_of, total_shares, total_dealing}
use Rattle.sharing.specs.Dealt.{total_secret, Through, Present, changed_in, Changed, OpensTo}
use Rattle.sharing.specs.Opening.{lent, opening}
use Rattle.sharing.proofs.Elements.{elements-length}
use Rattle.sharing.proofs.Faults.{deal-clear}
use Rattle.sharing.proofs.Lent.{clear-holders, width-take, width-drop}
use Rattle.sharing.proofs.Opens.{lent-decides}
use Rattle.sharing.proofs.Values.{values_length, of-dealt, errors-changed, sum-values, changed-none}
use Rattle.sharing.proofs.Values.{multiple-values, multiple-values-by}

-- what is dealt is a polynomial of degree at most t
elements-are : (k d n : ℕ) (ws : List ℕ) → n * d ≤ length ws → all_in_width k ws ≡ true → All (IsElement k d) (elements_of d n ws)
unfolding elements_of
elements-are k d zero ws l e = tt
elements-are k d (suc n) ws l e = (
  (length-take-le d ws (omega arith), width-take k d ws e),
  elements-are k d n (drop d ws) (rw (length-drop d ws) (omega arith)) (width-drop k d ws e),
)

pub dealing-poly : (p : Params) (secret coefficients : List ℕ) (n : ℕ) → deal_fault p secret coefficients n ≡ 0
    → IsPoly p.k p.d p.t (dealing p secret coefficients)
unfolding dealing
dealing-poly p s c n e =
    let k = deal-clear p s c n e in (
      ap suc (elements-length p.d p.t c),
      ((k.secret-length, k.secret-width), elements-are p.k p.d p.t c (omega (arith, k.coefficients-length)) k.coefficients-width),
    )

no_ones : ones 0 ≡ 0
unfolding ones
no_ones = refl

-- Shares of a polynomial: sums and multiples of them are those of the sum and the multiple, and they open to it.
module _ (p : Params) (ok : params_ok p ≡ true) (hs : List ℕ) where
  range : InRange p
  range = ok-range p ok

  rows : {vs : List ℕ} {q : Polynomial} → Through p hs vs q → Rows p.d q
  rows {vs} {q} g = rows_of p.k p.d p.t q g.poly

  pub sum_through : {vs ws : List ℕ} {q r : Polynomial} → Through p hs vs q → Through p hs ws r → Through p hs (sums_of p hs vs ws) (sums p.k q r)
  sum_through {vs} {ws} {q} {r} g h =
      record {
        poly = sums-is-poly p.k p.d p.t q r g.poly h.poly;
        values =
            ap₂ (sums_of p hs) g.values h.values
            ∙ sum-values p.k p.d range.d-low range.d-high q r (rows g) (rows h) (g.poly.0 ∙ sym h.poly.0) hs;
      }

  pub multiple-through : {vs : List ℕ} {q : Polynomial} (c : Element) → length c ≡ p.d → Through p hs vs q →
      Through p hs (multiples_of p hs c vs) (multiple p.k p.d c q)
  multiple-through {vs} {q} c l g =
      record {
        poly = multiple-is-poly p.d range.d-low range.d-high p.k p.t c l q g.poly;
        values =
            ap (multiples_of p hs c) g.values ∙ multiple-values p.k p.d range.d-low range.d-high q (rows g) c l hs;
      }

  -- with the element as the second factor
  pub multiple-through-by : {vs : List ℕ} {q : Polynomial} (c : Element) → length c ≡ p.d → Through p hs vs q →
      Through p hs (multiples_by p hs vs c) (multiple p.k p.d c q)
  multiple-through-by {vs} {q} c l g =
      record {
        poly = multiple-is-poly p.d range.d-low range.d-high p.k p.t c l q g.poly;
        values =
            ap (λ (ws : List ℕ). multiples_by p hs ws c) g.values
            ∙ multiple-values-by p.k p.d range.d-low range.d-high q (rows g) c l hs;
      }

  -- also where up to e of them have been changed
  module _ (e : ℕ) (present : Present p hs e) {vs : List ℕ} {q : Polynomial} (g : Through p hs vs q) (a : Element) (free : get_or q 0 [] ≡ a) where
    pub through-opens-changed : (ws : List ℕ) → Changed p hs vs ws e → OpensTo p hs ws e q a (changed_in p hs vs ws)
    through-opens-changed ws c =
        let ss = lent p.d hs ws in
        let clear : LentClear p hs ws p.d 1 64 =
        record { params = ok; words_length = c.sized; output = refl; wrong_output = refl; lowest_output = refl; rising = present.rising } in
        let holders = clear-holders p hs ws p.d 1 64 clear in
        let same : error_set p.k p.d q ss ≡ changed_in p hs vs ws =
        rw g.values (errors-changed p.k p.d range.d-low range.d-high q (rows g) hs ws) in
        let count = ones-errors p.k p.d q ss (all_map (λ (r : Share) x. x.0) ss holders.0) holders.1 in
        let o : opening p hs ws e p.d 1 64 ≡ opens q =
        (lent-decides p hs ws e p.d 1 64 clear present.enough).finds q
        (record { poly = g.poly; near = rw (← count, same) c.few }) in
        record {
          opened = o;
          secret = λ old. ap (secret_into old) o ∙ free;
          wrong = λ old. ap (wrong_into p.k p.d ss old) o ∙ ap (λ (w : ℕ). w ∷ []) same;
        }

    pub through-opens : OpensTo p hs vs e q a 0
    through-opens =
        let none = changed-none (lent p.d hs vs) in
        subst (OpensTo p hs vs e q a) none
        (through-opens-changed vs
        (record {
          sized = rw g.values (values_length p.k p.d range.d-low range.d-high q (rows g) hs);
          few = rw (none, no_ones) (omega arith);
        }))

module _ (p : Params) (hs : List ℕ) (e : ℕ) (present : Present p hs e) where
  module _ {secret coefficients : List ℕ} (dealable : Dealable p secret coefficients) where
    ok-params : params_ok p ≡ true
    ok-params = range-ok p (deal-clear p secret coefficients dealable.n dealable.no_fault).range

    pub dealt-through : Through p hs (dealt_shares p hs secret coefficients) (dealing p secret coefficients)
    unfolding dealt
    dealt-through =
        let q = dealing p secret coefficients in
        let poly : IsPoly p.k p.d p.t q = dealing-poly p secret coefficients dealable.n dealable.no_fault in
        let r : InRange p = ok-range p ok-params in
        record {
          poly = poly;
          values = of-dealt p.k p.d r.d-low r.d-high q (rows_of p.k p.d p.t q poly) p.n 0 hs present.rising;
        }

    free_term : get_or (dealing p secret coefficients) 0 [] ≡ secret
    unfolding dealing
    free_term = refl

    pub dealt-opens : OpensTo p hs (dealt_shares p hs secret coefficients) e (dealing p secret coefficients) secret 0
    dealt-opens = through-opens p ok-params hs e present dealt-through secret free_term

    pub changed-opens : (ws : List ℕ) → Changed p hs (dealt_shares p hs secret coefficients) ws e →
        OpensTo p hs ws e (dealing p secret coefficients) secret (changed_in p hs (dealt_shares p hs secret coefficients) ws)
    changed-opens = through-opens-changed p ok-params hs e present dealt-through secret free_term

    module _ (c : Element) (element : length c ≡ p.d) where
      through-multiple : Through p hs (multiples_of p hs c (dealt_shares p hs secret coefficients))
          (multiple p.k p.d c (dealing p secret coefficients))
      through-multiple = multiple-through p ok-params hs c element dealt-through

      free-multiple : get_or (multiple p.k p.d c (dealing p secret coefficients)) 0 [] ≡ product p.k (lower p.d) c secret
      free-multiple =
          multiple-free p.k p.d p.t c (dealing p secret coefficients) dealt-through.poly.0
          ∙ ap (product p.k (lower p.d) c) free_term

      pub multiple-opens : OpensTo p hs (multiples_of p hs c (dealt_shares p hs secret coefficients)) e
          (multiple p.k p.d c (dealing p secret coefficients)) (product p.k (lower p.d) c secret) 0
      multiple-opens = through-opens p ok-params hs e present through-multiple (product p.k (lower p.d) c secret) free-multiple

      pub changed-multiple-opens : (ws : List ℕ) → Changed p hs (multiples_of p hs c (dealt_shares p hs secret coefficients)) ws e →
          OpensTo p hs ws e (multiple p.k p.d c (dealing p secret coefficients)) (product p.k (lower p.d) c secret)
          (changed_in p hs (multiples_of p hs c (dealt_shares p hs secret coefficients)) ws)
      changed-multiple-opens =
          through-opens-changed p ok-params hs e present through-multiple (product p.k (lower p.d) c secret) free-multiple

      -- the same with the element as the second factor, in the shares and in the job
      through-multiple-by : Through p hs (multiples_by p hs (dealt_shares p hs secret coefficients) c)
          (multiple p.k p.d c (dealing p secret coefficients))
      through-multiple-by = multiple-through-by p ok-params hs c element dealt-through

      free-multiple-by : get_or (multiple p.k p.d c (dealing p secret coefficients)) 0 [] ≡ product p.k (lower p.d) secret c
      free-multiple-by =
          let r : InRange p = ok-range p ok-params in
          let k = deal-clear p secret coefficients dealable.n dealable.no_fault in
          free-multiple
          ∙ product-comm p.k p.d (lower p.d) (length-lower p.d r.d-low r.d-high) c secret element k.secret-length

      pub multiple-opens-by : OpensTo p hs (multiples_by p hs (dealt_shares p hs secret coefficients) c) e
          (multiple p.k p.d c (dealing p secret coefficients)) (product p.k (lower p.d) secret c) 0
      multiple-opens-by = through-opens p ok-params hs e present through-multiple-by (product p.k (lower p.d) secret c) free-multiple-by

      pub changed-multiple-opens-by : (ws : List ℕ) → Changed p hs (multiples_by p hs (dealt_shares p hs secret coefficients) c) ws e →
          OpensTo p hs ws e (multiple p.k p.d c (dealing p secret coefficients)) (product p.k (lower p.d) secret c)
          (changed_in p hs (multiples_by p hs (dealt_shares p hs secret coefficients) c) ws)
      changed-multiple-opens-by =
          through-opens-changed p ok-params hs e present through-multiple-by (product p.k (lower p.d) secret c) free-multiple-by

  -- several jobs
  pub total-through : params_ok p ≡ true → (vs : List ℕ) (q : Polynomial) → Through p hs vs q → (js : List Job) →
      All (λ (j : Job). Dealable p j.secret j.coefficients) js → Through p hs (total_of p hs vs js) (total_dealing p q js)
  total-through ok vs q g [] d = g
  total-through ok vs q g (j ∷ js) d =
      total-through ok (sums_of p hs vs (dealt_shares p hs j.secret j.coefficients)) (sums p.k q (dealing p j.secret j.coefficients))
      (sum_through p ok hs g (dealt-through d.0)) js d.1

  free-total : (q : Polynomial) (a : Element) → IsPoly p.k p.d p.t q → get_or q 0 [] ≡ a → (js : List Job) →
      All (λ (j : Job). Dealable p j.secret j.coefficients) js → get_or (total_dealing p q js) 0 [] ≡ total_secret p a js
  free-total q a i f [] d = f
  free-total q a i f (j ∷ js) d =
      let g : Through p hs (dealt_shares p hs j.secret j.coefficients) (dealing p j.secret j.coefficients) = dealt-through d.0 in
      free-total (sums p.k q (dealing p j.secret j.coefficients)) (sum p.k a j.secret)
      (sums-is-poly p.k p.d p.t q (dealing p j.secret j.coefficients) i g.poly)
      (sums-free p.k p.t q (dealing p j.secret j.coefficients) i.0 g.poly.0 ∙ ap₂ (sum p.k) f (free_term d.0))
      js d.1

  module _ (j : Job) (js : List Job) (first : Dealable p j.secret j.coefficients)
      (others : All (λ (i : Job). Dealable p i.secret i.coefficients) js) where
    through : Through p hs (total_shares p hs j js) (total_dealing p (dealing p j.secret j.coefficients) js)
    through =
        total-through (ok-params first) (dealt_shares p hs j.secret j.coefficients) (dealing p j.secret j.coefficients)
        (dealt-through first) js others

    free : get_or (total_dealing p (dealing p j.secret j.coefficients) js) 0 [] ≡ total_secret p j.secret js
    free = free-total (dealing p j.secret j.coefficients) j.secret (dealt-through first).poly (free_term first) js others

    pub total-opens : OpensTo p hs (total_shares p hs j js) e (total_dealing p (dealing p j.secret j.coefficients) js)
        (total_secret p j.secret js) 0
    total-opens = through-opens p (ok-params first) hs e present through (total_secret p j.secret js) free

    pub changed-total-opens : (ws : List ℕ) → Changed p hs (total_shares p hs j js) ws e →
        OpensTo p hs ws e (total_dealing p (dealing p j.secret j.coefficients) js) (total_secret p j.secret js)
        (changed_in p hs (total_shares p hs j js) ws)
    changed-total-opens = through-opens-changed p (ok-params first) hs e present through (total_secret p j.secret js) free
