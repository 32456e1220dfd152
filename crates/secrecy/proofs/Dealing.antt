-- Of t shares in width under different holders and any job, exactly one list of t coefficients deals the job so that these holders have those shares
-- (`one-dealing`); what dealing can be lent (`dealable`); and where t is 0 every holder's share is the job (`share-is-job`). Assumes nothing.
use mathlib.Core.Path.{◌≡◌, refl, sym, ◌∙◌, ap, ap₂}
use mathlib.Core.Bool.{true}
use mathlib.Core.List.{List, [], ◌∷◌, ◌++◌}
use Prim.Native.Nat.{ℕ, zero, suc, ◌*◌}
use native.Mathlib.Nat.{suc_inj, suc-ne-zero}
use native.Mathlib.Omega.{arith}
use lib.ListN.{length, take, drop, length-append, length-drop, take-append-drop}
use lib.Seq.{take_at, drop_at}
use Rattle.words.specs.Faults.{params_fault, length_fault, width_fault}
use Rattle.words.specs.Params.{params_ok}
use Rattle.words.specs.Word.{all_in_width}
use Rattle.words.specs.declared.Params.{Params}
use Rattle.words.proofs.Faults.{clear-params, clear-length}
use Rattle.words.proofs.InRange.{InRange, ok-range}
use Rattle.words.proofs.Refusals.{first-none, unless-yes}
use Rattle.words.proofs.Tests.{and_both}
use Rattle.algebra.specs.Shares.{All}
use Rattle.algebra.proofs.Shares.{all_map, all-map₂}
use Rattle.galois.specs.Element.{Element, point}
use Rattle.galois.proofs.Points.{length-point}
use Rattle.polynomial.proofs.OverRing.{value-last}
use Rattle.codewords.specs.Codeword.{Share, Polynomial, value}
use Rattle.codewords.specs.Demand.{value_at}
use Rattle.codewords.specs.WellFormed.{IsElement}
use Rattle.codewords.proofs.Find.{fixed}
use Rattle.sharing.specs.Dealing.{elements_of, dealing, deal_fault}
use Rattle.sharing.specs.Dealt.{Job}
use Rattle.sharing.proofs.Faults.{deal-clear}
use Rattle.totals.proofs.Words.{width-append}
use Rattle.promises.specs.Written.{Deals, dealing_of, share_of}
use Rattle.promises.proofs.Jobs.{poly-of, share-value, free_of}
use Rattle.secrecy.specs.Secrecy.{ExactlyOne, IsHolder, Group, Consistent, job_with, DealsTo}
use Rattle.secrecy.proofs.Polynomial.{one-polynomial}

-- ---- elements one after another

abbrev flat : List Element → List ℕ
flat [] = []
flat (c ∷ cs) = c ++ flat cs

flat-length : (d : ℕ) (cs : List Element) → All (λ c. length c ≡ d) cs → length (flat cs) ≡ length cs * d
flat-length d [] h = omega arith
flat-length d (c ∷ cs) h = length-append c (flat cs) ∙ omega (arith, h.0, flat-length d cs h.1)

flat-width : (k d : ℕ) (cs : List Element) → All (IsElement k d) cs → all_in_width k (flat cs) ≡ true
unfolding all_in_width
flat-width k d [] h = refl
flat-width k d (c ∷ cs) h = width-append k c (flat cs) ∙ and_both _ _ h.0.1 (flat-width k d cs h.1)

elements-flat : (d n : ℕ) (cs : List Element) → length cs ≡ n → All (λ c. length c ≡ d) cs → elements_of d n (flat cs) ≡ cs
unfolding elements_of
elements-flat d zero [] l h = refl
elements-flat d zero (c ∷ cs) l h = absurd (suc-ne-zero (length cs) l)
elements-flat d (suc n) [] l h = absurd (suc-ne-zero n (sym l))
elements-flat d (suc n) (c ∷ cs) l h =
    ap₂ ◌∷◌ (take_at c (flat cs) d h.0) (ap (elements_of d n) (drop_at c (flat cs) d h.0) ∙ elements-flat d n cs (suc_inj l) h.1)

flat-elements : (d n : ℕ) (ws : List ℕ) → length ws ≡ n * d → flat (elements_of d n ws) ≡ ws
unfolding elements_of
flat-elements d zero [] l = refl
flat-elements d zero (w ∷ ws) l = absurd (omega arith)
flat-elements d (suc n) ws l =
    ap (λ (vs : List ℕ). take d ws ++ vs) (flat-elements d n (drop d ws) (length-drop d ws ∙ omega arith)) ∙ take-append-drop d ws

module _ (p : Params) (ok : params_ok p ≡ true) where
  abbrev k : ℕ
  k = p.k

  abbrev d : ℕ
  d = p.d

  range : InRange p
  range = ok-range p ok

  -- dealing returns 0 for a job and t coefficients in width
  pub dealable : (a : Element) (c : List ℕ) → IsElement p.k p.d a → length c ≡ p.t * p.d → all_in_width p.k c ≡ true → Deals p (job_with a c)
  unfolding deal_fault width_fault
  dealable a c e l w =
      record {
        n = p.n * p.d;
        no_fault =
            first-none (params_fault p) _ (clear-params p range)
            ∙ first-none (length_fault d (length a)) _ (clear-length d (length a) e.0)
            ∙ first-none (length_fault (p.t * d) (length c)) _ (clear-length (p.t * d) (length c) l)
            ∙ first-none (length_fault (p.n * d) (p.n * d)) _ (clear-length (p.n * d) (p.n * d) refl)
            ∙ first-none (width_fault k a) _ (unless-yes (all_in_width k a) 3 e.1)
            ∙ unless-yes (all_in_width k c) 3 w;
      }

  -- t is 0: the polynomial is the job alone
  pub share-is-job : p.t ≡ 0 → (j : Job) → Deals p j → (h : ℕ) → IsHolder p h → share_of p j h ≡ j.secret
  unfolding dealing elements_of
  share-is-job z j deals h i =
      let clear = deal-clear p j.secret j.coefficients deals.n deals.no_fault in
      let alone : dealing_of p j ≡ j.secret ∷ [] = ap (λ (n : ℕ). j.secret ∷ elements_of d n j.coefficients) z in
      share-value p range j deals h i.0 i.1
      ∙ ap (λ (q : Polynomial). value k d q (point d h)) alone
      ∙ value-last k d range.d-low range.d-high j.secret (point d h) clear.secret-length (length-point d h)
      ∙ fixed k d j.secret (clear.secret-length, clear.secret-width)

  module _ (ss : List Share) (g : Group p ss) (a : Element) (e : IsElement p.k p.d a) where
    -- what deals to the shares is consistent with them
    dealt-consistent : (c : List ℕ) → DealsTo p ss a c → Consistent p ss a (dealing p a c)
    dealt-consistent c t =
        let j = job_with a c in
        record {
          poly = poly-of p range j t.deals;
          shares = all-map₂ (λ (s : Share) (x : IsHolder p s.holder) y.
              y ∙ share-value p range j t.deals s.holder x.0 x.1) ss g.holders t.shares;
          free_term = free_of p range j t.deals;
        }

    -- and a polynomial that is consistent deals to them, by its coefficients after the free term
    consistent-dealt : (q : Polynomial) → Consistent p ss a q → DealsTo p ss a (flat (drop 1 q))
    unfolding dealing
    consistent-dealt [] t = absurd (suc-ne-zero p.t (sym t.poly.0))
    consistent-dealt (b ∷ cs) t =
        let rows = all_map (λ c i. i.0) cs t.poly.1.1 in
        let n : length cs ≡ p.t = suc_inj t.poly.0 in
        let j = job_with a (flat cs) in
        let is : dealing p a (flat cs) ≡ b ∷ cs = ap₂ ◌∷◌ (sym t.free_term) (elements-flat d p.t cs n rows) in
        let deals : Deals p j =
        dealable a (flat cs) e (flat-length d cs rows ∙ ap (λ (m : ℕ). m * d) n) (flat-width k d cs t.poly.1.1) in
        record {
          deals = deals;
          shares = all-map₂ (λ (s : Share) (x : IsHolder p s.holder) y.
              y
              ∙ ap (λ (r : Polynomial). value_at p r s.holder) (sym is)
              ∙ sym (share-value p range j deals s.holder x.0 x.1)) ss g.holders t.shares;
        }

    pub one-dealing : ExactlyOne (DealsTo p ss a)
    unfolding dealing
    one-dealing =
        let o = one-polynomial p ok ss g a e in
        record {
          it = flat (drop 1 o.it);
          has = consistent-dealt o.it o.has;
          only = λ c t.
              (let clear = deal-clear p a c t.deals.n t.deals.no_fault in
              sym (flat-elements d p.t c clear.coefficients-length)
              ∙ ap (λ (q : Polynomial). flat (drop 1 q)) (o.only (dealing p a c) (dealt-consistent c t)));
        }
