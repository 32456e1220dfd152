-- Elements of d words, one of each holder, whatever they were got by. Lent with the holders they are shares under them (`elements-shares`), and open
-- to a sum of jobs: where those of up to e holders are not the sums of their shares, exactly these holders are named (`elements-open`), and where all
-- are, nobody is (`dealt-elements-open`). Assumes nothing.
use mathlib.Core.Path.{◌≡◌, refl, ap, ap₂, subst, ◌∙◌}
use mathlib.Core.List.{List, [], ◌∷◌, ◌++◌}
use Prim.Native.Nat.{ℕ, ◌+◌, ◌*◌, ◌≤◌, ◌<◌}
use native.Mathlib.Omega.{arith}
use lib.Count.{ones}
use lib.ListN.{length, length-append}
use lib.Seq.{take_at, drop_at}
use Rattle.algebra.specs.Shares.{All}
use Rattle.algebra.proofs.Shares.{all_map}
use Rattle.words.specs.declared.Params.{Params}
use Rattle.words.proofs.InRange.{InRange, range-ok}
use Rattle.galois.specs.Element.{Element, point}
use Rattle.codewords.specs.Codeword.{Share, value, error_set}
use Rattle.codewords.specs.Opening.{opens, secret_into, wrong_into}
use Rattle.codewords.proofs.ErrorSet.{ones-errors}
use Rattle.sharing.specs.Dealt.{Job, Present, OpensTo}
use Rattle.sharing.specs.Opening.{lent, opening}
use Rattle.sharing.specs.Clear.{LentClear}
use Rattle.sharing.proofs.Lent.{clear-holders}
use Rattle.sharing.proofs.Opens.{lent-decides}
use Rattle.totals.specs.Total.{sum_to}
use Rattle.promises.specs.Written.{Deals, share_of, changed_holders, sum_secret, sum_dealing}
use Rattle.promises.specs.Totals.{elements_of}
use Rattle.promises.proofs.Changed.{shares_with, errors-changed, changed-same, none-changed, no_ones}
use Rattle.promises.proofs.Jobs.{sum-poly, sum-free, sum-value}
use Rattle.promises.proofs.Written.{holders-from}

pub elements_same : (u v : ℕ → Element) (hs : List ℕ) → All (λ h. u h ≡ v h) hs → elements_of u hs ≡ elements_of v hs
unfolding elements_of
elements_same u v [] e = refl
elements_same u v (h ∷ hs) e = ap₂ ◌++◌ e.0 (elements_same u v hs e.1)

module _ (d : ℕ) (own : ℕ → Element) where
  pub elements-shares : (hs : List ℕ) → All (λ h. length (own h) ≡ d) hs → lent d hs (elements_of own hs) ≡ shares_with own hs
  unfolding lent elements_of
  elements-shares [] l = refl
  elements-shares (h ∷ hs) l =
      let ws = elements_of own hs in
      ap₂ (λ (v : Element) (vs : List ℕ). record { holder = h; words = v } ∷ lent d hs vs)
      (take_at (own h) ws d l.0) (drop_at (own h) ws d l.0)
      ∙ ap (λ (ss : List Share). record { holder = h; words = own h } ∷ ss) (elements-shares hs l.1)

  pub elements-length : (hs : List ℕ) → All (λ h. length (own h) ≡ d) hs → length (elements_of own hs) ≡ length hs * d
  unfolding elements_of
  elements-length [] l = omega arith
  elements-length (h ∷ hs) l = length-append (own h) (elements_of own hs) ∙ ap₂ ◌+◌ l.0 (elements-length hs l.1) ∙ omega arith

-- lent, they open to the sum of n jobs
module _ (p : Params) (ranges : InRange p) (hs : List ℕ) (e : ℕ) (present : Present p hs e) (own : ℕ → Element)
    (long : All (λ h. length (own h) ≡ p.d) hs) (j : ℕ → Job) (n : ℕ) (deals : (i : ℕ) → i < n → Deals p (j i)) where
  abbrev should : ℕ → Element
  should h = sum_to p.k p.d (λ i. share_of p (j i) h) n

  pub elements-open : let c = changed_holders (λ h. sum_to p.k p.d (λ i. share_of p (j i) h) n) own hs in ones c ≤ e →
      OpensTo p hs (elements_of own hs) e (sum_dealing p j n) (sum_secret p j n) c
  elements-open few =
      let ws = elements_of own hs in
      let q = sum_dealing p j n in
      let ss = lent p.d hs ws in
      let lc : LentClear p hs ws p.d 1 64 =
      record {
        params = range-ok p ranges;
        words_length = elements-length p.d own hs long;
        output = refl;
        wrong_output = refl;
        lowest_output = refl;
        rising = present.rising;
      } in
      let holders = clear-holders p hs ws p.d 1 64 lc in
      let set : error_set p.k p.d q ss ≡ changed_holders should own hs =
      ap (error_set p.k p.d q) (elements-shares p.d own hs long)
      ∙ errors-changed p.k p.d q own hs
      ∙ changed-same (λ h. value p.k p.d q (point p.d h)) should own hs
      (all_map (λ h g. sum-value p ranges j n deals h g.0 g.1) hs (holders-from p.n 0 hs present.rising)) in
      let count = ones-errors p.k p.d q ss (all_map (λ (s : Share) g. g.0) ss holders.0) holders.1 in
      let o : opening p hs ws e p.d 1 64 ≡ opens q =
      (lent-decides p hs ws e p.d 1 64 lc present.enough).finds q
      (record { poly = sum-poly p ranges j n deals; near = rw (← count, set) few }) in
      record {
        opened = o;
        secret = λ was. ap (secret_into was) o ∙ sum-free p ranges j n deals;
        wrong = λ was. ap (wrong_into p.k p.d ss was) o ∙ ap (λ (w : ℕ). w ∷ []) set;
      }

  -- each is the sum of the holder's shares: nobody is named
  pub dealt-elements-open : All (λ h. own h ≡ sum_to p.k p.d (λ i. share_of p (j i) h) n) hs →
      OpensTo p hs (elements_of own hs) e (sum_dealing p j n) (sum_secret p j n) 0
  dealt-elements-open right =
      let none = none-changed should own hs right in
      subst (OpensTo p hs (elements_of own hs) e (sum_dealing p j n) (sum_secret p j n)) none (elements-open (rw (none, no_ones) (omega arith)))
