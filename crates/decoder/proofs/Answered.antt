-- The search without the shares of some wrong holders: what it gives for the others answers for all shares (`answered`). Assumes nothing.
use mathlib.Core.Path.{◌≡◌, refl, sym, ◌∙◌, ap}
use mathlib.Core.List.{List}
use mathlib.Core.Option.{Option, none, some}
use Prim.Native.Nat.{ℕ, ◌+◌, ◌-◌, ◌^◌, ◌≤◌, ◌<◌}
use lib.Count.{ones}
use Rattle.polynomial.specs.Rows.{Rows}
use Rattle.codewords.specs.Codeword.{Share, Polynomial, error_set, codeword}
use Rattle.codewords.specs.Opening.{wrong_of, from_codeword, opening_in}
use Rattle.codewords.specs.Residue.{without}
use Rattle.codewords.specs.WellFormed.{Rising, Holders}
use Rattle.codewords.proofs.Opening.{opens_not, unless-none, unless-some}
use Rattle.decoder.specs.LeftOut.{LeftOut}
use Rattle.decoder.proofs.Rounds.{error-set-room}

-- the number c, the rows q and the set w, to which the set u of those left out is added where there is a codeword, are what the shares ss open to
pub record Answered (d k t e : ℕ) (ss : List Share) (u c : ℕ) (q : Rows) (w : ℕ) : Type 0 where
  pub opening : opening_in d t c q ≡ from_codeword (codeword k d t e ss)
  pub declined : (c ≡ 0 → ⊥) → w ≡ wrong_of k d ss (from_codeword (codeword k d t e ss))
  pub opened : c ≡ 0 →
      (opening_in d t 0 q ≡ from_codeword (codeword k d t e ss)) × (u + w ≡ wrong_of k d ss (from_codeword (codeword k d t e ss))) × (u + w < 2 ^ 63)

-- the shares rs of the others; what the search gives for them: the number c, the rows q and the set w
module _ (d : ℕ) (dh : d ≤ 6) (k t e : ℕ) (ss : List Share) (a : Holders d ss) (r : Rising ss) (u : ℕ) (l : LeftOut k d t e ss u)
    (rs : List Share) (o : rs ≡ without u ss) (c : ℕ) (q : Rows) (w : ℕ)
    (found : opening_in d t c q ≡ from_codeword (codeword k d t (e - ones u) rs))
    (named : w ≡ wrong_of k d rs (from_codeword (codeword k d t (e - ones u) rs))) where
  same : codeword k d t e ss ≡ codeword k d t (e - ones u) rs
  same = rw o l.same

  both : (p : Polynomial) → codeword k d t e ss ≡ some p → error_set k d p ss ≡ u + error_set k d p rs
  both = rw o l.both

  opening : opening_in d t c q ≡ from_codeword (codeword k d t e ss)
  opening = rw same found

  declined : (c ≡ 0 → ⊥) → w ≡ wrong_of k d ss (from_codeword (codeword k d t e ss))
  declined z = go (codeword k d t e ss) opening (rw same named)
    where
      go : (x : Option Polynomial) → opening_in d t c q ≡ from_codeword x → w ≡ wrong_of k d rs (from_codeword x) → w ≡ wrong_of k d ss (from_codeword x)
      go none f y = y
      go (some p) f y = opens_not (sym f ∙ unless-some c _ z)

  opened : c ≡ 0 → (u + w ≡ wrong_of k d ss (from_codeword (codeword k d t e ss))) × (u + w < 2 ^ 63)
  opened z = go (codeword k d t e ss) refl opening (rw same named)
    where
      go : (x : Option Polynomial) → codeword k d t e ss ≡ x → opening_in d t c q ≡ from_codeword x → w ≡ wrong_of k d rs (from_codeword x) →
          (u + w ≡ wrong_of k d ss (from_codeword x)) × (u + w < 2 ^ 63)
      go none i f y = opens_not (sym (unless-none c _ z) ∙ f)
      go (some p) i f y = let s = ap (λ n. u + n) y ∙ sym (both p i) in (s, rw s (error-set-room k d dh p ss a r))

  pub answered : Answered d k t e ss u c q w
  answered = record { opening = opening; declined = declined; opened = λ z. let x = opened z in (rw z at opening, x.0, x.1) }
