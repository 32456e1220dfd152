-- Of t files of one archive, at a place where their words are in width: every job has exactly one list of t coefficients with which dealing gives
-- what those files hold there (`files-one-dealing`), so over all coefficients every job gives it equally often (`files-equally-often`). Where all
-- their words are in width, every list of jobs has exactly one list of coefficients for each place (`files-one-dealing-each`). Assumes nothing.
use mathlib.Core.Path.{◌≡◌, refl, sym, ◌∙◌, ap₂}
use mathlib.Core.Bool.{true}
use mathlib.Core.List.{List, [], ◌∷◌, map}
use mathlib.Core.Logic.{◌≢◌}
use Prim.Native.Nat.{ℕ, zero, suc, ◌<◌}
use native.Mathlib.Nat.{not-suc-le-zero, suc_inj, suc-ne-zero}
use native.Mathlib.Omega.{arith}
use lib.ListN.{length, get_or, length-map}
use Rattle.words.specs.Params.{params_ok}
use Rattle.words.proofs.InRange.{range-ok}
use Rattle.algebra.specs.Shares.{All}
use Rattle.algebra.proofs.Shares.{all_map, all-at}
use Rattle.galois.specs.Element.{Element}
use Rattle.codewords.specs.Codeword.{Share}
use Rattle.codewords.specs.WellFormed.{IsElement, Different}
use Rattle.bundle.specs.Bundle.{bundle_heading, params_of}
use Rattle.bundle.proofs.Bundles.{bundle-ok, bundle-ranges}
use Rattle.fetch.specs.Fetch.{file_of, holder_fault}
use Rattle.fetch.proofs.Fetch.{file-holder, holder_in}
use Rattle.totals.proofs.Words.{words_length}
use Rattle.archive.proofs.Shares.{holder-range}
use Rattle.secrecy.specs.Secrecy.{ExactlyOne, IsHolder, Group, DealsTo, how_often}
use Rattle.secrecy.specs.Files.{AllDifferent, GroupFiles, file_words, shares_in, InWidthAt, DealsFiles}
use Rattle.secrecy.proofs.Dealing.{one-dealing}
use Rattle.secrecy.proofs.Counting.{equally-often}

-- what holds of the image of each
all_of : {A B : Type 0} (P : B → Type 0) (f : A → B) (xs : List A) → All (λ x. P (f x)) xs → All P (map f xs)
all_of P f [] h = tt
all_of P f (x ∷ xs) h = (h.0, all_of P f xs h.1)

-- exactly one for each of n places: exactly one list of them
lists-one : {A : Type 0} (z : A) (P : ℕ → A → Type 0) (n : ℕ) → ((i : ℕ) → i < n → ExactlyOne (P i)) →
    ExactlyOne (λ xs. (length xs ≡ n) × ((i : ℕ) → i < n → P i (get_or xs i z)))
lists-one {A} z P zero f = record { it = []; has = (refl, λ i l. absurd (not-suc-le-zero l)); only = none }
  where
    none : (xs : List A) → (length xs ≡ 0) × ((i : ℕ) → i < 0 → P i (get_or xs i z)) → xs ≡ []
    none [] h = refl
    none (x ∷ xs) h = absurd (suc-ne-zero (length xs) h.0)
lists-one {A} z P (suc n) f =
    let o = f 0 (omega arith) in
    let r = lists-one z (λ i. P (suc i)) n (λ i l. f (suc i) (omega arith)) in
    record {
      it = o.it ∷ r.it;
      has = (omega (arith, r.has.0), holds o r);
      only = only o r;
    }
  where
    Rest : Type 0
    Rest = ExactlyOne (λ xs. (length xs ≡ n) × ((i : ℕ) → i < n → P (suc i) (get_or xs i z)))

    holds : (o : ExactlyOne (P 0)) (r : Rest) → (i : ℕ) → i < suc n → P i (get_or (o.it ∷ r.it) i z)
    holds o r zero l = o.has
    holds o r (suc i) l = r.has.1 i (omega arith)

    only : (o : ExactlyOne (P 0)) (r : Rest) → (xs : List A) → (length xs ≡ suc n) × ((i : ℕ) → i < suc n → P i (get_or xs i z)) → xs ≡ o.it ∷ r.it
    only o r [] h = absurd (suc-ne-zero n (sym h.0))
    only o r (x ∷ xs) h =
        ap₂ ◌∷◌ (o.only x (h.1 0 (omega arith))) (r.only xs (suc_inj h.0, λ i l. h.1 (suc i) (omega arith)))

module _ (bs hs : List ℕ) (f : GroupFiles bs hs) where
  abbrev share : ℕ → ℕ → Share
  share i h = record { holder = h; words = file_words bs i h }

  params_in_range : params_ok (params_of bs) ≡ true
  params_in_range = range-ok (params_of bs) (bundle-ranges bs (bundle-ok bs f.accepted)).book

  -- a holder with a file is one of the book's
  in-book : (h : ℕ) → holder_fault bs h ≡ 0 → IsHolder (params_of bs) h
  in-book h e = let l = holder_in bs h e in rw (file-holder bs h l) at (holder-range bs f.accepted (file_of bs h) l)

  different-shares : (i : ℕ) (gs : List ℕ) → AllDifferent gs → Different (shares_in bs gs i)
  different-shares i [] u = tt
  different-shares i (h ∷ gs) u = (all_of (λ (r : Share). h ≢ r.holder) (share i) gs u.0, different-shares i gs u.1)

  group : (i : ℕ) → InWidthAt bs hs i → Group (params_of bs) (shares_in bs hs i)
  group i w =
      record {
        size = length-map hs (share i) ∙ f.size;
        holders = all_of (λ (s : Share). IsHolder (params_of bs) s.holder) (share i) hs (all_map in-book hs f.present);
        different = different-shares i hs f.different;
        in_width = all_of (λ (s : Share). IsElement (params_of bs).k (params_of bs).d s.words) (share i) hs
            (all_map (λ h e. (words_length bs (file_of bs h) i, e)) hs w);
      }

  module _ (i : ℕ) (place : i < (bundle_heading bs).jobs) (w : InWidthAt bs hs i) where
    pub files-one-dealing : (a : Element) → IsElement (params_of bs).k (params_of bs).d a → ExactlyOne (DealsTo (params_of bs) (shares_in bs hs i) a)
    files-one-dealing = one-dealing (params_of bs) params_in_range (shares_in bs hs i) (group i w)

    pub files-equally-often : (a b : Element) → IsElement (params_of bs).k (params_of bs).d a → IsElement (params_of bs).k (params_of bs).d b →
        how_often (params_of bs) (shares_in bs hs i) a ≡ how_often (params_of bs) (shares_in bs hs i) b
    files-equally-often = equally-often (params_of bs) params_in_range (shares_in bs hs i) (group i w)

  pub files-one-dealing-each : ((i : ℕ) → i < (bundle_heading bs).jobs → InWidthAt bs hs i) → (jobs : List Element) →
      length jobs ≡ (bundle_heading bs).jobs → All (IsElement (params_of bs).k (params_of bs).d) jobs → ExactlyOne (DealsFiles bs hs jobs)
  files-one-dealing-each w jobs l e =
      let o = lists-one [] (λ i. DealsTo (params_of bs) (shares_in bs hs i) (get_or jobs i [])) (bundle_heading bs).jobs
      (λ i u. files-one-dealing i u (w i u) (get_or jobs i []) (all-at (IsElement (params_of bs).k (params_of bs).d) jobs i [] e (rw l u))) in
      record {
        it = o.it;
        has = record { count = o.has.0; at_place = o.has.1 };
        only = λ cs t. o.only cs (t.count, t.at_place);
      }
