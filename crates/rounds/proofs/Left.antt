-- A level's rows of what the polynomial leaves of the shares: as shares under the same holders, of d words and of six (`Left`); that the ones
-- that are not zero are those that differ from the polynomial; and that the array's rows are still of six words. Assumes nothing.
use mathlib.Core.Path.{◌≡◌, ◌∙◌, ap}
use mathlib.Core.List.{List, [], ◌++◌, map}
use Prim.Native.Nat.{ℕ, suc, ◌^◌, ◌≤◌, ◌<◌}
use native.Mathlib.Nat.{pow-le-pow_right, le_of_eq}
use native.Mathlib.Decide.{dec_le}
use native.Mathlib.Omega.{arith}
use lib.ListN.{length, take, drop, get_or, replicate, length-append}
use lib.Seq.{take_all, take-append-le, length-take-le}
use Rattle.algebra.proofs.Shares.{all_map}
use Rattle.galois.specs.Element.{zero_e, held}
use Rattle.galois.proofs.Held.{held-length}
use Rattle.polynomial.specs.Rows.{Rows, Shaped, coefs}
use Rattle.polynomial.proofs.Shape.{shaped-length, shaped_row}
use Rattle.codewords.specs.Codeword.{Share, Polynomial, error_set}
use Rattle.codewords.specs.Residue.{residue, left}
use Rattle.codewords.specs.WellFormed.{InWidth, Holders}
use Rattle.codewords.proofs.Value.{rows_of}
use Rattle.codewords.proofs.Residue.{residue-element}
use Rattle.codewords.proofs.Without.{all-reword, holders-reword}
use Rattle.level.specs.Shares.{share_at, shares_of, Sized, residue_row, residue_rows}
use Rattle.level.proofs.Shares.{sized-at}
use Rattle.level.proofs.ResidueRows.{rest-row, rest-shares, rest-last, rest-length}
use Rattle.rounds.specs.Residues.{Through, bits_of_all}
use Rattle.rounds.proofs.Arrays.{reword-of}
use Rattle.rounds.proofs.Compared.{left_six, left-set, left-bits}
use Rattle.rounds.proofs.Rows.{shaped-rows}

-- as much as a level needs of them
pub record Left (k d t m : ℕ) (p : Polynomial) (hs : List ℕ) (ys r : Rows) : Type 0 where
  pub shaped : Shaped r
  pub first : take (suc t) r ≡ replicate (suc t) (zero_e 6)
  pub holders-six : Holders 6 (shares_of 6 m hs r)
  pub set : error_set 64 6 [] (shares_of 6 m hs r) ≡ error_set k d p (shares_of d m hs ys)
  pub bits : bits_of_all (shares_of 6 m hs r) ≡ bits_of_all (map (left k d p) (shares_of d m hs ys))
  pub is : shares_of d m hs r ≡ map (left k d p) (shares_of d m hs ys)
  pub holders : Holders d (shares_of d m hs r)
  pub sized : Sized d (shares_of d m hs r)

module _ (k d t m : ℕ) (dl : 2 ≤ d) (dh : d ≤ 6) (hs : List ℕ) (ys q old r : Rows) (tm : suc t ≤ m) (mh : m ≤ 63)
    (a : Holders d (shares_of d m hs ys)) (w : InWidth k d (shares_of d m hs ys)) (th : Through k d t (shares_of d (suc t) hs ys) q)
    (so : Shaped old) (fo : take (suc t) old ≡ replicate (suc t) (zero_e 6))
    (er : r ≡ residue_rows k d (coefs d (suc t) q) (suc t) (shares_of d m hs ys) old) where
  abbrev P : Polynomial
  P = coefs d (suc t) q

  abbrev ss : List Share
  ss = shares_of d m hs ys

  mo : m ≤ length old
  mo = omega (arith, shaped-length old so)

  words : Sized d ss
  words = all_map (λ s x. x.0) ss w

  length-left : (s : Share) → length s.words ≡ d → length (residue k d P s) ≡ d
  length-left s l = (residue-element d dl dh k P (rows_of k d t P th.0) s l).0

  -- the rows, as shares
  row_at : (i : ℕ) → i < m → get_or r i [] ≡ held d (residue k d P (share_at d hs ys i))
  row_at i h =
      rest-row k d P (suc t) m hs ys old tm mo r er dl dh t th.0 words fo th.1 i h

  long-row : (i : ℕ) → i < m → length (held d (residue k d P (share_at d hs ys i))) ≡ 6
  long-row i h =
      let s = share_at d hs ys i in
      held-length d (residue k d P s) (length-left s (sized-at d hs ys m i words h)) dh

  is-six : shares_of 6 m hs r ≡ map (left_six k d P) ss
  is-six =
      reword-of d 6 hs ys r (λ s. held d (residue k d P s)) m
      (λ i h. ap (take 6) (row_at i h) ∙ take_all 6 (held d (residue k d P (share_at d hs ys i))) (le_of_eq (long-row i h)))

  shaped-left : Shaped r
  shaped-left = shaped-rows r (rest-length k d P (suc t) m hs ys old tm mo r er ∙ shaped-length old so) (λ i h. six i h (dec_le m i))
    where
      six : (i : ℕ) → i < 64 → Dec (m ≤ i) → length (get_or r i []) ≡ 6
      six i h (yes l) = ap length (rest-last k d P (suc t) m hs ys old tm mo r er i l) ∙ shaped_row old i so h
      six i h (no l) = let b : i < m = omega arith in ap length (row_at i b) ∙ long-row i b

  -- nothing is left of the first
  first-zero : take (suc t) r ≡ replicate (suc t) (zero_e 6)
  first-zero =
      let rows = map (residue_row k d P) (drop (suc t) ss) in
      let l : suc t ≤ length (take (suc t) old) = rw (length-take-le (suc t) old (omega (arith, mo))) (omega arith) in
      ap (take (suc t)) er
      ∙ take-append-le (suc t) (take (suc t) old ++ rows) (drop (length ss) old) (rw (length-append (take (suc t) old) rows) (omega (arith, l)))
      ∙ take-append-le (suc t) (take (suc t) old) rows l
      ∙ take_all (suc t) (take (suc t) old) (omega (arith, length-take-le (suc t) old (omega (arith, mo))))
      ∙ fo

  is-left : shares_of d m hs r ≡ map (left k d P) ss
  is-left = rest-shares k d P (suc t) m hs ys old tm mo r er dl dh t th.0 words fo th.1

  holders-in-six : Holders 6 ss
  holders-in-six =
      let p : 2 ^ d ≤ 2 ^ 6 = pow-le-pow_right (omega arith) dh in
      (all_map (λ s x. (x.0, omega (arith, x.1, p))) ss a.0, a.1)

  pub rest-left : Left k d t m P hs ys r
  rest-left =
      record {
        shaped = shaped-left;
        first = first-zero;
        holders-six = rw is-six (holders-reword (λ s. held d (residue k d P s)) 6 ss holders-in-six);
        set = ap (error_set 64 6 []) is-six ∙ left-set d dl dh k t P th.0 ss w;
        bits = ap bits_of_all is-six ∙ left-bits d dl dh k t P th.0 ss w;
        is = is-left;
        holders = rw is-left (holders-reword (residue k d P) d ss a);
        sized = rw is-left (all-reword (residue k d P) (λ (s : Share). length s.words ≡ d) ss (all_map length-left ss words));
      }
