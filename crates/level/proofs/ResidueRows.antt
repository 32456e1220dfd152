-- What a polynomial leaves of shares, as the code computes it: of one share (`residue-by`), and the rows of those after the first n. Where the
-- polynomial goes through the first n shares and their rows are zero, the rows are what it leaves of all (`rest-row`, `rest-shares`).
-- Assumes nothing.
use mathlib.Core.Path.{◌≡◌, sym, ◌∙◌, ap}
use mathlib.Core.Bool.{false}
use mathlib.Core.List.{List, [], ◌++◌, map}
use Prim.Native.Nat.{ℕ, ◌+◌, ◌-◌, ◌≤◌, ◌<◌}
use native.Mathlib.Decide.{dec_le}
use native.Mathlib.Omega.{arith}
use lib.ListN.{length, take, drop, get_or, set, replicate, length-map, length-append, length-drop}
use lib.ListN.{get_or-replicate, get_or-map, get_or-append}
use lib.Seq.{length-take-le, take_at, take-append-le, get_or-take, get_or-drop, get_or-append-add, ext_get_or, paste, paste-zero}
use Rattle.words.specs.Word.{sub_w}
use Rattle.words.proofs.Fill.{fill_more, fill-within}
use Rattle.algebra.proofs.Shares.{all-at}
use Rattle.galois.specs.Element.{zero_e, difference, point, held}
use Rattle.galois.proofs.Zip.{zip-take}
use Rattle.galois.proofs.Lists.{length-zip}
use Rattle.galois.proofs.Held.{held_same, held-take, zeros-held}
use Rattle.galois.proofs.Points.{length-point}
use Rattle.polynomial.specs.Polynomial.{Polynomial, value}
use Rattle.polynomial.specs.Rows.{Rows, Shaped, coefs}
use Rattle.polynomial.proofs.Shape.{shaped-all}
use Rattle.polynomial.proofs.OverRing.{value-length}
use Rattle.codewords.specs.Codeword.{Share, differs, errors}
use Rattle.codewords.specs.Residue.{residue, left}
use Rattle.codewords.specs.WellFormed.{IsPoly}
use Rattle.codewords.proofs.Value.{rows_of, right-meets}
use Rattle.codewords.proofs.Residue.{residue-element, residue-none}
use Rattle.codewords.proofs.Without.{none-differs}
use Rattle.level.specs.Shares.{share, share_at, shares_of, Sized, residue_row, residue_rows}
use Rattle.level.proofs.Shares.{default, length_from, of_at, sized-at}

-- one share
pub residue-by : (k d : ℕ) → 2 ≤ d → d ≤ 6 → (n : ℕ) (p : Rows) → Shaped p → (x : ℕ) (y v : List ℕ) → length y ≡ 6 →
    v ≡ held d (value k d (coefs d n p) (point d x)) → held d (difference k y v) ≡ residue_row k d (coefs d n p) (share x (take d y))
residue-by k d dl dh n p h x y v l e =
    let u = value k d (coefs d n p) (point d x) in
    let lu : length u ≡ d = value-length k d dl dh n p (point d x) (shaped-all p h) (length-point d x) in
    let ly : length (take d y) ≡ d = length-take-le d y (omega arith) in
    held_same d (difference k y v) (difference k (take d y) u)
    (zip-take (sub_w k) d y v ∙ ap (difference k (take d y)) (ap (take d) e ∙ held-take d u lu))
    (length-zip (sub_w k) (take d y) u (ly ∙ sym lu) ∙ lu)

-- shares n to m - 1, into an array whose rows were `old`
module _ (k d : ℕ) (p : Polynomial) (n m : ℕ) (hs : List ℕ) (ys old : Rows) where
  abbrev ss : List Share
  ss = shares_of d m hs ys

  abbrev rows : Rows
  rows = map (residue_row k d p) (drop n ss)

  abbrev z : Share
  z = share 0 []

  -- rows n to i - 1 are written
  abbrev pub written : ℕ → Rows
  written i = paste old n rows (i - n)

  module _ (nm : n ≤ m) (mo : m ≤ length old) where
    length-rows : length rows ≡ m - n
    length-rows = length-map (drop n ss) (residue_row k d p) ∙ length-drop n ss ∙ ap (λ l. l - n) (length_from d hs ys 0 m)

    rows_at : (i : ℕ) → n ≤ i → i < m → get_or rows (i - n) (residue_row k d p z) ≡ residue_row k d p (share_at d hs ys i)
    rows_at i l h =
        let e : n + (i - n) ≡ i = omega arith in
        get_or-map (residue_row k d p) (drop n ss) (i - n) z
        ∙ ap (residue_row k d p) (get_or-drop n ss (i - n) z ∙ ap (λ j. get_or ss j z) e ∙ of_at d hs ys m i z h)

    -- the loop
    pub rest-start : old ≡ written n
    rest-start = let e : 0 ≡ n - n = omega arith in paste-zero old n rows ∙ ap (paste old n rows) e

    pub rest-turn : (i : ℕ) → n ≤ i → i < m → (r : Rows) → r ≡ written i → (v : List ℕ) → v ≡ residue_row k d p (share_at d hs ys i) →
        set r i v ≡ written (i + 1)
    rest-turn i l h r e v q =
        let f : i ≡ n + (i - n) = omega arith in
        let g : i - n + 1 ≡ i + 1 - n = omega arith in
        ap (λ j. set r j v) f
        ∙ fill_more old rows r n (i - n) (residue_row k d p z) v e (omega arith) (omega (arith, length-rows)) (q ∙ sym (rows_at i l h))
        ∙ ap (paste old n rows) g

    pub rest_end : (i : ℕ) → i ≡ m → (r : Rows) → r ≡ written i → r ≡ residue_rows k d p n ss old
    rest_end i e r q =
        let f : n + (m - n) ≡ m = omega arith in
        fill-within old rows r n (m - n) (q ∙ ap written e) length-rows
        ∙ ap (λ l. take n old ++ rows ++ drop l old) (f ∙ sym (length_from d hs ys 0 m))

    -- what the array then holds
    module _ (r : Rows) (er : r ≡ residue_rows k d p n ss old) where
      length-first : length (take n old) ≡ n
      length-first = length-take-le n old (omega arith)

      length-written : length (take n old ++ rows) ≡ m
      length-written = omega (arith, length-append (take n old) rows, length-first, length-rows)

      rest-first : take n r ≡ take n old
      rest-first =
          ap (take n) er
          ∙ take-append-le n (take n old ++ rows) (drop (length ss) old) (omega (arith, length-written))
          ∙ take_at (take n old) rows n length-first

      pub rest-length : length r ≡ length old
      rest-length =
          ap length er
          ∙ length-append (take n old ++ rows) (drop (length ss) old)
          ∙ omega (arith, length-written, length-drop (length ss) old, length_from d hs ys 0 m)

      pub rest-last : (i : ℕ) → m ≤ i → get_or r i [] ≡ get_or old i []
      rest-last i l =
          let e : i ≡ length (take n old ++ rows) + (i - m) = omega (arith, length-written) in
          let f : length ss + (i - m) ≡ i = omega (arith, length_from d hs ys 0 m) in
          ap (λ (l : Rows). get_or l i []) er
          ∙ ap (λ j. get_or (take n old ++ rows ++ drop (length ss) old) j []) e
          ∙ get_or-append-add (take n old ++ rows) (drop (length ss) old) (i - m) []
          ∙ get_or-drop (length ss) old (i - m) []
          ∙ ap (λ j. get_or old j []) f

      later-row : (i : ℕ) → n ≤ i → i < m → get_or r i [] ≡ residue_row k d p (share_at d hs ys i)
      later-row i l h =
          let e : i ≡ length (take n old) + (i - n) = omega (arith, length-first) in
          ap (λ (l : Rows). get_or l i []) er
          ∙ get_or-append (take n old ++ rows) (drop (length ss) old) [] i (omega (arith, length-written))
          ∙ ap (λ j. get_or (take n old ++ rows) j []) e
          ∙ get_or-append-add (take n old) rows (i - n) []
          ∙ default rows (i - n) [] (residue_row k d p z) (omega (arith, length-rows))
          ∙ rows_at i l h

      -- p goes through the first n shares, whose rows are zero
      module _ (dl : 2 ≤ d) (dh : d ≤ 6) (t : ℕ) (ip : IsPoly k d t p) (w : Sized d ss) (first : take n old ≡ replicate n (zero_e 6))
          (through : errors k d p (shares_of d n hs ys) ≡ 0) where
        words : (i : ℕ) → i < m → length (share_at d hs ys i).words ≡ d
        words i h = sized-at d hs ys m i w h

        first-row : (i : ℕ) → i < n → get_or r i [] ≡ residue_row k d p (share_at d hs ys i)
        first-row i h =
            let s = share_at d hs ys i in
            let same : differs k d p s ≡ false =
            rw (of_at d hs ys n i z h) at
            (all-at (λ (s : Share). differs k d p s ≡ false) (shares_of d n hs ys) i z (none-differs k d p (shares_of d n hs ys) through)
            (rw (length_from d hs ys 0 n) h)) in
            let e : residue k d p s ≡ zero_e d =
            residue-none d dl dh k p (rows_of k d t p ip) s (words i (omega arith)) (right-meets d dl dh k p (rows_of k d t p ip) s same) in
            sym (get_or-take n r i [] h)
            ∙ ap (λ (l : Rows). get_or l i []) (rest-first ∙ first)
            ∙ get_or-replicate n i (zero_e 6) [] h
            ∙ sym (zeros-held d dh)
            ∙ ap (held d) (sym e)

        pub rest-row : (i : ℕ) → i < m → get_or r i [] ≡ residue_row k d p (share_at d hs ys i)
        rest-row i h = go (dec_le n i)
          where
            go : Dec (n ≤ i) → get_or r i [] ≡ residue_row k d p (share_at d hs ys i)
            go (yes l) = later-row i l h
            go (no l) = first-row i (omega arith)

        pub rest-shares : shares_of d m hs r ≡ map (left k d p) ss
        rest-shares =
            ext_get_or z (shares_of d m hs r) (map (left k d p) ss) (length_from d hs r 0 m ∙ sym length-left)
            (λ i h. each i (rw (length_from d hs r 0 m) at h))
          where
            length-left : length (map (left k d p) ss) ≡ m
            length-left = length-map ss (left k d p) ∙ length_from d hs ys 0 m

            each : (i : ℕ) → i < m → get_or (shares_of d m hs r) i z ≡ get_or (map (left k d p) ss) i z
            each i h =
                let s = share_at d hs ys i in
                of_at d hs r m i z h
                ∙ ap (share (get_or hs i 0))
                (ap (take d) (rest-row i h) ∙ held-take d (residue k d p s) (residue-element d dl dh k p (rows_of k d t p ip) s (words i h)).0)
                ∙ sym
                (default (map (left k d p) ss) i z (left k d p z) (rw length-left h)
                ∙ get_or-map (left k d p) ss i z
                ∙ ap (left k d p) (of_at d hs ys m i z h))
            -- as the field decoder asks for them
