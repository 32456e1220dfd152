-- The turn of one file at a place: what mending its job asks of the bundle (`holder-few`, `value-asks`), and that leaving the job as it is, where the
-- holder's bit is clear (`turn-left`), or writing the value over its words (`turn-put`), leads to the next file. Assumes nothing.
use mathlib.Core.Path.{◌≡◌, sym, ap, ◌∙◌}
use Prim.Native.Nat.{ℕ, ◌+◌, ◌*◌, ◌%◌, ◌^◌, ◌≤◌, ◌<◌}
use native.Mathlib.Nat.{pow-le-pow_right, le_of_eq}
use native.Mathlib.Numerals.{add-one}
use native.Mathlib.Omega.{arith}
use mathlib.Core.List.{List, ◌++◌}
use mathlib.Core.Bool.{true, false}
use borrow.Author.Tests.{eq-eqb, eqb-true}
use lib.Dec.{eqb, lit<}
use lib.ListN.{length, take, drop}
use lib.Seq.{take_all}
use Rattle.words.proofs.Tests.{true-false}
use Rattle.records.specs.Num.{Bytes}
use Rattle.records.specs.Layout.{words_at, word_size}
use Rattle.records.specs.declared.Heading.{Heading}
use Rattle.galois.specs.Element.{Element, point, held}
use Rattle.galois.proofs.Held.{held-take}
use Rattle.polynomial.specs.Rows.{Rows, coefs}
use Rattle.codewords.specs.Codeword.{value}
use Rattle.codewords.specs.Demand.{bit_for}
use Rattle.codewords.specs.Opening.{wrong_of, opening_in}
use Rattle.bundle.specs.Bundle.{bundle_fault, bundle_heading, params_of, files_of, holder_of, job_at}
use Rattle.bundle.proofs.Bundles.{bundle-ok, ranges-of}
use Rattle.writer.specs.Bytes.{words_bytes}
use Rattle.archive.specs.Archive.{shares_at, place_opening}
use Rattle.archive.proofs.Shares.{holder-range}
use Rattle.mending.specs.Mended.{wrong_at, mended_words}
use Rattle.mending.specs.Progress.{mended_to}
use Rattle.mending.proofs.Mended.{other-bit, mended-right, mended-wrong, mended-fits, mended-skip, mended-put}

-- the test of a bit, either way
pub bit-clear : (x : ℕ) → eqb (x % 2) 1 ≡ false → x % 2 ≡ 0
bit-clear x e = other-bit x (λ o. true-false (sym (eq-eqb (x % 2) 1 o) ∙ e))

pub bit-set : (x : ℕ) → eqb (x % 2) 1 ≡ true → x % 2 ≡ 0 → ⊥
bit-set x e z = let o = eqb-true (x % 2) 1 e in absurd (omega (arith, o, z))

-- d words written over bytes from a position on
abbrev put_at : ℕ → ℕ → Element → List ℕ → List ℕ
put_at at d ws bs = take at bs ++ (words_bytes 8 ws ++ drop (at + 8 * d) bs)

module _ (bs : List ℕ) (z : bundle_fault bs ≡ 0) (h : Heading) (e : h ≡ bundle_heading bs) where
  -- what the parameters and the holder are at most, for a shift and for the value
  n-few : h.params.n ≤ 63
  n-few =
      let r = (ranges-of bs (bundle-ok bs z) h e).book in
      let q : 2 ^ h.params.d ≤ 2 ^ 6 = pow-le-pow_right {n = 2} (lit< tt) r.d-high in
      omega (arith, r.n-high)

  pub value-asks : ((1 ≤ h.params.k) × (h.params.k ≤ 64)) × ((2 ≤ h.params.d) × (h.params.d ≤ 6)) × (h.params.t + 1 ≤ 64)
  value-asks =
      let r = (ranges-of bs (bundle-ok bs z) h e).book in
      ((r.k-low, r.k-high), (r.d-low, r.d-high), omega (arith, n-few, r.t-high))

  module _ (f i : ℕ) (l : f < files_of bs) (u : i ≡ holder_of bs f) where
    pub holder-few : (1 ≤ i) × (i ≤ 63)
    holder-few =
        let r = holder-range bs z f l in
        let q : h.params.n ≡ (params_of bs).n = ap (λ (y : Heading). y.params.n) e in
        (rw u r.0, omega (arith, u, r.1, q, n-few))

    module _ (b : Bytes bs) (p w : ℕ) (x : w ≡ wrong_of h.params.k h.params.d (shares_at bs p) (place_opening bs p)) where
      the-bit : bit_for i w ≡ bit_for (holder_of bs f) (wrong_at bs p)
      the-bit =
          ap (λ j. bit_for j w) u
          ∙ ap (bit_for (holder_of bs f))
          (x ∙ ap (λ (y : Heading). wrong_of y.params.k y.params.d (shares_at bs p) (place_opening bs p)) e)

      pub turn-left : bit_for i w ≡ 0 → mended_to bs p f ≡ mended_to bs p (f + 1)
      turn-left c = mended-skip bs z b p f (mended-right bs z f p l (sym the-bit ∙ c))

      module _ (m : p < h.jobs) (c : ℕ) (rows : Rows) (o : opening_in h.params.d h.params.t c rows ≡ place_opening bs p)
          (n : bit_for i w ≡ 0 → ⊥) where
        -- the value is the mended words, and there are d of them
        abbrev v : Element
        v = value h.params.k h.params.d (coefs h.params.d (h.params.t + 1) rows) (point h.params.d i)

        v-mended : v ≡ mended_words bs f p
        v-mended =
            ap (λ (y : Heading). value y.params.k y.params.d (coefs y.params.d (y.params.t + 1) rows) (point y.params.d i)) e
            ∙ rw (u, add-one (params_of bs).t)
            (sym (mended-wrong bs z f p c rows l (ap (λ (y : Heading). opening_in y.params.d y.params.t c rows) (sym e) ∙ o)
            (λ q. n (the-bit ∙ q))))

        place_is : p < (bundle_heading bs).jobs
        place_is = omega (arith, ap (λ (y : Heading). y.jobs) e)

        v_count : length v ≡ h.params.d
        v_count = ap length v-mended ∙ (mended-fits bs z b f p l place_is).count ∙ sym (ap (λ (y : Heading). y.params.d) e)

        -- the words that are lent, of an array that holds the value
        lent : (ws : Element) → ws ≡ held h.params.d v → take h.params.d (drop 0 (take h.params.d ws)) ≡ mended_words bs f p
        lent ws q =
            let d = h.params.d in
            ap (take d) (ap (take d) q ∙ held-take d v v_count) ∙ take_all d v (le_of_eq v_count) ∙ v-mended

        pub turn-put : (ws : Element) (at : ℕ) (old new : List ℕ) → ws ≡ held h.params.d v → at ≡ job_at bs f p → old ≡ mended_to bs p f →
            new ≡ put_at (words_at at) h.params.d (take h.params.d (drop 0 (take h.params.d ws))) old → new ≡ mended_to bs p (f + 1)
        unfolding word_size
        turn-put ws at old new q s g k =
            let d : h.params.d ≡ (params_of bs).d = ap (λ (y : Heading). y.params.d) e in
            k ∙ (λ j. put_at (words_at (s j)) (d j) (lent ws q j) (g j)) ∙ mended-put bs z b p f l place_is
