-- Shares in two arrays as some are dropped, out of place (`copy-turn`) and in place (`drop-turn`): a turn of the loop, its start and its end. Assumes
-- nothing.
use mathlib.Core.Path.{◌≡◌, refl, sym, ◌∙◌, ap, ap₂}
use mathlib.Core.List.{List, [], ◌∷◌, ◌++◌, append_assoc, append-nil, head-eq_of_cons-eq, tail-eq_of_cons-eq}
use Prim.Native.Nat.{ℕ, zero, suc, ◌+◌, ◌-◌, ◌/◌, ◌%◌, ◌^◌, ◌≤◌, ◌<◌}
use native.Mathlib.Nat.{add-zero, zero-add, sub-zero}
use native.Mathlib.Omega.{arith}
use native.Mathlib.Decide.{ℕ_discrete}
use lib.ListN.{length, get_or, set, take}
use lib.Seq.{get_or-set_same, get_or-set_other}
use Rattle.polynomial.specs.Rows.{Rows}
use Rattle.codewords.specs.Codeword.{Share}
use Rattle.codewords.specs.Residue.{without}
use Rattle.codewords.proofs.Without.{without-keeps, without-drops}
use Rattle.level.specs.Shares.{share, share_at, shares_from, shares_of}

module _ (d : ℕ) where
  -- a store at a place outside leaves shares as they are
  from-set-before : (hs : List ℕ) (ys : Rows) (j x : ℕ) (y : List ℕ) (i n : ℕ) → j < i →
      shares_from d (set hs j x) (set ys j y) i n ≡ shares_from d hs ys i n
  unfolding shares_from
  from-set-before hs ys j x y i zero h = refl
  from-set-before hs ys j x y i (suc n) h =
      ap₂ ◌∷◌ (ap₂ share (get_or-set_other hs j i x 0 (λ e. omega arith)) (ap (take d) (get_or-set_other ys j i y [] (λ e. omega arith))))
      (from-set-before hs ys j x y (suc i) n (omega arith))

  from-set-after : (hs : List ℕ) (ys : Rows) (j x : ℕ) (y : List ℕ) (i n : ℕ) → i + n ≤ j →
      shares_from d (set hs j x) (set ys j y) i n ≡ shares_from d hs ys i n
  unfolding shares_from
  from-set-after hs ys j x y i zero h = refl
  from-set-after hs ys j x y i (suc n) h =
      ap₂ ◌∷◌ (ap₂ share (get_or-set_other hs j i x 0 (λ e. omega arith)) (ap (take d) (get_or-set_other ys j i y [] (λ e. omega arith))))
      (from-set-after hs ys j x y (suc i) n (omega arith))

  from-snoc : (hs : List ℕ) (ys : Rows) (i n : ℕ) → shares_from d hs ys i (suc n) ≡ shares_from d hs ys i n ++ (share_at d hs ys (i + n) ∷ [])
  unfolding shares_from
  from-snoc hs ys i zero = ap (λ (x : ℕ). share_at d hs ys x ∷ []) (sym (add-zero i))
  from-snoc hs ys i (suc n) =
      let e : suc i + n ≡ i + suc n = omega arith in
      ap (λ (l : List Share). share_at d hs ys i ∷ l)
      (from-snoc hs ys (suc i) n ∙ ap (λ (x : ℕ). shares_from d hs ys (suc i) n ++ (share_at d hs ys x ∷ [])) e)

  from-set-at : (hs : List ℕ) (ys : Rows) (j x : ℕ) (y : List ℕ) → j < length hs → j < length ys →
      shares_from d (set hs j x) (set ys j y) 0 (suc j) ≡ shares_from d hs ys 0 j ++ (share x (take d y) ∷ [])
  from-set-at hs ys j x y h g =
      from-snoc (set hs j x) (set ys j y) 0 j
      ∙ ap₂ (λ (l : List Share) (s : Share). l ++ (s ∷ [])) (from-set-after hs ys j x y 0 j (omega arith))
      (ap (share_at d (set hs j x) (set ys j y)) (zero-add j) ∙ ap₂ share (get_or-set_same hs j x 0 h) (ap (take d) (get_or-set_same ys j y [] g)))

  from_cons : (hs : List ℕ) (ys : Rows) (i n : ℕ) → shares_from d hs ys i (suc n) ≡ share_at d hs ys i ∷ shares_from d hs ys (suc i) n
  unfolding shares_from
  from_cons hs ys i n = refl

  -- the start and the end
  pub copy_start : (w : ℕ) (hs : List ℕ) (ys : Rows) (m : ℕ) (gs : List ℕ) (zs : Rows) →
      shares_from d gs zs 0 0 ++ without w (shares_from d hs ys 0 (m - 0)) ≡ without w (shares_of d m hs ys)
  unfolding shares_from
  copy_start w hs ys m gs zs = ap (λ (n : ℕ). without w (shares_from d hs ys 0 n)) (sub-zero m)

  pub drop-start : (w : ℕ) (hs : List ℕ) (ys : Rows) (m : ℕ) →
      shares_from d hs ys 0 0 ++ without w (shares_from d hs ys 0 (m - 0)) ≡ without w (shares_of d m hs ys)
  drop-start w hs ys m = copy_start w hs ys m hs ys

  pub drop-end : (w : ℕ) (hs : List ℕ) (ys : Rows) (i m : ℕ) → m ≤ i → (rs ts : List Share) →
      rs ++ without w (shares_from d hs ys i (m - i)) ≡ ts → rs ≡ ts
  unfolding shares_from without
  drop-end w hs ys i m h rs ts e =
      sym (append-nil rs) ∙ ap (λ (l : List Share). rs ++ l) (sym (none_left (m - i) (omega arith))) ∙ e
    where
      none_left : (n : ℕ) → n ≡ 0 → without w (shares_from d hs ys i n) ≡ []
      none_left n z = rw z

  -- a turn: of m shares i are done and j kept, and that at i is written to the next place
  module _ (w : ℕ) (hs₀ : List ℕ) (ys₀ : Rows) (m i : ℕ) (h : i < m) (hs : List ℕ) (ys : Rows) (j x : ℕ) (y : List ℕ)
      (is : share x (take d y) ≡ share_at d hs₀ ys₀ i) (lh : j < length hs) (ly : j < length ys) (ts : List Share)
      (e : shares_from d hs ys 0 j ++ without w (shares_from d hs₀ ys₀ i (m - i)) ≡ ts) where
    abbrev left : ℕ
    left = m - (i + 1)

    abbrev rest : List Share
    rest = without w (shares_from d hs₀ ys₀ (suc i) left)

    now-first : shares_from d hs ys 0 j ++ without w (share_at d hs₀ ys₀ i ∷ shares_from d hs₀ ys₀ (suc i) left) ≡ ts
    now-first =
        let a : m - i ≡ suc left = omega arith in
        ap (λ (l : List Share). shares_from d hs ys 0 j ++ without w l) (sym (ap (shares_from d hs₀ ys₀ i) a ∙ from_cons hs₀ ys₀ i left)) ∙ e

    go : (b : ℕ) → w / 2 ^ (get_or hs₀ i 0 - 1) % 2 ≡ b → Dec (b ≡ 0) → b < 2 → shares_from d (set hs j x) (set ys j y) 0 (j + (1 - b)) ++ rest ≡ ts
    go b v (yes z) q =
        let o : j + (1 - b) ≡ suc j = omega arith in
        rw (o, from-set-at hs ys j x y lh ly, is)
        (append_assoc (shares_from d hs ys 0 j) (share_at d hs₀ ys₀ i ∷ []) rest
        ∙ ap (λ (l : List Share). shares_from d hs ys 0 j ++ l)
        (sym (without-keeps w (share_at d hs₀ ys₀ i) (shares_from d hs₀ ys₀ (suc i) left) (v ∙ z)))
        ∙ now-first)
    go b v (no z) q =
        let o : j + (1 - b) ≡ j = omega arith in
        let u : b ≡ 1 = omega arith in
        rw (o, from-set-after hs ys j x y 0 j (omega arith))
        (ap (λ (l : List Share). shares_from d hs ys 0 j ++ l)
        (sym (without-drops w (share_at d hs₀ ys₀ i) (shares_from d hs₀ ys₀ (suc i) left) (v ∙ u)))
        ∙ now-first)

    pub copy-turn :
        shares_from d (set hs j x) (set ys j y) 0 (j + (1 - w / 2 ^ (x - 1) % 2)) ++ without w (shares_from d hs₀ ys₀ (i + 1) (m - (i + 1))) ≡ ts
    copy-turn =
        let b = w / 2 ^ (x - 1) % 2 in
        let o : i + 1 ≡ suc i = omega arith in
        ap (λ (z : ℕ). shares_from d (set hs j x) (set ys j y) 0 (j + (1 - b)) ++ without w (shares_from d hs₀ ys₀ z left)) o
        ∙ go b (ap (λ (s : Share). w / 2 ^ (s.holder - 1) % 2) (sym is)) (ℕ_discrete b 0) (omega arith)

  -- the same in place: hs₀ and ys₀ are the arrays at the start
  module _ (w : ℕ) (hs₀ : List ℕ) (ys₀ : Rows) (m : ℕ) (hs : List ℕ) (ys : Rows) (i : ℕ) (h : i < m)
      (same : shares_from d hs ys i (m - i) ≡ shares_from d hs₀ ys₀ i (m - i)) where
    abbrev n : ℕ
    n = m - (i + 1)

    ahead : m - i ≡ suc n
    ahead = omega arith

    one : i + 1 ≡ suc i
    one = omega arith

    same-cons : share_at d hs ys i ∷ shares_from d hs ys (suc i) n ≡ share_at d hs₀ ys₀ i ∷ shares_from d hs₀ ys₀ (suc i) n
    same-cons = sym (from_cons hs ys i n) ∙ rw ahead at same ∙ from_cons hs₀ ys₀ i n

    same-share : share_at d hs ys i ≡ share_at d hs₀ ys₀ i
    same-share = head-eq_of_cons-eq same-cons

    same-holder : get_or hs i 0 ≡ get_or hs₀ i 0
    same-holder = ap (λ (s : Share). s.holder) same-share

    pub holder-range : (1 ≤ get_or hs₀ i 0) × (get_or hs₀ i 0 ≤ 63) → (1 ≤ get_or hs i 0) × (get_or hs i 0 ≤ 63)
    holder-range r = rw same-holder r

    module _ (j : ℕ) (l : j ≤ i) where
      abbrev hs' : List ℕ
      hs' = set hs j (get_or hs i 0)

      abbrev ys' : Rows
      ys' = set ys j (get_or ys i [])

      pub drop-same : shares_from d hs' ys' (i + 1) (m - (i + 1)) ≡ shares_from d hs₀ ys₀ (i + 1) (m - (i + 1))
      drop-same =
          ap (λ (x : ℕ). shares_from d hs' ys' x n) one
          ∙ from-set-before hs ys j (get_or hs i 0) (get_or ys i []) (suc i) n (omega arith)
          ∙ tail-eq_of_cons-eq same-cons
          ∙ ap (λ (x : ℕ). shares_from d hs₀ ys₀ x n) (sym one)

      pub drop-turn : i < length hs → i < length ys → (ts : List Share) →
          shares_from d hs ys 0 j ++ without w (shares_from d hs₀ ys₀ i (m - i)) ≡ ts →
          shares_from d hs' ys' 0 (j + (1 - w / 2 ^ (get_or hs i 0 - 1) % 2)) ++ without w (shares_from d hs₀ ys₀ (i + 1) (m - (i + 1))) ≡ ts
      drop-turn lh ly ts e = copy-turn w hs₀ ys₀ m i h hs ys j (get_or hs i 0) (get_or ys i []) same-share (omega arith) (omega arith) ts e
