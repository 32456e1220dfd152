-- Laws of a fetch: a search over files, the refusals of a holder, a place and a run, each case of a call, and that no fetch that succeeds gives
-- an empty part. Assumes nothing.
use mathlib.Core.Path.{◌≡◌, refl, sym, ap, ap₂, ◌∙◌}
use Prim.Native.Nat.{ℕ, zero, suc, ◌+◌, ◌-◌, ◌≤◌, ◌<◌}
use native.Mathlib.Omega.{arith}
use native.Mathlib.Decide.{dec_le}
use mathlib.Core.List.{List, [], ◌∷◌}
use mathlib.Core.Bool.{Bool, true, false, cond}
use lib.ListN.{length, get_or, set}
use lib.Dec.{leb, eqb, lit<}
use borrow.Author.Tests.{le-leb, leb-true, lt-ltb, le-ltb, ltb-true, eqb-true, eq-eqb, ne_eqb}
use Rattle.words.specs.Refusal.{first, unless, kept, HOLDER}
use Rattle.words.specs.Faults.{length_fault}
use Rattle.words.proofs.Tests.{bool_cases, and_left, and_right, and_both}
use Rattle.words.proofs.Refusals.{first-none, first-left, first-right, unless-held, unless-yes, unless-no, kept-none}
use Rattle.records.specs.Num.{part}
use Rattle.records.specs.Layout.{body_at, record_size, body_size, job_len, file_size, order_size}
use Rattle.records.specs.declared.Heading.{Heading}
use Rattle.bundle.specs.Bundle.{bundle_heading, place_at, bundle_fault, files_of, holder_of, job_at}
use Rattle.fetch.specs.Fetch.{find_from, file_of, holder_fault, place_fault, run_fault, body_fault, body_of, part_of, part_fault}
use Rattle.records.specs.Record.{heading_of}
use Rattle.records.proofs.Num.{part_length}
use Rattle.records.proofs.Lengths.{job-length-low}
use Rattle.bundle.proofs.Bundles.{bundle-ok, holders_rise, job-within}

-- ---- a search

pub find-here : (t : ℕ → Bool) (n i : ℕ) → 0 < n → t i ≡ true → find_from t n i ≡ i
unfolding find_from
find-here t zero i h e = absurd (omega arith)
find-here t (suc n) i h e = rw e

pub find-on : (t : ℕ → Bool) (n i : ℕ) → 0 < n → t i ≡ false → find_from t n i ≡ find_from t (n - 1) (i + 1)
unfolding find_from
find-on t zero i h e = absurd (omega arith)
find-on t (suc n) i h e = let z : suc n - 1 ≡ n = omega arith in rw (e, z)

pub find-end : (t : ℕ → Bool) (i : ℕ) → find_from t 0 i ≡ i
unfolding find_from
find-end t i = refl

-- what is found below the end passes the test
pub find-holds : (t : ℕ → Bool) (n i : ℕ) → find_from t n i < i + n → t (find_from t n i) ≡ true
unfolding find_from
find-holds t zero i h = absurd (omega arith)
find-holds t (suc n) i h =
    bool_cases (t i) (λ e. rw (e, e))
    (λ e. (let s : cond (t i) i (find_from t n (i + 1)) ≡ find_from t n (i + 1) = rw e in
    rw s (find-holds t n (i + 1) (omega (arith, s)))))

-- the first place that passes the test
pub find_first : (t : ℕ → Bool) (n i j : ℕ) → i ≤ j → j < i + n → t j ≡ true → ((m : ℕ) → i ≤ m → m < j → t m ≡ false) → find_from t n i ≡ j
unfolding find_from
find_first t zero i j l u e f = absurd (omega arith)
find_first t (suc n) i j l u e f =
    elim (dec_le (suc i) j) [
      | yes m ↦ (rw (f i (omega arith) m) (find_first t n (i + 1) j (omega arith) (omega arith) e (λ x a b. f x (omega arith) b)))
      | no m ↦ (let z : i ≡ j = omega arith in let y : t i ≡ true = ap t z ∙ e in rw y z)
    ]

-- ---- the file of a holder

-- the test of a file's holder
abbrev pub holds : List ℕ → ℕ → ℕ → Bool
holds bs holder f = eqb (holder_of bs f) holder

-- a loop over files, at file f: where it stands
pub record FindAt (bs : List ℕ) (holder f at : ℕ) : Type 0 where
  pub at-is : at ≡ place_at bs order_size f
  pub low : f ≤ files_of bs
  pub rest : find_from (holds bs holder) (files_of bs - f) f ≡ file_of bs holder

pub find-start : (bs : List ℕ) (holder : ℕ) → FindAt bs holder 0 order_size
unfolding file_of place_at
find-start bs holder =
    let z : files_of bs - 0 ≡ files_of bs = omega arith in
    record { at-is = omega arith; low = omega arith; rest = rw z }

module _ (bs : List ℕ) (holder f at : ℕ) (j : FindAt bs holder f at) where
  pub find-yes : f < files_of bs → (heading_of bs at).holder ≡ holder → f ≡ file_of bs holder
  find-yes l e =
      let h : holds bs holder f ≡ true = eq-eqb _ _ (ap (λ (x : ℕ). (heading_of bs x).holder) (sym j.at-is) ∙ e) in
      sym (sym j.rest ∙ find-here (holds bs holder) (files_of bs - f) f (omega arith) h)

  pub find-next : f < files_of bs → ((heading_of bs at).holder ≡ holder → ⊥) →
      FindAt bs holder (f + 1) (at + file_size (bundle_heading bs))
  unfolding place_at
  find-next l n =
      let h : holds bs holder f ≡ false = ne_eqb _ _ (λ e. n (ap (λ (x : ℕ). (heading_of bs x).holder) j.at-is ∙ e)) in
      let z : files_of bs - (f + 1) ≡ files_of bs - f - 1 = omega arith in
      record {
        at-is = omega (arith, j.at-is);
        low = omega arith;
        rest = rw z (sym (find-on (holds bs holder) (files_of bs - f) f (omega arith) h) ∙ j.rest);
      }

  pub find-no : files_of bs ≤ f → f ≡ file_of bs holder
  find-no l =
      let z : files_of bs - f ≡ 0 = omega arith in
      sym (sym j.rest ∙ ap (λ (x : ℕ). find_from (holds bs holder) x f) z ∙ find-end (holds bs holder) f)

-- the holder of the file that is found
pub file-holder : (bs : List ℕ) (holder : ℕ) → file_of bs holder < files_of bs → holder_of bs (file_of bs holder) ≡ holder
unfolding file_of
file-holder bs holder h = eqb-true _ _ (find-holds (holds bs holder) (files_of bs) 0 (omega arith))

-- and the file of a file's holder is that file: no other has the same
pub holder-file : (bs : List ℕ) → bundle_fault bs ≡ 0 → (f : ℕ) → f < files_of bs → file_of bs (holder_of bs f) ≡ f
unfolding file_of
holder-file bs z f l =
    find_first (holds bs (holder_of bs f)) (files_of bs) 0 f (omega arith) (omega arith) (eq-eqb (holder_of bs f) (holder_of bs f) refl)
    (λ m a b. ne_eqb (holder_of bs m) (holder_of bs f) (λ q. omega (arith, q, holders_rise bs order_size (bundle-ok bs z).files m f b l)))

-- ---- the refusals: what none of them says, and where there is none

pub holder_in : (bs : List ℕ) (holder : ℕ) → holder_fault bs holder ≡ 0 → file_of bs holder < files_of bs
unfolding holder_fault
holder_in bs holder e = ltb-true _ _ (unless-held _ 4 (lit< tt) e)

pub holder-none : (bs : List ℕ) (holder : ℕ) → file_of bs holder < files_of bs → holder_fault bs holder ≡ 0
unfolding holder_fault
holder-none bs holder l = unless-yes _ 4 (lt-ltb _ _ l)

pub holder-gone : (bs : List ℕ) (holder : ℕ) → files_of bs ≤ file_of bs holder → HOLDER ≡ holder_fault bs holder
unfolding holder_fault
holder-gone bs holder l = sym (unless-no _ 4 (le-ltb _ _ l))

pub place_in : (h : Heading) (p : ℕ) → place_fault h p ≡ 0 → p < h.jobs
unfolding place_fault
place_in h p e = ltb-true _ _ (unless-held _ 9 (lit< tt) e)

pub place_none : (h : Heading) (p : ℕ) → p < h.jobs → place_fault h p ≡ 0
unfolding place_fault
place_none h p l = unless-yes _ 9 (lt-ltb _ _ l)

pub run_in : (h : Heading) (a b : ℕ) → run_fault h a b ≡ 0 → (a ≤ b) × (b ≤ h.jobs)
unfolding run_fault
run_in h a b e =
    let t = unless-held _ 9 (lit< tt) e in
    (leb-true a b (and_left (leb a b) _ t), leb-true b h.jobs (and_right (leb a b) _ t))

pub run_none : (h : Heading) (a b : ℕ) → a ≤ b → b ≤ h.jobs → run_fault h a b ≡ 0
unfolding run_fault
run_none h a b l u = unless-yes _ 9 (and_both _ _ (le-leb a b l) (le-leb b h.jobs u))

-- ---- the fetch

module _ (bs : List ℕ) (holder p : ℕ) where
  -- a declined fetch gives an empty part, and one that succeeds the record's body
  pub body-empty : (c : ℕ) → (c ≡ 0 → ⊥) → body_fault bs holder p ≡ c → body_of bs holder p ≡ []
  unfolding body_of
  body-empty zero n e = absurd (n refl)
  body-empty (suc c) n e = rw e

  pub body-part : body_fault bs holder p ≡ 0 → body_of bs holder p ≡ part (body_at (job_at bs (file_of bs holder) p))
      (body_size (job_len (bundle_heading bs))) bs
  unfolding body_of
  body-part e = rw e

  -- what a fetch that succeeds says
  pub body-accepted : body_fault bs holder p ≡ 0 → (bundle_fault bs ≡ 0) × (file_of bs holder < files_of bs) × (p < (bundle_heading bs).jobs)
  unfolding body_fault
  body-accepted e =
      let r = first-right (bundle_fault bs) _ e in (
        first-left (bundle_fault bs) _ e,
        holder_in bs holder (first-left (holder_fault bs holder) _ r),
        place_in (bundle_heading bs) p (first-right (holder_fault bs holder) _ r),
      )

  -- where no test of it declines, it succeeds
  pub body-none : bundle_fault bs ≡ 0 → (h : Heading) → h ≡ bundle_heading bs → 0 ≡ first (holder_fault bs holder) (place_fault h p) →
      body_fault bs holder p ≡ 0
  unfolding body_fault
  body-none z h e q = first-none (bundle_fault bs) _ z ∙ rw e at (sym q)

  -- and the body is within the bytes
  pub body-within : body_fault bs holder p ≡ 0 → body_at (job_at bs (file_of bs holder) p) + body_size (job_len (bundle_heading bs)) ≤ length bs
  unfolding record_size body_size
  body-within e =
      let t = body-accepted e in
      omega (arith, job-within bs (bundle-ok bs t.0) (file_of bs holder) p t.1 t.2, job-length-low (bundle_heading bs))

  -- "an empty part, which no successful fetch gives"
  pub body-length : body_fault bs holder p ≡ 0 → length (body_of bs holder p) ≡ body_size (job_len (bundle_heading bs))
  body-length e =
      ap length (body-part e)
      ∙ part_length bs (body_at (job_at bs (file_of bs holder) p)) (body_size (job_len (bundle_heading bs))) (body-within e)

  pub body-some : body_fault bs holder p ≡ 0 → body_of bs holder p ≡ [] → ⊥
  unfolding body_size
  body-some e z = omega (arith, body-length e, ap length z, job-length-low (bundle_heading bs))

-- ---- the part as offset and length

-- two words, written in turn
pub pair : (s : List ℕ) (a b : ℕ) → length s ≡ 2 → set (set s 0 a) 1 b ≡ a ∷ b ∷ []
pair [] a b e = absurd (omega (arith, e))
pair (x ∷ []) a b e = absurd (omega (arith, e))
pair (x ∷ y ∷ []) a b e = refl
pair (x ∷ y ∷ z ∷ s) a b e = absurd (omega (arith, e))

module _ (bs : List ℕ) (holder p : ℕ) where
  -- what a fetch that succeeds says
  pub part-accepted : (n : ℕ) → part_fault bs holder p n ≡ 0 →
      (bundle_fault bs ≡ 0) × (file_of bs holder < files_of bs) × (n ≡ 2) × (p < (bundle_heading bs).jobs)
  unfolding part_fault length_fault
  part-accepted n e =
      let r = first-right (bundle_fault bs) _ e in
      let q = first-right (holder_fault bs holder) _ r in (
        first-left (bundle_fault bs) _ e,
        holder_in bs holder (first-left (holder_fault bs holder) _ r),
        eqb-true n 2 (unless-held _ 2 (lit< tt) (first-left (unless (eqb n 2) 2) _ q)),
        place_in (bundle_heading bs) p (first-right (unless (eqb n 2) 2) _ q),
      )

  -- where no test of it declines, it succeeds
  pub part-none : bundle_fault bs ≡ 0 → (h : Heading) → h ≡ bundle_heading bs → (n : ℕ) →
      0 ≡ holder_fault bs holder → 0 ≡ length_fault 2 n → 0 ≡ place_fault h p → part_fault bs holder p n ≡ 0
  unfolding part_fault
  part-none z h e n a l q =
      first-none (bundle_fault bs) _ z ∙ first-none (holder_fault bs holder) _ (sym a) ∙ first-none (length_fault 2 n) _ (sym l) ∙ rw e at (sym q)

  -- the two words as they are written, by the record's position and the body's size
  pub part-written : (old : List ℕ) (at size : ℕ) → part_fault bs holder p (length old) ≡ 0 → at ≡ job_at bs (file_of bs holder) p →
      size ≡ body_size (job_len (bundle_heading bs)) → let c = part_fault bs holder p (length old) in
      (0 ≡ c) × (set (set old 0 (at + 6)) 1 size ≡ kept c old (part_of bs (file_of bs holder) p))
  unfolding part_of
  part-written old at size z e q = (
    sym z,
    pair old (at + 6) size (part-accepted (length old) z).2
        ∙ ap₂ (λ (x y : ℕ). (x + 6) ∷ y ∷ []) e q
        ∙ sym (kept-none _ old (body_at (job_at bs (file_of bs holder) p) ∷ body_size (job_len (bundle_heading bs)) ∷ []) z),
  )

  -- "a sister call on the same inputs gives the number, or 0 where the fetch succeeds"
  pub part-sister : part_fault bs holder p 2 ≡ body_fault bs holder p
  unfolding part_fault body_fault length_fault unless first
  part-sister = refl

  -- the part of the bundle that the two words name is the body
  pub part_body : part_fault bs holder p 2 ≡ 0 → let w = part_of bs (file_of bs holder) p in part (get_or w 0 0) (get_or w 1 0) bs ≡ body_of bs holder p
  unfolding part_of
  part_body e = sym (body-part bs holder p (sym part-sister ∙ e))
