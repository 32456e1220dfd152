-- What accepting an input gives, and which piece of its text that makes each. Assumes nothing.
use mathlib.Core.Path.{◌≡◌, refl, sym, ap, ◌∙◌}
use mathlib.Core.List.{List, []}
use Prim.Native.Nat.{ℕ, zero, suc, ◌-◌, ◌≤◌, ◌<◌}
use native.Mathlib.Nat.{not-suc-le-zero}
use native.Mathlib.Omega.{arith}
use borrow.Author.Tests.{le-ltb, lt-ltb}
use lib.Dec.{leb}
use lib.ListN.{length}
use Rattle.std.proofs.Common.{Result, Ok, Err}
use Rattle.std.specs.Result.{MatchResult, IsOkAnd}
use Rattle.words.specs.declared.Refusal.{Refusal}
use Rattle.words.specs.Refusal.{unless, kept, number_of, fault_in, LENGTH}
use Rattle.words.proofs.Refusals.{first-right, kept-none, kept-some, number-some}
use Rattle.records.specs.declared.Heading.{Heading}
use Rattle.bundle.specs.Bundle.{bundle_fault, bundle_heading}
use Rattle.bundle.specs.declared.Bundle.{Bundle}
use Rattle.text.specs.Text.{head_line, refused_line}
use Rattle.listing.specs.Listing.{line_of, most_input, input_fault}
use Rattle.listing.specs.Pieces.{piece_by, piece, pieces_in, Accepts}

-- an input with no fault is a bundle with none
pub fault-none : (bs : List ℕ) → input_fault bs ≡ 0 → bundle_fault bs ≡ 0
unfolding input_fault
fault-none bs e = first-right (unless (leb (length bs) most_input) LENGTH) (bundle_fault bs) e

-- ---- what accepting gives, by the fault that it is judged by

module _ (c : ℕ) (bs : List ℕ) (r : Result Bundle Refusal) (a : Accepts r c bs) where
  pub fault-refused : (e : Refusal) → r ≡ Err e → c ≡ number_of e
  fault-refused e x = sym a.0 ∙ ap fault_in x

  pub fault-accepted : (b : Bundle) → r ≡ Ok b → c ≡ 0
  fault-accepted b x = sym a.0 ∙ ap fault_in x

  pub heading-accepted : (b : Bundle) → r ≡ Ok b → b.heading ≡ bundle_heading bs
  heading-accepted b x = b.headed ∙ ap bundle_heading (a.1 b x)

  -- a text with a piece for each place has as many as there are, or one for the refusal
  pub count_by : (n : ℕ) → MatchResult r (λ b. n ≡ b.heading.jobs) (λ _. n ≡ 1) → n ≡ kept c 1 (bundle_heading bs).jobs
  count_by n m = go r refl m
    where
      go : (q : Result Bundle Refusal) → r ≡ q → MatchResult q (λ b. n ≡ b.heading.jobs) (λ _. n ≡ 1) → n ≡ kept c 1 (bundle_heading bs).jobs
      go (Ok b) x m = m ∙ ap (λ (h : Heading). h.jobs) (heading-accepted b x) ∙ sym (kept-none c 1 (bundle_heading bs).jobs (fault-accepted b x))
      go (Err e) x m = m ∙ sym (kept-some c 1 (bundle_heading bs).jobs (λ z. number-some e (sym (fault-refused e x) ∙ z)))

  -- the same where the heading of what accepting gave is counted by
  pub count_mapped : (P : Bundle → Heading → Type 0) → ((b : Bundle) (h : Heading) → P b h → h ≡ b.heading) →
      (q : Result Heading Refusal) → MatchResult r (λ b. IsOkAnd q (P b)) (λ e. q ≡ Err e) →
      (n : ℕ) → MatchResult q (λ h. n ≡ h.jobs) (λ _. n ≡ 1) → n ≡ kept c 1 (bundle_heading bs).jobs
  count_mapped P f q t n m = count_by n (go r q t m)
    where
      go : (o : Result Bundle Refusal) (q : Result Heading Refusal) → MatchResult o (λ b. IsOkAnd q (P b)) (λ e. q ≡ Err e) →
          MatchResult q (λ h. n ≡ h.jobs) (λ _. n ≡ 1) → MatchResult o (λ b. n ≡ b.heading.jobs) (λ _. n ≡ 1)
      go (Ok b) (Ok h) t m = m ∙ ap (λ (h : Heading). h.jobs) (f b h t)
      go (Ok b) (Err e) t m = absurd t
      go (Err e) (Ok h) t m = cc
      go (Err e) (Err d) t m = m

-- ---- the pieces, by what accepting gave

module _ (bs : List ℕ) (r : Result Bundle Refusal) (a : Accepts r (input_fault bs) bs) where
  by-fault : (c : ℕ) → input_fault bs ≡ c → (i : ℕ) → piece bs i ≡ piece_by c bs i
  unfolding piece
  by-fault c e i = ap (λ (c : ℕ). piece_by c bs i) e

  -- an input that is refused
  module _ (e : Refusal) (x : r ≡ Err e) where
    abbrev n : ℕ
    n = number_of e

    refused-by : (i : ℕ) → piece bs i ≡ piece_by n bs i
    refused-by = by-fault n (fault-refused (input_fault bs) bs r a e x)

    pub piece-refused : (i : ℕ) → i ≡ 0 → piece bs i ≡ refused_line n
    piece-refused i z = refused-by i ∙ go n i (number-some e) z
      where
        go : (c i : ℕ) → (c ≡ 0 → ⊥) → i ≡ 0 → piece_by c bs i ≡ refused_line c
        go zero i f z = absurd (f refl)
        go (suc c) zero f z = refl
        go (suc c) (suc i) f z = absurd (omega arith)

    pub pieces-refused : pieces_in bs ≡ 1
    unfolding pieces_in
    pieces-refused = kept-some (input_fault bs) 1 _ (λ z. number-some e (sym (fault-refused (input_fault bs) bs r a e x) ∙ z))

  -- one that is not
  module _ (b : Bundle) (x : r ≡ Ok b) where
    fault-is : input_fault bs ≡ 0
    fault-is = fault-accepted (input_fault bs) bs r a b x

    pub jobs-are : (bundle_heading bs).jobs ≡ b.heading.jobs
    jobs-are = sym (ap (λ (h : Heading). h.jobs) (heading-accepted (input_fault bs) bs r a b x))

    pub pieces-accepted : pieces_in bs ≡ suc b.heading.jobs
    unfolding pieces_in
    pieces-accepted = kept-none (input_fault bs) 1 _ fault-is ∙ ap suc jobs-are

    pub piece-head : (i : ℕ) → i ≡ 0 → piece bs i ≡ head_line
    piece-head i n = by-fault 0 fault-is i ∙ ap (piece_by 0 bs) n

    pub piece-line : (i : ℕ) → (i ≡ 0 → ⊥) → i ≤ b.heading.jobs → piece bs i ≡ line_of b.bytes.now (i - 1)
    piece-line i n h = by-fault 0 fault-is i ∙ go i n (omega (arith, h, jobs-are)) ∙ ap (λ (bs : List ℕ). line_of bs (i - 1)) (sym (a.1 b x))
      where
        go : (i : ℕ) → (i ≡ 0 → ⊥) → i ≤ (bundle_heading bs).jobs → piece_by 0 bs i ≡ line_of bs (i - 1)
        go zero n h = absurd (n refl)
        go (suc p) n h = rw (lt-ltb p (bundle_heading bs).jobs h, (let s : suc p - 1 ≡ p = omega arith in s))
