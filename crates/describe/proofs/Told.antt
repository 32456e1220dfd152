-- The words of the calls, and what no number tells. Assumes nothing.
use mathlib.Core.Path.{◌≡◌, refl, sym, ap₂, ◌∙◌}
use Prim.Native.Nat.{ℕ, zero, suc, ◌<◌}
use native.Mathlib.Omega.{arith}
use mathlib.Core.List.{List, [], ◌∷◌}
use lib.Dec.{lit<}
use borrow.Author.Tests.{ltb-true}
use Rattle.words.specs.Refusal.{first, kept}
use Rattle.words.specs.Faults.{length_fault}
use Rattle.words.proofs.Faults.{length-clear}
use Rattle.words.proofs.Refusals.{first-none, first_some, first-left, first-right, unless-held, kept-none}
use Rattle.records.specs.Layout.{file_size}
use Rattle.records.specs.declared.Heading.{Heading}
use Rattle.bundle.specs.Bundle.{bundle_fault, bundle_heading, files_of, file_at, holder_of, allowance_of}
use Rattle.fetch.proofs.Fetch.{place_in}
use Rattle.describe.specs.Describe.{about_of, describe_fault, number_fault, file_part_of, index_fault, file_part_fault}

-- ---- what no number tells

pub described : (bs : List ℕ) (n : ℕ) → describe_fault bs n ≡ 0 → (bundle_fault bs ≡ 0) × (n ≡ 9)
unfolding describe_fault
described bs n e = (first-left (bundle_fault bs) _ e, length-clear 9 n (first-right (bundle_fault bs) _ e))

pub numbered : (bs : List ℕ) (p n : ℕ) → number_fault bs p n ≡ 0 → (bundle_fault bs ≡ 0) × (n ≡ 1) × (p < (bundle_heading bs).jobs)
unfolding number_fault
numbered bs p n e =
    let r = first-right (bundle_fault bs) _ e in (
      first-left (bundle_fault bs) _ e,
      length-clear 1 n (first-left (length_fault 1 n) _ r),
      place_in (bundle_heading bs) p (first-right (length_fault 1 n) _ r),
    )

pub index_in : (files f : ℕ) → index_fault files f ≡ 0 → f < files
unfolding index_fault
index_in files f e = ltb-true f files (unless-held _ 9 (lit< tt) e)

pub parted : (bs : List ℕ) (f n : ℕ) → file_part_fault bs f n ≡ 0 → (bundle_fault bs ≡ 0) × (n ≡ 3) × (f < files_of bs)
unfolding file_part_fault
parted bs f n e =
    let r = first-right (bundle_fault bs) _ e in (
      first-left (bundle_fault bs) _ e,
      length-clear 3 n (first-left (length_fault 3 n) _ r),
      index_in (files_of bs) f (first-right (length_fault 3 n) _ r),
    )

-- a call that does not decline gives 0, and its output is what was written
pub succeeded : (c : ℕ) (old new x : List ℕ) → c ≡ 0 → x ≡ new → (0 ≡ c) × (x ≡ kept c old new)
succeeded c old new x z e = (sym z, e ∙ sym (kept-none c old new z))

-- ---- the words, by the first heading

module _ (bs : List ℕ) (h : Heading) (q : h ≡ bundle_heading bs) (size : ℕ) (s : size ≡ file_size h) where
  pub about-is : (e files : ℕ) → e ≡ allowance_of bs → files ≡ files_of bs →
      e ∷ h.params.k ∷ h.params.d ∷ h.params.n ∷ h.params.t ∷ h.archive ∷ h.jobs ∷ files ∷ size ∷ [] ≡ about_of bs
  unfolding about_of
  about-is e files a f = rw (s, q, a, f)

  pub part-is : (f holder at : ℕ) → holder ≡ holder_of bs f → at ≡ file_at bs f → holder ∷ at ∷ size ∷ [] ≡ file_part_of bs f
  unfolding file_part_of
  part-is f holder at a b = rw (s, q, a, b)
