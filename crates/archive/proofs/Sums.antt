-- Sums of polynomials. A sum of polynomials of degree at most t is one (`sums-poly`), its values at the holders' points are the sums of their values
-- (`value-sums`), and so with the free term (`free-sums`). Assumes nothing.
use mathlib.Core.Path.{◌≡◌, refl, ap, ◌∙◌}
use mathlib.Core.List.{[]}
use Prim.Native.Nat.{ℕ, zero, suc, ◌≤◌, ◌<◌}
use native.Mathlib.Omega.{arith}
use lib.ListN.{get_or}
use Rattle.galois.specs.Element.{Element, sum, point}
use Rattle.codewords.specs.Codeword.{Polynomial, value}
use Rattle.codewords.specs.WellFormed.{IsPoly}
use Rattle.codewords.proofs.Linear.{sums-is-poly, dealt-sum, sums-free}
use Rattle.codewords.proofs.Value.{zero-is-poly, zero-value}
use Rattle.totals.specs.Total.{sum_to}
use Rattle.archive.specs.Dealt.{sum_polys, free_terms}

module _ (k d t : ℕ) (q : ℕ → Polynomial) where
  pub sums-poly : (n : ℕ) → ((i : ℕ) → i < n → IsPoly k d t (q i)) → IsPoly k d t (sum_polys k d t q n)
  unfolding sum_polys
  sums-poly zero h = zero-is-poly k d t
  sums-poly (suc n) h = sums-is-poly k d t (sum_polys k d t q n) (q n) (sums-poly n (λ i l. h i (omega arith))) (h n (omega arith))

  pub value-sums : 2 ≤ d → d ≤ 6 → (n : ℕ) → ((i : ℕ) → i < n → IsPoly k d t (q i)) → (h : ℕ) →
      value k d (sum_polys k d t q n) (point d h) ≡ sum_to k d (λ i. value k d (q i) (point d h)) n
  unfolding sum_polys sum_to
  value-sums dl dh zero polys h = zero-value k d dl dh t (record { holder = h; words = [] })
  value-sums dl dh (suc n) polys h =
      let below : (i : ℕ) → i < n → IsPoly k d t (q i) = λ i l. polys i (omega arith) in
      dealt-sum d dl dh k t (sum_polys k d t q n) (q n) (sums-poly n below) (polys n (omega arith)) h
      ∙ ap (λ (x : Element). sum k x (value k d (q n) (point d h))) (value-sums dl dh n below h)

  pub free-sums : (n : ℕ) → ((i : ℕ) → i < n → IsPoly k d t (q i)) → get_or (sum_polys k d t q n) 0 [] ≡ sum_to k d (free_terms q) n
  unfolding sum_polys sum_to
  free-sums zero h = refl
  free-sums (suc n) h =
      let below : (i : ℕ) → i < n → IsPoly k d t (q i) = λ i l. h i (omega arith) in
      sums-free k t (sum_polys k d t q n) (q n) (sums-poly n below).0 (h n (omega arith)).0
      ∙ ap (λ (x : Element). sum k x (get_or (q n) 0 [])) (free-sums n below)
