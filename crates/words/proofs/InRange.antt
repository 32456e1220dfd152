-- Parameters in their ranges, as a test and as facts. Assumes nothing.
use Rattle.std.proofs.Common.{◌≡◌, ℕ, ◌^◌, ◌<◌, ◌≤◌, true, ltb, leb, arith, ltb-true, lt-ltb, le-leb, leb-true}
use Rattle.words.specs.Params.{params_ok}
use Rattle.words.specs.declared.Params.{Params}
use Rattle.words.proofs.Tests.{and_left, and_right}

pub six : (d : ℕ) → 2 ≤ d → d ≤ 6 → (d ≡ 2 → ⊥) → (d ≡ 3 → ⊥) → (d ≡ 4 → ⊥) → (d ≡ 5 → ⊥) → d ≡ 6
six d l h a b c e = omega arith

pub record InRange (p : Params) : Type 0 where
  pub k-low : 1 ≤ p.k
  pub k-high : p.k ≤ 64
  pub d-low : 2 ≤ p.d
  pub d-high : p.d ≤ 6
  pub n-low : 1 ≤ p.n
  pub n-high : p.n < 2 ^ p.d
  pub t-high : p.t < p.n

pub range-ok : (p : Params) → InRange p → params_ok p ≡ true
unfolding params_ok
range-ok p b =
    simp (
      le-leb 1 p.k b.k-low,
      le-leb p.k 64 b.k-high,
      le-leb 2 p.d b.d-low,
      le-leb p.d 6 b.d-high,
      le-leb 1 p.n b.n-low,
      lt-ltb p.n (2 ^ p.d) b.n-high,
      lt-ltb p.t p.n b.t-high,
    )

pub ok-range : (p : Params) → params_ok p ≡ true → InRange p
unfolding params_ok
ok-range p e₁ =
    let e₂ = and_right (leb 1 p.k) _ e₁ in
    let e₃ = and_right (leb p.k 64) _ e₂ in
    let e₄ = and_right (leb 2 p.d) _ e₃ in
    let e₅ = and_right (leb p.d 6) _ e₄ in
    let e₆ = and_right (leb 1 p.n) _ e₅ in
    record {
      k-low = leb-true 1 p.k (and_left (leb 1 p.k) _ e₁);
      k-high = leb-true p.k 64 (and_left (leb p.k 64) _ e₂);
      d-low = leb-true 2 p.d (and_left (leb 2 p.d) _ e₃);
      d-high = leb-true p.d 6 (and_left (leb p.d 6) _ e₄);
      n-low = leb-true 1 p.n (and_left (leb 1 p.n) _ e₅);
      n-high = ltb-true p.n (2 ^ p.d) (and_left (ltb p.n (2 ^ p.d)) _ e₆);
      t-high = ltb-true p.t p.n (and_right (ltb p.n (2 ^ p.d)) _ e₆);
    }
