-- How often each job gives some shares, computed in the smallest book; and what the hypotheses of a group are for: without them a job is met
-- otherwise than once. Assumes nothing.
use mathlib.Core.Path.{◌≡◌, refl}
use mathlib.Core.List.{List, [], ◌∷◌, map}
use Prim.Native.Nat.{ℕ}
use Rattle.words.specs.Word.{add_w, neg_w, sub_w, mul_w}
use Rattle.words.specs.declared.Params.{Params}
use Rattle.galois.specs.Element.{zip, rows, lower, times_x, product, point, same, below, each, tuples, elements}
use Rattle.polynomial.specs.Polynomial.{value}
use Rattle.codewords.specs.Codeword.{Share}
use Rattle.sharing.specs.Dealing.{elements_of, dealing, dealt_from, dealt}
use Rattle.secrecy.specs.Secrecy.{gives, how_often}

abbrev book : ℕ → Params
book t = record { k = 1; d = 2; n = 3; t = t }

-- the share of a holder
abbrev of : ℕ → ℕ → ℕ → Share
of h x y = record { holder = h; words = x ∷ y ∷ [] }

record Example : Type 0 where
  t : ℕ
  shares : List Share
  -- for the jobs (0,0), (0,1), (1,0), (1,1)
  often : List ℕ

abbrev ex : ℕ → List Share → List ℕ → Example
ex t ss ns = record { t = t; shares = ss; often = ns }

abbrev table : List Example
table =
    -- t labs: each job once; at t 0 nobody's share
    ex 0 [] (1 ∷ 1 ∷ 1 ∷ 1 ∷ [])
    ∷ ex 1 (of 2 1 0 ∷ []) (1 ∷ 1 ∷ 1 ∷ 1 ∷ [])
    ∷ ex 2 (of 2 1 0 ∷ of 3 1 1 ∷ []) (1 ∷ 1 ∷ 1 ∷ 1 ∷ [])
    -- t + 1 labs: one job alone; at t 0 the share itself
    ∷ ex 0 (of 2 1 0 ∷ []) (0 ∷ 0 ∷ 1 ∷ 0 ∷ [])
    ∷ ex 1 (of 2 1 0 ∷ of 3 1 1 ∷ []) (0 ∷ 1 ∷ 0 ∷ 0 ∷ [])
    -- one holder twice: not once, or never
    ∷ ex 2 (of 2 1 0 ∷ of 2 1 0 ∷ []) (4 ∷ 4 ∷ 4 ∷ 4 ∷ [])
    ∷ ex 2 (of 2 1 0 ∷ of 2 1 1 ∷ []) (0 ∷ 0 ∷ 0 ∷ 0 ∷ [])
    -- a wide word: never
    ∷ ex 1 (of 2 2 0 ∷ []) (0 ∷ 0 ∷ 0 ∷ 0 ∷ [])
    ∷ []

computed : map (λ (e : Example). map (how_often (book e.t) e.shares) (elements 1 2)) table ≡ map (λ (e : Example). e.often) table
unfolding gives same elements tuples each below dealt dealt_from dealing elements_of value point product times_x zip lower rows add_w sub_w neg_w mul_w
computed = refl
