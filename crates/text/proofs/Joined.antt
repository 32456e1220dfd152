-- Texts joined by commas, as a loop writes them one after another: the holders of a set, the signed words. Assumes nothing.
use mathlib.Core.Path.{◌≡◌, refl, ap, ◌∙◌}
use mathlib.Core.List.{List, [], ◌∷◌, ◌++◌, map}
use Prim.Native.Nat.{ℕ, zero, suc, ◌+◌, ◌-◌, ◌/◌, ◌^◌, ◌≤◌, ◌<◌}
use native.Mathlib.Nat.{not-suc-le-zero, le_of_suc-le-suc, zero-lt-suc}
use lib.ListN.{length, take, drop, get_or, length-map}
use lib.Seq.{drop-cons, get_or-take, length-take-le}
use Rattle.words.specs.Signed.{signed_of}
use lib.Count.{count_trailing_zeros}
use Rattle.decimal.specs.Decimal.{signed_text}
use Rattle.text.specs.Text.{after_commas, joined, holders_from, holders, holder_text, holders_text, readings}
use Rattle.text.proofs.Holders.{next-holder}

-- what follows a comma is joined again
pub comma : (texts : List (List ℕ)) → 0 < length texts → after_commas texts ≡ (44 ∷ []) ++ joined texts
unfolding after_commas joined
comma [] h = absurd (not-suc-le-zero h)
comma (text ∷ texts) h = refl

pub joined_at : (texts : List (List ℕ)) (i : ℕ) → i < length texts → joined (drop i texts) ≡ get_or texts i [] ++ after_commas (drop (suc i) texts)
unfolding joined
joined_at texts i h = rw (drop-cons texts i [] h)

-- nobody
pub nobody : (i n : ℕ) → holders_from i n 0 ≡ []
unfolding holders_from
nobody i zero = refl
nobody i (suc n) = nobody (suc i) n

pub no-holders : (lowest : List ℕ) (set : ℕ) → set ≡ 0 → holders_text lowest set ≡ 45 ∷ []
unfolding joined holders
no-holders lowest set e = rw (e, nobody 1 64)

-- the holders that are left once i bits of a set are off, and w is what is left of it
abbrev pub rest_text : List ℕ → ℕ → ℕ → List ℕ
rest_text lowest i w = joined (map (holder_text lowest) (holders_from (i + 1) (64 - i) w))

-- those after the first of them
abbrev pub after_text : List ℕ → ℕ → ℕ → List ℕ
after_text lowest i w = after_commas (map (holder_text lowest) (holders_from (i + 1) (64 - i) w))

pub holders-next : (lowest : List ℕ) (i w : ℕ) → i ≤ 64 → 0 < w → w < 2 ^ (64 - i)
    → rest_text lowest i w
    ≡ holder_text lowest (i + count_trailing_zeros 64 w + 1) ++ after_text lowest (i + count_trailing_zeros 64 w + 1) (w / 2 ^ count_trailing_zeros 64 w / 2)
unfolding joined
holders-next lowest i w q p h = rw (next-holder i w q p h)

pub holders-last : (lowest : List ℕ) (i w : ℕ) → w ≡ 0 → after_text lowest i w ≡ []
unfolding after_commas
holders-last lowest i w e = rw (e, nobody (i + 1) (64 - i))

pub holders-comma : (lowest : List ℕ) (i w : ℕ) → i ≤ 64 → 0 < w → w < 2 ^ (64 - i)
    → after_text lowest i w ≡ (44 ∷ []) ++ rest_text lowest i w
holders-comma lowest i w q p h =
    comma (map (holder_text lowest) (holders_from (i + 1) (64 - i) w)) (rw (next-holder i w q p h) (zero-lt-suc _))

-- the texts of the first d words
abbrev pub word_texts : ℕ → ℕ → List ℕ → List (List ℕ)
word_texts k d words = map signed_text (readings k d words)

pub word-texts-length : (k d : ℕ) (words : List ℕ) → d ≤ length words → length (word_texts k d words) ≡ d
word-texts-length k d words h =
    length-map (map (signed_of k) (take d words)) signed_text ∙ length-map (take d words) (signed_of k) ∙ length-take-le d words h

pub word-text : (k d : ℕ) (words : List ℕ) (i : ℕ) → i < d → d ≤ length words
    → get_or (word_texts k d words) i [] ≡ signed_text (signed_of k (get_or words i 0))
word-text k d words i h l =
    at (take d words) i (rw (length-take-le d words l) h) ∙ ap (λ (w : ℕ). signed_text (signed_of k w)) (get_or-take d words i 0 h)
  where
    at : (ws : List ℕ) (n : ℕ) → n < length ws → get_or (map signed_text (map (signed_of k) ws)) n [] ≡ signed_text (signed_of k (get_or ws n 0))
    at [] n h = absurd (not-suc-le-zero h)
    at (w ∷ ws) zero h = refl
    at (w ∷ ws) (suc n) h = at ws n (le_of_suc-le-suc h)
