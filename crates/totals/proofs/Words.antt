-- The words of a job: d of them, as an element in an array of six (`padded`); words are in width exactly where all of them together, bit by bit,
-- are (`six-width`). Assumes nothing.
use mathlib.Core.Path.{◌≡◌, refl, sym, ap, ap₂, ◌∙◌}
use mathlib.Core.Bool.{Bool, true, false, ◌&&◌, and_assoc}
use mathlib.Core.List.{List, [], ◌∷◌, ◌++◌}
use Prim.Native.Nat.{ℕ, ◌+◌, ◌-◌, ◌≤◌}
use native.Mathlib.Nat.{le_of_eq}
use lib.Bits.{bit_or}
use lib.ListN.{length, get_or, drop, replicate}
use lib.Pow.{pow_pos}
use lib.Seq.{take_all}
use Rattle.words.specs.Word.{in_width, all_in_width}
use Rattle.words.proofs.Width.{lt-in-width, or-width}
use Rattle.galois.specs.Element.{Element, held}
use Rattle.galois.proofs.Held.{zeros-after}
use Rattle.galois.proofs.Zip.{six-words}
use Rattle.records.specs.Layout.{word_size, words_at}
use Rattle.bundle.specs.Bundle.{bundle_heading, params_of, job_at}
use Rattle.bundle.specs.Contents.{words_of}
use Rattle.bundle.proofs.Contents.{words_count}
use Rattle.totals.specs.Values.{every}
use Rattle.totals.proofs.Values.{every-none, every_more}
use Rattle.totals.proofs.Sums.{zeros-width}

-- every job has d words
pub words_length : (bs : List ℕ) (f p : ℕ) → length (words_of bs f p) ≡ (params_of bs).d
unfolding words_of
words_length bs f p = words_count (word_size (bundle_heading bs)) bs (params_of bs).d (words_at (job_at bs f p))

-- d words and zeros after them are an element in an array of six
pub padded : (d : ℕ) (e : Element) → length e ≡ d → e ++ drop d (replicate 6 0) ≡ held d e
padded d e h = ap (λ (l : Element). l ++ drop d (replicate 6 0)) (sym (take_all d e (le_of_eq h)))

pub width-append : (k : ℕ) (a b : Element) → all_in_width k (a ++ b) ≡ (all_in_width k a && all_in_width k b)
unfolding all_in_width
width-append k [] b = refl
width-append k (x ∷ a) b = ap (λ (r : Bool). in_width k x && r) (width-append k a b) ∙ sym (and_assoc (in_width k x) (all_in_width k a) (all_in_width k b))

-- the zeros are in width
pub padded-width : (k d : ℕ) (e : Element) → d ≤ 6 → all_in_width k (e ++ drop d (replicate 6 0)) ≡ all_in_width k e
padded-width k d e h =
    width-append k e (drop d (replicate 6 0))
    ∙ rw (zeros-after d h, zeros-width k (6 - d)) (last (all_in_width k e))
  where
    last : (b : Bool) → (b && true) ≡ b
    last true = refl
    last false = refl

-- ---- words together

-- word upon word, where a test says of each whether it is in width
pub none_seen : (k : ℕ) (t : ℕ → Bool) → in_width k 0 ≡ every t 0
none_seen k t = lt-in-width k 0 (pow_pos k) ∙ sym (every-none t)

pub more-seen : (k x y : ℕ) (t : ℕ → Bool) (n : ℕ) → in_width k x ≡ every t n → in_width k y ≡ t n → in_width k (bit_or x y) ≡ every t (n + 1)
more-seen k x y t n p q = or-width k x y ∙ ap₂ ◌&&◌ p q ∙ sym (every_more t n)

-- the six words of an array together
abbrev pub together : List ℕ → ℕ
together w = bit_or (get_or w 0 0) (bit_or (get_or w 1 0) (bit_or (get_or w 2 0) (bit_or (get_or w 3 0) (bit_or (get_or w 4 0) (get_or w 5 0)))))

pub six-width : (k : ℕ) (w : List ℕ) → length w ≡ 6 → in_width k (together w) ≡ all_in_width k w
unfolding all_in_width
six-width k w h =
    rw (or-width, or-width, or-width, or-width, or-width)
    (ap (λ (b : Bool). i 0 && (i 1 && (i 2 && (i 3 && (i 4 && b))))) (last (i 5)) ∙ ap (all_in_width k) (sym (six-words w h)))
  where
    i : ℕ → Bool
    i j = in_width k (get_or w j 0)

    last : (b : Bool) → b ≡ (b && true)
    last true = refl
    last false = refl

-- words seen in two lanes: e and o before, v and u with them
pub lanes : (k e o v u : ℕ) → in_width k (bit_or (bit_or e v) (bit_or o u)) ≡ in_width k (bit_or (bit_or e o) (bit_or v u))
lanes k e o v u =
    rw (or-width k (bit_or e v) (bit_or o u), or-width k e v, or-width k o u, or-width k (bit_or e o) (bit_or v u), or-width k e o, or-width k v u)
    (four (in_width k e) (in_width k v) (in_width k o) (in_width k u))
  where
    four : (a c b d : Bool) → ((a && c) && (b && d)) ≡ ((a && b) && (c && d))
    four false c b d = refl
    four true true b d = refl
    four true false true d = refl
    four true false false d = refl

-- the two of them after one another
pub in-turn : (k x v u : ℕ) → in_width k (bit_or x (bit_or v u)) ≡ in_width k (bit_or (bit_or x v) u)
in-turn k x v u =
    rw (or-width k x (bit_or v u), or-width k v u, or-width k (bit_or x v) u, or-width k x v)
    (sym (and_assoc (in_width k x) (in_width k v) (in_width k u)))
