-- A text written over a buffer: nothing, one byte, and one text after another. Assumes nothing.
use mathlib.Core.Path.{◌≡◌, sym, ap, ◌∙◌}
use mathlib.Core.List.{List, [], ◌∷◌, ◌++◌, append_assoc, append-nil}
use Prim.Native.Nat.{ℕ, suc, ◌+◌, ◌≤◌}
use native.Mathlib.Nat.{add-zero}
use native.Mathlib.Numerals.{add-one}
use native.Mathlib.Omega.{arith}
use lib.ListN.{length, take, drop, set, length-append, length-drop, take-append-drop, drop_of_length-le}
use lib.Seq.{length-take-le, take_at, drop-append-add, drop-drop, set_split, append_snoc}
use Rattle.decimal.specs.Decimal.{written}

-- what a call gives that writes a text at a position: the new buffer and the position after it
abbrev pub Wrote : List ℕ → ℕ → List ℕ → List ℕ → ℕ → Type 0
Wrote old at text new end = (new ≡ written at text old) × (end ≡ at + length text)

-- a call that wrote a text from the start, where the text is a line, or lines, that have room
pub wrote-line : {room : ℕ} (old new line text : List ℕ) (r : ℕ) → line ≡ text → Wrote old 0 text new r → length text ≤ room
    → (new ≡ written 0 line old) × (r ≡ length line) × (r ≤ room)
wrote-line old new line text r e w l =
    (w.0 ∙ ap (λ (t : List ℕ). written 0 t old) (sym e), omega (arith, w.1, ap length e), omega (arith, w.1))

front_length : (old text : List ℕ) (at : ℕ) → at + length text ≤ length old → length (take at old ++ text) ≡ at + length text
front_length old text at h =
    let t : length (take at old) ≡ at = length-take-le at old (omega arith) in
    omega (arith, length-append (take at old) text)

pub written-length : (old text : List ℕ) (at : ℕ) → at + length text ≤ length old → length (written at text old) ≡ length old
written-length old text at h =
    omega
    (arith, length-append (take at old ++ text) (drop (at + length text) old), front_length old text at h, length-drop (at + length text) old)

pub written_none : (old : List ℕ) (at : ℕ) → written at [] old ≡ old
written_none old at = rw (append-nil (take at old), add-zero) (take-append-drop at old)

-- a text from the start, and one as long as the buffer
pub take-written : (old text : List ℕ) (n : ℕ) → n ≡ length text → take n (written 0 text old) ≡ text
take-written old text n e = take_at text (drop (0 + length text) old) n (sym e)

pub written-whole : (old text : List ℕ) → length old ≡ length text → written 0 text old ≡ text
written-whole old text e =
    ap (λ (l : List ℕ). text ++ l) (drop_of_length-le old {i = 0 + length text} (omega (arith, e))) ∙ append-nil text

pub written_byte : (old : List ℕ) (at b : ℕ) → at + 1 ≤ length old → set old at b ≡ written at (b ∷ []) old
written_byte old at b h =
    set_split old at b (omega arith)
    ∙ sym (append_snoc (take at old) b (drop (suc at) old))
    ∙ ap (λ (n : ℕ). take at old ++ (b ∷ []) ++ drop n old) (sym (add-one at))

-- a text b after a text a is their concatenation
pub written-more : (old a b : List ℕ) (at : ℕ) → at + length a ≤ length old → written (at + length a) b (written at a old) ≡ written at (a ++ b) old
written-more old a b at h =
    let f = take at old ++ a in
    let l : length f ≡ at + length a = front_length old a at h in
    let t : take (at + length a) (written at a old) ≡ f = take_at f (drop (at + length a) old) (at + length a) l in
    let n : at + length a + length b ≡ at + length (a ++ b) = omega (arith, length-append a b) in
    let d : drop (at + length a + length b) (written at a old) ≡ drop (at + length (a ++ b)) old =
    ap (λ (n : ℕ). drop (n + length b) (written at a old)) (sym l)
    ∙ drop-append-add f (drop (at + length a) old) (length b)
    ∙ drop-drop (length b) (at + length a) old
    ∙ ap (λ (k : ℕ). drop k old) n in
    rw (t, d, append_assoc (take at old) a b)

-- two texts written one after another
pub wrote-more : {mid new : List ℕ} {m r : ℕ} (old a b : List ℕ) (at : ℕ) → at + length a ≤ length old → Wrote old at a mid m → Wrote mid m b new r
    → Wrote old at (a ++ b) new r
wrote-more old a b at h p q =
    (q.0 ∙ rw (p.1, p.0) (written-more old a b at h), omega (arith, p.1, q.1, length-append a b))
