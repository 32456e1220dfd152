-- The loop of `put_words`: the first i words are written. Assumes nothing.
use mathlib.Core.Path.{◌≡◌, refl, ap, ◌∙◌}
use Prim.Native.Nat.{ℕ, ◌+◌, ◌*◌, ◌≤◌, ◌<◌}
use mathlib.Core.List.{List, ◌++◌}
use native.Mathlib.Omega.{arith}
use lib.ListN.{length, get_or, take, drop, length-drop}
use lib.Seq.{length-take-le, get_or-take, get_or-drop, take_all}
use Rattle.records.specs.Num.{le_bytes}
use Rattle.writer.specs.Bytes.{words_bytes}
use Rattle.writer.proofs.Put.{Written, written_none, written-number, written-length, written-end}
use Rattle.writer.proofs.Fits.{words_length}
use Rattle.writer.proofs.Calls.{words_more}
use Rattle.writer.proofs.put_words.Goals as goal
use Rattle.writer.proofs.put_words.Invariants.{S}

-- the words to write, and the bytes of the first i
count : (ws : List ℕ) (from d : ℕ) → from + d ≤ length ws → length (S ws from d) ≡ d
count ws from d h = length-take-le d (drop from ws) (rw length-drop (omega arith))

size : (ws : List ℕ) (from d i : ℕ) → from + d ≤ length ws → i ≤ d → length (words_bytes 8 (take i (S ws from d))) ≡ 8 * i
size ws from d i h l = words_length 8 (take i (S ws from d)) ∙ ap (λ (n : ℕ). 8 * n) (length-take-le i (S ws from d) (rw (count ws from d h) l))

word : (ws : List ℕ) (from d i : ℕ) → i < d → get_or (S ws from d) i 0 ≡ get_or ws (from + i) 0
word ws from d i l = rw (get_or-take, get_or-drop)

pub loop-i-init : goal.loop-i-init
unfolding words_bytes
loop-i-init c = let a = c.args in (refl, written_none a.out.now a.at (omega (arith, c.requires)))

pub loop-i-preserved : goal.loop-i-preserved
loop-i-preserved c =
    let a = c.args in
    let l = c.loop-i in
    let d = a.out.now in
    let ws = a.words.now in
    let p = c.requires in
    let t = c.loop-i-test.true in
    let n = count ws a.from a.d p.1 in
    let x = get_or ws (a.from + l.i) 0 in
    let o = c.put_number.new.out in
    let q : Written d a.at (words_bytes 8 (take l.i (S ws a.from a.d)) ++ le_bytes 8 x) o =
    written-number d a.at (words_bytes 8 (take l.i (S ws a.from a.d))) l.out o (a.at + l.i * 8) 8 x l.invariant.1
    (omega (arith, size ws a.from a.d l.i p.1 (omega (arith, t)))) (omega (arith, p, t))
    c.put_number.ensures in
    let e : words_bytes 8 (take (l.i + 1) (S ws a.from a.d)) ≡ words_bytes 8 (take l.i (S ws a.from a.d)) ++ le_bytes 8 x =
    words_more 8 (S ws a.from a.d) l.i (omega arith) ∙ ap (λ (y : ℕ). words_bytes 8 (take l.i (S ws a.from a.d)) ++ le_bytes 8 y)
    (word ws a.from a.d l.i t) in
    (written-length d a.at (words_bytes 8 (take l.i (S ws a.from a.d)) ++ le_bytes 8 x) o q, rw e q)

pub returns : goal.returns
returns c =
    let a = c.args in
    let l = c.loop-i in
    let ws = a.words.now in
    let s = S ws a.from a.d in
    let p = c.requires in
    let z : l.i ≡ a.d = omega (arith, c.loop-i-test.false, l.auto.i-end) in
    let n = count ws a.from a.d p.1 in
    let k : take l.i s ≡ s = take_all l.i s (omega arith) in
    written-end a.out.now a.at (words_bytes 8 s) l.out (8 * a.d) (rw k at l.invariant.1)
    (words_length 8 s ∙ ap (λ (m : ℕ). 8 * m) n)
