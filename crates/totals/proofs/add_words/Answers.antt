-- The loop of `add_words`: the first j words are added where they stand, and taken together; two more a turn. Assumes nothing.
use native.Mathlib.Omega.{arith}
use mathlib.Core.Path.{◌≡◌, refl, sym, ap, ◌∙◌}
use mathlib.Core.Bool.{Bool, ◌&&◌}
use mathlib.Core.List.{List}
use Prim.Native.Nat.{ℕ, ◌+◌, ◌*◌, ◌≤◌, ◌<◌}
use native.Mathlib.Nat.{zero-add, le_of_eq}
use lib.ListN.{length, get_or, set, drop, length-set}
use lib.Bits.{bit_or, or_self}
use Rattle.words.specs.Word.{add_w, in_width, all_in_width}
use Rattle.words.proofs.Fill.{fill-within}
use Rattle.words.proofs.Width.{none_seen, one_seen, all_seen}
use Rattle.galois.specs.Element.{Element, sum}
use Rattle.records.specs.Num.{le_at}
use Rattle.bundle.specs.Contents.{words_from}
use Rattle.bundle.proofs.Contents.{words_count, words-at}
use Rattle.totals.specs.Total.{added_to}
use Rattle.totals.proofs.Sums.{zip-within}
use Rattle.totals.proofs.Added.{zip-count, fill_here}
use Rattle.totals.proofs.Words.{lanes, in-turn}
use Rattle.totals.proofs.add_words.Invariants.{Passed}
use Rattle.totals.proofs.add_words.Goals as goal
use Rattle.totals.proofs.add_words.Goals.{After-load_word-w, After-load_word-w-then-j-d, Start}

module _ (s : Start) where
  abbrev bs : List ℕ
  bs = s.args.bytes.now

  abbrev old : List ℕ
  old = s.args.running.now

  abbrev w : Element
  w = words_from 8 bs s.args.d s.args.at

  count : length w ≡ s.args.d
  count = words_count 8 bs s.args.d s.args.at

  within : length w ≤ length old
  within = rw count s.requires.1

  -- one word more: r is what is read, v what is stored
  next : (new : List ℕ) (seen j here r v : ℕ) → Passed w old new seen j → j < s.args.d → here ≡ s.args.at + 8 * j → r ≡ le_at 8 bs here →
      v ≡ add_w 64 (get_or new j 0) r → Passed w old (set new j v) (bit_or seen r) (j + 1)
  next new seen j here r v p l e q t =
      let m : j < length w = rw count l in
      let n = zip-count (add_w 64) old w within in
      let f : r ≡ get_or w j 0 = q ∙ ap (le_at 8 bs) e ∙ sym (words-at 8 bs s.args.d s.args.at j l) in (
        λ k. rw f (one_seen k seen w j m) ∙ p.0 k,
        fill_here (λ (y : ℕ). add_w 64 y r) old (sum 64 old w) new j v p.1 (rw n m) (rw n within)
            (zip-within (add_w 64) old w j m within ∙ rw f) t,
      )

  -- the words seen, in another order
  turned : (new : List ℕ) (x y j : ℕ) → ((k : ℕ) → in_width k x ≡ in_width k y) → Passed w old new y j → Passed w old new x j
  turned new x y j e p = (λ k. ap (λ (b : Bool). b && all_in_width k (drop j w)) (e k) ∙ p.0 k, p.1)

  done : (new : List ℕ) (seen j : ℕ) → Passed w old new seen j → j ≡ s.args.d →
      ((k : ℕ) → in_width k seen ≡ all_in_width k w) × (new ≡ added_to 64 old w)
  done new seen j p e =
      let n : j ≡ length w = e ∙ sym count in (
        λ k. sym (all_seen k seen w j (le_of_eq (sym n))) ∙ p.0 k,
        fill-within old (sum 64 old w) new 0 (length w) (rw n at p.1) (zip-count (add_w 64) old w within) ∙ rw zero-add,
      )

pub bounds-running-j-in-loop-j-2 : goal.bounds-running-j-in-loop-j-2
bounds-running-j-in-loop-j-2 c = rw length-set (omega arith)

pub bounds-running-j-in-loop-j-3 : goal.bounds-running-j-in-loop-j-3
bounds-running-j-in-loop-j-3 c = rw length-set (omega arith)

pub loop-j-preserved : goal.loop-j-preserved
loop-j-preserved c =
    let t = (goal.at.loop-j-preserved c).After-load_word-w in
    let l = t.loop-j in
    let s = (goal.at.After-load_word-w t).Start in
    let e = l.even in
    let o = l.odd in
    let v = t.load_word-v.result in
    let u = t.load_word-w.result in
    let two : l.j + 1 + 1 ≡ l.j + 2 = omega arith in
    let p = next s l.running (bit_or e o) l.j _ v _ l.invariant.2 (omega arith) l.invariant.1 t.load_word-v.ensures
    c.add.ensures in
    let q = next s _ _ (l.j + 1) _ u _ p (omega arith) (omega (arith, l.invariant.1)) t.load_word-w.ensures c.add-in-loop-j.ensures in (
      omega arith,
      omega arith,
      rw two at (turned s _ (bit_or (bit_or e v) (bit_or o u)) _ (l.j + 1 + 1) (λ k. lanes k e o v u ∙ in-turn k (bit_or e o) v u) q),
      simp length-set l.invariant.3,
    )

-- the last word, where d is odd
pub returns-then-j-d : goal.returns-then-j-d
returns-then-j-d c =
    let t = (goal.at.returns-then-j-d c).After-load_word-w-then-j-d in
    let l = t.loop-j in
    let s = (goal.at.After-load_word-w-then-j-d t).Start in
    let e = l.even in
    let o = l.odd in
    let v = t.load_word-w-then-j-d.result in
    let p = next s l.running (bit_or e o) l.j _ v _ l.invariant.2 (omega arith) l.invariant.1 t.load_word-w-then-j-d.ensures c.add-then-j-d.ensures in
    let x = bit_or (bit_or e v) (bit_or o v) in
    done s _ x (l.j + 1) (turned s _ x _ (l.j + 1) (λ k. rw (or_self v) at (lanes k e o v v)) p) (omega arith)

pub returns : goal.returns
returns c =
    let l = c.loop-j in
    done (goal.at.returns c).Start l.running (bit_or l.even l.odd) l.j l.invariant.2 (omega arith)

pub loop-j-init : goal.loop-j-init
loop-j-init c = (omega arith, omega arith, (λ k. none_seen k (w (goal.at.loop-j-init c).Start), refl), refl)
