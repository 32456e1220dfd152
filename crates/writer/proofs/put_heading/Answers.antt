-- `put_heading`: its pieces, one after another. Assumes nothing.
use mathlib.Core.Path.{◌≡◌, refl, sym, ap, ap₂, ◌∙◌}
use Prim.Native.Nat.{ℕ, ◌+◌, ◌^◌, ◌≤◌, ◌<◌}
use mathlib.Core.List.{[], ◌∷◌, ◌++◌}
use native.Mathlib.Nat.{pow-le-pow_right}
use native.Mathlib.Omega.{arith}
use lib.ListN.{length, length-append}
use lib.Dec.{lit<}
use Rattle.records.specs.Num.{le_bytes}
use Rattle.records.specs.Layout.{record_size, head_kind, head_len, head_size}
use Rattle.records.proofs.Num.{length-le_bytes}
use Rattle.bundle.proofs.Headings.{ok-ranges, ok-holder}
use Rattle.writer.specs.Bytes.{heading_bytes}
use Rattle.writer.proofs.Put.{Written, written_none, written-more, written_byte, written-number, written-end, prefix-length}
use Rattle.writer.proofs.Fits.{heading-length}
use Rattle.writer.proofs.Calls.{heading-pieces}
use Rattle.writer.proofs.put_heading.Goals as goal
use Rattle.writer.proofs.put_heading.Goals.{Start}

-- the parameters and the holder fit a byte each
record Small (s : Start) : Type 0 where
  k : s.args.h.params.k < 256
  d : s.args.h.params.d < 256
  n : s.args.h.params.n < 256
  t : s.args.h.params.t < 256
  holder : s.args.h.holder < 256

small : (s : Start) → Small s
small s =
    let h = s.args.h in
    let r = (ok-ranges h s.requires.0).book in
    let o = ok-holder 0 h s.requires.1 in
    let q : 2 ^ h.params.d ≤ 2 ^ 6 = pow-le-pow_right {n = 2} (lit< tt) r.d-high in
    let n : h.params.n < 64 = omega (arith, r.n-high) in
    record {
      k = omega (arith, r.k-high);
      d = omega (arith, r.d-high);
      n = omega arith;
      t = omega (arith, r.t-high);
      holder = omega (arith, o.1);
    }

-- the bytes that the heading takes
room : (s : Start) → head_size s.args.h ≤ length s.args.out.now
room s = s.requires.2

pub put_prefix-requires : goal.put_prefix-requires
unfolding record_size head_len
put_prefix-requires c = omega (arith, room (goal.at.put_prefix-requires c).Start)

pub put_params-requires : goal.put_params-requires
unfolding record_size head_len
put_params-requires c =
    let m = small (goal.at.put_params-requires c).Start in
    (omega (arith, room (goal.at.put_params-requires c).Start), m.k, m.d, m.n, m.t)

pub put_number-requires : goal.put_number-requires
unfolding record_size head_len
put_number-requires c = omega (arith, room (goal.at.put_number-requires c).Start)

pub put_number-requires-2 : goal.put_number-requires-2
unfolding record_size head_len
put_number-requires-2 c =
    omega (
      arith,
      room (goal.at.put_number-requires-2 c).Start,
    )

pub put_number-requires-3 : goal.put_number-requires-3
unfolding record_size head_len
put_number-requires-3 c =
    omega (
      arith,
      room (goal.at.put_number-requires-3 c).Start,
    )

pub returns : goal.returns
unfolding head_len head_kind record_size
returns c =
    let s = (goal.at.returns c).Start in
    let h = s.args.h in
    let p = h.params in
    let d = s.args.out.now in
    let g = room s in
    let o₁ = c.put_prefix.new.out in
    let o₂ = c.put_params.new.out in
    let o₃ = c.put_number.new.out in
    let o₄ = c.put_number-2.new.out in
    let o₅ = c.put_number-3.new.out in
    let x = le_bytes 4 (head_len h) ++ le_bytes 2 (head_kind h) in
    let y = p.k ∷ p.d ∷ p.n ∷ p.t ∷ [] in
    let a = le_bytes 8 h.archive in
    let j = le_bytes 4 h.jobs in
    let nx : length x ≡ 6 = prefix-length (head_len h) (head_kind h) in
    let ny : length (x ++ y) ≡ 6 + 4 = length-append x y ∙ ap (λ (m : ℕ). m + 4) nx in
    let nz : length ((x ++ y) ++ (h.holder ∷ [])) ≡ 6 + 5 = length-append (x ++ y) (h.holder ∷ []) ∙ ap (λ (m : ℕ). m + 1) ny in
    let na : length (((x ++ y) ++ (h.holder ∷ [])) ++ a) ≡ 6 + 5 + 8 =
    length-append ((x ++ y) ++ (h.holder ∷ [])) a ∙ ap₂ ◌+◌ nz (length-le_bytes 8 h.archive) in
    let w₁ : Written d 0 x o₁ = written-more d 0 [] d x o₁ 0 6 (written_none d 0 (omega arith)) refl (sym nx) (omega arith)
    c.put_prefix.ensures in
    let w₂ : Written d 0 (x ++ y) o₂ = written-more d 0 x o₁ y o₂ 6 4 w₁ (omega arith) refl (omega arith)
    c.put_params.ensures in
    let w₃ : Written d 0 ((x ++ y) ++ (h.holder ∷ [])) o₃ =
    written_byte d 0 (x ++ y) o₂ o₃ (6 + 4) h.holder w₂ (omega arith) (omega arith) (small s).holder
    c.put_number.ensures in
    let w₄ : Written d 0 (((x ++ y) ++ (h.holder ∷ [])) ++ a) o₄ =
    written-number d 0 ((x ++ y) ++ (h.holder ∷ [])) o₃ o₄ (6 + 5) 8 h.archive w₃ (omega arith) (omega arith)
    c.put_number-2.ensures in
    let w₅ : Written d 0 ((((x ++ y) ++ (h.holder ∷ [])) ++ a) ++ j) o₅ =
    written-number d 0 (((x ++ y) ++ (h.holder ∷ [])) ++ a) o₄ o₅ (6 + 5 + 8) 4 h.jobs w₄ (omega arith) (omega arith)
    c.put_number-3.ensures in
    written-end d 0 (heading_bytes h) o₅ (head_size h) (rw (heading-pieces h) at w₅) (heading-length h)
