-- `place_opening`: the words of the place in each file, and what they open to. Assumes nothing.
use mathlib.Core.Path.{◌≡◌, sym, ap, ap₂, ◌∙◌}
use mathlib.Core.List.{List}
use Prim.Native.Nat.{ℕ}
use lib.ListN.{length, drop}
use Rattle.galois.specs.Element.{Element}
use Rattle.polynomial.specs.Rows.{Rows}
use Rattle.codewords.specs.Opening.{wrong_of, answer_to}
use Rattle.level.specs.Shares.{shares_of}
use Rattle.bundle.specs.Bundle.{params_of, allowance_of}
use Rattle.bundle.specs.Contents.{words_of}
use Rattle.totals.proofs.Words.{words_length}
use Rattle.archive.specs.Archive.{shares_at, place_opening}
use Rattle.archive.proofs.Loaded.{arrays, loaded, loaded-sized, loaded-width, loaded-length, place-width}
use Rattle.archive.proofs.place_opening.Goals as goal
use Rattle.archive.proofs.place_opening.Goals.{After-load_place-seen, Start}

abbrev bs : Start → List ℕ
bs s = s.args.bundle.now.bytes.now

-- the words of each file's share
abbrev words : Start → ℕ → Element
words s f = words_of (bs s) f s.args.place

long : (s : Start) (f : ℕ) → length (words s f) ≡ (params_of (bs s)).d
long s f = words_length (bs s) f s.args.place

-- the rows that the loader leaves
abbrev rest : Start → Rows
rest s = drop s.args.bundle.now.files s.args.shares.now

abbrev rows : After-load_place-seen → Rows
rows c = c.load_place-seen.new.shares

-- the shares that it leaves
stands : (l : After-load_place-seen) → let s = (goal.at.After-load_place-seen l).Start in
    shares_of s.args.bundle.now.heading.params.d s.args.bundle.now.files s.args.holders.now (rows l) ≡ shares_at (bs s) s.args.place
stands l =
    let s = (goal.at.After-load_place-seen l).Start in
    arrays (bs s) s.args.bundle.now.heading s.args.bundle.now.headed s.args.bundle.now.files s.args.bundle.now.counted s.args.holders.now (rows l) s.requires.1
    ∙ loaded (bs s) s.args.bundle.now.heading s.args.bundle.now.headed s.args.bundle.now.files s.args.bundle.now.counted (words s) (long s) (rows l) (rest s) l.load_place-seen.ensures.1

pub decode_files-requires : goal.decode_files-requires
decode_files-requires c =
    let l = (goal.at.decode_files-requires c).After-load_place-seen in
    let s = (goal.at.After-load_place-seen l).Start in
    let h = s.args.bundle.now.heading in
    let r = l.load_place-seen in (
      s.requires.1,
      loaded-sized (bs s) h s.args.bundle.now.headed s.args.bundle.now.files s.args.bundle.now.counted (words s) (long s) (rows l) (rest s) r.ensures.1,
      λ x. loaded-width (bs s) h s.args.bundle.now.headed s.args.bundle.now.files s.args.bundle.now.counted (words s) (long s) (rows l) (rest s) r.ensures.1
          (λ f. place-width (bs s) s.args.place f (sym r.ensures.0 ∙ sym c.in_width-narrow.ensures ∙ x)),
      loaded-length (bs s) h s.args.bundle.now.headed s.args.bundle.now.files s.args.bundle.now.counted _ (rows l) s.args.shares.now s.args.bundle.now.sound s.requires.2 r.ensures.1,
      s.requires.3,
    )

pub returns : goal.returns
unfolding place_opening
returns c =
    let l = (goal.at.returns c).After-load_place-seen in
    let s = (goal.at.After-load_place-seen l).Start in
    let h = s.args.bundle.now.heading in
    let d = c.decode_files.ensures in
    let same = loaded (bs s) h s.args.bundle.now.headed s.args.bundle.now.files s.args.bundle.now.counted (words s) (long s) (rows l) (rest s) l.load_place-seen.ensures.1 in
    let o = ap (answer_to (params_of (bs s)) (allowance_of (bs s))) same in
    record { opening = d.opening ∙ o; wrong = d.wrong ∙ ap₂ (wrong_of h.params.k h.params.d) same o; shares = stands l; shaped = d.shaped }
