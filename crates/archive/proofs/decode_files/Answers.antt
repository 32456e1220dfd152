-- `decode_files`: what the decoder makes of the files' shares. Assumes nothing.
use mathlib.Core.Path.{◌≡◌, refl, ap₂, ◌∙◌}
use mathlib.Core.List.{List}
use Prim.Native.Nat.{ℕ}
use lib.ListN.{replicate, length-replicate}
use Rattle.codewords.specs.Opening.{wrong_of}
use Rattle.level.specs.Shares.{shares_of}
use Rattle.bundle.specs.Bundle.{files_of, holder_of}
use Rattle.archive.specs.Loaded.{shares_in}
use Rattle.archive.proofs.Loaded.{arrays, loaded-length, askable, answered}
use Rattle.archive.proofs.decode_files.Goals as goal
use Rattle.archive.proofs.decode_files.Goals.{Start}

abbrev bs : Start → List ℕ
bs s = s.args.bundle.now.bytes.now

-- the shares in arrays are the files', and what they open to
same : (s : Start) →
    shares_of s.args.bundle.now.heading.params.d s.args.bundle.now.files s.args.holders.now s.args.shares.now ≡ shares_in (bs s) s.args.shares.now
same s = arrays (bs s) s.args.bundle.now.heading s.args.bundle.now.headed s.args.bundle.now.files s.args.bundle.now.counted s.args.holders.now s.args.shares.now s.requires.0

pub decode-requires : goal.decode-requires
decode-requires c =
    let s = (goal.at.decode-requires c).Start in
    let hs = s.args.holders.now in
    let a = askable (bs s) s.args.bundle.now.heading s.args.bundle.now.headed s.args.bundle.now.files s.args.bundle.now.counted s.args.bundle.now.sound s.args.shares.now in (
      a.0,
      a.1,
      rw (same s) a.2,
      rw (same s) s.requires.1,
      rw (same s) s.requires.2,
      loaded-length (bs s) s.args.bundle.now.heading s.args.bundle.now.headed (files_of (bs s)) refl (holder_of (bs s)) hs (replicate 63 0) s.args.bundle.now.sound (length-replicate {A = ℕ} 63 0)
          s.requires.0,
      s.requires.3,
      s.requires.4,
    )

pub returns : goal.returns
returns c =
    let s = (goal.at.returns c).Start in
    let d = c.decode.ensures in
    let m = c.allowance-e in
    let o = answered (bs s) s.args.bundle.now.heading s.args.bundle.now.headed s.args.bundle.now.files s.args.bundle.now.counted s.args.shares.now _ (same s) m.result m.ensures in
    record { opening = d.opening ∙ o; wrong = d.wrong ∙ ap₂ (wrong_of s.args.bundle.now.heading.params.k s.args.bundle.now.heading.params.d) (same s) o; shaped = d.shaped }
