-- How long the lines of a text are, and that no job's text is longer than 135 bytes (`text-fits`). Assumes nothing.
use Rattle.std.proofs.Common.{◌≡◌, ℕ, ◌+◌, ◌-◌, ◌/◌, ◌^◌, ◌<◌, ◌≤◌, List, ◌++◌, length, get_or, arith, lit<, length-append}
use native.Mathlib.Nat.{pow-le-pow_right}
use Rattle.words.specs.declared.Signed.{Signed}
use Rattle.words.specs.Signed.{signed_of}
use Rattle.words.proofs.Tests.{bool_cases}
use Rattle.words.proofs.Width.{width-at}
use Rattle.decimal.specs.Decimal.{ascii, decimal, signed_text, hundredths_text}
use Rattle.decimal.proofs.Decimal.{decimal-length, twenty}
use Rattle.decimal.proofs.Signed.{sign-length, signed-size, signed-length, hundredths-size, hundredths-length}
use Rattle.labelled.specs.JobText.{line_with, lines_of, lens_job, text_of, IsJob}
use Rattle.labelled.proofs.Words.{reading-in, high, below}

pub line-size : (label value : List ℕ) → length (line_with label value) ≡ length label + length value + 2
line-size label value = omega (arith, length-append label value, length-append (label ++ value) (ascii "\r\n"))

-- with a label of n bytes
pub whole_length : (label : List ℕ) (s : Signed) → s.magnitude ≤ 2 ^ 64 → length (line_with label (signed_text s)) ≤ length label + 23
whole_length label s h = omega (arith, line-size label (signed_text s), signed-length s h)

pub fixed-length : (label : List ℕ) (s : Signed) → s.magnitude ≤ 2 ^ 64 → length (line_with label (hundredths_text s)) ≤ length label + 26
fixed-length label s h = omega (arith, line-size label (hundredths_text s), hundredths-length s h)

-- ---- a job's text

-- numbers of at most 2^63, as words have them
signed-fits : (s : Signed) → s.magnitude ≤ 2 ^ 63 → length (signed_text s) ≤ 20
signed-fits s h = omega (arith, signed-size s, sign-length s.negative, decimal-length 18 s.magnitude (omega (arith, h)))

hundredths-fit : (s : Signed) → s.magnitude ≤ 2 ^ 63 → length (hundredths_text s) ≤ 21
hundredths-fit s h = omega (arith, hundredths-size s, sign-length s.negative, decimal-length 16 (s.magnitude / 100) (omega (arith, h)))

reading-fits : (k w : ℕ) → 1 ≤ k → k ≤ 64 → w < 2 ^ k → (signed_of k w).magnitude ≤ 2 ^ 63
reading-fits k w l m h =
    let s = signed_of k w in
    let r = reading-in k w l h in
    let p : 2 ^ (k - 1) ≤ 2 ^ 63 = pow-le-pow_right {n = 2} (lit< tt) {i = k - 1} {j = 63} (omega arith) in
    bool_cases s.negative (λ n. omega (arith, p, high k s l r n)) (λ n. omega (arith, p, below k s l r n))

pub text-fits : (k number : ℕ) (words : List ℕ) → 1 ≤ k → k ≤ 64 → IsJob k number words → length (text_of k number words) ≤ 135
unfolding text_of lines_of lens_job
text-fits k number words l m j =
    let at : (i : ℕ) → i < 4 → (signed_of k (get_or words i 0)).magnitude ≤ 2 ^ 63 =
    λ i h. reading-fits k (get_or words i 0) l m (width-at k words i j.narrow (omega (arith, h, j.four))) in
    let x = lens_job k number words in
    let a = line_with (ascii "JOB=") (decimal number) in
    let b = line_with (ascii "SPH=") (hundredths_text x.sphere) in
    let c = line_with (ascii "CYL=") (hundredths_text x.cylinder) in
    let d = line_with (ascii "AX=") (signed_text x.axis) in
    let e = line_with (ascii "CTHICK=") (hundredths_text x.thickness) in
    omega (
      arith,
      line-size (ascii "JOB=") (decimal number),
      line-size (ascii "SPH=") (hundredths_text x.sphere),
      line-size (ascii "CYL=") (hundredths_text x.cylinder),
      line-size (ascii "AX=") (signed_text x.axis),
      line-size (ascii "CTHICK=") (hundredths_text x.thickness),
      twenty number (omega (arith, j.number_fits)),
      hundredths-fit x.sphere (at 0 (lit< tt)),
      hundredths-fit x.cylinder (at 1 (lit< tt)),
      signed-fits x.axis (at 2 (lit< tt)),
      hundredths-fit x.thickness (at 3 (lit< tt)),
      length-append a b,
      length-append (a ++ b) c,
      length-append (a ++ b ++ c) d,
      length-append (a ++ b ++ c ++ d) e,
    )
