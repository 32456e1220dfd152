-- Scanning the text of a job gives the job (`scan-lines`): digits make their number, labels and points are passed over, and a line ends at its line
-- feed. Assumes nothing.
use Rattle.std.proofs.Common.{◌≡◌, ℕ, zero, suc, ◌+◌, ◌-◌, ◌*◌, ◌/◌, ◌%◌, ◌^◌, ◌<◌, ◌≤◌, Bool, true, false, ltb, List, [], ◌∷◌, ◌++◌, sym, refl, ap, ◌∙◌, append_assoc, append-nil, mod-eq_of_lt, arith, ltb-false, ltb-true, ne_eqb, le-leb}
use Rattle.words.specs.declared.Signed.{Signed}
use Rattle.words.proofs.Tests.{bool_cases}
use Rattle.decimal.specs.Decimal.{ascii, decimal, sign, signed_text, hundredths_text}
use Rattle.decimal.proofs.Decimal.{decimal-small, decimal-large}
use Rattle.labelled.specs.declared.LensJob.{LensJob}
use Rattle.labelled.specs.JobText.{line_with, lines_of}
use Rattle.labelled.specs.Reading.{goes_on, number_from, nothing, after_line, scanned}

-- a number with a sign
abbrev signed : Bool → ℕ → Signed
signed b x = record { negative = b; magnitude = x }

-- bytes of a line that take a number from s to r
pub record Passes (s : Signed) (bytes : List ℕ) (r : Signed) : Type 0 where
  pub number : (cs : List ℕ) → number_from s (bytes ++ cs) ≡ number_from r cs
  pub line : (cs : List ℕ) → after_line (bytes ++ cs) ≡ after_line cs

then : {s m r : Signed} (a b : List ℕ) → Passes s a m → Passes m b r → Passes s (a ++ b) r
then {s = s} a b p q =
    record {
      number = λ cs. ap (number_from s) (append_assoc a b cs) ∙ p.number (b ++ cs) ∙ q.number cs;
      line = λ cs. ap after_line (append_assoc a b cs) ∙ p.line (b ++ cs) ∙ q.line cs;
    }

-- ---- numbers

digit : (b : Bool) (m x : ℕ) → x < 10 → m * 10 + x < 2 ^ 64 → Passes (signed b m) ((48 + x) ∷ []) (signed b (m * 10 + x))
unfolding goes_on number_from after_line
digit b m x h l =
    let f = ne_eqb (48 + x) 10 (λ (e : 48 + x ≡ 10). omega arith) in
    let low = le-leb 48 (48 + x) (omega arith) in
    let high = le-leb (48 + x) 57 (omega arith) in
    let v : 48 + x - 48 ≡ x = omega arith in
    record { number = λ cs. rw (f, low, high, v, mod-eq_of_lt l); line = λ cs. rw f }

small : (b : Bool) (x : ℕ) → x < 10 → Passes (signed b 0) (decimal x) (signed b x)
small b x h =
    let e : 0 * 10 + x ≡ x = omega arith in
    rw (decimal-small x h) (rw e at (digit b 0 x h (omega arith)))

large : (b : Bool) (x : ℕ) → 10 ≤ x → x < 2 ^ 64 → Passes (signed b 0) (decimal (x / 10)) (signed b (x / 10))
    → Passes (signed b 0) (decimal x) (signed b x)
large b x h l p =
    let e : x / 10 * 10 + x % 10 ≡ x = omega arith in
    rw (decimal-large x h)
    (then (decimal (x / 10)) ((48 + x % 10) ∷ []) p (rw e at (digit b (x / 10) (x % 10) (omega arith) (omega arith))))

digits-pass : (n : ℕ) (b : Bool) (x : ℕ) → x ≤ n → x < 2 ^ 64 → Passes (signed b 0) (decimal x) (signed b x)
digits-pass zero b x h l = small b x (omega arith)
digits-pass (suc n) b x h l =
    let p = digits-pass n b (x / 10) (omega arith) (omega arith) in
    bool_cases (ltb x 10) (λ t. small b x (ltb-true x 10 t)) (λ t. large b x (ltb-false x 10 t) l p)

pub decimal-passes : (b : Bool) (x : ℕ) → x < 2 ^ 64 → Passes (signed b 0) (decimal x) (signed b x)
decimal-passes b x l = digits-pass x b x (omega arith) l

sign-passes : (b : Bool) → Passes nothing (sign b) (signed b 0)
unfolding sign goes_on number_from after_line
sign-passes true = record { number = λ cs. refl; line = λ cs. refl }
sign-passes false = record { number = λ cs. refl; line = λ cs. refl }

point-passes : (s : Signed) → Passes s (ascii ".") s
unfolding goes_on number_from after_line
point-passes s = record { number = λ cs. refl; line = λ cs. refl }

signed-passes : (s : Signed) → s.magnitude < 2 ^ 64 → Passes nothing (signed_text s) s
unfolding signed_text
signed-passes s l = then (sign s.negative) (decimal s.magnitude) (sign-passes s.negative) (decimal-passes s.negative s.magnitude l)

hundredths-pass : (s : Signed) → s.magnitude < 2 ^ 64 → Passes nothing (hundredths_text s) s
unfolding hundredths_text
hundredths-pass s l =
    let b = s.negative in
    let m = s.magnitude in
    let e : m / 100 * 10 + m / 10 % 10 ≡ m / 10 = omega arith in
    let f : m / 10 * 10 + m % 10 ≡ m = omega arith in
    let tenths = rw e at (digit b (m / 100) (m / 10 % 10) (omega arith) (omega arith)) in
    let last = rw f at (digit b (m / 10) (m % 10) (omega arith) (omega arith)) in
    let whole = then (sign b) (decimal (m / 100)) (sign-passes b) (decimal-passes b (m / 100) (omega arith)) in
    then (sign b ++ decimal (m / 100) ++ ascii ".") ((48 + m / 10 % 10) ∷ (48 + m % 10) ∷ [])
    (then (sign b ++ decimal (m / 100)) (ascii ".") whole (point-passes (signed b (m / 100))))
    (then ((48 + m / 10 % 10) ∷ []) ((48 + m % 10) ∷ []) tenths last)

-- ---- lines

module _ {s : Signed} (label value : List ℕ) (p : Passes nothing label nothing) (q : Passes nothing value s) where
  line-number : (cs : List ℕ) → number_from nothing (line_with label value ++ cs) ≡ s
  unfolding goes_on number_from
  line-number cs =
      ap (number_from nothing) (append_assoc (label ++ value) (ascii "\r\n") cs) ∙ (then label value p q).number (ascii "\r\n" ++ cs)

  line_after : (cs : List ℕ) → after_line (line_with label value ++ cs) ≡ cs
  unfolding after_line
  line_after cs = ap after_line (append_assoc (label ++ value) (ascii "\r\n") cs) ∙ (then label value p q).line (ascii "\r\n" ++ cs)

  -- a line by itself
  line-alone : number_from nothing (line_with label value) ≡ s
  line-alone = ap (number_from nothing) (sym (append-nil (line_with label value))) ∙ line-number []

job-label : Passes nothing (ascii "JOB=") nothing
unfolding goes_on number_from after_line
job-label = record { number = λ cs. refl; line = λ cs. refl }

sphere-label : Passes nothing (ascii "SPH=") nothing
unfolding goes_on number_from after_line
sphere-label = record { number = λ cs. refl; line = λ cs. refl }

cylinder-label : Passes nothing (ascii "CYL=") nothing
unfolding goes_on number_from after_line
cylinder-label = record { number = λ cs. refl; line = λ cs. refl }

axis-label : Passes nothing (ascii "AX=") nothing
unfolding goes_on number_from after_line
axis-label = record { number = λ cs. refl; line = λ cs. refl }

thickness-label : Passes nothing (ascii "CTHICK=") nothing
unfolding goes_on number_from after_line
thickness-label = record { number = λ cs. refl; line = λ cs. refl }

-- ---- the five lines

-- numbers that 64 bits hold
pub record Held (j : LensJob) : Type 0 where
  pub number : j.number < 2 ^ 64
  pub sphere : j.sphere.magnitude < 2 ^ 64
  pub cylinder : j.cylinder.magnitude < 2 ^ 64
  pub axis : j.axis.magnitude < 2 ^ 64
  pub thickness : j.thickness.magnitude < 2 ^ 64

module _ (j : LensJob) (h : Held j) where
  -- the lines, and after each the rest
  abbrev job : List ℕ
  job = line_with (ascii "JOB=") (decimal j.number)

  abbrev sphere : List ℕ
  sphere = line_with (ascii "SPH=") (hundredths_text j.sphere)

  abbrev cylinder : List ℕ
  cylinder = line_with (ascii "CYL=") (hundredths_text j.cylinder)

  abbrev axis : List ℕ
  axis = line_with (ascii "AX=") (signed_text j.axis)

  abbrev thickness : List ℕ
  thickness = line_with (ascii "CTHICK=") (hundredths_text j.thickness)

  abbrev after_cylinder : List ℕ
  after_cylinder = axis ++ thickness

  abbrev after_sphere : List ℕ
  after_sphere = cylinder ++ (axis ++ thickness)

  abbrev after_job : List ℕ
  after_job = sphere ++ (cylinder ++ (axis ++ thickness))

  nested : lines_of j ≡ job ++ after_job
  unfolding lines_of
  nested =
      append_assoc (job ++ sphere ++ cylinder) axis thickness
      ∙ append_assoc (job ++ sphere) cylinder (axis ++ thickness)
      ∙ append_assoc job sphere (cylinder ++ (axis ++ thickness))

  one : Passes nothing (decimal j.number) (signed false j.number)
  one = decimal-passes false j.number h.number

  two : Passes nothing (hundredths_text j.sphere) j.sphere
  two = hundredths-pass j.sphere h.sphere

  three : Passes nothing (hundredths_text j.cylinder) j.cylinder
  three = hundredths-pass j.cylinder h.cylinder

  four : Passes nothing (signed_text j.axis) j.axis
  four = signed-passes j.axis h.axis

  five : Passes nothing (hundredths_text j.thickness) j.thickness
  five = hundredths-pass j.thickness h.thickness

  pub scan-lines : scanned (lines_of j) ≡ j
  unfolding scanned
  scan-lines =
      rw (
        nested,
        line_after (ascii "JOB=") (decimal j.number) job-label one after_job,
        line_after (ascii "SPH=") (hundredths_text j.sphere) sphere-label two after_sphere,
        line_after (ascii "CYL=") (hundredths_text j.cylinder) cylinder-label three after_cylinder,
        line_after (ascii "AX=") (signed_text j.axis) axis-label four thickness,
        line-number (ascii "JOB=") (decimal j.number) job-label one after_job,
        line-number (ascii "SPH=") (hundredths_text j.sphere) sphere-label two after_sphere,
        line-number (ascii "CYL=") (hundredths_text j.cylinder) cylinder-label three after_cylinder,
        line-number (ascii "AX=") (signed_text j.axis) axis-label four thickness,
        line-alone (ascii "CTHICK=") (hundredths_text j.thickness) thickness-label five,
      )
