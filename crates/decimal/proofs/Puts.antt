-- Texts put one after another at the front of a lent buffer: together they are their concatenation, and fit if it does. Assumes nothing.
use mathlib.Core.Path.{◌≡◌, refl, sym, ap, ◌∙◌}
use mathlib.Core.List.{List, [], ◌++◌}
use Prim.Native.Nat.{ℕ, ◌+◌, ◌≤◌}
use native.Mathlib.Nat.{add-zero}
use native.Mathlib.Omega.{arith}
use lib.ListN.{length, take, length-append}
use Rattle.decimal.specs.Decimal.{written}
use Rattle.decimal.specs.declared.Text.{Text}
use Rattle.decimal.specs.Puts.{HasRoom, Puts}
use Rattle.decimal.proofs.Written.{written_none, take-written, written-more}

-- nothing
pub puts-none : (a : Text) → Puts a a []
puts-none a = record { buffer = sym (written_none a.buffer.now a.len); len = sym (add-zero a.len); kept = refl; same = refl }

-- where two texts fit, the first fits, and the second behind it
pub room-front : (a : Text) (s t : List ℕ) → HasRoom a (s ++ t) → HasRoom a s
room-front a s t h = omega (arith, h, length-append s t)

pub room-more : {a b : Text} {s : List ℕ} (t : List ℕ) → HasRoom a (s ++ t) → Puts a b s → HasRoom b t
room-more {s = s} t h p = omega (arith, h, p.len, p.kept, length-append s t)

pub puts-more : {a b c : Text} {s t : List ℕ} → Puts a b s → Puts b c t → Puts a c (s ++ t)
puts-more {a = a} {b = b} {s = s} {t = t} p q =
    record {
      buffer = q.buffer ∙ rw (p.len, p.buffer) (written-more a.buffer.now s t a.len (omega (arith, p.len, p.kept, b.within)));
      len = omega (arith, p.len, q.len, length-append s t);
      kept = q.kept ∙ p.kept;
      same = q.same ∙ p.same;
    }

-- where more fits, less does
pub room-less : (a : Text) {n : ℕ} (s : List ℕ) → length s ≤ n → a.len + n ≤ length a.buffer.now → HasRoom a s
room-less a s l h = omega (arith, l, h)

-- what is left to put after `now`, so that a text stands behind `old`
pub record Rest (old now : Text) (text rest : List ℕ) : Type 0 where
  pub buffer : written now.len rest now.buffer.now ≡ written old.len text old.buffer.now
  pub len : now.len + length rest ≡ old.len + length text
  pub kept : length now.buffer.now ≡ length old.buffer.now
  pub same : now.buffer.ghost_name ≡ old.buffer.ghost_name

pub rest-all : (a : Text) (text : List ℕ) → Rest a a text text
rest-all a text = record { buffer = refl; len = refl; kept = refl; same = refl }

-- a part of it is put
pub rest-more : {a b c : Text} {text s : List ℕ} (t : List ℕ) → Rest a b text (s ++ t) → Puts b c s → Rest a c text t
rest-more {b = b} {c = c} {s = s} t r p =
    record {
      buffer = rw (p.len, p.buffer) (written-more b.buffer.now s t b.len (omega (arith, p.len, p.kept, c.within))) ∙ r.buffer;
      len = omega (arith, r.len, p.len, length-append s t);
      kept = p.kept ∙ r.kept;
      same = p.same ∙ r.same;
    }

-- and fits
pub rest-room : {a b : Text} {text : List ℕ} (s t : List ℕ) → HasRoom a text → Rest a b text (s ++ t) → HasRoom b s
rest-room s t h r = omega (arith, h, r.len, r.kept, length-append s t)

pub rest-none : {a b : Text} {text : List ℕ} → Rest a b text [] → Puts a b text
rest-none {b = b} r =
    record {
      buffer = sym (written_none b.buffer.now b.len) ∙ r.buffer;
      len = sym (add-zero b.len) ∙ r.len;
      kept = r.kept;
      same = r.same;
    }

-- a text that is put at the start: of its length, and there
pub start-len : {a b : Text} {text : List ℕ} → a.len ≡ 0 → Puts a b text → b.len ≡ length text
start-len e p = omega (arith, e, p.len)

pub start-text : {a b : Text} {text room : List ℕ} {n : ℕ} → a.len ≡ 0 → Puts a b text → n ≡ b.len → room ≡ b.buffer.now → take n room ≡ text
start-text {a = a} {b = b} {text = text} e p h r = rw (h, r, p.buffer, e) (take-written a.buffer.now text b.len (start-len e p))

-- in a buffer that is lent for it, where it is a line that has room
pub start-room : (a : Text) {old : List ℕ} {n : ℕ} (text : List ℕ) → (a.len ≡ 0) × (a.buffer.now ≡ old) → length text ≤ n → n ≤ length old → HasRoom a text
start-room a text e l h = omega (arith, l, h, e.0, ap length e.1)

pub start-new : {a b : Text} {old new text line : List ℕ} → line ≡ text → (a.len ≡ 0) × (a.buffer.now ≡ old) → Puts a b text → new ≡ b.buffer.now
    → new ≡ written 0 line old
start-new e s p r = r ∙ p.buffer ∙ rw (s.0, s.1, e) refl

pub start-line : {a b : Text} {old new text line : List ℕ} {n room : ℕ} → line ≡ text → (a.len ≡ 0) × (a.buffer.now ≡ old) → Puts a b text
    → n ≡ b.len → new ≡ b.buffer.now → length text ≤ room → (new ≡ written 0 line old) × (n ≡ length line) × (n ≤ room)
start-line e s p h r l = (start-new e s p r, omega (arith, h, start-len s.0 p, ap length e), omega (arith, h, l, start-len s.0 p))

-- in place of goals about parts
pub ruleset texts = (puts-none, room-front, room-more, puts-more)
