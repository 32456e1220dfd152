-- Internal: texts put one after another at the front of a lent buffer. Assumes nothing.
use Rattle.std.specs.Prelude.{◌≡◌, List, ℕ, ◌+◌, ◌≤◌, length}
use Rattle.decimal.specs.Decimal.{written}
use Rattle.decimal.specs.declared.Text.{Text}

-- a text fits behind what is there
abbrev pub HasRoom : Text → List ℕ → Type 0
HasRoom old text = old.len + length text ≤ length old.buffer.now

-- a text stands behind what was there, in the same buffer
pub record Puts (old new : Text) (text : List ℕ) : Type 0 where
  pub buffer : new.buffer.now ≡ written old.len text old.buffer.now
  pub len : new.len ≡ old.len + length text
  pub kept : length new.buffer.now ≡ length old.buffer.now
  pub same : new.buffer.ghost_name ≡ old.buffer.ghost_name
