-- `words::mul64` meets its contract: halves of 32 bits give the product modulo 2^64. Assumes nothing.
use Rattle.std.proofs.Common.{◌*◌, ◌/◌, ◌%◌, ◌^◌, ◌∙◌, shr_lt}
use Rattle.words.proofs.Mod.{below, halves, mods}
use lib.Pow.{split}
use lib.Bits.{mask_lt, and_mask}
use Rattle.words.proofs.mul64.Goals as goal

pub overflow_mul-al : goal.overflow_mul-al
overflow_mul-al c = record { fits = below 32 (mask_lt c.args.a 32) (shr_lt 32 32 c.ranges.b.fits) }

pub overflow_mul-ah : goal.overflow_mul-ah
overflow_mul-ah c = record { fits = below 32 (shr_lt 32 32 c.ranges.a.fits) (mask_lt c.args.b 32) }

pub overflow_mul-al-2 : goal.overflow_mul-al-2
overflow_mul-al-2 c = record { fits = below 32 (mask_lt c.args.a 32) (mask_lt c.args.b 32) }

pub returns : goal.returns
returns c =
    let a = c.args.a in
    let b = c.args.b in
    c.wrapping_add_u64.ensures.value
    ∙ simp (c.wrapping_add_u64-mid.ensures.value, mods)
    (rw (and_mask a 32, and_mask b 32)
    (halves (a / 2 ^ 32) (a % 2 ^ 32) (b / 2 ^ 32) (b % 2 ^ 32) ∙ (λ i. (split a 32 i * split b 32 i) % 2 ^ 64)))
